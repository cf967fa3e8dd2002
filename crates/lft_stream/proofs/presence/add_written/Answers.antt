use Rattle.std.proofs.Common.{◌≡◌, ℕ, inl, inr, List, Some, None, Contains, slice_get, refl, sym, ap, ◌∙◌, subst, arith}
use Rattle.std.proofs.lemmas.Bool.{cases_eq}
use Rattle.lft_ir.specs.declared.{parts.Name.TheVariants.Port, steps.row.{Row.Row, Step.{Step, TheVariants.Write}}}
use Rattle.lft_lists.proofs.Places.{same_at, same_some}
use Rattle.lft_model.{specs.Presence.value_written, proofs.{Places.slice_get_within, Steps.some_written}}
use Rattle.lft_stream.proofs.presence.add_written.Goals.{in-Some+else-not-add_ports, in_default}
use Rattle.lft_stream.proofs.presence.add_written.Goals as goal

pub loop-place-preserved : goal.loop-place-preserved
loop-place-preserved c = elim c.match-written_port.branch [
  | in-Some+else-not-add_ports w ↦ λ i o p x v list l e writes at m. rw w.names-is (elim (cases_eq i c.loop-place.place) [
    | inl q ↦
        let row = c.row_at-row.result in
        let same : x ≡ row = same_at c.args.own.now i c.loop-place.place x row e c.row_at-row.ensures q in
        let here : row.step ≡ Write (Port o) v = ap (λ (y : Row). y.step) (sym same) ∙ writes in
        let both : Write (Port w.in-Some.port) w.in-Some.field-0-1 ≡ Write (Port o) v = sym w.in-Some.ensures ∙ here in
        let port : w.in-Some.port ≡ o = cc in
        let own : list ≡ w.at_once.result.now = same_some (slice_get c.args.channels.now.at_once o) list w.at_once.result.now at (ap (λ (k : ℕ). slice_get c.args.channels.now.at_once k) (sym port) ∙ w.at_once.ensures) in
        w.if-not-add_ports.ensures.added refl p (subst (λ (ps : List ℕ). Contains ps p) own m)
    | inr d ↦ w.if-not-add_ports.ensures.kept refl (Port p) (c.loop-place.invariant i o p x v list (omega (arith, l, d)) e writes at m)
  ])
  | in_default w ↦ λ i o p x v list l e writes at m. rw w.names-is (elim (cases_eq i c.loop-place.place) [
    | inl q ↦
        let row = c.row_at-row.result in
        let same : x ≡ row = same_at c.args.own.now i c.loop-place.place x row e c.row_at-row.ensures q in
        let none : value_written o row.step ≡ None = w.in_default.ensures o in
        let some : value_written o row.step ≡ Some v = ap (λ (y : Row). value_written o y.step) (sym same) ∙ ap (λ (s : Step). value_written o s) writes ∙ some_written o v in
        let both : None ≡ Some v = sym none ∙ some in
        absurd (cc)
    | inr d ↦ c.loop-place.invariant i o p x v list (omega (arith, l, d)) e writes at m
  ])
]

pub returns : goal.returns
returns c = λ z i o p x v list e writes at m.
    let a = slice_get_within c.args.own.now i x e in
    let b = c.loop-place-test.false in
    c.loop-place.invariant i o p x v list (omega arith) e writes at m
