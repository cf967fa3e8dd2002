use Rattle.std.proofs.Common.{◌≡◌, ℕ, inl, inr, Some, None, refl, sym, ap, ◌∙◌, subst, slice_get, filter_map, arith}
use Rattle.std.proofs.lemmas.Bool.{cases_eq}
use Rattle.lft_ir.specs.{declared.{steps.row.{Row.Row, Step.{Step, TheVariants.Write}}, parts.Name.{Name, TheVariants.Port}}, Parts.Parts}
use Rattle.lft_lists.proofs.{Places.same_at, Members.{get_mem, mem_from_filter, last_mem}}
use Rattle.lft_model.{specs.Presence.{written, value_written}, proofs.{Ended.written_by, Places.slice_get_within, Steps.{written_some, some_written}}}
use Rattle.lft_queue.{specs.inner.Coming.Listeners.list_of, proofs.ComingLemmas.AtOnce.heard_origin}
use Rattle.lft_stream.{specs.inner.StartTags.AreStartTags, proofs.hearing.are_heard.Goals.{in-Some+else-not-have_started, in_default}}
use Rattle.lft_stream.proofs.hearing.are_heard.Goals as goal

pub loop-place-preserved : goal.loop-place-preserved
loop-place-preserved c = elim c.match-written_port.branch [
  | in-Some+else-not-have_started w ↦ λ whole starts i p o r x v l e writes way listens. elim (cases_eq i c.loop-place.place) [
    | inl q ↦
        let row = c.row_at-row.result in
        let same : x ≡ row = same_at c.args.own.now i c.loop-place.place x row e c.row_at-row.ensures q in
        let here : row.step ≡ Write (Port o) v = ap (λ (y : Row). y.step) (sym same) ∙ writes in
        let both : Write (Port w.in-Some.port) w.in-Some.field-0-1 ≡ Write (Port o) v = sym w.in-Some.ensures ∙ here in
        let port : w.in-Some.port ≡ o = cc in
        let lists = c.requires.listeners in
        w.if-not-have_started.ensures refl whole (subst (λ (z : Parts). AreStartTags z whole c.args.starts.now) (sym c.program-program.ensures.value) starts) r (lists.each (Port p) r w.of.result.now listens (ap (λ (n : Name). list_of c.args.listeners.now n) (heard_origin c.args.plan.now.program c.program-program.ensures.sound.sound p o way) ∙ ap (λ (k : ℕ). slice_get c.args.listeners.now.ports k) (sym port) ∙ w.of.ensures))
    | inr d ↦ c.loop-place.invariant whole starts i p o r x v (omega (arith, l, d)) e writes way listens
  ]
  | in_default w ↦ λ whole starts i p o r x v l e writes way listens. elim (cases_eq i c.loop-place.place) [
    | inl q ↦
        let row = c.row_at-row.result in
        let same : x ≡ row = same_at c.args.own.now i c.loop-place.place x row e c.row_at-row.ensures q in
        let none : value_written o row.step ≡ None = w.in_default.ensures o in
        let some : value_written o row.step ≡ Some v = ap (λ (y : Row). value_written o y.step) (sym same) ∙ ap (λ (s : Step). value_written o s) writes ∙ some_written o v in
        let both : None ≡ Some v = sym none ∙ some in
        absurd (cc)
    | inr d ↦ c.loop-place.invariant whole starts i p o r x v (omega (arith, l, d)) e writes way listens
  ]
]

pub returns : goal.returns
returns c = λ z whole starts p o r v way last l.
    let t = c.args.own.now in
    let x = mem_from_filter (written c.args.tag o) t v (last_mem (filter_map (written c.args.tag o) t) v last) in
    let i = get_mem x.0 t x.1 in
    let a = slice_get_within t i.0 x.0 i.1 in
    let b = c.loop-place-test.false in
    c.loop-place.invariant whole starts i.0 p o r x.0 v (omega arith) i.1 (written_some o x.0.step v (written_by c.args.tag o x.0 v x.2).1) way l
