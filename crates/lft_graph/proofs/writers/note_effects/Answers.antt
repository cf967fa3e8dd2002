use Rattle.std.proofs.Common.{◌≡◌, ℕ, ◌+◌, ◌∙◌, ap, Some, slice_get, arith, slice_set}
use Rattle.std.proofs.lemmas.Option.{slice_get_within}
use Rattle.lft_ir.specs.declared.parts.Name.TheVariants.{Port}
use Rattle.lft_lists.proofs.Places.{contains_at, at_contains}
use Rattle.lft_graph.proofs.{Writing.{Noted, noted_port, noted_other}, writers.note_effects.Goals.{in-Port, in_default}}
use Rattle.lft_graph.proofs.writers.note_effects.Goals as goal

pub bounds-writers-port : goal.bounds-writers-port
bounds-writers-port c =
    let e : slice_get c.args.effects.now c.effects.place ≡ Some (Port c.in-Port.port) = c.item_at.ensures ∙ ap Some c.in-Port.is in
    let l = c.requires c.in-Port.port (contains_at c.args.effects.now c.effects.place (Port c.in-Port.port) e) in
    let s = c.effects.invariant.as_long in
    omega arith

pub effects-preserved : goal.effects-preserved
effects-preserved c = elim c.match-item_at.branch [ in-Port w ↦ port w.in-Port.port w.in-Port.is w.writers-is | in_default w ↦ other w.in_default.not-Port w.writers-is ]
  where
    port : (p : ℕ) → c.item_at.result ≡ Port p → c.match-item_at.writers ≡ slice_set c.effects.writers p (Some c.args.reaction) → Noted c.args.effects.now c.args.reaction c.args.writers.now c.match-item_at.writers (c.effects.place + 1)
    port p q f =
        let e : slice_get c.args.effects.now c.effects.place ≡ Some (Port p) = c.item_at.ensures ∙ ap Some q in
        let l = c.requires p (contains_at c.args.effects.now c.effects.place (Port p) e) in
        let s = c.effects.invariant.as_long in
        rw f (noted_port c.args.effects.now c.args.reaction c.args.writers.now c.effects.writers c.effects.place p c.effects.invariant e (omega arith))

    other : ((p : ℕ) → c.item_at.result ≡ Port p → ⊥) → c.match-item_at.writers ≡ c.effects.writers → Noted c.args.effects.now c.args.reaction c.args.writers.now c.match-item_at.writers (c.effects.place + 1)
    other n f = rw f (noted_other c.args.effects.now c.args.reaction c.args.writers.now c.effects.writers c.effects.place c.effects.invariant (λ p e. n p (let d = c.item_at.ensures in cc)))

pub returns-clause-noted : goal.returns-clause-noted
returns-clause-noted c p m =
    let g = at_contains c.args.effects.now (Port p) m in
    c.effects.invariant.noted g.0 p (let l = slice_get_within c.args.effects.now g.0 (Port p) g.1 in let h = c.effects-test.false in omega arith) g.1
