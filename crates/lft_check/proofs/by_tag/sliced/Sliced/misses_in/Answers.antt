use Rattle.std.proofs.Common.{◌≡◌, ◌⊎◌, inl, inr, List, Some, slice_get, ap, subst, ◌∙◌, arith}
use Rattle.std.proofs.lemmas.Bool.{cases_eq, false≢true}
use Rattle.lft_ir.specs.{Parts.{Parts, inputs}, declared.parts.Name.Name}
use Rattle.lft_lists.proofs.Places.{same_at, same_some}
use Rattle.lft_check.{specs.inner.ByTag.Reads.IsMissed, proofs.ByTagLemmas.RightReads.input_at}
use Rattle.lft_check.proofs.by_tag.sliced.Sliced.misses_in.Goals as goal

pub misses-requires-clause-name : goal.misses-requires-clause-name
misses-requires-clause-name c = input_at c.args.self.now.plan.program c.program.ensures.rules.sound.sound c.args.reaction c.inputs-names.ensures.0 (subst (λ (p : Parts). slice_get p.reactions c.args.reaction ≡ Some c.inputs-names.ensures.0) c.program.ensures.value c.inputs-names.ensures.1) c.inputs-names.result.now c.inputs-names.ensures.2 c.loop-seat.seat c.item_at.result c.item_at.ensures

pub loop-seat-preserved : goal.loop-seat-preserved
loop-seat-preserved c x n k e seat l m missed = go (cases_eq k c.loop-seat.seat)
  where
    go : (k ≡ c.loop-seat.seat) ⊎ (k ≡ c.loop-seat.seat → ⊥) → ⊥
    go (inr d) = c.loop-seat.invariant x n k e seat l (omega (arith, m, d)) missed
    go (inl q) =
        let own = subst (λ (p : Parts). slice_get p.reactions c.args.reaction ≡ Some c.inputs-names.ensures.0) c.program.ensures.value c.inputs-names.ensures.1 in
        let same : c.inputs-names.ensures.0 ≡ x = same_some (slice_get c.args.self.now.plan.program.reactions c.args.reaction) c.inputs-names.ensures.0 x own e in
        let names : c.inputs-names.result.now ≡ inputs x = c.inputs-names.ensures.2 ∙ ap inputs same in
        let at : slice_get (inputs x) c.loop-seat.seat ≡ Some c.item_at.result = subst (λ (ns : List Name). slice_get ns c.loop-seat.seat ≡ Some c.item_at.result) names c.item_at.ensures in
        let one : n ≡ c.item_at.result = same_at (inputs x) k c.loop-seat.seat n c.item_at.result seat at q in
        false≢true (c.if-misses.ensures.1 (subst (λ (y : Name). IsMissed c.args.self.now.plan c.args.self.now.rows c.args.slice.tag c.args.reaction y) one missed))
