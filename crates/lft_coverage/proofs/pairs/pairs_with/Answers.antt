use Rattle.std.proofs.Common.{◌≡◌, ◌+◌, ◌-◌, ◌*◌, length, min, refl, sym, subst, arith}
use Rattle.lft_graph.{proofs.Counting.{count_within, none_from}, specs.Counts.{Count, none}}
use Rattle.lft_coverage.{specs.inner.Pairs.IsCountedWith, proofs.{Tests.has_room, pairs.pairs_with.Goals.{then-not-has_none, else-not-has_none}}}
use Rattle.lft_coverage.proofs.pairs.pairs_with.Goals as goal

pub loop-word-init : goal.loop-word-init
loop-word-init c = subst (λ k. Count (λ a. IsCountedWith c.args.overlaps.now a c.args.reaction) k 0) (let e : 0 ≡ min (length c.args.program.now.reactions) (0 * 64) = omega arith in e) none

pub has_none-requires-clause-reaction : goal.has_none-requires-clause-reaction
has_none-requires-clause-reaction c = let long = c.requires.sets.as_long in let known = c.requires.reaction in omega (arith, long, known)

pub has_none-requires-clause-word : goal.has_none-requires-clause-word
has_none-requires-clause-word c =
    let room = has_room c.args.program.now c.args.overlaps.now c.requires.sets c.args.reaction c.requires.reaction in
    omega (arith, room)

pub overflow_add-many : goal.overflow_add-many
overflow_add-many c =
    let at : min (length c.args.program.now.reactions) (c.loop-word.word * 64) ≡ c.loop-word.word * 64 = omega arith in
    let all = count_within (c.pairs_from-many.ensures c.loop-word.many (subst (λ k. Count (λ a. IsCountedWith c.args.overlaps.now a c.args.reaction) k c.loop-word.many) at c.loop-word.invariant)) in
    let few = c.reactions.ensures.sound.limits.reactions in
    omega (arith, all, few)

pub loop-word-preserved : goal.loop-word-preserved
loop-word-preserved c =
    let word = c.loop-word.word in
    let at : min (length c.args.program.now.reactions) (c.loop-word.word * 64) ≡ c.loop-word.word * 64 = omega arith in
    let here = subst (λ k. Count (λ a. IsCountedWith c.args.overlaps.now a c.args.reaction) k c.loop-word.many) at c.loop-word.invariant in
    let next : min (length c.args.program.now.reactions) (c.loop-word.word * 64 + 64) ≡ min (length c.args.program.now.reactions) ((c.loop-word.word + 1) * 64) = omega arith in
    let room : c.loop-word.word * 64 + (min (length c.args.program.now.reactions) (c.loop-word.word * 64 + 64) - c.loop-word.word * 64) ≡ min (length c.args.program.now.reactions) (c.loop-word.word * 64 + 64) = omega arith in
    subst (λ k. Count (λ a. IsCountedWith c.args.overlaps.now a c.args.reaction) k c.if-not-has_none.many) next (elim c.if-not-has_none.branch as (λ _. Count (λ a. IsCountedWith c.args.overlaps.now a c.args.reaction) (min (length c.args.program.now.reactions) (c.loop-word.word * 64 + 64)) c.if-not-has_none.many) [
      | then-not-has_none w ↦ subst (λ n. Count (λ a. IsCountedWith c.args.overlaps.now a c.args.reaction) (min (length c.args.program.now.reactions) (c.loop-word.word * 64 + 64)) n) (sym w.many-is) (w.pairs_from-many.ensures c.loop-word.many here)
      | else-not-has_none w ↦ subst (λ n. Count (λ a. IsCountedWith c.args.overlaps.now a c.args.reaction) (min (length c.args.program.now.reactions) (c.loop-word.word * 64 + 64)) n) (sym w.many-is)
          (subst (λ k. Count (λ a. IsCountedWith c.args.overlaps.now a c.args.reaction) k c.loop-word.many) room (none_from (min (length c.args.program.now.reactions) (c.loop-word.word * 64 + 64) - c.loop-word.word * 64) (c.loop-word.word * 64) c.loop-word.many (λ i l m x. w.if-not-has_none.ensures refl i (omega (arith, l, m)) x.0) here))
    ])

pub returns : goal.returns
returns c =
    let all : min (length c.args.program.now.reactions) (c.loop-word.word * 64) ≡ length c.args.program.now.reactions = omega arith in
    subst (λ k. Count (λ a. IsCountedWith c.args.overlaps.now a c.args.reaction) k c.loop-word.many) all c.loop-word.invariant
