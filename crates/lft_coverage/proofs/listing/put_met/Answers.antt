use Rattle.std.proofs.Common.{◌≡◌, ◌≤◌, ◌*◌, ◌+◌, ℕ, List, length, drop, flat_map, take, sym, ap, arith, refl}
use Rattle.std.specs.List.{enumerate_from}
use Rattle.lft_ir.specs.declared.parts.Reaction.{Reaction}
use Rattle.lft_counts.specs.Overlaps.{met_by}
use Rattle.lft_coverage.specs.{Facts.{has, pair_words}, inner.Taking.TookMore}
use Rattle.lft_coverage.proofs.{Taking.{took_at, took_nothing, took_so}, Listed.{all_placed, took_items, took_more}, Tests.none_met_from}
use Rattle.lft_coverage.proofs.listing.put_met.Goals.{then-not-has_none, else-not-has_none}
use Rattle.lft_coverage.proofs.listing.put_met.Goals as goal

pub loop-word-init : goal.loop-word-init
loop-word-init g c = took_nothing _ _

pub loop-word-preserved : goal.loop-word-preserved
loop-word-preserved g c =
    let program = c.args.program.now in
    let w = c.loop-word.word in
    let then = c.args.then in
    let set = met_by c.args.overlaps.now c.args.then in
    let line : ℕ × Reaction → List ℕ = λ d. pair_words program (has set d.0) d.0 then in
    let next : c.loop-word.word * 64 + 64 ≡ (c.loop-word.word + 1) * 64 = omega arith in
    let more : TookMore (g.W.Write.contents c.loop-word.out) c.loop-word.whole (g.W.Write.contents c.if-not-has_none.out) c.if-not-has_none.whole (flat_map (λ d. pair_words c.args.program.now (has (met_by c.args.overlaps.now c.args.then) d.0) d.0 c.args.then) (take 64 (enumerate_from (c.loop-word.word * 64) (drop (c.loop-word.word * 64) c.args.program.now.reactions)))) = elim c.if-not-has_none.branch [
      | then-not-has_none x ↦ took_at (ap (λ o. g.W.Write.contents o) (sym x.out-is)) (sym x.whole-is) x.put_met_from-whole.ensures
      | else-not-has_none x ↦ took_at (ap (λ o. g.W.Write.contents o) (sym x.out-is)) (sym x.whole-is) (took_so (sym (none_met_from program set then 64 (w * 64) (drop (w * 64) program.reactions) (λ r l m h. x.if-not-has_none.ensures refl r (omega (arith, l, m)) h))) (took_nothing _ _))
    ] in
    took_more line program.reactions (w * 64) 64 ((w + 1) * 64) next c.loop-word.invariant more

pub returns : goal.returns
returns g c =
    let program = c.args.program.now in
    let l : length c.args.program.now.reactions ≤ c.loop-word.word * 64 = omega arith in
    took_items (λ d. pair_words program (has (met_by c.args.overlaps.now c.args.then) d.0) d.0 c.args.then) _ (enumerate_from 0 program.reactions) (all_placed program.reactions (c.loop-word.word * 64) l) c.loop-word.invariant
