use Rattle.std.proofs.Common.{◌≡◌, ◌-◌, ◌+◌, length, drop, take, ap, ◌∙◌, arith, Some, slice_get, length-drop, subst, flat_map}
use Rattle.std.{specs.List.enumerate_from, proofs.lemmas.List.FromFn.length-enumerate_from}
use Rattle.lft_lists.proofs.{Mapped.enumerate_at, Places.get_there}
use Rattle.lft_ir.specs.declared.parts.Reaction.{Reaction}
use Rattle.lft_counts.specs.Overlaps.{met_by}
use Rattle.lft_coverage.{specs.{Facts.{has, pair_words}, inner.Taking.TookMore}, proofs.{Listed.{took_items, took_one, take_same}, Tests.as_test}}
use Rattle.lft_coverage.proofs.listing.put_met_from.Goals as goal

pub loop-number-preserved : goal.loop-number-preserved
loop-number-preserved g c =
    let program = c.args.program.now in
    let from = c.args.from in
    let n = c.loop-number.number in
    let then = c.args.then in
    let set = met_by c.args.overlaps.now c.args.then in
    let left = drop from program.reactions in
    let long = length-drop from program.reactions in
    let x : (x : Reaction) × (slice_get (drop c.args.from c.args.program.now.reactions) (c.loop-number.number - c.args.from) ≡ Some x) = get_there left (n - from) (omega (arith, long)) in
    let back : c.args.from + (c.loop-number.number - c.args.from) ≡ c.loop-number.number = omega arith in
    let next : (c.loop-number.number - c.args.from) + 1 ≡ (c.loop-number.number + 1) - c.args.from = omega arith in
    let placed : slice_get (enumerate_from c.args.from (drop c.args.from c.args.program.now.reactions)) (c.loop-number.number - c.args.from) ≡ Some (c.loop-number.number, x.0) = enumerate_at from left (n - from) x.0 x.1 ∙ ap (λ w. Some (w, x.0)) back in
    let same = as_test set n c.has_met-met.result c.has_met-met.ensures in
    let mine = subst (λ b. TookMore (g.W.Write.contents c.loop-number.out) c.loop-number.whole (g.W.Write.contents c.put_pair-whole.new.out) c.put_pair-whole.result (pair_words program b n then)) same c.put_pair-whole.ensures in
    subst (λ k. TookMore (g.W.Write.contents c.args.out.now) c.args.whole (g.W.Write.contents c.put_pair-whole.new.out) c.put_pair-whole.result (flat_map (λ d. pair_words program (has set d.0) d.0 then) (take k (enumerate_from from left)))) next
    (took_one (λ d. pair_words program (has set d.0) d.0 then) (enumerate_from from left) (n - from) (n, x.0) placed c.loop-number.invariant mine)

pub returns : goal.returns
returns g c =
    let program = c.args.program.now in
    let set = met_by c.args.overlaps.now c.args.then in
    let left = drop c.args.from program.reactions in
    let long : length (enumerate_from c.args.from (drop c.args.from c.args.program.now.reactions)) ≡ length c.args.program.now.reactions - c.args.from = length-enumerate_from c.args.from left ∙ length-drop c.args.from program.reactions in
    let number-end = c.loop-number.auto.number-end in
    let same : take (c.loop-number.number - c.args.from) (enumerate_from c.args.from (drop c.args.from c.args.program.now.reactions)) ≡ take 64 (enumerate_from c.args.from (drop c.args.from c.args.program.now.reactions)) = take_same (enumerate_from c.args.from left) (c.loop-number.number - c.args.from) 64 (grind (arith, long, number-end)) in
    took_items (λ d. pair_words program (has set d.0) d.0 c.args.then) _ _ same c.loop-number.invariant
