use Rattle.std.proofs.Common.{◌≡◌, ◌<◌, ◌≤◌, get_or, length, sym, ap, ◌∙◌, arith, zero-add}
use Rattle.std.specs.Prelude.{count_by}
use Rattle.std.proofs.lemmas.List.{take_all, FromFn.{get_or-range_with_len, length-range_with_len}, Sums.{count_by_more_no, count_by_more_yes}}
use Rattle.lft_elaborate.specs.Channels.Channels.{below}
use Rattle.lft_lower.{specs.inner.Needed.is_needed, proofs.instances.count_needed.Goals.{then-is_needed, else-is_needed}}
use Rattle.lft_lower.proofs.instances.count_needed.Goals as goal

pub loop-parameter-preserved : goal.loop-parameter-preserved
loop-parameter-preserved c =
    let n = length c.args.shape.now.parameters.items in
    let f = is_needed c.args.shape.now in
    let p = c.loop-parameter.parameter in
    let test = c.loop-parameter-test.true in
    let less : p < n = omega (arith, c.len-parameter-end.ensures) in
    let within : p < length (below n) = omega (arith, less, length-range_with_len 0 n) in
    let there : get_or (below n) p 0 ≡ p = get_or-range_with_len 0 n p 0 less ∙ zero-add p in
    let so_far = c.loop-parameter.invariant in
    elim c.if-is_needed.branch [
      | then-is_needed w ↦
          let more = count_by_more_yes f (below n) p 0 within (ap f there ∙ sym c.is_needed.ensures ∙ w.if-is_needed.true) in
          (omega (arith, more, w.count-is, so_far.0), omega (arith, w.count-is, so_far.1))
      | else-is_needed w ↦
          let same = count_by_more_no f (below n) p 0 within (ap f there ∙ sym c.is_needed.ensures ∙ w.if-is_needed.false) in
          (omega (arith, same, w.count-is, so_far.0), omega (arith, w.count-is, so_far.1))
    ]

pub returns : goal.returns
returns c =
    let n = length c.args.shape.now.parameters.items in
    let test = c.loop-parameter-test.false in
    let all : length (below n) ≤ c.loop-parameter.parameter = omega (arith, c.len-parameter-end.ensures, length-range_with_len 0 n) in
    c.loop-parameter.invariant.0 ∙ ap (count_by (is_needed c.args.shape.now)) (take_all c.loop-parameter.parameter (below n) all)
