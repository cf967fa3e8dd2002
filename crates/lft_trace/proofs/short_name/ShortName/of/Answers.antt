use Rattle.std.proofs.Common.{rules, ◌∙◌, ◌<◌, ◌≤◌, ◌++◌, ◌∷◌, [], ℕ, List, ap, arith, get_or, length, sym}
use Rattle.std.proofs.{Math.ListN.length-set, lemmas.List.{take_more, take_more_set}}
use Rattle.lft_trace.proofs.short_name.ShortName.of.Goals as goal

pub loop-at-preserved : goal.loop-at-preserved
loop-at-preserved c =
    let at = c.loop-at.at in
    let old = c.loop-at.bytes in
    let name = c.args.name.now in
    let byte = get_or name at 0 in
    let few : length name ≤ 31 = search rules in
    let more : at < length name = c.loop-at-test.true in
    let room : at < length old = (let long = c.loop-at.invariant.long in omega arith) in
    record {
      long = length-set old at byte ∙ c.loop-at.invariant.long;
      same = take_more_set old at byte room ∙ ap (λ (bs : List ℕ). bs ++ byte ∷ []) c.loop-at.invariant.same ∙ sym (take_more name at 0 more);
    }
