use Rattle.std.proofs.Common.{◌-◌}
use Rattle.lft_check.proofs.ByTagLemmas.Searched.{IsSearched}
use Rattle.lft_check.proofs.by_tag.missing.find_tag.Given as goal

abbrev pub invariant-loop-low : goal.invariant-loop-low
invariant-loop-low l = IsSearched l.tags l.tag l.low l.high

abbrev pub decreases-loop-low : goal.decreases-loop-low
decreases-loop-low l = l.high - l.low
