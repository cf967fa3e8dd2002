use Rattle.std.proofs.Common.{map, take, ◌≡◌, ◌++◌}
use Rattle.lft_whole_driver.specs.Pages.{token_moved}
use Rattle.lft_whole_driver.proofs.pages.push_tokens.Given as goal

abbrev pub invariant-loop-at : goal.invariant-loop-at
invariant-loop-at l = l.list.items ≡ l.fn.list.items ++ map (token_moved l.start) (take l.at l.tokens)
