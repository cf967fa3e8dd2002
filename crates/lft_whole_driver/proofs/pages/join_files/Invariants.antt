use Rattle.std.proofs.Common.{take}
use Rattle.lft_whole_driver.specs.Pages.{AreJoined}
use Rattle.lft_whole_driver.proofs.pages.join_files.Given as goal

abbrev pub invariant-loop-at : goal.invariant-loop-at
invariant-loop-at l = AreJoined (take l.at l.files) l.joined
