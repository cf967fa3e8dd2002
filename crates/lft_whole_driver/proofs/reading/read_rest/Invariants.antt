use Rattle.lft_whole_parser.specs.inner.Imports.Files.{AreSources}
use Rattle.lft_whole_driver.specs.inner.Lowered.{BeginsAs}
use Rattle.lft_whole_driver.proofs.reading.read_rest.Given as goal

abbrev pub invariant-loop : goal.invariant-loop
invariant-loop g l = AreSources l.sources × BeginsAs l.fn.sources.files.items l.sources.files.items
