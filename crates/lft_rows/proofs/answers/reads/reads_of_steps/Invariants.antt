use Rattle.std.proofs.Common.{◌≡◌, ◌++◌, map, take, filter_map}
use Rattle.lft_ir.specs.Naming.{named}
use Rattle.lft_model.specs.Runs.{read_of}
use Rattle.lft_rows.proofs.answers.reads.reads_of_steps.Given as goal

abbrev pub invariant-loop-place : goal.invariant-loop-place
invariant-loop-place l = l.reads.items ≡ map (read_of l.steps) (filter_map named (take l.place l.triggers))

abbrev pub invariant-loop-place-2 : goal.invariant-loop-place-2
invariant-loop-place-2 l = l.reads.items ≡ map (read_of l.steps) (filter_map named l.reaction.triggers ++ take l.place l.uses)
