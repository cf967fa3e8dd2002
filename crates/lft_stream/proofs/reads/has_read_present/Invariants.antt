use Rattle.std.proofs.Common.{◌≡◌, ◌<◌, ℕ, Some, Contains, slice_get}
use Rattle.std.specs.Option.{IsSome}
use Rattle.lft_ir.specs.{Parts.inputs, declared.parts.{Name.Name, Reaction.Reaction}}
use Rattle.lft_model.specs.Runs.{read_of, steps_of}
use Rattle.lft_stream.proofs.reads.has_read_present.Given as goal

abbrev pub invariant-loop-place : goal.invariant-loop-place
invariant-loop-place l = (x : Reaction) (k : ℕ) (n : Name) → k < l.place → slice_get l.plan.program.reactions l.reaction ≡ Some x → Contains (inputs x) n → slice_get l.names k ≡ Some n → IsSome (read_of (steps_of l.rows l.slice.tag l.reaction) n)
