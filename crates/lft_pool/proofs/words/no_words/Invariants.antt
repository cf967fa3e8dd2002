use Rattle.std.proofs.Common.{◌≡◌, ℕ, ◌<◌, ◌≤◌, Some, slice_get}
use Rattle.lft_ir.specs.declared.parts.Reaction.{Reaction}
use Rattle.lft_pool.proofs.words.no_words.Given as goal

abbrev pub invariant-loop-place : goal.invariant-loop-place
invariant-loop-place l = (r : ℕ) (x : Reaction) → r < l.place → slice_get l.program.reactions r ≡ Some x → x.instance ≤ l.most
