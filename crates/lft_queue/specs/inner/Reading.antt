-- Which ports reactions read.
use Rattle.std.specs.Prelude.{◌≡◌, ◌↔◌, ◌<◌, ℕ, Bool, true, List, Some, Contains, length, slice_get}
use Rattle.std.specs.List.{list_any}
use Rattle.lft_ir.specs.{Parts.{Parts, inputs}, Naming.is_port, declared.parts.{Name.TheVariants.Port, Reaction.Reaction}}

-- reaction r reads port p: it is a trigger or a use
abbrev pub ReadsPort : Parts → ℕ → ℕ → Type 0
ReadsPort program r p = (x : Reaction) × (slice_get program.reactions r ≡ Some x) × Contains (inputs x) (Port p)

-- the test of some reaction reading port p
abbrev pub is_read : Parts → ℕ → Bool
is_read program p = list_any (λ x. list_any (is_port p) (inputs x)) program.reactions

-- the ports that a reaction below a number reads are marked, and no others
pub record AreReadPortsMarked (program : Parts) (below : ℕ) (marked : List Bool) : Type 0 where
  pub as_long : length marked ≡ length program.ports
  pub each : (p : ℕ) → (slice_get marked p ≡ Some true) ↔ ((r : ℕ) × (r < below) × ReadsPort program r p)
