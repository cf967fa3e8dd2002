-- The short list of what precedes a reaction directly.
use Rattle.std.specs.Prelude.{◌≡◌, ◌↔◌, ℕ, ◌+◌, ◌<◌, ◌≤◌, ◌⊎◌, List, [], Some, slice_get, Contains, AllPairs}
use Rattle.lft_ir.specs.{Parts.{Parts, inputs}, Origins.Origin, declared.parts.{Reaction.Reaction, Name.TheVariants.Port}}

-- a is declared just before r, in the same instance
pub record IsDeclaredJustBefore (program : Parts) (a r : ℕ) : Type 0 where
  pub first : Reaction
  pub second : Reaction
  pub is_first : slice_get program.reactions a ≡ Some first
  pub is_second : slice_get program.reactions r ≡ Some second
  pub same_instance : first.instance ≡ second.instance
  pub just_before : first.place + 1 ≡ second.place

-- port p is an effect of reaction a
pub record Writes (program : Parts) (a p : ℕ) : Type 0 where
  pub writer : Reaction
  pub is_writer : slice_get program.reactions a ≡ Some writer
  pub is_effect : Contains writer.effects (Port p)

-- a is the last declared of the reactions that have port p as an effect: they are of one instance, numbered as declared
pub record IsLastWriter (program : Parts) (a p : ℕ) : Type 0 where
  pub writes : Writes program a p
  pub last : (b : ℕ) → Writes program b p → b ≤ a

-- port o is the origin of an input port of reaction r, which is reached without a delay
pub record Reaches (program : Parts) (o r : ℕ) : Type 0 where
  pub reader : Reaction
  pub is_reader : slice_get program.reactions r ≡ Some reader
  pub port : ℕ
  pub is_input : Contains (inputs reader) (Port port)
  pub undelayed : Origin program port o []

-- a is the last declared writer of the origin of an undelayed input port of r
abbrev pub FeedsLast : Parts → ℕ → ℕ → Type 0
FeedsLast program a r = (o : ℕ) × IsLastWriter program a o × Reaches program o r

-- the list ascends; it has the reaction declared just before r, the last declared writer for each undelayed input port of r, and no more
pub record IsBefore (program : Parts) (r : ℕ) (list : List ℕ) : Type 0 where
  pub ascends : AllPairs (λ a b. a < b) list
  pub members : (a : ℕ) → Contains list a ↔ (IsDeclaredJustBefore program a r ⊎ FeedsLast program a r)
