-- Ways along the short lists of a graph. The contracts of private functions alone need this file.
use Rattle.std.specs.Prelude.{◌≡◌, ◌↔◌, ℕ, ◌<◌, ◌≤◌, ◌⊎◌, MatchOption, List, [], length, Option, Some, slice_get, slice_index_or, Contains}
use Rattle.lft_tag.specs.declared.Tag.{Tag}
use Rattle.lft_ir.specs.{Parts.Parts, Origins.Origin, declared.{parts.Name.{Name, TheVariants.{Port, Action}}, steps.row.Row.Row}}
use Rattle.lft_graph.specs.Graph.{GraphParts}
use Rattle.lft_races.specs.Runs.{EndsAt}

-- the name is a port that is reached without a delay from an origin among the effects
abbrev pub IsFedUndelayed : Parts → List Name → Name → Type 0
IsFedUndelayed program effects (Port p) = (o : ℕ) × Origin program p o [] × Contains effects (Port o)
IsFedUndelayed program effects (Action a) = ⊥

-- each of the numbers is below the limit
abbrev pub AreThere : ℕ → List ℕ → Type 0
AreThere limit list = (i a : ℕ) → slice_get list i ≡ Some a → a < limit

-- a number stands at the place
abbrev pub IsMarked : List (Option ℕ) → ℕ → Type 0
IsMarked next a = (b : ℕ) × (slice_get next a ≡ Some (Some b))

-- numbers stand where they stood, b stands at more places of the list, and each place of the list has a number
pub record IsMarking (list : List ℕ) (b : ℕ) (old new : List (Option ℕ)) : Type 0 where
  pub as_long : length new ≡ length old
  pub kept : (a c : ℕ) → slice_get old a ≡ Some (Some c) → slice_get new a ≡ Some (Some c)
  pub only : (a c : ℕ) → slice_get new a ≡ Some (Some c) → (slice_get old a ≡ Some (Some c)) ⊎ ((c ≡ b) × ((i : ℕ) × (slice_get list i ≡ Some a)))
  pub all : (i a : ℕ) → slice_get list i ≡ Some a → IsMarked new a

-- a stands in the short list of b
abbrev pub InList : GraphParts → ℕ → ℕ → Type 0
InList graph a b = (list : List ℕ) × (i : ℕ) × (slice_get graph.before b ≡ Some list) × (slice_get list i ≡ Some a)

-- b is the last reaction or has one that comes next
abbrev pub LeadsOn : ℕ → List (Option ℕ) → ℕ → Type 0
LeadsOn last next b = (b ≡ last) ⊎ IsMarked next b

-- for each reaction from which a way along the short lists leads to the last one, the next on such a way
pub record AreWays (graph : GraphParts) (last : ℕ) (next : List (Option ℕ)) : Type 0 where
  pub as_long : length next ≡ length graph.before
  pub steps : (a b : ℕ) → slice_get next a ≡ Some (Some b) → InList graph a b × LeadsOn last next b
  pub below : (a : ℕ) → IsMarked next a → slice_index_or graph.levels a 0 < slice_index_or graph.levels last 0
  pub all : (a b : ℕ) → LeadsOn last next b → InList graph a b → IsMarked next a

-- just the reactions in the short list of the last one have a next one
pub record AreSteps (graph : GraphParts) (last : ℕ) (near : List (Option ℕ)) : Type 0 where
  pub as_long : length near ≡ length graph.before
  pub marked : (a : ℕ) → IsMarked near a ↔ InList graph a last

-- the row at place i ends a run at g of a reaction that has a next one
abbrev pub EndsMarked : List Row → Tag → List (Option ℕ) → ℕ → Type 0
EndsMarked t g next i = (a : ℕ) × EndsAt t g a i × IsMarked next a

-- of the reactions with a next one that end at g in the rows between two places the least, if any: itself and its place
abbrev pub IsLeastEnd : List Row → Tag → List (Option ℕ) → ℕ → ℕ → Option (ℕ × ℕ) → Type 0
IsLeastEnd t g next start i o = MatchOption o ((j a : ℕ) → start < j → j < i → EndsAt t g a j → ¬ IsMarked next a) (λ end. EndsAt t g end.0 end.1 × IsMarked next end.0 × (start < end.1) × ((j a : ℕ) → start < j → j < i → EndsAt t g a j → IsMarked next a → end.0 ≤ a))

-- the same of all rows behind the start
abbrev pub IsLeastOfAll : List Row → Tag → List (Option ℕ) → ℕ → Option (ℕ × ℕ) → Type 0
IsLeastOfAll t g next start o = (i : ℕ) × (length t ≤ i) × IsLeastEnd t g next start i o
