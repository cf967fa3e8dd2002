-- What contracts see of a turn, and which reactions are ready in it.
use Rattle.std.specs.Prelude.{◌≡◌, ◌≢◌, ◌⊎◌, ℕ, ◌≤◌, List, Some, slice_get}
use Rattle.lft_ir.specs.{Parts.Parts, Sound.IsSound}
use Rattle.lft_graph.specs.{Precedence.Precedes, Graph.{GraphParts, IsGraphOf}}
use Rattle.lft_scheduler.specs.declared.turn.phase.Phase.{Phase, TheVariants.{Waiting, Open}}

-- the graph of the program, and how far each reaction is at the tag
pub record TurnParts : Type 0 where
  pub graph : GraphParts
  pub phases : List Phase

-- it is the graph of some sound program
abbrev pub HasProgram : GraphParts → Type 0
HasProgram graph = (program : Parts) × IsSound program × IsGraphOf program graph

-- r is pending: triggered, and its run hasn't ended
abbrev pub IsPhasePending : List Phase → ℕ → Type 0
IsPhasePending phases r = (slice_get phases r ≡ Some Waiting) ⊎ (slice_get phases r ≡ Some Open)

-- no run is open
abbrev pub NoRunOpen : List Phase → Type 0
NoRunOpen phases = (r : ℕ) → slice_get phases r ≢ Some Open

-- nothing is left to run
abbrev pub NonePending : List Phase → Type 0
NonePending phases = (r : ℕ) → ¬ IsPhasePending phases r

-- r may start: it is triggered, its run hasn't started, and none that precedes it is pending
pub record IsReady (program : Parts) (phases : List Phase) (r : ℕ) : Type 0 where
  pub waiting : slice_get phases r ≡ Some Waiting
  pub none_before : (a : ℕ) → Precedes program a r → ¬ IsPhasePending phases a

-- the least number of a ready reaction
pub record IsLeastReady (program : Parts) (phases : List Phase) (r : ℕ) : Type 0 where
  pub ready : IsReady program phases r
  pub least : (b : ℕ) → IsReady program phases b → r ≤ b
