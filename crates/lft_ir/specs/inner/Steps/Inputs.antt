-- Inside: what contracts see of external inputs.
use Rattle.std.specs.Prelude.{ℕ, ◌<◌, ◌≤◌, List, length, slice_index_or}
use Rattle.lft_ir.specs.{declared.steps.externals.Event.Event, Steps.Inputs.ComesBefore}

-- where an event belongs among others: those before the place come before it, and it comes before all from there on
pub record BelongsAt (events : List Event) (event : Event) (place : ℕ) : Type 0 where
  pub within : place ≤ length events
  pub front : (k : ℕ) (d : Event) → k < place → ComesBefore (slice_index_or events k d) event
  pub rest : (k : ℕ) (d : Event) → place ≤ k → k < length events → ComesBefore event (slice_index_or events k d)
