-- Inside: how often both reactions of an order ran at one tag, and how often on two workers.
use Rattle.std.specs.Prelude.{◌≡◌, ℕ, ◌<◌, List, Some, slice_get}
use Rattle.lft_ir.specs.declared.steps.row.Row.{Row}
use Rattle.lft_counts.specs.{declared.orders.Order.Order, Orders.MeetsAt}

-- the order at place k of a list is met at a place before i
abbrev pub IsOrderMet : List Row → ℕ → List Order → ℕ → Type 0
IsOrderMet t i all k = (x : Order) × (j : ℕ) × (slice_get all k ≡ Some x) × (j < i) × MeetsAt t x.first x.then j
