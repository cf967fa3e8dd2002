-- How often both reactions of an order ran at one tag, and how often on two workers.
use Rattle.std.specs.Prelude.{◌≡◌, ◌≢◌, ℕ, ◌+◌, ◌<◌, ◌≤◌, List, ◌∷◌, ◌++◌, map, Option, Some, None, length, slice_get, []}
use Rattle.lft_tag.specs.declared.Tag.{Tag}
use Rattle.lft_ir.specs.declared.steps.row.Row.{Row}
use Rattle.lft_model.specs.{Breaches.WasStarted, Runs.start_row}
use Rattle.lft_counts.specs.declared.orders.{Last.Last, Order.Order, Orders.Orders}
use Rattle.lft_graph.specs.Counts.{Count}

-- the row at place i starts a run of r at a tag at which a has started before
pub record MeetsAt (t : List Row) (a r i : ℕ) : Type 0 where
  pub worker : ℕ
  pub tag : Tag
  pub starts : slice_get t i ≡ Some (start_row worker tag r)
  pub ran : WasStarted t i tag a

-- the row at place i starts a run of r at a tag at which a has started before, by another worker
pub record ApartAt (t : List Row) (a r i : ℕ) : Type 0 where
  pub worker : ℕ
  pub tag : Tag
  pub place : ℕ
  pub other : ℕ
  pub starts : slice_get t i ≡ Some (start_row worker tag r)
  pub before : place < i
  pub earlier : slice_get t place ≡ Some (start_row other tag a)
  pub apart : other ≢ worker

-- an order has the counts of the places before i at which it is met, and met on two workers
pub record IsCounted (t : List Row) (i : ℕ) (x : Order) : Type 0 where
  pub both : Count (MeetsAt t x.first x.then) i x.both
  pub apart : Count (ApartAt t x.first x.then) i x.apart

-- the order of a reaction behind another that isn't met yet
abbrev pub unmet : ℕ → ℕ → Order
unmet r a = record { first = a; then = r; both = 0; apart = 0 }

-- for each short list, from that of reaction r on, the orders of its members in order
abbrev pub orders_from : ℕ → List (List ℕ) → List Order
orders_from r [] = []
orders_from r (list ∷ lists) = map (unmet r) list ++ orders_from (r + 1) lists

-- an order before it is met
abbrev pub cleared : Order → Order
cleared x = unmet x.then x.first

-- no row between two places starts a run of a
abbrev pub NoStart : List Row → ℕ → ℕ → ℕ → Type 0
NoStart t from to a = (k w : ℕ) (g : Tag) → from ≤ k → k < to → slice_get t k ≡ Some (start_row w g a) → ⊥

-- the last start of a before place i, if there is one
abbrev pub IsLast : List Row → ℕ → ℕ → Option Last → Type 0
IsLast t i a None = NoStart t 0 i a
IsLast t i a (Some l) = (k : ℕ) × (k < i) × (slice_get t k ≡ Some (start_row l.worker l.tag a)) × NoStart t (k + 1) i a

-- the orders of each of n reactions stand behind one another, from the place where they begin to that where those of the next begin
pub record IsLaidOut (n : ℕ) (all : List Order) (begins : List ℕ) : Type 0 where
  pub as_long : length begins ≡ n + 1
  pub first : (k : ℕ) (x : Order) → slice_get all k ≡ Some x → x.first < n
  pub ends : (r b : ℕ) → slice_get begins r ≡ Some b → b ≤ length all
  pub there : (k r b e : ℕ) (x : Order) → slice_get all k ≡ Some x → slice_get begins r ≡ Some b → slice_get begins (r + 1) ≡ Some e → b ≤ k → k < e → x.then ≡ r
  pub back : (k r b e : ℕ) (x : Order) → slice_get all k ≡ Some x → slice_get begins r ≡ Some b → slice_get begins (r + 1) ≡ Some e → x.then ≡ r → (b ≤ k) × (k < e)

-- what is kept of the rows before place i: the last start of each of n reactions, and the counts of each order
pub record Stands (t : List Row) (n i : ℕ) (orders : Orders) : Type 0 where
  pub as_long : length orders.lasts.items ≡ n
  pub laid : IsLaidOut n orders.all.items orders.begins.items
  pub kept : (a : ℕ) (o : Option Last) → slice_get orders.lasts.items a ≡ Some o → IsLast t i a o
  pub counted : (k : ℕ) (x : Order) → slice_get orders.all.items k ≡ Some x → IsCounted t i x

-- the order at place k of a list is met at a place before i on two workers
abbrev pub IsApart : List Row → ℕ → List Order → ℕ → Type 0
IsApart t i all k = (x : Order) × (j : ℕ) × (slice_get all k ≡ Some x) × (j < i) × ApartAt t x.first x.then j
