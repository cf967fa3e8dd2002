-- Orders of numbers that lead to others, and how far a walk along their ways has come.
use Rattle.std.specs.Prelude.{◌≡◌, ◌≢◌, ℕ, ◌+◌, ◌<◌, ◌≤◌, List, [], ◌∷◌, Some, slice_get, length}
use Rattle.lft_lists.specs.Walks.{StandOnce, IsCircle}
use Rattle.lft_lists.specs.declared.walk.{Stage.{Stage, TheVariants.{New, Open, Done}}, Walked.{Walked, TheVariants.{Order, Circle}}}

-- a leads to b
abbrev pub Leads : (ℕ → List ℕ) → ℕ → ℕ → Type 0
Leads ways a b = (k : ℕ) × (slice_get (ways a) k ≡ Some b)

-- the numbers below the count, each once, and each behind those that it leads to
pub record IsOrder (LeadsTo : ℕ → ℕ → Type 0) (count : ℕ) (order : List ℕ) : Type 0 where
  pub as_long : length order ≡ count
  pub within : (i a : ℕ) → slice_get order i ≡ Some a → a < count
  pub all : (a : ℕ) → a < count → (i : ℕ) × (slice_get order i ≡ Some a)
  pub once : StandOnce order
  pub behind : (i a b : ℕ) → slice_get order i ≡ Some a → LeadsTo a b → b < count → (j : ℕ) × (j < i) × (slice_get order j ≡ Some b)

-- the walk over the numbers below the count ends in an order, or in a circle
abbrev pub IsWalked : (ℕ → List ℕ) → ℕ → Walked → Type 0
IsWalked ways count (Order order) = IsOrder (Leads ways) count order.items
IsWalked ways count (Circle circle) = IsCircle (Leads ways) circle.items

-- the list has the number
abbrev pub Has : List ℕ → ℕ → Type 0
Has numbers a = (i : ℕ) × (slice_get numbers i ≡ Some a)

-- the number is done, or past the end of the marks
abbrev pub IsPassed : List Stage → ℕ → Type 0
IsPassed marks a = (m : Stage) → slice_get marks a ≡ Some m → m ≡ Done

-- what the number leads to at the places from the first on, before the last, is passed
abbrev pub WaysPassed : List Stage → List ℕ → ℕ → ℕ → Type 0
WaysPassed marks list first last = (k b : ℕ) → first ≤ k → k < last → slice_get list k ≡ Some b → IsPassed marks b

-- how many numbers aren't looked at
abbrev pub one_new : Stage → ℕ
one_new New = 1
one_new Open = 0
one_new Done = 0

abbrev pub news : List Stage → ℕ
news [] = 0
news (m ∷ ms) = one_new m + news ms

-- the path has the open numbers, of which each leads to the next; the order has those that are done; the ways of each number are passed up to its next one
pub record IsWalk (ways : ℕ → List ℕ) (start : ℕ) (marks : List Stage) (nexts path order : List ℕ) : Type 0 where
  pub as_long : length nexts ≡ length marks
  pub counted : news marks + length path + length order ≡ length marks
  pub looked : (a : ℕ) → a < start → slice_get marks a ≢ Some New
  pub on_path : (a : ℕ) → slice_get marks a ≡ Some Open → Has path a
  pub in_order : (a : ℕ) → slice_get marks a ≡ Some Done → Has order a
  pub are_open : (i a : ℕ) → slice_get path i ≡ Some a → slice_get marks a ≡ Some Open
  pub are_done : (i a : ℕ) → slice_get order i ≡ Some a → slice_get marks a ≡ Some Done
  pub passed : (a n : ℕ) → slice_get nexts a ≡ Some n → WaysPassed marks (ways a) 0 n
  pub path_once : StandOnce path
  pub links : (i a b : ℕ) → slice_get path i ≡ Some a → slice_get path (i + 1) ≡ Some b → Leads ways a b
  pub order_once : StandOnce order
  pub behind : (i a b : ℕ) → slice_get order i ≡ Some a → Leads ways a b → b < length marks → (j : ℕ) × (j < i) × (slice_get order j ≡ Some b)
