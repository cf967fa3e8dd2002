-- Inside: the reactors of a file, the names and times of their members, and what they declare, in the order of the text.
use Rattle.std.specs.Prelude.{◌≡◌, ◌<◌, ℕ, List, Some, IsSomeAnd, map, slice_get, true}
use Rattle.std.specs.Borrow.{Bor}
use Rattle.lft_tree.specs.declared.tree.Reactor.{Reactor}

-- what stands behind the references
abbrev pub behind : {X : Type 0} → List (Bor X) → List X
behind = map (λ x. x.now)

-- the list has one thing at two places, the first before the second
abbrev pub IsTwiceAt : {X : Type 0} → List X → ℕ → ℕ → Type 0
IsTwiceAt {X} xs i j = (x : X) × (i < j) × (slice_get xs i ≡ Some x) × (slice_get xs j ≡ Some x)

-- the reactor with that place is a main one
abbrev pub IsMainAt : List Reactor → ℕ → Type 0
IsMainAt reactors n = IsSomeAnd (slice_get reactors n) (λ r. r.is_main ≡ true)
