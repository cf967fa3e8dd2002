-- Paths: from a root, the place of each step in turn.
use Rattle.std.specs.Prelude.{◌≡◌, ℕ, ◌<◌, ◌⊎◌, List, [], ◌∷◌, Option, Some, slice_get, length}
use Rattle.std.specs.Option.{option_and_then}

-- where the path leads from x, if it leads anywhere
abbrev pub along : {X : Type 0} → (X → ℕ → Option X) → X → List ℕ → Option X
along step x [] = Some x
along step x (k ∷ path) = option_and_then (λ y. along step y path) (step x k)

-- p stands before q: it is a shorter front of q, or it goes to the earlier place where they part
abbrev pub PathBefore : List ℕ → List ℕ → Type 0
PathBefore p [] = ⊥
PathBefore [] (k ∷ q) = Unit {0}
PathBefore (j ∷ p) (k ∷ q) = (j < k) ⊎ ((j ≡ k) × PathBefore p q)

-- the path leads somewhere
abbrev pub Exists : {X : Type 0} → (X → ℕ → Option X) → X → List ℕ → Type 0
Exists {X} step root path = (x : X) × (along step root path ≡ Some x)

-- the list is in pre-order: it has the paths that exist, each once, what contains before what it contains, and what one thing contains in order of declaration (handbook)
pub record IsPreOrder {X : Type 0} (step : X → ℕ → Option X) (root : X) (paths : List (List ℕ)) : Type 0 where
  pub in_order : (i j : ℕ) (p q : List ℕ) → slice_get paths i ≡ Some p → slice_get paths j ≡ Some q → i < j → PathBefore p q
  pub each : (i : ℕ) (p : List ℕ) → slice_get paths i ≡ Some p → Exists step root p
  pub all : (p : List ℕ) → Exists step root p → (i : ℕ) × (slice_get paths i ≡ Some p)

-- more things than the limit are so: there is a list of more, without repetition
pub record IsMoreThan {X : Type 0} (has : X → Type 0) (limit : ℕ) : Type 0 where
  pub some : List X
  pub more : limit < length some
  pub each : (i : ℕ) (x : X) → slice_get some i ≡ Some x → has x
  pub distinct : (i j : ℕ) (x : X) → slice_get some i ≡ Some x → slice_get some j ≡ Some x → i ≡ j
