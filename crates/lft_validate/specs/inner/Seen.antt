-- The names that were met.
use Rattle.std.specs.Prelude.{◌&&◌, ℕ, Bool, false, List, Option, Some, None, bytes_eq}
use Rattle.std.specs.HashSet.{contains_by}
use Rattle.lft_tree.specs.Tree.{RefTree}
use Rattle.lft_validate.specs.declared.seen.SeenNames.{SeenNames}

-- the same test on the parts of two names
abbrev pub same_inside : List ℕ → Option (List ℕ) → List ℕ → Option (List ℕ) → Bool
same_inside a None b None = bytes_eq a b
same_inside a None b (Some q) = false
same_inside a (Some p) b None = false
same_inside a (Some p) b (Some q) = bytes_eq a b && bytes_eq p q

-- the test of two names being the same
abbrev pub same_ref : RefTree → RefTree → Bool
same_ref a b = same_inside a.head a.port b.head b.port

-- the test of a name being met, on its parts
abbrev pub has_inside : SeenNames → List ℕ → Option (List ℕ) → Bool
has_inside seen head None = contains_by (λ k. bytes_eq head k.now) seen.own
has_inside seen head (Some port) = contains_by (λ k. bytes_eq head k.0.now && bytes_eq port k.1.now) seen.inner

-- the test of a name being met
abbrev pub has_seen : SeenNames → RefTree → Bool
has_seen seen ref = has_inside seen ref.head ref.port
