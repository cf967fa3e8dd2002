-- Things by their numbers, and instances by their paths.
use Rattle.std.proofs.Common.{◌≡◌, ℕ, ⊎_elim, List, sym, ap, ◌∙◌, subst, arith, Some, slice_get, map}
use Rattle.std.proofs.lemmas.Bool.{cases_lt}
use Rattle.lft_lists.proofs.{Places.Some_same, Mapped.{mapped, mapped_from}}
use Rattle.lft_tree.specs.Tree.{FileTree}
use Rattle.lft_resolve.specs.{Expansion.Paths.{along, PathBefore}, Instances.{Thing, thing_at, entered, main_instance}}
use Rattle.lft_resolve.proofs.ExpansionLemmas.Orders.{before_itself}
use Rattle.lft_program.specs.Located.{Located, AreLocated, Declared, declared_things}

-- the declaration of a thing at a number
pub thing_from : {X : Type 0} (name : X → List ℕ) (all : List (Declared X)) (n : ℕ) (t : Thing) → slice_get (declared_things name all) n ≡ Some t → (d : Declared X) × (slice_get all n ≡ Some d) × (thing_at d.located.path (name d.item) ≡ t)
thing_from name all n t e = mapped_from (λ d. thing_at d.located.path (name d.item)) all n t e

-- two instances with one path are one
pub path_once : (tree : FileTree) (instances : List Located) → AreLocated tree instances → (i j : ℕ) (a b : Located) → slice_get instances i ≡ Some a → slice_get instances j ≡ Some b → a.path ≡ b.path → i ≡ j
path_once tree instances are i j a b at_i at_j same = ⊎_elim
    (λ low. absurd (before_itself b.path (subst (λ p. PathBefore p b.path) same (are.in_order.in_order i j a.path b.path (path_at i a at_i) (path_at j b at_j) low))))
    (λ high. ⊎_elim
    (λ low. absurd (before_itself b.path (subst (λ p. PathBefore b.path p) same (are.in_order.in_order j i b.path a.path (path_at j b at_j) (path_at i a at_i) low))))
    (λ more. omega arith)
    (cases_lt j i))
    (cases_lt i j)
  where
    path_at : (n : ℕ) (l : Located) → slice_get instances n ≡ Some l → slice_get (map (λ i. i.path) instances) n ≡ Some l.path
    path_at n l at = mapped (λ i. i.path) instances n l at

-- and have the same parameters
pub inside_once : (tree : FileTree) (instances : List Located) → AreLocated tree instances → (i j : ℕ) (a b : Located) → slice_get instances i ≡ Some a → slice_get instances j ≡ Some b → a.path ≡ b.path → a.inside ≡ b.inside
inside_once tree instances are i j a b at_i at_j same = Some_same _ _ (sym (are.inside i a at_i) ∙ ap (along (entered tree) (main_instance are.main)) same ∙ are.inside j b at_j)
