-- Limits by number and limits of the tree.
use Rattle.std.proofs.Common.{◌≡◌, ℕ, List, length, sym, ◌∙◌, subst, arith, Some, slice_get, map}
use Rattle.std.proofs.lemmas.Option.{slice_get_within}
use Rattle.lft_lists.proofs.Places.{get_there}
use Rattle.lft_tree.specs.Tree.{FileTree, ReactorTree, reactors_of}
use Rattle.lft_resolve.specs.inner.{Expansion.{Contents.contained, Numbers.{HasMoreThings, IsThingByPath}}, Numbers.AreContents}
use Rattle.lft_resolve.specs.{Expansion.Paths.{Exists, IsMoreThan, along}, declared.expansion.walk.Contents.Contents, Causes.IsDeclaredAt}
use Rattle.lft_resolve.specs.Instances.{Inside, IsInside, entered, main_instance, main_of}
use Rattle.lft_resolve.proofs.ExpansionLemmas.Simulation.{along_back, along_forth}
use Rattle.lft_program.proofs.{Entering.{HasNumber, numbers_go_along}, Listing.count_is}

-- what holds of what is so holds of as many
pub more_so : {X : Type 0} (P Q : X → Type 0) (limit : ℕ) → ((x : X) → P x → Q x) → IsMoreThan P limit → IsMoreThan Q limit
more_so P Q limit so w = record { some = w.some; more = w.more; each = λ i x e. so x (w.each i x e); distinct = w.distinct }

-- the path leads to some instance
abbrev pub LeadsIn : FileTree → List ℕ → Type 0
LeadsIn tree path = (x : Inside) × IsInside tree path x

module _ (tree : FileTree) (table : List Contents) (main : ℕ) (first : ReactorTree) (are : AreContents (reactors_of tree) table) (is_main : main_of tree ≡ Some first) (main_number : slice_get (reactors_of tree) main ≡ Some first) where
  leads_back : (path : List ℕ) (n : ℕ) → along (contained table) main path ≡ Some n → (x : Inside) × IsInside tree path x × HasNumber (reactors_of tree) x n
  leads_back path n e =
      let b = along_back (HasNumber (reactors_of tree)) (entered tree) (contained table) (numbers_go_along tree table are) (main_instance first) main path n main_number e in
      (b.0, (first, is_main, b.1), b.2)

  leads_forth : (path : List ℕ) (x : Inside) → IsInside tree path x → (n : ℕ) × (along (contained table) main path ≡ Some n) × HasNumber (reactors_of tree) x n
  leads_forth path x (other, is, e) =
      let same : other ≡ first = (let f : Some other ≡ Some first = sym is ∙ is_main in cc) in
      let g : along (entered tree) (main_instance first) path ≡ Some x = subst (λ m. along (entered tree) (main_instance m) path ≡ Some x) same e in
      along_forth (HasNumber (reactors_of tree)) (entered tree) (contained table) (numbers_go_along tree table are) (main_instance first) main path x main_number g

  pub more_instances : (limit : ℕ) → IsMoreThan (Exists (contained table) main) limit → IsMoreThan (LeadsIn tree) limit
  more_instances limit w = more_so (Exists (contained table) main) (LeadsIn tree) limit (λ p e. let b = leads_back p e.0 e.1 in (b.0, b.1)) w

  pub more_numbers : (limit : ℕ) → IsMoreThan (LeadsIn tree) limit → IsMoreThan (Exists (contained table) main) limit
  more_numbers limit w = more_so (LeadsIn tree) (Exists (contained table) main) limit (λ p e. let b = leads_forth p e.0 e.1 in (b.0, b.1)) w

  module _ {X : Type 0} (kind : ReactorTree → List X) (counts : List ℕ) (counted : counts ≡ map (λ r. length (kind r)) (reactors_of tree)) (limit : ℕ) where
    declared_back : (d : List ℕ × ℕ) → IsThingByPath table main counts d → IsDeclaredAt tree kind d
    declared_back d (n, e, l) =
        let b = leads_back d.0 n e in
        let c = count_is kind (reactors_of tree) counts counted n b.0.reactor b.2 in
        let item = get_there (kind b.0.reactor) d.1 (omega arith) in
        (b.0, item.0, b.1, item.1)

    declared_forth : (d : List ℕ × ℕ) → IsDeclaredAt tree kind d → IsThingByPath table main counts d
    declared_forth d (x, item, is, at) =
        let b = leads_forth d.0 x is in
        let c = count_is kind (reactors_of tree) counts counted b.0 x.reactor b.2 in
        let l = slice_get_within (kind x.reactor) d.1 item at in
        (b.0, b.1, omega arith)

    pub more_declared : HasMoreThings table main counts limit → IsMoreThan (IsDeclaredAt tree kind) limit
    more_declared w = more_so (IsThingByPath table main counts) (IsDeclaredAt tree kind) limit declared_back w

    pub more_things : IsMoreThan (IsDeclaredAt tree kind) limit → HasMoreThings table main counts limit
    more_things w = more_so (IsDeclaredAt tree kind) (IsThingByPath table main counts) limit declared_forth w
