-- The instances of a nest: what each is in the tree, and the number of each path.
use Rattle.std.proofs.Common.{◌≡◌, ℕ, ◌<◌, ◌≤◌, ◌⊎◌, inl, inr, List, [], ◌∷◌, ◌++◌, sym, ap, ◌∙◌, subst, arith, Some, slice_get, map}
use Rattle.std.proofs.lemmas.Bool.{cases_lt}
use Rattle.lft_lists.proofs.{Places.push_apart, Mapped.{mapped, mapped_from}}
use Rattle.lft_tree.specs.Tree.{FileTree, reactors_of}
use Rattle.lft_resolve.specs.{declared.expansion.walk.Instance.Instance, Expansion.Paths.along}
use Rattle.lft_resolve.specs.{inner.Expansion.{Children.{child_of, IsChild}, Contents.IsInstanceAtPath}, Instances.{Inside, IsInside, entered, main_instance}}
use Rattle.lft_resolve.proofs.{ExpansionLemmas.{Backwards.pushed_some, Orders.before_itself}, Directed.AllZip-to, Files.AllZip-from}
use Rattle.lft_program.specs.{Located.Located, inner.Nests.{IsNest, IsInstanceOf}, declared.nesting.{nest.Nest.Nest, tables.Tables.Tables}}

module _ (tree : FileTree) (tables : Tables) (nest : Nest) (n : IsNest tree tables nest) where
  -- the instance of a number in the tree, and back
  pub located_of : (k : ℕ) (i : Instance) → slice_get nest.instances.items k ≡ Some i → (l : Located) × (slice_get n.located k ≡ Some l) × (slice_get (reactors_of tree) i.reactor ≡ Some l.inside.reactor)
  located_of k i e = AllZip-from (IsInstanceOf (reactors_of tree)) n.located nest.instances.items n.instances k i e

  pub instance_of : (k : ℕ) (l : Located) → slice_get n.located k ≡ Some l → (i : Instance) × (slice_get nest.instances.items k ≡ Some i) × (slice_get (reactors_of tree) i.reactor ≡ Some l.inside.reactor)
  instance_of k l e = AllZip-to (IsInstanceOf (reactors_of tree)) n.located nest.instances.items n.instances k l e

  -- its path
  pub path_of : (k : ℕ) (l : Located) → slice_get n.located k ≡ Some l → slice_get n.walk.paths k ≡ Some l.path
  path_of k l e = subst (λ ps. slice_get ps k ≡ Some l.path) n.paths (mapped (λ x. x.path) n.located k l e)

  pub inside_of : (k : ℕ) (l : Located) → slice_get n.located k ≡ Some l → IsInside tree l.path l.inside
  inside_of k l e = (n.are_located.main, n.are_located.is_main, n.are_located.inside k l e)

  -- the number of a path
  pub number_of : (path : List ℕ) (x : Inside) → IsInside tree path x → (k : ℕ) × (l : Located) × (slice_get n.located k ≡ Some l) × (l.path ≡ path) × (l.inside ≡ x)
  number_of path x i = at (mapped_from (λ y. y.path) n.located there.0 path there.1)
    where
      main : i.0 ≡ n.are_located.main
      main = let e : Some i.0 ≡ Some n.are_located.main = sym i.1 ∙ n.are_located.is_main in cc

      leads : along (entered tree) (main_instance n.are_located.main) path ≡ Some x
      leads = subst (λ m. along (entered tree) (main_instance m) path ≡ Some x) main i.2

      there : (k : ℕ) × (slice_get (map (λ y. y.path) n.located) k ≡ Some path)
      there = n.are_located.in_order.all path (x, leads)

      at : (l : Located) × (slice_get n.located there.0 ≡ Some l) × (l.path ≡ path) → (k : ℕ) × (l : Located) × (slice_get n.located k ≡ Some l) × (l.path ≡ path) × (l.inside ≡ x)
      at (l, e, same) =
          let both : Some l.inside ≡ Some x = sym (n.are_located.inside there.0 l e) ∙ ap (along (entered tree) (main_instance n.are_located.main)) same ∙ leads in
          let inside : l.inside ≡ x = cc in
          (there.0, l, e, same, inside)

  -- no path has two numbers
  pub one_number : (j k : ℕ) (l m : Located) → slice_get n.located j ≡ Some l → slice_get n.located k ≡ Some m → l.path ≡ m.path → j ≡ k
  one_number j k l m a b same = by (cases_lt j k) (cases_lt k j)
    where
      first : slice_get n.walk.paths j ≡ Some l.path
      first = path_of j l a

      second : slice_get n.walk.paths k ≡ Some l.path
      second = subst (λ p. slice_get n.walk.paths k ≡ Some p) (sym same) (path_of k m b)

      by : (j < k) ⊎ (k ≤ j) → (k < j) ⊎ (j ≤ k) → j ≡ k
      by (inl x) y = absurd (before_itself l.path (n.walk.in_order.in_order j k l.path l.path first second x))
      by (inr x) (inl y) = absurd (before_itself l.path (n.walk.in_order.in_order k j l.path l.path second first y))
      by (inr x) (inr y) = omega arith

  -- the number of the instance one step further
  pub child_at : (j place k : ℕ) (l m : Located) → slice_get n.located j ≡ Some l → slice_get n.located k ≡ Some m → m.path ≡ l.path ++ place ∷ [] → child_of nest.children j place ≡ Some k
  child_at j place k l m a b longer = (n.children j place k).1 child
    where
      made : (i : Instance) × (slice_get nest.instances.items k ≡ Some i) × (slice_get (reactors_of tree) i.reactor ≡ Some m.inside.reactor)
      made = instance_of k m b

      is_at : IsInstanceAtPath tables.contents.items tables.main n.walk.paths k made.0 m.path
      is_at = n.walk.each k made.0 m.path made.1 (path_of k m b)

      later : (k < 1) ⊎ (1 ≤ k) → 0 < k
      later (inl x) = absurd (pushed_some l.path place (sym longer ∙ is_at.first (omega arith)))
      later (inr x) = omega arith

      above : (path : List ℕ) × (made.0.parent < k) × (slice_get n.walk.paths made.0.parent ≡ Some path) × (path ++ made.0.place ∷ [] ≡ m.path)
      above = is_at.later (later (cases_lt k 1))

      steps : (above.0 ≡ l.path) × (made.0.place ≡ place)
      steps = push_apart above.0 l.path made.0.place place (above.3 ∙ longer)

      over : (o : Located) × (slice_get n.located made.0.parent ≡ Some o) × (o.path ≡ above.0)
      over = mapped_from (λ y. y.path) n.located made.0.parent above.0 (subst (λ ps. slice_get ps made.0.parent ≡ Some above.0) (sym n.paths) above.2)

      child : IsChild nest.instances.items j place k
      child = (made.0, made.1, later (cases_lt k 1), one_number made.0.parent j over.0 l over.1 a (over.2 ∙ steps.0), steps.1)
