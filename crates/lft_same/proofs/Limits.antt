-- An instance of a tree that isn't refused has few ports, and few instances in it.
use Rattle.std.proofs.Common.{◌≡◌, inl, inr, ℕ, zero, suc, ◌+◌, ◌<◌, ◌≤◌, List, [], ◌∷◌, ◌++◌, length, map, Some, Contains, option_map, slice_get, sym, ap, ◌∙◌, arith, subst}
use Rattle.std.{specs.{List.range_with_len, Option.option_and_then}, proofs.lemmas.List.{length-map, FromFn.length-range_with_len}}
use Rattle.lft_resolve.specs.{Expansion.Paths.IsMoreThan, Causes.{IsDeclaredAt, NoneHolds, TooMany, causes}}
use Rattle.lft_resolve.specs.Instances.{Inside, IsInside, entered, given_in, main_instance, reactor_named}
use Rattle.lft_resolve.proofs.ExpansionLemmas.Orders.{along_kid}
use Rattle.lft_lists.proofs.{Mapped.mapped_from, Places.{get_there, push_apart}}
use Rattle.lft_elaborate.specs.Channels.Channels.{below}
use Rattle.lft_tree.specs.{Tree.{InstanceTree, ReactorTree, instances_of, ports_of, reactors_of}, View.tree_view, declared.ast.Ast.Ast}
use Rattle.lft_program.proofs.Limiting.{LeadsIn}
use Rattle.lft_same.proofs.Reactors.{has_reactor}

below_at : (a n i k : ℕ) → slice_get (range_with_len a n) i ≡ Some k → (k ≡ a + i) × (i < n)
below_at a zero i k e = absurd (cc)
below_at a (suc n) zero k e = let q : a ≡ k = cc in (omega (arith, q), omega arith)
below_at a (suc n) (suc i) k e = let r = below_at (a + 1) n i k e in let p = r.0 in let l = r.1 in (omega (arith, p), omega (arith, l))

-- where there aren't more than so many, no more can be counted
counted : {X : Type 0} (has : X → Type 0) (limit n : ℕ) (f : ℕ → X) → ((i j : ℕ) → f i ≡ f j → i ≡ j) → ((k : ℕ) → k < n → has (f k)) → (IsMoreThan has limit → ⊥) → n ≤ limit
counted {X} has limit n f apart each few = le_of_not_lt (λ l. few (record { some = map f (below n); more = more l; each = there; distinct = once }))
  where
    le_of_not_lt : (limit < n → ⊥) → n ≤ limit
    le_of_not_lt g = omega (arith, g)

    more : limit < n → limit < length (map f (below n))
    more l = let e : length (map f (below n)) ≡ n = length-map (below n) f ∙ length-range_with_len 0 n in omega (arith, e, l)

    at : (i : ℕ) (x : X) → slice_get (map f (below n)) i ≡ Some x → (f i ≡ x) × (i < n)
    at i x e =
        let m = mapped_from f (below n) i x e in
        let b = below_at 0 n i m.0 m.1 in
        let same : i ≡ m.0 = (let q = b.0 in omega (arith, q)) in
        (ap f same ∙ m.2, b.1)

    there : (i : ℕ) (x : X) → slice_get (map f (below n)) i ≡ Some x → has x
    there i x e = let a = at i x e in subst has a.0 (each i a.1)

    once : (i j : ℕ) (x : X) → slice_get (map f (below n)) i ≡ Some x → slice_get (map f (below n)) j ≡ Some x → i ≡ j
    once i j x e g = apart i j ((at i x e).0 ∙ sym (at j x g).0)

module _ (tree : Ast) (none : NoneHolds (causes (tree_view tree))) (path : List ℕ) (x : Inside) (is : IsInside (tree_view tree) path x) where
  not_many : TooMany (tree_view tree) → ⊥
  not_many = none.1.1.1.1.1.1.1.1.1.1.1.1.0

  pub few_ports : length (ports_of x.reactor) ≤ 100000
  unfolding TooMany
  few_ports = counted (IsDeclaredAt (tree_view tree) ports_of) 100000 (length (ports_of x.reactor)) at (λ i j e. ap (λ (d : List ℕ × ℕ). d.1) e) each (λ more. not_many (inr (inr (inl more))))
    where
      at : ℕ → List ℕ × ℕ
      at k = (path, k)

      each : (k : ℕ) → k < length (ports_of x.reactor) → IsDeclaredAt (tree_view tree) ports_of (at k)
      each k l = let p = get_there (ports_of x.reactor) k l in (x, p.0, is, p.1)

  pub few_instances : Contains (reactors_of (tree_view tree)) x.reactor → length (instances_of x.reactor) ≤ 10000
  unfolding TooMany
  few_instances listed = counted (LeadsIn (tree_view tree)) 10000 (length (instances_of x.reactor)) (λ k. path ++ k ∷ []) (λ i j e. (push_apart path path i j e).1) each (λ more. not_many (inl more))
    where
      each : (k : ℕ) → k < length (instances_of x.reactor) → LeadsIn (tree_view tree) (path ++ k ∷ [])
      each k l =
          let i = get_there (instances_of x.reactor) k l in
          let r = has_reactor tree none x.reactor k i.0 listed i.1 in
          (made i.0 r.0, (is.0, is.1, along_kid (entered (tree_view tree)) (main_instance is.0) x (made i.0 r.0) path k is.2 (ap (option_and_then (λ i. option_map (made i) (reactor_named (reactors_of (tree_view tree)) i.reactor))) i.1 ∙ ap (option_map (made i.0)) r.1)))
        where
          made : InstanceTree → ReactorTree → Inside
          made i r = record { reactor = r; values = map (given_in x i.given) r.parameters }
