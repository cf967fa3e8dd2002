-- The core reactors of a tree, and what `new` finds of them.
use Rattle.std.proofs.Common.{◌≡◌, ℕ, ◌⊎◌, inl, inr, Bool, true, false, List, [], ◌∷◌, ◌++◌, length, filter_map, Option, Some, None, Contains, slice_get, refl, sym, ap, subst, ◌∙◌}
use Rattle.std.specs.Prelude.{filter, find, if◌then◌else◌, slice_index_or}
use Rattle.std.proofs.lemmas.{List.Elements.filter_map-append, Slice.Eq.bytes_eq-Decides}
use Rattle.lft_lists.proofs.{Members.{Mem, mem_cases, mem_contains}, Places.{at_contains, get_last, get_push}}
use Rattle.lft_tree.specs.{Tree.{InstanceTree, ItemTree, ReactorTree, ReactorItem, instances_of, reactor_in, reactors_of}, View.tree_view, ItemView.item_views}
use Rattle.lft_tree.specs.declared.ast.Ast.{Ast}
use Rattle.lft_resolve.specs.{Causes.{LacksReactor, NoMain, NoneHolds, UnknownReactor, causes}, Instances.{is_called, main_of, reactor_named}}
use Rattle.lft_resolve.proofs.Twice.{Any-at}
use Rattle.lft_program.proofs.Zipping.{then_some}
use Rattle.lft_whole.specs.declared.sources.source.SourceFile.{SourceFile}
use Rattle.lft_classes.specs.{declared.shapes.Shape.Shape, inner.Walks.Has}
use Rattle.lft_elaborate.specs.declared.settings.Settings.{Settings}
use Rattle.lft_elaborate.specs.inner.{Noted.found_inside, Settings.{setting_at, shape_at}, Values.{Valued, inside, main_setting}}
use Rattle.lft_elaborate.proofs.Keeping.{found_is_inside}
use Rattle.lft_lower.specs.inner.{Lowered.reactor_at, Reactors.{AreReactors, IsLowering, IsReactor, more_reactors, no_reactors}}
use Rattle.lft_same.proofs.FitsLemmas.Giving.{find_some}

-- a reactor is the core reactor of one of these settings
record IsListed (s : Settings) (names : List (Option (List ℕ))) (settings : List ℕ) (r : ReactorTree) : Type 0 where
  number : ℕ
  used : Has settings number
  shape : Shape
  is_shape : shape_at s number ≡ Some shape
  reactor : IsReactor s names number shape r

listed_is : (s : Settings) (names : List (Option (List ℕ))) (settings : List ℕ) (items : List ItemTree) (r : ReactorTree) → AreReactors s names settings items → Mem r (filter_map reactor_in items) → IsListed s names settings r
listed_is s names _ _ r no_reactors m = absurd m
listed_is s names _ _ r (more_reactors front number shape items last are is_shape is) m = go (mem_cases r (filter_map reactor_in items) (last ∷ []) (subst (Mem r) (filter_map-append reactor_in items (ReactorItem last ∷ [])) m)) (listed_is s names front items r are)
  where
    go : Mem r (filter_map reactor_in items) ⊎ Mem r (last ∷ []) → (Mem r (filter_map reactor_in items) → IsListed s names front r) → IsListed s names (front ++ number ∷ []) r
    go (inl k) rest = let l = rest k in record { number = l.number; used = (l.used.0, get_push front number l.used.0 l.number l.used.1); shape = l.shape; is_shape = l.is_shape; reactor = l.reactor }
    go (inr (inl e)) rest = record { number = number; used = (length front, get_last front number); shape = shape; is_shape = is_shape; reactor = subst (IsReactor s names number shape) e is }
    go (inr (inr k)) rest = absurd k

module _ (files : List SourceFile) (tree : Ast) (low : IsLowering files tree) where
  -- the reactor is the core reactor of this setting
  pub record IsCore (t : Valued) (r : ReactorTree) : Type 0 where
    pub number : ℕ
    pub used : Has low.used number
    pub is_setting : setting_at low.settings number ≡ Some t
    pub shape : Shape
    pub is_shape : shape_at low.settings number ≡ Some shape
    pub listed : Contains (reactors_of (tree_view tree)) r
    pub reactor : IsReactor low.settings low.names number shape r

  -- the core reactor that is named at an instance is that of the setting in it
  pub reactor_found : (number n : ℕ) (t : Valued) (shape : Shape) (q : List ℕ) (r : ReactorTree) → setting_at low.settings number ≡ Some t → reactor_at low.names (record { settings = low.settings; setting = number; shape = shape }) n ≡ Some q → reactor_named (reactors_of (tree_view tree)) q ≡ Some r → (u : Valued) × (inside low.settings.shapes.items t n ≡ Some u) × IsCore u r
  reactor_found number n t shape q r is_setting named found =
      (u.0, u.1, record { number = k.0; used = subst (Has low.used) same one.used; is_setting = u.2; shape = one.shape; is_shape = ap (shape_at low.settings) (sym same) ∙ one.is_shape; listed = mem_contains r (reactors_of (tree_view tree)) f.0; reactor = subst (λ k. IsReactor low.settings low.names k one.shape r) same one.reactor })
    where
      k : (k : ℕ) × (found_inside low.settings number n ≡ Some k) × (slice_index_or low.names k None ≡ Some q)
      k = then_some (λ k. slice_index_or low.names k None) (found_inside low.settings number n) q named

      u : (u : Valued) × (inside low.settings.shapes.items t n ≡ Some u) × (setting_at low.settings k.0 ≡ Some u)
      u = found_is_inside low.settings number n k.0 t low.program.settings.made k.1 is_setting

      f : Mem r (reactors_of (tree_view tree)) × (is_called q r.name ≡ true)
      f = find_some (λ (r : ReactorTree). is_called q r.name) (reactors_of (tree_view tree)) r found

      one : IsListed low.settings low.names low.used r
      one = listed_is low.settings low.names low.used (item_views tree.items.items) r low.reactors f.0

      called : (o : Option (List ℕ)) → is_called q o ≡ true → o ≡ Some q
      called None e = absurd (cc)
      called (Some p) e = ap Some (sym ((bytes_eq-Decides q p).0 e))

      same : one.number ≡ k.0
      same = low.apart one.number k.0 q (sym one.reactor.name ∙ called r.name f.1) k.2

  -- the main reactor is the core reactor of the main setting
  pub main_found : (r : ReactorTree) → main_of (tree_view tree) ≡ Some r → (t : Valued) × (main_setting low.settings.shapes.items ≡ Some t) × IsCore t r
  main_found r found =
      (low.program.settings.main.0, low.program.settings.main.1, record { number = one.number; used = one.used; is_setting = ap (setting_at low.settings) first ∙ low.program.settings.main.2; shape = one.shape; is_shape = one.is_shape; listed = mem_contains r (reactors_of (tree_view tree)) f.0; reactor = one.reactor })
    where
      f : Mem r (reactors_of (tree_view tree)) × (r.is_main ≡ true)
      f = find_some (λ (r : ReactorTree). r.is_main) (reactors_of (tree_view tree)) r found

      one : IsListed low.settings low.names low.used r
      one = listed_is low.settings low.names low.used (item_views tree.items.items) r low.reactors f.0

      first : one.number ≡ 0
      first = one.reactor.main.0 f.1

-- ---- of a tree that isn't refused

none_kept : {X : Type 0} (p : X → Bool) (xs : List X) → find p xs ≡ None → filter p xs ≡ []
none_kept p [] e = refl
none_kept {X} p (x ∷ xs) e = go (p x) e (none_kept p xs)
  where
    go : (b : Bool) → (if b then Some x else find p xs) ≡ None → (find p xs ≡ None → filter p xs ≡ []) → (if b then x ∷ filter p xs else filter p xs) ≡ []
    go true e rest = absurd (cc)
    go false e rest = rest e

module _ (tree : Ast) (none : NoneHolds (causes (tree_view tree))) where
  -- there is a main reactor
  pub has_main : (r : ReactorTree) × (main_of (tree_view tree) ≡ Some r)
  unfolding NoMain
  has_main = go (main_of (tree_view tree)) refl
    where
      go : (o : Option ReactorTree) → main_of (tree_view tree) ≡ o → (r : ReactorTree) × (o ≡ Some r)
      go None e = absurd (none.0 (none_kept (λ (r : ReactorTree). r.is_main) (reactors_of (tree_view tree)) e))
      go (Some r) e = (r, refl)

  -- each instance is of a reactor
  pub has_reactor : (r : ReactorTree) (j : ℕ) (i : InstanceTree) → Contains (reactors_of (tree_view tree)) r → slice_get (instances_of r) j ≡ Some i → (inner : ReactorTree) × (reactor_named (reactors_of (tree_view tree)) i.reactor ≡ Some inner)
  unfolding UnknownReactor
  has_reactor r j i stands at = go (reactor_named (reactors_of (tree_view tree)) i.reactor) refl
    where
      k : (k : ℕ) × (slice_get (reactors_of (tree_view tree)) k ≡ Some r)
      k = at_contains (reactors_of (tree_view tree)) r stands

      go : (o : Option ReactorTree) → reactor_named (reactors_of (tree_view tree)) i.reactor ≡ o → (inner : ReactorTree) × (o ≡ Some inner)
      go None e = absurd (none.1.1.1.0 (Any-at (LacksReactor (reactors_of (tree_view tree))) (reactors_of (tree_view tree)) k.0 r k.1 (Any-at (λ (i : InstanceTree). reactor_named (reactors_of (tree_view tree)) i.reactor ≡ None) (instances_of r) j i at e)))
      go (Some inner) e = (inner, refl)
