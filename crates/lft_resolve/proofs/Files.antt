-- The reactors of a file that have a name, and loops over tables of reactors.
use Rattle.std.proofs.Common.{◌≡◌, ℕ, ◌+◌, ◌<◌, ◌≤◌, zero, suc, Bool, true, false, cond, List, [], ◌∷◌, ◌++◌, take, length, get_or, slice_get, is_some, Option, Some, None, option_map, String, string_bytes, bytes_eq, refl, sym, ap, subst, ◌∙◌, arith}
use Rattle.std.specs.{List.{AllZip, cons_option}, Option.option_and_then}
use Rattle.lft_tree.specs.Tree.{ReactorTree}
use Rattle.lft_resolve.specs.{Instances.{is_called, reactor_named}, inner.{Places.place, Tables.{IsFile, IsOwn}}}
use Rattle.lft_resolve.specs.declared.{file.ReactorTable.ReactorTable, own.Own.Own}
use Rattle.lft_resolve.proofs.NamedReactors.{named, with_name}

-- the reactor of a name is the one at the name's place
pub named-place : (rs : List ReactorTree) (q : List ℕ) → reactor_named rs q ≡ option_and_then (slice_get (with_name rs)) (place q (named rs))
named-place [] q = refl
named-place (r ∷ rs) q = by r.name (named-place rs q)
  where
    over : (o : Option ℕ) → option_and_then (slice_get (with_name rs)) o ≡ option_and_then (slice_get (r ∷ with_name rs)) (option_map suc o)
    over None = refl
    over (Some k) = refl

    test : (b : Bool) → reactor_named rs q ≡ option_and_then (slice_get (with_name rs)) (place q (named rs)) → cond b (Some r) (reactor_named rs q) ≡ option_and_then (slice_get (r ∷ with_name rs)) (cond b (Some 0) (option_map suc (place q (named rs))))
    test true e = refl
    test false e = e ∙ over (place q (named rs))

    by : (o : Option (List ℕ)) → reactor_named rs q ≡ option_and_then (slice_get (with_name rs)) (place q (named rs)) → cond (is_called q o) (Some r) (reactor_named rs q) ≡ option_and_then (slice_get (cond (is_some o) (r ∷ with_name rs) (with_name rs))) (place q (cons_option o (named rs)))
    by None e = e
    by (Some n) e = test (bytes_eq q n) e

module _ {A B : Type 0} (R : A → B → Type 0) where
  pub AllZip-last : (xs : List A) (ys : List B) (x : A) (y : B) → AllZip R xs ys → R x y → AllZip R (xs ++ x ∷ []) (ys ++ y ∷ [])
  AllZip-last [] [] x y all one = (one, tt)
  AllZip-last [] (z ∷ ys) x y all one = absurd all
  AllZip-last (z ∷ xs) [] x y all one = absurd all
  AllZip-last (z ∷ xs) (w ∷ ys) x y all one = (all.0, AllZip-last xs ys x y all.1 one)

  -- the element that an item goes with
  pub AllZip-from : (xs : List A) (ys : List B) → AllZip R xs ys → (k : ℕ) (y : B) → slice_get ys k ≡ Some y → (x : A) × (slice_get xs k ≡ Some x) × R x y
  AllZip-from [] [] all k y at = absurd (cc)
  AllZip-from [] (z ∷ ys) all k y at = absurd all
  AllZip-from (x ∷ xs) [] all k y at = absurd all
  AllZip-from (x ∷ xs) (z ∷ ys) all zero y at = let e : z ≡ y = cc in (x, refl, subst (R x) e all.0)
  AllZip-from (x ∷ xs) (z ∷ ys) all (suc k) y at = AllZip-from xs ys all.1 k y at

  -- one turn of a loop over the items: the element that this one goes with
  pub AllZip-turn : (xs : List A) (ys : List B) → AllZip R xs ys → (k : ℕ) (y : B) → k < length ys → get_or ys k y ≡ y → (x : A) × (slice_get xs k ≡ Some x) × R x y × (take (k + 1) xs ≡ take k xs ++ x ∷ [])
  AllZip-turn [] [] all k y within is = absurd (omega arith)
  AllZip-turn [] (z ∷ ys) all k y within is = absurd all
  AllZip-turn (x ∷ xs) [] all k y within is = absurd all
  AllZip-turn (x ∷ xs) (z ∷ ys) all zero y within is = (x, refl, subst (R x) is all.0, refl)
  AllZip-turn (x ∷ xs) (z ∷ ys) all (suc k) y within is =
      let next : suc k + 1 ≡ suc (k + 1) = omega arith in
      let turn = AllZip-turn xs ys all.1 k y (omega arith) is in
      (turn.0, turn.1, turn.2, ap (λ n. take n (x ∷ xs)) next ∙ ap (λ l. x ∷ l) turn.3)

  pub AllZip-done : (xs : List A) (ys : List B) → AllZip R xs ys → (k : ℕ) → length ys ≤ k → take k xs ≡ xs
  AllZip-done [] ys all zero past = refl
  AllZip-done [] ys all (suc k) past = refl
  AllZip-done (x ∷ xs) [] all k past = absurd all
  AllZip-done (x ∷ xs) (z ∷ ys) all zero past = absurd (omega arith)
  AllZip-done (x ∷ xs) (z ∷ ys) all (suc k) past = ap (λ l. x ∷ l) (AllZip-done xs ys all.1 k (omega arith))

pub named_some : {Z : Type 0} (o : Option (String Z)) → is_some (option_map string_bytes o) ≡ is_some o
named_some None = refl
named_some (Some s) = refl

-- one turn of a loop over the tables of a file's reactors: the reactor, and what it is put behind
module _ (rs : List ReactorTree) (file : ReactorTable) (is_file : IsFile rs file) (items : List Own) (same : items ≡ file.owns.items) (k : ℕ) where
  pub own_turn : (own : Own) → k < length items → get_or items k own ≡ own → (r : ReactorTree) × (slice_get rs k ≡ Some r) × IsOwn r own × (take (k + 1) rs ≡ take k rs ++ r ∷ [])
  own_turn own within is = AllZip-turn IsOwn rs items (subst (AllZip IsOwn rs) (sym same) is_file.owns) k own within is

  pub own_done : length items ≤ k → take k rs ≡ rs
  own_done past = AllZip-done IsOwn rs items (subst (AllZip IsOwn rs) (sym same) is_file.owns) k past
