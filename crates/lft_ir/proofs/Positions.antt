-- What a search by position, or by any place, says of a list, and the texts of a list of strings.
use Rattle.std.proofs.Common.{◌≡◌, ℕ, ◌<◌, ◌≤◌, zero, suc, Bool, true, false, List, [], ◌∷◌, ◌++◌, map, length, slice_get, position, Some, None, refl, sym, ap, subst, ◌∙◌, true≢false, arith, string_bytes, get_or, String, ◌⊎◌, inl, inr, ⊎_elim, if◌then◌else◌}
use Rattle.std.specs.{List.{position_or_len, list_any}, Str.{bytes_eq, IsUtf8}, String.string_eq}
use Rattle.std.proofs.lemmas.{Grind.common_steps, List.{map-append, Folds.{Any-from_list_any, list_any_at}, Quantifiers.position-Some, Sums.fails_before_first}}
use Rattle.std.proofs.lemmas.{Option.{slice_get_within, get_or_from_slice_get, slice_get-get_or}, Slice.Eq.bytes_eq-Decides, Str.IsUtf8-string_bytes}
use Rattle.indexmap.specs.IndexSet.{insert_key}
use Rattle.lft_lists.proofs.Mapped.{mapped, mapped_from}
use Rattle.lft_ir.specs.inner.{Names.HasNoTwice, Places.AreUtf8}

module _ {X : Type 0} (p : X → Bool) where
  -- a search that found nothing passes nowhere
  pub nowhere : (xs : List X) → position p xs ≡ None → (i : ℕ) (x : X) → slice_get xs i ≡ Some x → p x ≡ false
  nowhere xs none i x at =
      let inside : i < length xs = slice_get_within xs i x at in
      let all : length xs ≤ position_or_len p xs = grind (arith, common_steps) in
      subst (λ y. p y ≡ false) (get_or_from_slice_get xs i x x at) (fails_before_first p xs i x (omega arith))

  -- the element that a search found, and it passes
  pub somewhere : (xs : List X) (i : ℕ) → position p xs ≡ Some i → (x : X) × (slice_get xs i ≡ Some x) × (p x ≡ true)
  somewhere [] i found = absurd (cc)
  somewhere (y ∷ ys) i found =
      let at = position-Some p (y ∷ ys) i y found in
      (get_or (y ∷ ys) i y, slice_get-get_or (y ∷ ys) i y at.0, at.1)

  -- a place that passes, where any does
  pub any_place : (xs : List X) → list_any p xs ≡ true → (i : ℕ) × (x : X) × (slice_get xs i ≡ Some x) × (p x ≡ true)
  any_place xs any =
      let some = Any-from_list_any p xs any in
      (some.0, some.1, subst (λ y. slice_get xs some.0 ≡ Some y) some.3 (slice_get-get_or xs some.0 some.1 some.2), some.4)

-- an element of a list with one more at its end
pub pushed_at : {X : Type 0} (xs : List X) (y x : X) (i : ℕ) → slice_get (xs ++ y ∷ []) i ≡ Some x → (slice_get xs i ≡ Some x) ⊎ ((i ≡ length xs) × (x ≡ y))
pushed_at [] y x zero at = inr (refl, (cc))
pushed_at [] y x (suc i) at = absurd (cc)
pushed_at (z ∷ xs) y x zero at = inl at
pushed_at (z ∷ xs) y x (suc i) at = ⊎_elim (λ h. inl h) (λ h. inr (ap suc h.0, h.1)) (pushed_at xs y x i at)

-- a text that is nowhere in the list may be put at its end
pub HasNoTwice-push : (xs : List (List ℕ)) (t : List ℕ) → HasNoTwice xs → ((i : ℕ) → slice_get xs i ≡ Some t → ⊥) → HasNoTwice (xs ++ t ∷ [])
HasNoTwice-push xs t once new i j x a b =
    ⊎_elim
    (λ a1. ⊎_elim (λ b1. once i j x a1 b1) (λ b2. absurd (new i (rw (← b2.1) a1))) (pushed_at xs t x j b))
    (λ a2. ⊎_elim (λ b1. absurd (new j (rw (← a2.1) b1))) (λ b2. a2.0 ∙ sym b2.0) (pushed_at xs t x j b))
    (pushed_at xs t x i a)

pub AreUtf8-push : (xs : List (List ℕ)) (t : List ℕ) → AreUtf8 xs → IsUtf8 t → AreUtf8 (xs ++ t ∷ [])
AreUtf8-push xs t all one i x a =
    ⊎_elim (λ a1. all i x a1) (λ a2. subst IsUtf8 (sym a2.1) one) (pushed_at xs t x i a)

module _ {Z : Type 0} where
  pub found_text : (q : List ℕ) (ks : List (String Z)) (i : ℕ) → position (λ k. bytes_eq q (string_bytes k)) ks ≡ Some i → slice_get (map string_bytes ks) i ≡ Some q
  found_text q ks i found =
      let at = somewhere (λ k. bytes_eq q (string_bytes k)) ks i found in
      let same : q ≡ string_bytes at.0 = (bytes_eq-Decides q (string_bytes at.0)).0 at.2 in
      subst (λ t. slice_get (map string_bytes ks) i ≡ Some t) (sym same) (mapped string_bytes ks i at.0 at.1)

  pub missing_text : (q : List ℕ) (ks : List (String Z)) → position (λ k. bytes_eq q (string_bytes k)) ks ≡ None → (i : ℕ) → slice_get (map string_bytes ks) i ≡ Some q → ⊥
  missing_text q ks none i at =
      let from = mapped_from string_bytes ks i q at in
      let no = nowhere (λ k. bytes_eq q (string_bytes k)) ks none i from.0 from.1 in
      let yes = (bytes_eq-Decides q (string_bytes from.0)).1 (sym from.2) in
      true≢false (sym yes ∙ no)

  pub text_there : (q : String Z) (ks : List (String Z)) → list_any (string_eq q) ks ≡ true → (i : ℕ) × (slice_get (map string_bytes ks) i ≡ Some (string_bytes q))
  text_there q ks any =
      let at = any_place (string_eq q) ks any in
      let same : string_bytes q ≡ string_bytes at.1 = (bytes_eq-Decides (string_bytes q) (string_bytes at.1)).0 at.3 in
      (at.0, subst (λ t. slice_get (map string_bytes ks) at.0 ≡ Some t) (sym same) (mapped string_bytes ks at.0 at.1 at.2))

  pub text_not_there : (q : String Z) (ks : List (String Z)) → list_any (string_eq q) ks ≡ false → (i : ℕ) → slice_get (map string_bytes ks) i ≡ Some (string_bytes q) → ⊥
  text_not_there q ks none i at =
      let from = mapped_from string_bytes ks i (string_bytes q) at in
      let yes = (bytes_eq-Decides (string_bytes q) (string_bytes from.0)).1 (sym from.2) in
      let same = get_or_from_slice_get ks i from.0 from.0 from.1 in
      let any = list_any_at (string_eq q) ks i from.0 (slice_get_within ks i from.0 from.1) (rw same yes) in
      true≢false (sym any ∙ none)

  -- an inserted string leaves no text twice
  pub good_insert : (q : String Z) (ks : List (String Z)) → HasNoTwice (map string_bytes ks) → AreUtf8 (map string_bytes ks) → HasNoTwice (map string_bytes (insert_key string_eq ks q)) × AreUtf8 (map string_bytes (insert_key string_eq ks q))
  good_insert q ks once utf8 = by (list_any (string_eq q) ks) refl
    where
      good : List (String Z) → Type 0
      good l = HasNoTwice (map string_bytes l) × AreUtf8 (map string_bytes l)

      by : (b : Bool) → list_any (string_eq q) ks ≡ b → good (if b then ks else ks ++ q ∷ [])
      by true any = (once, utf8)
      by false any = rw (map-append string_bytes ks (q ∷ [])) (HasNoTwice-push _ _ once (text_not_there q ks any), AreUtf8-push _ _ utf8 (IsUtf8-string_bytes q))
