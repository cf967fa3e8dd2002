-- Loops that pick what they want from a list, and loops that make one item of each.
use Rattle.std.proofs.Common.{◌≡◌, ℕ, zero, suc, ◌+◌, ◌<◌, List, [], ◌∷◌, ◌++◌, map, filter_map, take, length, get_or, slice_get, Option, Some, None, append-nil, append_assoc, option_map, add-one, refl, sym, ap, ◌∙◌, arith}
use Rattle.std.{specs.List.cons_option, proofs.lemmas.{Grind.common_steps, List.{map-append, Elements.filter_map-append}}}

-- one more item of a list
pub take_next : {X : Type 0} (xs : List X) (k : ℕ) (u : X) → slice_get xs k ≡ Some u → take (suc k) xs ≡ take k xs ++ u ∷ []
take_next [] k u e = absurd (cc)
take_next (x ∷ xs) zero u e = let q : x ≡ u = cc in ap (λ y. y ∷ []) q
take_next (x ∷ xs) (suc k) u e = ap (λ ys. x ∷ ys) (take_next xs k u e)

-- what a filter keeps of one more item
pub kept_more : {X Y : Type 0} (h : X → Option Y) (xs : List X) (i : ℕ) (x : X) (o : Option Y) → slice_get xs i ≡ Some x → o ≡ h x → filter_map h (take (i + 1) xs) ≡ filter_map h (take i xs) ++ cons_option o []
kept_more h xs i x o e r = rw (add-one, take_next xs i x e, r) (filter_map-append h (take i xs) (x ∷ []))

-- one more element of a list
pub take_one_more : {X : Type 0} (xs : List X) (i : ℕ) (x : X) → i < length xs → get_or xs i x ≡ x → take (i + 1) xs ≡ take i xs ++ x ∷ []
take_one_more xs i x lt is = grind (arith, common_steps)

module _ {A B : Type 0} (v : A → B) (xs : List A) (i : ℕ) (x : A) (lt : i < length xs) (is : get_or xs i x ≡ x) where
  pub map_more : map v (take (i + 1) xs) ≡ map v (take i xs) ++ v x ∷ []
  map_more = ap (map v) (take_one_more xs i x lt is) ∙ map-append v (take i xs) (x ∷ [])

  pub picked_more : {C : Type 0} (h : B → Option C) → filter_map h (map v (take (i + 1) xs)) ≡ filter_map h (map v (take i xs)) ++ filter_map h (v x ∷ [])
  picked_more h = ap (filter_map h) map_more ∙ filter_map-append h (map v (take i xs)) (v x ∷ [])

-- one more turn of a loop that picks with h: it found something, or nothing
module _ {A B C D : Type 0} (h : B → Option C) (v : A → B) (w : D → C) (xs : List A) (i : ℕ) (x : A) (lt : i < length xs) (is : get_or xs i x ≡ x) (found : List D) (so_far : map w found ≡ filter_map h (map v (take i xs))) where
  pub picked_some : (d : D) → h (v x) ≡ Some (w d) → map w (found ++ d ∷ []) ≡ filter_map h (map v (take (i + 1) xs))
  picked_some d some =
      let here : filter_map h (v x ∷ []) ≡ w d ∷ [] = ap (λ o. cons_option o []) some in
      map-append w found (d ∷ []) ∙ ap (λ l. l ++ w d ∷ []) so_far ∙ ap (λ l. filter_map h (map v (take i xs)) ++ l) (sym here) ∙ sym (picked_more v xs i x lt is h)

  pub picked_none : h (v x) ≡ None → map w found ≡ filter_map h (map v (take (i + 1) xs))
  picked_none none =
      let here : filter_map h (v x ∷ []) ≡ [] = ap (λ o. cons_option o []) none in
      so_far ∙ sym (append-nil _) ∙ ap (λ l. filter_map h (map v (take i xs)) ++ l) (sym here) ∙ sym (picked_more v xs i x lt is h)

-- the same behind what stood there before
module _ {A B C D : Type 0} (h : B → Option C) (v : A → B) (w : D → C) (front : List C) (xs : List A) (i : ℕ) (x : A) (lt : i < length xs) (is : get_or xs i x ≡ x) (found : List D) (so_far : map w found ≡ front ++ filter_map h (map v (take i xs))) where
  pub behind_some : (d : D) → h (v x) ≡ Some (w d) → map w (found ++ d ∷ []) ≡ front ++ filter_map h (map v (take (i + 1) xs))
  behind_some d some =
      let here : filter_map h (v x ∷ []) ≡ w d ∷ [] = ap (λ o. cons_option o []) some in
      map-append w found (d ∷ []) ∙ ap (λ l. l ++ w d ∷ []) so_far ∙ append_assoc front (filter_map h (map v (take i xs))) (w d ∷ []) ∙ ap (λ l. front ++ (filter_map h (map v (take i xs)) ++ l)) (sym here) ∙ ap (λ l. front ++ l) (sym (picked_more v xs i x lt is h))

  pub behind_none : h (v x) ≡ None → map w found ≡ front ++ filter_map h (map v (take (i + 1) xs))
  behind_none none =
      let here : filter_map h (v x ∷ []) ≡ [] = ap (λ o. cons_option o []) none in
      so_far ∙ ap (λ l. front ++ l) (sym (append-nil _) ∙ ap (λ l. filter_map h (map v (take i xs)) ++ l) (sym here) ∙ sym (picked_more v xs i x lt is h))

-- a projection of what h finds
pub map-filter_map : {A B C : Type 0} (f : B → C) (h : A → Option B) (xs : List A) → map f (filter_map h xs) ≡ filter_map (λ x. option_map f (h x)) xs
map-filter_map f h [] = refl
map-filter_map {A} {B} {C} f h (x ∷ xs) = by (h x) (map-filter_map f h xs)
  where
    by : (o : Option B) → map f (filter_map h xs) ≡ filter_map (λ x. option_map f (h x)) xs → map f (cons_option o (filter_map h xs)) ≡ cons_option (option_map f o) (filter_map (λ x. option_map f (h x)) xs)
    by None e = e
    by (Some y) e = ap (λ l. f y ∷ l) e

pub map-same : {X : Type 0} (xs : List X) → map (λ x. x) xs ≡ xs
map-same [] = refl
map-same (x ∷ xs) = ap (λ l. x ∷ l) (map-same xs)
