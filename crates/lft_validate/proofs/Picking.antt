-- Loops that pick what they want from a list.
use Rattle.std.proofs.Common.{◌≡◌, ℕ, ◌+◌, ◌<◌, List, [], ◌∷◌, ◌++◌, map, filter_map, take, length, get_or, Option, Some, None, append-nil, append_assoc, sym, ap, ◌∙◌}
use Rattle.std.{specs.List.cons_option, proofs.lemmas.List.{map-append, Elements.filter_map-append}}
use Rattle.lft_lists.proofs.Picked.{take_one_more}

module _ {X Y : Type 0} (h : X → Option Y) (xs : List X) (i : ℕ) (x : X) (l : i < length xs) (is : get_or xs i x ≡ x) where
  -- what is picked of one more item
  kept : filter_map h (take (i + 1) xs) ≡ filter_map h (take i xs) ++ cons_option (h x) []
  kept = ap (filter_map h) (take_one_more xs i x l is) ∙ filter_map-append h (take i xs) (x ∷ [])

  -- one more turn: it found something, or nothing
  module _ {D : Type 0} (w : D → Y) where
    module _ (front : List Y) (found : List D) (so_far : map w found ≡ front ++ filter_map h (take i xs)) where
      pub joined_some : (d : D) → h x ≡ Some (w d) → map w (found ++ d ∷ []) ≡ front ++ filter_map h (take (i + 1) xs)
      joined_some d some = map-append w found (d ∷ []) ∙ ap (λ ys. ys ++ w d ∷ []) so_far ∙ append_assoc front (filter_map h (take i xs)) (w d ∷ []) ∙ ap (λ o. front ++ (filter_map h (take i xs) ++ cons_option o [])) (sym some) ∙ ap (λ l. front ++ l) (sym kept)

      pub joined_none : h x ≡ None → map w found ≡ front ++ filter_map h (take (i + 1) xs)
      joined_none none = so_far ∙ ap (λ l. front ++ l) (sym (append-nil _) ∙ ap (λ o. filter_map h (take i xs) ++ cons_option o []) (sym none) ∙ sym kept)

    module _ (found : List D) (so_far : map w found ≡ filter_map h (take i xs)) where
      pub kept_some : (d : D) → h x ≡ Some (w d) → map w (found ++ d ∷ []) ≡ filter_map h (take (i + 1) xs)
      kept_some d some = joined_some [] found so_far d some

      pub kept_none : h x ≡ None → map w found ≡ filter_map h (take (i + 1) xs)
      kept_none none = joined_none [] found so_far none
