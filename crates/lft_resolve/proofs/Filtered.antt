-- Loops that make an item of each element that passes a test, and names that are lost in reactions.
use Rattle.std.proofs.Common.{◌≡◌, ℕ, ◌+◌, ◌<◌, Bool, true, false, cond, List, [], ◌∷◌, ◌++◌, map, flat_map, filter, take, length, get_or, Any, inl, append-nil, sym, ap, subst, ◌∙◌}
use Rattle.std.{specs.List.AllZip, proofs.lemmas.List.Elements.filter-append}
use Rattle.lft_resolve.proofs.{Lacking.Any-flat_map, Files.AllZip-last, Somes.Any-left, Twice.map_last}
use Rattle.lft_resolve.specs.{inner.Lost.{HasLost, IsLost}, Kinds.{connection_refs, reaction_refs}}
use Rattle.lft_tree.specs.Tree.{ReactorTree, connections_of, reactions_of}

-- one more element, that passes or not
module _ {A B C : Type 0} (test : B → Bool) (v : A → B) (R : B → C → Type 0) (xs : List A) (i : ℕ) (x : A) (lt : i < length xs) (is : get_or xs i x ≡ x) (ys : List C) (all : AllZip R (filter test (map v (take i xs))) ys) where
  parted : filter test (map v (take (i + 1) xs)) ≡ filter test (map v (take i xs)) ++ filter test (v x ∷ [])
  parted = ap (filter test) (map_last v xs i x lt is) ∙ filter-append test (map v (take i xs)) (v x ∷ [])

  pub filtered_more : (y : C) → test (v x) ≡ true → R (v x) y → AllZip R (filter test (map v (take (i + 1) xs))) (ys ++ y ∷ [])
  filtered_more y passes one =
      let here : filter test (v x ∷ []) ≡ v x ∷ [] = ap (λ b. cond b (v x ∷ []) []) passes in
      subst (λ l. AllZip R l (ys ++ y ∷ [])) (sym (parted ∙ ap (λ l. filter test (map v (take i xs)) ++ l) here)) (AllZip-last R (filter test (map v (take i xs))) ys (v x) y all one)

  pub filtered_kept : test (v x) ≡ false → AllZip R (filter test (map v (take (i + 1) xs))) ys
  filtered_kept fails =
      let here : filter test (v x ∷ []) ≡ [] = ap (λ b. cond b (v x ∷ []) []) fails in
      subst (λ l. AllZip R l ys) (sym (parted ∙ ap (λ l. filter test (map v (take i xs)) ++ l) here ∙ append-nil (filter test (map v (take i xs))))) all

-- what is lost in a reaction is lost in its reactor
pub lost_reaction : (rs : List ReactorTree) (r : ReactorTree) → Any (λ x. Any (IsLost rs r) (reaction_refs x)) (reactions_of r) → HasLost rs r
lost_reaction rs r a = inl (Any-left (IsLost rs r) (flat_map reaction_refs (reactions_of r)) (flat_map connection_refs (connections_of r)) (Any-flat_map (IsLost rs r) reaction_refs (reactions_of r) a))
