-- The way back from a port, found from the port on, and what is said of it from its end on.
use Rattle.std.proofs.Common.{◌≡◌, ℕ, ◌+◌, List, [], ◌∷◌, ◌++◌, Option, Some, drop, add-one, append_assoc, sym, ap, ◌∙◌, slice_get, unwrap_or, option_map}
use Rattle.lft_ir.{specs.Parts.Parts, proofs.WordsLemmas.Steps.drop_next}
use Rattle.lft_report.specs.Hops.{source_into, way_back, told_back}

module _ (program : Parts) (whole xs : List ℕ) (left p : ℕ) (so_far : xs ++ way_back program left p ≡ whole) where
  -- one connection more
  pub back_more : (n q : ℕ) (ys : List ℕ) → left ≡ n + 1 → Some q ≡ source_into program p → ys ≡ xs ++ p ∷ [] → ys ++ way_back program n q ≡ whole
  back_more n q ys l e is = ap (λ zs. zs ++ way_back program n q) is ∙ append_assoc xs (p ∷ []) (way_back program n q) ∙ ap (λ zs. xs ++ zs) step ∙ so_far
    where
      step : p ∷ way_back program n q ≡ way_back program left p
      step = ap (λ (o : Option ℕ). unwrap_or (option_map (λ (r : ℕ). p ∷ way_back program n r) o) []) e ∙ ap (λ k. way_back program k p) (sym (l ∙ add-one n))

module _ (says : ℕ → List ℕ) (xs : List ℕ) (s : List ℕ) where
  -- one item more, before the others in the list and behind them in the text
  pub said_back : (left n x : ℕ) (old new : List ℕ) → left ≡ n + 1 → slice_get xs n ≡ Some x → old ≡ s ++ told_back says (drop left xs) → new ≡ old ++ says x → new ≡ s ++ told_back says (drop n xs)
  said_back left n x old new l e so_far is =
      is ∙ ap (λ zs. zs ++ says x) so_far
      ∙ append_assoc s (told_back says (drop left xs)) (says x)
      ∙ ap (λ k. s ++ (told_back says (drop k xs) ++ says x)) (l ∙ add-one n)
      ∙ ap (λ zs. s ++ told_back says zs) (sym (drop_next xs n x e))
