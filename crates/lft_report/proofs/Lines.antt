-- The first lines of a text, byte by byte.
use Rattle.std.proofs.Common.{◌≡◌, ℕ, suc, ◌+◌, List, [], ◌∷◌, ◌++◌, take, drop, add-one, append_assoc, Some, sym, ap, ◌∙◌, arith, slice_get, nat_eq, false, if◌then◌else◌}
use Rattle.std.proofs.lemmas.Bool.Decides.{nat_tests}
use Rattle.lft_ir.proofs.WordsLemmas.Steps.{drop_next}
use Rattle.lft_report.specs.Shortened.{shortened}
use Rattle.lft_lists.proofs.Picked.{take_next}

module _ (bytes all : List ℕ) (i left m x : ℕ) (up : left ≡ suc m) (e : slice_get bytes i ≡ Some x) (so_far : all ≡ take i bytes ++ shortened left (drop i bytes)) where
  -- one byte more is printed
  pub byte_more : (n : ℕ) → n ≡ (if nat_eq x 10 then m else suc m) → all ≡ take (i + 1) bytes ++ shortened n (drop (i + 1) bytes)
  byte_more n is =
      so_far
      ∙ ap (λ xs. take i bytes ++ shortened left xs) (drop_next bytes i x e)
      ∙ ap (λ k. take i bytes ++ shortened k (x ∷ drop (suc i) bytes)) up
      ∙ ap (λ k. take i bytes ++ x ∷ shortened k (drop (suc i) bytes)) (sym is)
      ∙ sym (append_assoc (take i bytes) (x ∷ []) (shortened n (drop (suc i) bytes)))
      ∙ ap (λ xs. xs ++ shortened n (drop (suc i) bytes)) (sym (take_next bytes i x e))
      ∙ ap (λ k. take k bytes ++ shortened n (drop k bytes)) (sym (add-one i))

  -- a line feed more, and another byte more
  pub feed_more : (n : ℕ) → x ≡ 10 → n ≡ m → all ≡ take (i + 1) bytes ++ shortened n (drop (i + 1) bytes)
  feed_more n feed is = byte_more n (is ∙ ap (λ y. if nat_eq y 10 then m else suc m) (sym feed))

  pub other_more : (n : ℕ) → (x ≡ 10 → ⊥) → n ≡ suc m → all ≡ take (i + 1) bytes ++ shortened n (drop (i + 1) bytes)
  other_more n other is = let z : nat_eq x 10 ≡ false = grind (arith, nat_tests, other) in byte_more n (is ∙ ap (λ b. if b then m else suc m) (sym z))
