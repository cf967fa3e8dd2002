-- A quote in its place among others.
use Rattle.std.proofs.Common.{◌≡◌, ℕ, suc, ◌+◌, ◌<◌, List, [], ◌∷◌, ◌++◌, take, drop, take-append-drop, add-one, append_assoc, sym, ap, ◌∙◌, arith, Some, slice_get}
use Rattle.std.proofs.lemmas.Bool.Decides.{nat_tests}
use Rattle.lft_lists.proofs.Picked.{take_next}
use Rattle.lft_report.specs.{declared.quotes.marks.Quote.Quote, Quotes.Picked.inserted}
use Rattle.lft_ir.proofs.WordsLemmas.Steps.{drop_next}

pub inserted_before : (q x : Quote) (xs : List Quote) → q.row < x.row → inserted (x ∷ xs) q ≡ q ∷ x ∷ xs
inserted_before q x xs l = grind (arith, nat_tests)

pub inserted_same : (q x : Quote) (xs : List Quote) → q.row ≡ x.row → inserted (x ∷ xs) q ≡ x ∷ xs
inserted_same q x xs e = grind (arith, nat_tests)

pub inserted_behind : (q x : Quote) (xs : List Quote) → x.row < q.row → inserted (x ∷ xs) q ≡ x ∷ inserted xs q
inserted_behind q x xs l = grind (arith, nat_tests)

-- one more quote is passed
pub passed_more : (xs : List Quote) (q x : Quote) (i : ℕ) → slice_get xs i ≡ Some x → x.row < q.row → inserted xs q ≡ take i xs ++ inserted (drop i xs) q → inserted xs q ≡ take (i + 1) xs ++ inserted (drop (i + 1) xs) q
passed_more xs q x i e l so_far =
    so_far
    ∙ ap (λ zs. take i xs ++ inserted zs q) (drop_next xs i x e)
    ∙ ap (λ zs. take i xs ++ zs) (inserted_behind q x (drop (suc i) xs) l)
    ∙ sym (append_assoc (take i xs) (x ∷ []) (inserted (drop (suc i) xs) q))
    ∙ ap (λ zs. zs ++ inserted (drop (suc i) xs) q) (sym (take_next xs i x e))
    ∙ ap (λ n. take n xs ++ inserted (drop n xs) q) (sym (add-one i))

-- the quote goes before one of a greater row
pub goes_before : (xs : List Quote) (q x : Quote) (i : ℕ) → slice_get xs i ≡ Some x → q.row < x.row → inserted xs q ≡ take i xs ++ inserted (drop i xs) q → take i xs ++ q ∷ drop i xs ≡ inserted xs q
goes_before xs q x i e l passed =
    ap (λ zs. take i xs ++ q ∷ zs) (drop_next xs i x e)
    ∙ sym (ap (λ zs. take i xs ++ zs) (inserted_before q x (drop (suc i) xs) l))
    ∙ sym (ap (λ zs. take i xs ++ inserted zs q) (drop_next xs i x e))
    ∙ sym passed

-- one of that row stays
pub stays : (xs : List Quote) (q x : Quote) (i : ℕ) → slice_get xs i ≡ Some x → q.row ≡ x.row → inserted xs q ≡ take i xs ++ inserted (drop i xs) q → xs ≡ inserted xs q
stays xs q x i e same passed =
    sym (take-append-drop i xs)
    ∙ ap (λ zs. take i xs ++ zs) (drop_next xs i x e)
    ∙ sym (ap (λ zs. take i xs ++ zs) (inserted_same q x (drop (suc i) xs) same))
    ∙ sym (ap (λ zs. take i xs ++ inserted zs q) (drop_next xs i x e))
    ∙ sym passed
