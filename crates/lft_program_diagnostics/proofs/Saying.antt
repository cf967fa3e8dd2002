-- Words and names of a sentence, as a loop takes them.
use Rattle.std.proofs.Common.{◌≡◌, ℕ, zero, suc, ◌+◌, ◌≤◌, List, [], ◌∷◌, ◌++◌, append_assoc, append-nil, add-one, drop, length, get_or, slice_get, Some, sym, ap, ◌∙◌}
use Rattle.std.proofs.lemmas.List.{drop_all}
use Rattle.lft_program_diagnostics.specs.Sentences.{said}

-- the next word, where no name is left
next_alone : (ws : List (List ℕ)) (i j : ℕ) (w : List ℕ) → slice_get ws i ≡ Some w → said (drop i ws) (drop j []) ≡ (w ++ []) ++ said (drop (suc i) ws) (drop (suc j) [])
next_alone [] i j w e = absurd (cc)
next_alone (x ∷ ws) zero zero w e = let q : x ≡ w = cc in ap (λ z. z ++ said ws []) (q ∙ sym (append-nil w))
next_alone (x ∷ ws) zero (suc j) w e = let q : x ≡ w = cc in ap (λ z. z ++ said ws []) (q ∙ sym (append-nil w))
next_alone (x ∷ ws) (suc i) zero w e = next_alone ws i zero w e
next_alone (x ∷ ws) (suc i) (suc j) w e = next_alone ws i (suc j) w e

-- the next word, and the name behind it
next : (ws ns : List (List ℕ)) (i : ℕ) (w : List ℕ) → slice_get ws i ≡ Some w → said (drop i ws) (drop i ns) ≡ (w ++ get_or ns i []) ++ said (drop (suc i) ws) (drop (suc i) ns)
next [] ns i w e = absurd (cc)
next (x ∷ ws) [] zero w e = next_alone (x ∷ ws) zero zero w e
next (x ∷ ws) [] (suc i) w e = next_alone ws i (suc i) w e
next (x ∷ ws) (n ∷ ns) zero w e = let q : x ≡ w = cc in ap (λ z. (z ++ n) ++ said ws ns) q
next (x ∷ ws) (n ∷ ns) (suc i) w e = next ws ns i w e

-- one more turn of a loop that puts them behind a text
pub said_more : (ws ns : List (List ℕ)) (i : ℕ) (w old new all : List ℕ) → slice_get ws i ≡ Some w → old ++ said (drop i ws) (drop i ns) ≡ all → new ≡ old ++ (w ++ get_or ns i []) → new ++ said (drop (i + 1) ws) (drop (i + 1) ns) ≡ all
said_more ws ns i w old new all e so_far is =
    ap (λ k. new ++ said (drop k ws) (drop k ns)) (add-one i)
    ∙ ap (λ z. z ++ said (drop (suc i) ws) (drop (suc i) ns)) is
    ∙ append_assoc old (w ++ get_or ns i []) (said (drop (suc i) ws) (drop (suc i) ns))
    ∙ ap (λ z. old ++ z) (sym (next ws ns i w e))
    ∙ so_far

-- behind the last word nothing is left
pub said_all : (ws ns : List (List ℕ)) (i : ℕ) (s all : List ℕ) → length ws ≤ i → s ++ said (drop i ws) (drop i ns) ≡ all → s ≡ all
said_all ws ns i s all l so_far = sym (append-nil s) ∙ ap (λ zs. s ++ said zs (drop i ns)) (sym (drop_all i ws l)) ∙ so_far
