-- Lists of as many fields as a table's header has.
use Rattle.std.proofs.Common.{◌≡◌, ℕ, List, [], ◌∷◌, length, get_or, refl, arith}

-- a list of eight fields is the list of its fields
pub eight : (xs : List (List ℕ)) → length xs ≡ 8 → xs ≡ get_or xs 0 [] ∷ get_or xs 1 [] ∷ get_or xs 2 [] ∷ get_or xs 3 [] ∷ get_or xs 4 [] ∷ get_or xs 5 [] ∷ get_or xs 6 [] ∷ get_or xs 7 [] ∷ []
eight [] h = absurd (omega arith)
eight (a0 ∷ []) h = absurd (omega arith)
eight (a0 ∷ a1 ∷ []) h = absurd (omega arith)
eight (a0 ∷ a1 ∷ a2 ∷ []) h = absurd (omega arith)
eight (a0 ∷ a1 ∷ a2 ∷ a3 ∷ []) h = absurd (omega arith)
eight (a0 ∷ a1 ∷ a2 ∷ a3 ∷ a4 ∷ []) h = absurd (omega arith)
eight (a0 ∷ a1 ∷ a2 ∷ a3 ∷ a4 ∷ a5 ∷ []) h = absurd (omega arith)
eight (a0 ∷ a1 ∷ a2 ∷ a3 ∷ a4 ∷ a5 ∷ a6 ∷ []) h = absurd (omega arith)
eight (a0 ∷ a1 ∷ a2 ∷ a3 ∷ a4 ∷ a5 ∷ a6 ∷ a7 ∷ []) h = refl
eight (a0 ∷ a1 ∷ a2 ∷ a3 ∷ a4 ∷ a5 ∷ a6 ∷ a7 ∷ y ∷ ys) h = absurd (omega arith)

-- a list of five fields is the list of its fields
pub five : (xs : List (List ℕ)) → length xs ≡ 5 → xs ≡ get_or xs 0 [] ∷ get_or xs 1 [] ∷ get_or xs 2 [] ∷ get_or xs 3 [] ∷ get_or xs 4 [] ∷ []
five [] h = absurd (omega arith)
five (a0 ∷ []) h = absurd (omega arith)
five (a0 ∷ a1 ∷ []) h = absurd (omega arith)
five (a0 ∷ a1 ∷ a2 ∷ []) h = absurd (omega arith)
five (a0 ∷ a1 ∷ a2 ∷ a3 ∷ []) h = absurd (omega arith)
five (a0 ∷ a1 ∷ a2 ∷ a3 ∷ a4 ∷ []) h = refl
five (a0 ∷ a1 ∷ a2 ∷ a3 ∷ a4 ∷ y ∷ ys) h = absurd (omega arith)
