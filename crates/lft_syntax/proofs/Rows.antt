-- Parts that stand one behind the other.
use Rattle.std.proofs.Common.{◌≡◌, ℕ, ◌+◌, List, [], ◌∷◌, ◌++◌, refl, subst, arith}
use Rattle.lft_syntax.specs.{Lexeme.Lexeme, Language.{Spelling, many}, inner.Placed.{Takes, TakeRow}, Placed.tokens_behind}

-- one more behind several
pub many_push : {X : Type 0} (P : Spelling X) (ws : List Lexeme) (i m j : ℕ) (xs : List X) (x : X) → many P ws i m xs → P ws m j x → many P ws i j (xs ++ x ∷ [])
many_push P ws i m j [] x s t = (j, subst (λ (k : ℕ). P ws k j x) s t, refl)
many_push P ws i m j (y ∷ ys) x s t = (s.0, s.1, many_push P ws s.0 m j ys x s.2 t)

-- one more behind a list and a comma
pub row_push : {X : Type 0} (Stands : ℕ → X → Type 0) (tokens : X → ℕ) (i j k : ℕ) (x : X) (xs : List X) (y : X) → TakeRow Stands tokens i (x ∷ xs) j → Takes Stands tokens (j + 1) y k → TakeRow Stands tokens i (x ∷ xs ++ y ∷ []) k
row_push Stands tokens i j k x [] y row one =
    let e : j ≡ i + (tokens x + 0) = row.1 in
    let f : k ≡ j + 1 + tokens y = one.1 in
    let here : j + 1 ≡ i + tokens x + 1 = omega (arith, e) in
    ((row.0.0, (subst (λ (n : ℕ). Stands n y) here one.0, tt)), omega (arith, e, f))
row_push Stands tokens i j k x (z ∷ zs) y row one =
    let e : j ≡ i + (tokens x + (1 + tokens z + tokens_behind tokens zs)) = row.1 in
    let e : j ≡ i + tokens x + 1 + (tokens z + tokens_behind tokens zs) = omega (arith, e) in
    let rest : TakeRow Stands tokens (i + tokens x + 1) (z ∷ zs ++ y ∷ []) k = row_push Stands tokens (i + tokens x + 1) j k z zs y (row.0.1, e) one in
    let f : k ≡ i + tokens x + 1 + (tokens z + tokens_behind tokens (zs ++ y ∷ [])) = rest.1 in
    ((row.0.0, rest.0), omega (arith, f))
