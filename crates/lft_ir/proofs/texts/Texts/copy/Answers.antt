use Rattle.std.proofs.Common.{◌≡◌, ℕ, zero, suc, ◌+◌, List, [], ◌∷◌, ◌++◌, take, slice_get, Some, ap, ◌∙◌, arith}
use Rattle.lft_ir.proofs.texts.Texts.copy.Goals as goal

one_more : {X : Type 0} (xs : List X) (n : ℕ) (x : X) → slice_get xs n ≡ Some x → take n xs ++ x ∷ [] ≡ take (suc n) xs
one_more [] n x e = absurd (cc)
one_more (y ∷ ys) zero x e = let q : x ≡ y = cc in ap (λ z. z ∷ []) q
one_more (y ∷ ys) (suc n) x e = ap (λ zs. y ∷ zs) (one_more ys n x e)

pub loop-number-preserved : goal.loop-number-preserved
loop-number-preserved c =
    let xs = c.args.self.now in
    let n = c.loop-number.number in
    let m : suc n ≡ n + 1 = omega arith in
    c.in_ok-push_new.ensures
    ∙ ap (λ t. c.loop-number.copy ++ t ∷ []) c.in_ok-text.ensures.ok
    ∙ ap (λ l. l ++ c.get.result.now ∷ []) c.loop-number.invariant
    ∙ one_more xs n c.get.result.now c.get.ensures
    ∙ ap (λ k. take k xs) m
