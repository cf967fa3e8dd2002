use Rattle.std.proofs.Common.{◌≡◌, ◌<◌, ◌+◌, ◌⊎◌, inl, inr, ℕ, false, Option, Some, None, refl, arith, sym, ap, ◌∙◌, slice_get}
use Rattle.std.{specs.Option.is_some, proofs.lemmas.Bool.cases_eq}
use Rattle.lft_lists.proofs.Places.{same_some}
use Rattle.lft_model.proofs.Places.{slice_get_within}
use Rattle.lft_rows.proofs.open.are_all_none.Goals as goal

pub loop-number-init : goal.loop-number-init
loop-number-init c = λ k place l e. absurd (omega (arith, l))

pub loop-number-preserved : goal.loop-number-preserved
loop-number-preserved c = λ k place l e. go k place l e (cases_eq k c.loop-number.number)
  where
    nothing : (x : Option ℕ) → is_some x ≡ false → x ≡ None
    nothing None e = refl
    nothing (Some k) e = absurd (cc)

    go : (k : ℕ) (place : Option ℕ) → k < c.loop-number.number + 1 → slice_get c.args.places.now k ≡ Some place → (k ≡ c.loop-number.number) ⊎ (k ≡ c.loop-number.number → ⊥) → place ≡ None
    go k place l e (inl same) = same_some (slice_get c.args.places.now k) place c.item_at.result e (ap (λ (k : ℕ). slice_get c.args.places.now k) same ∙ c.item_at.ensures) ∙ nothing c.item_at.result (sym c.is_some.ensures ∙ c.if-is_some.false)
    go k place l e (inr other) = c.loop-number.invariant k place (omega (arith, l, other)) e

pub returns : goal.returns
returns c = λ z k place e. c.loop-number.invariant k place (let l = slice_get_within c.args.places.now k place e in let k = c.loop-number-test.false in omega (arith, l, k)) e
