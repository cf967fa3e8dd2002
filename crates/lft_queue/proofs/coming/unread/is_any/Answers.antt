use Rattle.std.proofs.Common.{◌≡◌, ◌<◌, ◌+◌, ◌⊎◌, inl, inr, ℕ, false, Option, Some, None, refl, arith, sym, ap, ◌∙◌, slice_get}
use Rattle.std.{specs.Option.is_some, proofs.lemmas.Bool.cases_eq}
use Rattle.lft_lists.proofs.Places.{same_some}
use Rattle.lft_model.proofs.Places.{slice_get_within}
use Rattle.lft_tag.specs.declared.Shift.{Shift}
use Rattle.lft_queue.proofs.coming.unread.is_any.Goals as goal

pub loop-place-init : goal.loop-place-init
loop-place-init c = λ o time l e. absurd (omega (arith, l))

pub loop-place-preserved : goal.loop-place-preserved
loop-place-preserved c = λ o time l e. go o time l e (cases_eq o c.loop-place.place)
  where
    nothing : (x : Option Shift) → is_some x ≡ false → x ≡ None
    nothing None e = refl
    nothing (Some k) e = absurd (cc)

    go : (o : ℕ) (time : Option Shift) → o < c.loop-place.place + 1 → slice_get c.args.soonest.now o ≡ Some time → (o ≡ c.loop-place.place) ⊎ (o ≡ c.loop-place.place → ⊥) → time ≡ None
    go o time l e (inl same) = same_some (slice_get c.args.soonest.now o) time c.item_at.result e (ap (λ (k : ℕ). slice_get c.args.soonest.now k) same ∙ c.item_at.ensures) ∙ nothing c.item_at.result (sym c.is_some.ensures ∙ c.if-is_some.false)
    go o time l e (inr other) = c.loop-place.invariant o time (omega (arith, l, other)) e

pub returns : goal.returns
returns c = λ z o time e. c.loop-place.invariant o time (let l = slice_get_within c.args.soonest.now o time e in let k = c.loop-place-test.false in omega (arith, l, k)) e
