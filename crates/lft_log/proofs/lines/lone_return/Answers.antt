use Rattle.std.proofs.Common.{◌≡◌, ◌+◌, ◌<◌, ℕ, Some, length, slice_get, refl, sym, subst, arith}
use native.Mathlib.Decide.{dec_lt}
use Rattle.lft_log.proofs.Ends.{no_byte}
use Rattle.lft_log.proofs.lines.lone_return.Goals as goal

pub loop-place-init : goal.loop-place-init
loop-place-init c = λ i l e. absurd (no_byte c.args.lines.now 13 0 c.in-Some.first c.in-Some.ensures.0.before i (omega arith) l e)

pub loop-place-preserved : goal.loop-place-preserved
loop-place-preserved c = λ i l e. go i l e (dec_lt i c.loop-place.place)
  where
    go : (i : ℕ) → i < c.loop-place.place + 1 → slice_get c.args.lines.now i ≡ Some 13 → Dec (i < c.loop-place.place) → slice_get c.args.lines.now (i + 1) ≡ Some 10
    go i l e (yes m) = c.loop-place.invariant i m e
    go i l e (no m) =
        let place : i ≡ c.loop-place.place = omega (arith, l, m) in
        subst (λ (k : ℕ). slice_get c.args.lines.now (k + 1) ≡ Some 10) (sym place) (c.if-is_lone.ensures.not refl (subst (λ (k : ℕ). slice_get c.args.lines.now k ≡ Some 13) place e))

pub returns-clause-returns : goal.returns-clause-returns
returns-clause-returns c = λ i l e. let up = c.in-Some.ensures.0.high in let end : c.loop-place.place ≡ length c.args.lines.now = omega (arith, up) in c.loop-place.invariant i (subst (λ (k : ℕ). i < k) (sym end) l) e

pub returns-then-is_lone-clause-returns : goal.returns-then-is_lone-clause-returns
returns-then-is_lone-clause-returns c = c.loop-place.invariant
