use Rattle.std.proofs.Common.{◌≡◌, Bool, false, true, ℕ, ◌<◌, List, Some, slice_get, sym, subst, ◌∙◌, arith}
use native.Mathlib.Decide.{ℕ_discrete}
use Rattle.std.proofs.lemmas.Bool.{false≢true}
use Rattle.lft_lists.proofs.Places.{same_some}
use Rattle.lft_ir.specs.declared.steps.row.Row.{Row}
use Rattle.lft_races.specs.{Runs.StartsAt, Hints.Hints.IsSecond}
use Rattle.lft_races.proofs.hints.rows.is_second.Goals as goal

pub loop-earlier-preserved : goal.loop-earlier-preserved
loop-earlier-preserved c j l s = go (ℕ_discrete j c.loop-earlier.earlier)
  where
    go : Dec (j ≡ c.loop-earlier.earlier) → ⊥
    go (no n) = c.loop-earlier.invariant j (omega arith) s
    go (yes q) = let z : ◌≡◌ {A = Bool} false true = sym c.if-is_start_at.false ∙ c.is_start_at.ensures.1 (subst (λ (n : ℕ). StartsAt c.args.rows.now c.row_at-row.result.tag c.row_at-row.result.reaction n) q s) in absurd (cc)

-- where none before the row starts its run, it is no second one
none_second : (t : List Row) (i : ℕ) (row : Row) → slice_get t i ≡ Some row → ((j : ℕ) → j < i → ¬ StartsAt t row.tag row.reaction j) → ¬ IsSecond t i
none_second t i row is before x = before x.0 x.1.before (subst (λ (y : Row). StartsAt t y.tag y.reaction x.0) (same_some (slice_get t i) x.1.row row x.1.is_row is) x.1.first)

pub returns : goal.returns
returns c = (λ e. absurd (false≢true e), λ x. absurd (none_second c.args.rows.now c.args.place c.row_at-row.result c.row_at-row.ensures (λ j l. c.loop-earlier.invariant j (let n = c.loop-earlier-test.false in omega arith)) x))
