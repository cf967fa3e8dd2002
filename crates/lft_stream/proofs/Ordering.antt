-- Runs that keep the order of precedence aren't too early.
use Rattle.std.proofs.Common.{◌≡◌, ℕ, ◌+◌, ◌<◌, inr, List, refl, sym, ap, ◌∙◌, arith, Some, None, slice_get}
use native.Mathlib.Decide.{ℕ_discrete, dec_lt}
use Rattle.lft_tag.specs.declared.Tag.{Tag}
use Rattle.lft_ir.specs.declared.steps.row.{Row.Row, Step.TheVariants.{Start, End}}
use Rattle.lft_model.specs.{Plans.PlanParts, Runs.{start_row, end_row, Ran}, Breaches.IsTooEarly}
use Rattle.lft_rows.specs.inner.Firsts.{FirstRow}
use Rattle.lft_stream.specs.inner.Ordered.{IsOrdered}

-- where each row keeps the rules 1 to 5, no run that keeps the order is too early
pub ordered_law : (plan : PlanParts) (last : Tag) (u : List Row) → FirstRow last plan u None → IsOrdered plan.program u → (g : Tag) (r : ℕ) → Ran u g r → ¬ IsTooEarly plan u g r
ordered_law plan last u kept ordered g r o x = kept (record { rule = 5; tag = g; reaction = Some x.earlier; row = x.earlier_ran.place + 2 }) (record { place = x.earlier_ran.place; row = start_row x.earlier_ran.worker g x.earlier; is_row = x.earlier_ran.starts; breaks = inr (inr (inr (inr (refl, (refl, unended))))); tag_is = refl; reaction_is = refl; row_is = refl })
  where
    unended : (k : ℕ) → x.earlier_ran.place < k → ¬ (slice_get u k ≡ Some (end_row x.earlier_ran.worker g x.earlier))
    unended k l e = go (dec_lt k o.place) (ℕ_discrete k o.place)
      where
        same : k ≡ o.place → ⊥
        same q =
            let z : Some (end_row x.earlier_ran.worker g x.earlier) ≡ Some (start_row o.worker g r) = sym e ∙ ap (λ i. slice_get u i) q ∙ o.starts in
            let w : end_row x.earlier_ran.worker g x.earlier ≡ start_row o.worker g r = cc in
            let y : End ≡ Start = ap (λ (row : Row). row.step) w in
            cc y

        go : Dec (k < o.place) → Dec (k ≡ o.place) → ⊥
        go (yes m) q = x.not_ended (record { ended_at = k; started_at = o.place; worker = x.earlier_ran.worker; other = o.worker; ends = e; starts = o.starts; before = m })
        go (no m) (yes q) = same q
        go (no m) (no n) = ordered o.place k o.worker x.earlier_ran.worker g g r x.earlier (omega arith) o.starts e x.precedes
