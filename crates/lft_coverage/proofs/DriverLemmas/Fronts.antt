-- A text that is read batch by batch while its rows are judged and counted.
use Rattle.std.proofs.Common.{◌≡◌, ◌∙◌, ℕ, List, [], ◌++◌, take, ap, sym, subst}
use Rattle.std.proofs.lemmas.List.{append_assoc}
use Rattle.lft_ir.specs.{Sound.IsSound, declared.steps.row.Row.Row}
use Rattle.lft_trace.{specs.{Traces.IsRow, inner.{Telling.rows_in, Parts.BeginsWith}}, proofs.FirstTold.tells}
use Rattle.lft_tables.proofs.Beginning.{begins_more, begins_none}
use Rattle.lft_model.specs.Plans.{PlanParts}
use Rattle.lft_coverage.specs.{inner.Driver.Fronts.{IsNextBehind, judged_rows}, declared.driver.front.Front.Front}

module _ (plan : PlanParts) (body : List ℕ) (front : Front) (waiting : List Row) where
  -- before anything is judged, all rows are next
  pub nothing_read : front.cover.rows ≡ 0 → waiting ≡ [] → IsNextBehind plan body front waiting × BeginsWith plan.program body (judged_rows plan body front ++ waiting) body
  nothing_read none empty =
      let no_rows : judged_rows plan body front ++ waiting ≡ [] = ap (λ n. take n (rows_in plan.program body) ++ waiting) none ∙ empty in
      ((rows_in plan.program body, ap (λ (t : List Row). t ++ rows_in plan.program body) (sym no_rows)), subst (λ (t : List Row). BeginsWith plan.program body t body) (sym no_rows) (begins_none (IsRow plan.program) body))

  module _ (rest behind : List ℕ) (batch : List Row) (begins : BeginsWith plan.program body (judged_rows plan body front ++ waiting) rest) (more : BeginsWith plan.program rest batch behind) where
    -- a batch that is read comes next behind the rows that wait
    pub read_on : BeginsWith plan.program body (judged_rows plan body front ++ (waiting ++ batch)) behind
    read_on = subst (λ (t : List Row). BeginsWith plan.program body t behind) (append_assoc (judged_rows plan body front) waiting batch) (begins_more (IsRow plan.program) body rest behind (judged_rows plan body front ++ waiting) batch begins more)

    pub batch_next : IsSound plan.program → IsNextBehind plan body front (waiting ++ batch)
    batch_next sound = (rows_in plan.program behind, tells plan.program body behind (judged_rows plan body front ++ (waiting ++ batch)) sound read_on)

    -- once it is gone past, what was read is what is judged and what waits
    pub gone_on : (new : Front) (left : List Row) → IsSound plan.program → judged_rows plan body new ++ left ≡ judged_rows plan body front ++ (waiting ++ batch) → IsNextBehind plan body new left × BeginsWith plan.program body (judged_rows plan body new ++ left) behind
    gone_on new left sound same = subst (λ (t : List Row). ((rows : List Row) × (rows_in plan.program body ≡ t ++ rows)) × BeginsWith plan.program body t behind) (sym same) (batch_next sound, read_on)

-- behind rows that are judged the first part comes next, then the second, and the third is left
module _ (j w b first next left : List Row) (is : (first ++ next) ++ left ≡ w ++ b) where
  pub first_next : (r more : List Row) → r ≡ (j ++ (w ++ b)) ++ more → r ≡ (j ++ first) ++ ((next ++ left) ++ more)
  first_next r more next_is = next_is ∙ ap (λ (x : List Row). (j ++ x) ++ more) (sym is) ∙ regroup
    where
      regroup : (j ++ ((first ++ next) ++ left)) ++ more ≡ (j ++ first) ++ ((next ++ left) ++ more)
      regroup = simp append_assoc

  pub second_next : (r more k : List Row) → k ≡ j ++ first → r ≡ (j ++ (w ++ b)) ++ more → r ≡ (k ++ next) ++ (left ++ more)
  second_next r more k one next_is = next_is ∙ ap (λ (x : List Row). (j ++ x) ++ more) (sym is) ∙ regroup ∙ ap (λ (x : List Row). (x ++ next) ++ (left ++ more)) (sym one)
    where
      regroup : (j ++ ((first ++ next) ++ left)) ++ more ≡ ((j ++ first) ++ next) ++ (left ++ more)
      regroup = simp append_assoc

  pub third_left : (k l : List Row) → k ≡ j ++ first → l ≡ k ++ next → l ++ left ≡ j ++ (w ++ b)
  third_left k l one two = ap (λ (x : List Row). x ++ left) (two ∙ ap (λ (x : List Row). x ++ next) one) ∙ regroup ∙ ap (λ (x : List Row). j ++ x) is
    where
      regroup : ((j ++ first) ++ next) ++ left ≡ j ++ ((first ++ next) ++ left)
      regroup = simp append_assoc
