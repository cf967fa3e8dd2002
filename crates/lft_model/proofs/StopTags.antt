-- The stop of a trace, from what was asked for by the rows so far.
use Rattle.std.proofs.Common.{◌≡◌, ℕ, ◌+◌, ◌<◌, ◌⊎◌, inl, inr, List, length, sym, ◌∙◌, subst, arith, Some, slice_get}
use Rattle.lft_tag.{specs.{declared.Tag.Tag, Tags.{UpTo, after}}, proofs.Order.UpTo_antisym}
use Rattle.lft_lists.proofs.Members.{Mem, mem_get, get_mem}
use Rattle.lft_ir.specs.declared.steps.row.{Row.Row, Step.TheVariants.Stop}
use Rattle.lft_model.specs.{Plans.PlanParts, Presence.{stop, requests}}
use Rattle.lft_model.proofs.{Places.slice_get_within, Stops.{ask, asker, stop_external, stop_asked, stop_cases}}

-- the stop row at a place asks for the tag
pub record AsksFor (t : List Row) (j : ℕ) (row : Row) : Type 0 where
  pub is_row : slice_get t j ≡ Some row
  pub is_stop : row.step ≡ Stop

-- the tag is the least of the external stop and of what the stop rows before place i ask for
pub record IsStopBefore (plan : PlanParts) (t : List Row) (i : ℕ) (last : Tag) : Type 0 where
  pub external : UpTo last plan.externals.stop
  pub asked : (j : ℕ) (row : Row) → j < i → AsksFor t j row → UpTo last (after row.tag 0)
  pub is_one : (last ≡ plan.externals.stop) ⊎ ((j : ℕ) × (row : Row) × AsksFor t j row × (last ≡ after row.tag 0))

-- after all rows it is the stop
pub stop_is : (plan : PlanParts) (t : List Row) (i : ℕ) (last : Tag) → i ≡ length t → IsStopBefore plan t i last → last ≡ stop plan t
stop_is plan t i last e h = UpTo_antisym last (stop plan t) (below (stop_cases plan t)) (above h.is_one)
  where
    below : (stop plan t ≡ plan.externals.stop) ⊎ Mem (stop plan t) (requests t) → UpTo last (stop plan t)
    below (inl q) = subst (λ z. UpTo last z) (sym q) h.external
    below (inr m) =
        let a = asker t (stop plan t) m in
        let p = get_mem a.0 t a.1 in
        let l : p.0 < length t = slice_get_within t p.0 a.0 p.1 in
        let k : p.0 < i = omega arith in
        subst (λ z. UpTo last z) a.3 (h.asked p.0 a.0 k (record { is_row = p.1; is_stop = a.2 }))

    above : (last ≡ plan.externals.stop) ⊎ ((j : ℕ) × (row : Row) × AsksFor t j row × (last ≡ after row.tag 0)) → UpTo (stop plan t) last
    above (inl q) = subst (λ z. UpTo (stop plan t) z) (sym q) (stop_external plan t)
    above (inr q) = subst (λ z. UpTo (stop plan t) z) (sym q.3) (stop_asked plan t (after q.1.tag 0) (ask t q.1 (mem_get t q.0 q.1 q.2.is_row) q.2.is_stop))
