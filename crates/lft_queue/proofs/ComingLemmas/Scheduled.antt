-- The events that rows schedule.
use Rattle.std.proofs.Common.{◌≡◌, ℕ, ◌+◌, List, [], ◌∷◌, ◌++◌, take, refl, sym, ap, ◌∙◌, subst, add-one, Option, Some, None, false, slice_get, filter_map, option_map}
use Rattle.std.proofs.lemmas.List.Elements.{filter_map-append}
use Rattle.lft_tag.{specs.{declared.Tag.Tag, Tags.{UpTo, same_tag, after}}, proofs.Order.{after_past, UpTo-Before}}
use Rattle.lft_lists.proofs.{Members.{mem_get, get_mem, mem_from_filter, none_nil}, Picked.take_next}
use Rattle.lft_queue.{proofs.Tests.tag_apart, specs.{inner.Coming.{Coming.scheduled_by, Lanes.{held, at_tag, coming, made}}, Coming.AtTag.AreAt}}
use Rattle.lft_ir.specs.declared.{parts.{Value.Value, Name.{Name, TheVariants.{Port, Action}}}, steps.row.Row.Row}
use Rattle.lft_model.specs.{Plans.PlanParts, Presence.{value_scheduled, min_delay}}

-- what one more row schedules stands behind
pub held_more : (plan : PlanParts) (rows : List Row) (i : ℕ) (x : Row) (n : Name) (h : Tag) → slice_get rows i ≡ Some x → held (scheduled_by plan (take i rows) n) h ++ held (scheduled_by plan (x ∷ []) n) h ≡ held (scheduled_by plan (take (i + 1) rows) n) h
held_more plan rows i x (Port p) h e = refl
held_more plan rows i x (Action a) h e =
    let f = coming a (min_delay plan.program a) in
    sym (filter_map-append (at_tag h) (filter_map f (take i rows)) (filter_map f (x ∷ []))) ∙ ap (λ (es : List (Tag × Value)). held es h) (sym (filter_map-append f (take i rows) (x ∷ []))) ∙ ap (λ (t : List Row). held (filter_map f t) h) (sym (ap (λ (k : ℕ). take k rows) (add-one i) ∙ take_next rows i x e))

-- what rows at g schedule is later
pub none_at : (plan : PlanParts) (u : List Row) (g h : Tag) (n : Name) → AreAt u g → UpTo h g → held (scheduled_by plan u n) h ≡ []
none_at plan u g h (Port p) at up = refl
none_at plan u g h (Action a) at up = none_nil (at_tag h) (made plan u a) (λ j y e. none j y e)
  where
    later : (x : Row) (y : Tag × Value) (o : Option (ℕ × Value)) → x.tag ≡ g → option_map (λ (z : ℕ × Value). (after x.tag (min_delay plan.program a + z.0), z.1)) o ≡ Some y → at_tag h y ≡ None
    later x y None t e = absurd (cc)
    later x y (Some z) t e =
        let w : (after x.tag (min_delay plan.program a + z.0), z.1) ≡ y = cc in
        let q : same_tag h (after x.tag (min_delay plan.program a + z.0)) ≡ false = tag_apart h (after x.tag (min_delay plan.program a + z.0)) (UpTo-Before h x.tag (after x.tag (min_delay plan.program a + z.0)) (subst (λ (k : Tag). UpTo h k) (sym t) up) (after_past x.tag (min_delay plan.program a + z.0))) in
        subst (λ (p : Tag × Value). at_tag h p ≡ None) w (rw q refl)

    none : (j : ℕ) (y : Tag × Value) → slice_get (made plan u a) j ≡ Some y → at_tag h y ≡ None
    none j y e =
        let m = mem_from_filter (coming a (min_delay plan.program a)) u y (mem_get (made plan u a) j y e) in
        let i = get_mem m.0 u m.1 in
        later m.0 y (value_scheduled a m.0.step) (at i.0 m.0 i.1) m.2
