-- Where no port and no action of the program has two causes, nothing has.
use Rattle.std.proofs.Common.{◌≡◌, ℕ, ◌<◌, ◌≤◌, ◌⊎◌, inl, inr, List, [], ◌∷◌, length, sym, subst, arith, refl, Some, filter_map, true, false, IsTrue, ◌↔◌, ◌&&◌, ◌==◌, eqb-true}
use Rattle.std.proofs.{lemmas.Bool.false≢true, NetLemmas.Options.cond_some}
use Rattle.lft_tag.specs.{declared.Tag.Tag, Tags.same_tag}
use Rattle.lft_lists.proofs.Members.{Mem, get_mem, mem_cases, mem_from_filter}
use Rattle.lft_ir.proofs.Origins.{origin_within}
use Rattle.lft_ir.specs.Parts.{Parts}
use Rattle.lft_ir.specs.declared.parts.{Value.Value, Name.{Name, TheVariants.{Port, Action}}}
use Rattle.lft_ir.specs.declared.steps.{row.{Row.Row, Step.{Step, TheVariants.Schedule}}, externals.Event.Event}
use Rattle.lft_ir.specs.Steps.Fits.{ExternalsFit, StepFits}
use Rattle.lft_model.specs.{Fitting.EachFits, Plans.PlanParts, Presence.{scheduled, given, min_delay, events_of, PortClash, ClashesAt, Collision}}
use Rattle.lft_model.proofs.{Steps.{both_true, scheduled_some}, Ended.{Schedules, scheduled_by}}

-- a step of the program that schedules an action names one of the program's
step_within : (program : Parts) (s : Step) (a extra : ℕ) (v : Value) → StepFits program s → s ≡ Schedule (Action a) v extra → a < length program.actions
step_within program s a extra v fits e = let both : StepFits program (Schedule (Action a) v extra) = subst (λ z. StepFits program z) e fits in both.0

module _ (plan : PlanParts) (t : List Row) (g : Tag) (rows : EachFits plan.program t) (externals : ExternalsFit plan.program plan.externals) where
  -- an action that has an event is of the program
  event_within : (a : ℕ) (v : Value) → Mem v (events_of plan t g a) → a < length plan.program.actions
  event_within a v m = go (mem_cases v (filter_map (scheduled g a (min_delay plan.program a)) t) (filter_map (given g a) plan.externals.events) m)
    where
      by_row : (x : Row) → Mem x t → Schedules g a (min_delay plan.program a) x.tag x.step v → a < length plan.program.actions
      by_row x k s = let p = get_mem x t k in step_within plan.program x.step a s.extra v (rows p.0 x p.1).step (scheduled_some a x.step (s.extra, v) s.value_is)

      by_event : (x : Event) → Mem x plan.externals.events → given g a x ≡ Some v → a < length plan.program.actions
      by_event x k e =
          let p = get_mem x plan.externals.events k in
          let b = cond_some (same_tag g x.tag && (a == x.action)) x.value v e in
          let q : a ≡ x.action = eqb-true a x.action (both_true (same_tag g x.tag) (a == x.action) b.0).1 in
          subst (λ i. i < length plan.program.actions) (sym q) (externals.each p.0 x p.1).action

      go : Mem v (filter_map (scheduled g a (min_delay plan.program a)) t) ⊎ Mem v (filter_map (given g a) plan.externals.events) → a < length plan.program.actions
      go (inl n) = let f = mem_from_filter (scheduled g a (min_delay plan.program a)) t v n in by_row f.0 f.1 (scheduled_by g a (min_delay plan.program a) f.0 v f.2)
      go (inr n) = let f = mem_from_filter (given g a) plan.externals.events v n in by_event f.0 f.1 f.2

  -- so is one that has two
  events_within : (a : ℕ) → 2 ≤ length (events_of plan t g a) → a < length plan.program.actions
  events_within a l = go (events_of plan t g a) l (λ v m. event_within a v m)
    where
      go : (vs : List Value) → 2 ≤ length vs → ((v : Value) → Mem v vs → a < length plan.program.actions) → a < length plan.program.actions
      go [] k h = absurd (omega arith)
      go (v ∷ vs) k h = h v (inl refl)

-- where rows are those of the trace
module _ (plan : PlanParts) (s t : List Row) (same : s ≡ t) (g : Tag) where
  -- a port or action that has two causes makes a collision
  pub found_collision : (n : Name) → ClashesAt plan s g n → IsTrue true ↔ Collision plan t g
  found_collision n x = (λ _. subst (λ z. Collision plan z g) same (n, x), λ _. refl)

  -- there is none if no port and no action of the program has two
  pub no_collision_found : EachFits plan.program t → ExternalsFit plan.program plan.externals → ((p : ℕ) → p < length plan.program.ports → ¬ PortClash plan s g p) → ((a : ℕ) → a < length plan.program.actions → ¬ (2 ≤ length (events_of plan s g a))) → IsTrue false ↔ Collision plan t g
  no_collision_found rows externals ports actions = (λ e. absurd (false≢true e), λ c. let d : Collision plan s g = subst (λ z. Collision plan z g) (sym same) c in absurd (go d.0 d.1))
    where
      fit : EachFits plan.program s
      fit = subst (λ z. EachFits plan.program z) (sym same) rows

      go : (n : Name) → ClashesAt plan s g n → ⊥
      go (Port p) x = ports p (origin_within x.is_first.is_origin) x
      go (Action a) l = actions a (events_within plan s g fit externals a l) l
