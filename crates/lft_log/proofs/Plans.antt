-- The plan of a log, with one more external input.
use Rattle.std.proofs.Common.{◌≡◌, ◌∙◌, List, [], ◌∷◌, ◌++◌, filter_map, refl, sym, ap, subst}
use Rattle.std.specs.List.{insert, Sorted.IsPermutation}
use Rattle.std.proofs.lemmas.List.{append_assoc, append-nil, Elements.filter_map-append}
use Rattle.std.proofs.lemmas.List.Sorted.{IsPermutation-insert, IsPermutation-refl, IsPermutation-push_more}
use Rattle.lft_tag.specs.{declared.Tag.Tag, Tags.{earlier, earliest}}
use Rattle.lft_ir.specs.{declared.steps.externals.Event.Event as EventOf, Steps.Inputs.InOrder}
use Rattle.lft_model.specs.Plans.{PlanParts}
use Rattle.lft_monitor.{specs.inner.Follows.{HasOneMoreEvent, stopped_at}, proofs.Sooner.swapped}
use Rattle.lft_log.specs.Told.{HasTold}
use Rattle.lft_trace.specs.{ExternalTables.{event_of, stop_of}, declared.external_table.Entry.{Entry, TheVariants.{Happens, Stops}}}

-- the earliest with one tag more
earliest_push : (g : Tag) (hs : List Tag) (k : Tag) → earlier k (earliest g hs) ≡ earliest g (hs ++ k ∷ [])
earliest_push g [] k = refl
earliest_push g (h ∷ hs) k = swapped k h (earliest g hs) ∙ ap (λ (j : Tag). earlier h j) (earliest_push g hs k)

-- nothing is told yet
pub told_none : (base : PlanParts) → InOrder base.externals.events → HasTold base [] base
told_none base order = record {
  program = refl;
  events = subst (λ xs. IsPermutation xs base.externals.events) (sym (append-nil base.externals.events)) (IsPermutation-refl base.externals.events);
  order = order;
  stop = refl;
}

-- an event is put at its place
pub told_event : (base : PlanParts) (before : List Entry) (old new : PlanParts) (e : EventOf) → HasOneMoreEvent old new e → InOrder new.externals.events → HasTold base before old → HasTold base (before ++ Happens e ∷ []) new
told_event base before old new e more order told = record {
  program = more.program ∙ told.program;
  events = subst (λ xs. IsPermutation xs new.externals.events) whole (subst (λ zs. IsPermutation ((first ++ mine) ++ e ∷ []) zs) (sym more.events) (IsPermutation-push_more (first ++ mine) old.externals.events (insert old.externals.events more.place e) e told.events (IsPermutation-insert old.externals.events more.place e)));
  order = order;
  stop = more.stop ∙ told.stop ∙ ap (λ (gs : List Tag). earliest base.externals.stop gs) (sym (filter_map-append stop_of before (Happens e ∷ []) ∙ append-nil (filter_map stop_of before)));
}
  where
    first : List EventOf
    first = base.externals.events

    mine : List EventOf
    mine = filter_map event_of before

    whole : (first ++ mine) ++ e ∷ [] ≡ first ++ filter_map event_of (before ++ Happens e ∷ [])
    whole = append_assoc first mine (e ∷ []) ∙ ap (λ (es : List EventOf). first ++ es) (sym (filter_map-append event_of before (Happens e ∷ [])))

-- the stop is lowered
pub told_stop : (base : PlanParts) (before : List Entry) (old new : PlanParts) (g : Tag) → new ≡ stopped_at old g → HasTold base before old → HasTold base (before ++ Stops g ∷ []) new
told_stop base before old new g is told = subst (λ (plan : PlanParts). HasTold base (before ++ Stops g ∷ []) plan) (sym is) (record {
  program = told.program;
  events = subst (λ es. IsPermutation (base.externals.events ++ es) old.externals.events) (sym (filter_map-append event_of before (Stops g ∷ []) ∙ append-nil (filter_map event_of before))) told.events;
  order = told.order;
  stop = ap (λ (h : Tag). earlier g h) told.stop ∙ earliest_push base.externals.stop (filter_map stop_of before) g ∙ ap (λ (gs : List Tag). earliest base.externals.stop gs) (sym (filter_map-append stop_of before (Stops g ∷ [])));
})
