-- Facts of the right forms give the breaches of the rules 7 to 10.
use Rattle.std.proofs.Common.{◌≡◌, ℕ, ◌<◌, inl, inr, List, [], ◌∷◌, ◌++◌, length, refl, sym, ap, ◌∙◌, subst, arith, Option, Some, slice_get, Contains}
use native.Mathlib.Decide.{ℕ_discrete, dec_lt}
use Rattle.std.proofs.lemmas.List.Elements.{All-head, All-tail, All-cons, All-contains, All-weaker, All-nil}
use Rattle.lft_lists.proofs.Places.{get_there, same_at, at_contains}
use Rattle.lft_tag.specs.declared.Tag.{Tag}
use Rattle.lft_ir.specs.declared.{parts.{Trigger.Trigger, Reaction.Reaction}, steps.row.{Row.Row, Step.TheVariants.{Start, End}}}
use Rattle.lft_graph.specs.Precedence.{Precedes}
use Rattle.lft_model.specs.{declared.breach.Breach.Breach, Plans.PlanParts, Presence.{Triggered, Occurs}, Runs.{Ran, start_row, end_row}}
use Rattle.lft_model.specs.Breaches.{EndsBefore, IsTooEarly}
use Rattle.lft_model.proofs.{Places.slice_get_within, Legality.{four, ran_at, one_start, one_end, ended}}
use Rattle.lft_rows.specs.Answers.Answers.{KeepsRows}
use Rattle.lft_facts.specs.declared.facts.{Fact.Fact, Cause.Cause}
use Rattle.lft_facts.specs.Facts.{IsChosen, IsFact, IsShown, CauseHolds, AreFacts, AreShown, StartsBeforeEnd, HasTriggers, IsUntriggered}
use Rattle.lft_facts.specs.{inner.{Enough.{Gives, GivesTrigger, AreOwnAt}, Ways.{IsMarked, EndsMarked}}, Enough.{GivesChain, IsOwn, AreOwn}}
use Rattle.lft_facts.proofs.Lists.{all_right}
use Rattle.lft_races.specs.{Hints.Hints.HasTrigger, Runs.{StartsAt, EndsAt}}
use Rattle.lft_facts.specs.declared.facts.Fact.TheVariants as fact

-- a start row of r at g makes a run
pub ran_there : (t : List Row) (g : Tag) (r p : ℕ) → StartsAt t g r p → Ran t g r
ran_there t g r p s = record { place = p; worker = s.0; starts = s.1 }

-- what is so is shown
pub shown : (plan : PlanParts) (t : List Row) (f : Fact) → IsFact plan t f → IsShown plan t f
shown plan t (fact.StartsEarly g a r start end) h = h.rows
shown plan t (fact.Race g a r start end) h = h.race
shown plan t (fact.DeclaredFirst a b) h = h
shown plan t (fact.Feeds a b p) h = h
shown plan t (fact.NoRun g r) h = h.none
shown plan t (fact.Runs g r start) h = h
shown plan t (fact.HasTrigger r x) h = h
shown plan t (fact.TriggerCount r count) h = h
shown plan t (fact.Untriggered g r k x) h = h
shown plan t (fact.Cause c) h = h
shown plan t (fact.Clash g c d) h = h
shown plan t (fact.RowIs g r i) h = h
shown plan t (fact.Row f) h = h
shown plan t (fact.Reads g r k n read present) h = h
shown plan t (fact.Reason x) h = h

pub all_shown : (plan : PlanParts) (t : List Row) (facts : List Fact) → AreFacts plan t facts → AreShown plan t facts
all_shown plan t facts all = All-weaker (IsFact plan t) (IsShown plan t) (shown plan t) facts all

-- a run had not ended before a start that stands before its end
pub not_ended_there : (plan : PlanParts) (t : List Row) → KeepsRows plan t → (g : Tag) (a r start end : ℕ) → StartsAt t g r start → EndsAt t g a end → start < end → ¬ EndsBefore t g a r
not_ended_there plan t kept g a r start end starts ends l q =
    let e : q.ended_at ≡ end = one_end plan t (four plan t kept) q.ended_at end q.worker ends.0 g a q.ends ends.1 in
    let s : q.started_at ≡ start = one_start plan t (four plan t kept) q.started_at start q.other starts.0 g r q.starts starts.1 in
    let b : q.ended_at < q.started_at = q.before in
    absurd (omega arith)

-- rule 9: a start before an end, and a chain from the one to the other
pub late_gives : (g : Tag) (a r start end : ℕ) (steps facts : List Fact) → facts ≡ (fact.StartsEarly g a r start end ∷ []) ++ steps → GivesChain steps a r → Gives facts g (Some r) 9
late_gives g a r start end steps facts is chain plan t all kept = inr (inr (inl (refl, ran_there t g r start early.starts, early_run)))
  where
    each : AreShown plan t ((fact.StartsEarly g a r start end ∷ []) ++ steps)
    each = subst (λ (fs : List Fact). AreShown plan t fs) is all

    early : StartsBeforeEnd t g a r start end
    early = All-head (IsShown plan t) (fact.StartsEarly g a r start end) steps each

    early_run : IsTooEarly plan t g r
    early_run = record { earlier = a; precedes = chain plan t (all_right (IsShown plan t) (fact.StartsEarly g a r start end ∷ []) steps each); earlier_ran = ran_at plan t (four plan t kept) end (end_row early.ends.0 g a) g a early.ends.1 refl refl; not_ended = not_ended_there plan t kept g a r start end early.starts early.ends early.before }

-- a run that started too early did so before the end of a run from which a way leads to it
pub late_there : (plan : PlanParts) (t : List Row) → KeepsRows plan t → (g : Tag) (r start : ℕ) → StartsAt t g r start → IsTooEarly plan t g r → (next : List (Option ℕ)) → ((a : ℕ) → Precedes plan.program a r → IsMarked next a) → (i : ℕ) × (start < i) × EndsMarked t g next i
late_there plan t kept g r start starts early next marked = (e.0, after (dec_lt e.0 start) (ℕ_discrete e.0 start), (early.earlier, (early.earlier_ran.worker, e.2), marked early.earlier early.precedes))
  where
    e : (k : ℕ) × (early.earlier_ran.place < k) × (slice_get t k ≡ Some (end_row early.earlier_ran.worker g early.earlier))
    e = ended plan t kept early.earlier_ran.place early.earlier_ran.worker g early.earlier early.earlier_ran.starts

    after : Dec (e.0 < start) → Dec (e.0 ≡ start) → start < e.0
    after (yes l) d = absurd (early.not_ended (record { ended_at = e.0; started_at = start; worker = early.earlier_ran.worker; other = starts.0; ends = e.2; starts = starts.1; before = l }))
    after (no n) (yes q) = let z : Some (end_row early.earlier_ran.worker g early.earlier) ≡ Some (start_row starts.0 g r) = sym e.2 ∙ ap (slice_get t) q ∙ starts.1 in let y : end_row early.earlier_ran.worker g early.earlier ≡ start_row starts.0 g r = cc in let s : End ≡ Start = ap (λ (x : Row). x.step) y in absurd (cc)
    after (no n) (no m) = omega arith

-- the facts of rule 9 hold
pub late_holds : (plan : PlanParts) (t : List Row) → KeepsRows plan t → (g : Tag) (a r start end : ℕ) (steps facts : List Fact) → facts ≡ (fact.StartsEarly g a r start end ∷ []) ++ steps → StartsAt t g r start → EndsAt t g a end → start < end → IsChosen plan.program t g a r start → AreFacts plan t steps → GivesChain steps a r → AreFacts plan t facts
late_holds plan t kept g a r start end steps facts is starts ends l chosen each chain = subst (λ (fs : List Fact). AreFacts plan t fs) (sym is) (All-cons (IsFact plan t) (fact.StartsEarly g a r start end) steps (record { precedes = chain plan t (all_shown plan t steps each); not_ended = not_ended_there plan t kept g a r start end starts ends l; rows = record { starts = starts; ends = ends; before = l }; chosen = chosen }) each)

-- the facts of rule 9 are of the breach
pub late_own : (g : Tag) (a r start end : ℕ) (steps facts : List Fact) → facts ≡ (fact.StartsEarly g a r start end ∷ []) ++ steps → ((b : Breach) → AreOwn b steps) → AreOwnAt g (Some r) facts
late_own g a r start end steps facts is own b p q = subst (λ (fs : List Fact). AreOwn b fs) (sym is) (All-cons (IsOwn b) (fact.StartsEarly g a r start end) steps (p, q) (own b))

-- rule 7: no run, a trigger, and why it is present
pub not_run_gives : (g : Tag) (r : ℕ) (x : Trigger) (c : Cause) (facts : List Fact) → facts ≡ fact.NoRun g r ∷ fact.HasTrigger r x ∷ fact.Cause c ∷ [] → GivesTrigger c g x → Gives facts g (Some r) 7
not_run_gives g r x c facts is gives plan t all kept = inl (refl, record { reaction = has.reaction; trigger = x; is_reaction = has.is_reaction; is_trigger = has.is_trigger; occurs = gives plan t why }, none)
  where
    each : AreShown plan t (fact.NoRun g r ∷ fact.HasTrigger r x ∷ fact.Cause c ∷ [])
    each = subst (λ (fs : List Fact). AreShown plan t fs) is all

    none : ¬ Ran t g r
    none = All-head (IsShown plan t) (fact.NoRun g r) (fact.HasTrigger r x ∷ fact.Cause c ∷ []) each

    rest : AreShown plan t (fact.HasTrigger r x ∷ fact.Cause c ∷ [])
    rest = All-tail (IsShown plan t) (fact.NoRun g r) (fact.HasTrigger r x ∷ fact.Cause c ∷ []) each

    has : HasTrigger plan.program r x
    has = All-head (IsShown plan t) (fact.HasTrigger r x) (fact.Cause c ∷ []) rest

    why : CauseHolds plan t c
    why = All-head (IsShown plan t) (fact.Cause c) [] (All-tail (IsShown plan t) (fact.HasTrigger r x) (fact.Cause c ∷ []) rest)

pub not_run_own : (g : Tag) (r : ℕ) (x : Trigger) (c : Cause) (facts : List Fact) → facts ≡ fact.NoRun g r ∷ fact.HasTrigger r x ∷ fact.Cause c ∷ [] → AreOwnAt g (Some r) facts
not_run_own g r x c facts is b p q = subst (λ (fs : List Fact). AreOwn b fs) (sym is) (All-cons (IsOwn b) (fact.NoRun g r) (fact.HasTrigger r x ∷ fact.Cause c ∷ []) (p, q) (All-cons (IsOwn b) (fact.HasTrigger r x) (fact.Cause c ∷ []) q (All-cons (IsOwn b) (fact.Cause c) [] tt (All-nil (IsOwn b)))))

-- the facts of rule 7 hold
pub not_run_holds : (plan : PlanParts) (t : List Row) (g : Tag) (r : ℕ) (x : Trigger) (c : Cause) (facts : List Fact) → facts ≡ fact.NoRun g r ∷ fact.HasTrigger r x ∷ fact.Cause c ∷ [] → Triggered plan t g r → ¬ Ran t g r → HasTrigger plan.program r x → CauseHolds plan t c → AreFacts plan t facts
not_run_holds plan t g r x c facts is triggered none of why = subst (λ (fs : List Fact). AreFacts plan t fs) (sym is) (All-cons (IsFact plan t) (fact.NoRun g r) (fact.HasTrigger r x ∷ fact.Cause c ∷ []) (record { triggered = triggered; none = none }) (All-cons (IsFact plan t) (fact.HasTrigger r x) (fact.Cause c ∷ []) of (All-cons (IsFact plan t) (fact.Cause c) [] why (All-nil (IsFact plan t)))))

-- a reaction of this number is one
pub same_reaction : (xs : List Reaction) (r : ℕ) (x y : Reaction) → slice_get xs r ≡ Some x → slice_get xs r ≡ Some y → x ≡ y
same_reaction xs r x y e f = same_at xs r r x y e f refl

-- rule 8: a run, how many triggers there are, and that each of them is absent
pub not_triggered_gives : (g : Tag) (r start : ℕ) (xs : List Trigger) (facts : List Fact) → Contains facts (fact.Runs g r start) → Contains facts (fact.TriggerCount r (length xs)) → ((k : ℕ) (x : Trigger) → slice_get xs k ≡ Some x → Contains facts (fact.Untriggered g r k x)) → Gives facts g (Some r) 8
not_triggered_gives g r start xs facts runs counts each plan t all kept = inr (inl (refl, ran_there t g r start (All-contains (IsShown plan t) facts (fact.Runs g r start) all runs), none))
  where
    has : HasTriggers plan.program r (length xs)
    has = All-contains (IsShown plan t) facts (fact.TriggerCount r (length xs)) all counts

    none : ¬ Triggered plan t g r
    none o =
        let i = at_contains o.reaction.triggers o.trigger o.is_trigger in
        let same : has.reaction ≡ o.reaction = same_reaction plan.program.reactions r has.reaction o.reaction has.is_reaction o.is_reaction in
        let l : i.0 < length o.reaction.triggers = slice_get_within o.reaction.triggers i.0 o.trigger i.1 in
        let m : length o.reaction.triggers ≡ length xs = ap (λ (x : Reaction). length x.triggers) (sym same) ∙ has.as_many in
        let x = get_there xs i.0 (omega arith) in
        let f : IsUntriggered plan t g r i.0 x.0 = All-contains (IsShown plan t) facts (fact.Untriggered g r i.0 x.0) all (each i.0 x.0 x.1) in
        let is : f.reaction ≡ o.reaction = same_reaction plan.program.reactions r f.reaction o.reaction f.is_reaction o.is_reaction in
        let z : Some x.0 ≡ Some o.trigger = sym f.is_trigger ∙ ap (λ (y : Reaction). slice_get y.triggers i.0) is ∙ i.1 in
        let q : x.0 ≡ o.trigger = cc in
        f.absent (subst (λ (y : Trigger). Occurs plan t g y) (sym q) o.occurs)
