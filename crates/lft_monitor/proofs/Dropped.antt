-- Rows before a tag that cause nothing from there on may be dropped.
use Rattle.std.proofs.Common.{◌≡◌, ◌↔◌, ℕ, ◌≤◌, ◌⊎◌, inl, inr, true, false, refl, List, [], ◌∷◌, ◌++◌, length, sym, ap, ◌∙◌, subst, Option, Some, None, filter_map, Contains}
use Rattle.std.{specs.List.{last_or, AllZip}, proofs.lemmas.{Bool.false≢true, List.Elements.filter_map-append}}
use Rattle.lft_tag.{specs.{declared.Tag.Tag, Tags.{Before, UpTo, after_all}}, proofs.Order.Before-UpTo}
use Rattle.lft_lists.proofs.Members.{Mem, get_mem, contains_mem, mem_left, mem_filter}
use Rattle.lft_ir.specs.{Naming.named, Origins.Origin, Parts.inputs}
use Rattle.lft_ir.specs.declared.parts.{Value.Value, Name.{Name, TheVariants.{Port, Action}}, Trigger.{Trigger, TheVariants.{Startup, Shutdown, Timer, On}}}
use Rattle.lft_ir.specs.declared.steps.row.Row.{Row}
use Rattle.lft_queue.{specs.{inner.{Reading.is_read, Coming.AtOnce.IsAwaited}, Coming.AtTag.AreBefore}, proofs.ComingLemmas.AtOnce.input_awaited}
use Rattle.lft_model.specs.{declared.breach.Breach.Breach, Breaches.TagBreachUntil, Plans.PlanParts}
use Rattle.lft_model.specs.Presence.{written, scheduled, given, min_delay, events_of, IsWrittenFrom, At, Shows, Inputs, OccursUntil, TriggeredUntil, PortClash, ClashesAt, Collision}
use Rattle.lft_model.specs.Runs.{reads_at}
use Rattle.lft_monitor.specs.{Sure.{CauseSame, DroppedLaw}, inner.Kept.{GoesUnheard, CauseAlike}}
use Rattle.lft_monitor.proofs.{Keeping.{AreLate, own_clash}, Same.{SameAt, same_breach}}
use Rattle.lft_stream.proofs.Before.{ran_second, ran_whole, too_early_second, too_early_whole, reads_second}

-- two lists of rows, with the same rows behind them, cause the same at a tag; but where no reaction reads that matters only if two writes meet there
record CausesAt (plan : PlanParts) (d e u : List Row) (g : Tag) : Type 0 where
  scheduled_same : (a : ℕ) → filter_map (scheduled g a (min_delay plan.program a)) d ≡ filter_map (scheduled g a (min_delay plan.program a)) e
  written_same : (h : Tag) (p o : ℕ) (delays : List ℕ) → Origin plan.program p o delays → after_all h delays ≡ g → (filter_map (written h o) d ≡ filter_map (written h o) e) ⊎ (is_read plan.program p ≡ false) × ¬ PortClash plan (d ++ u) g p

module _ (plan : PlanParts) (d e u : List Row) (g : Tag) (same : CausesAt plan d e u g) where
  over : {Y : Type 0} (f : Row → Option Y) → filter_map f d ≡ filter_map f e → filter_map f (d ++ u) ≡ filter_map f (e ++ u)
  over f q = filter_map-append f d u ∙ ap (λ ys. ys ++ filter_map f u) q ∙ sym (filter_map-append f e u)

  abbrev AreSame : Tag → ℕ → Type 0
  AreSame h o = filter_map (written h o) d ≡ filter_map (written h o) e

  written_same_over : (p : ℕ) (h : Tag) (v : Value) (o : IsWrittenFrom plan (d ++ u) g p h v) → AreSame h o.origin → IsWrittenFrom plan (e ++ u) g p h v
  written_same_over p h v o q = record { origin = o.origin; delays = o.delays; is_origin = o.is_origin; arrives = o.arrives; is_last = ap (λ (vs : List Value). last_or None vs) (sym (over (written h o.origin) q)) ∙ o.is_last }

  written_over : (p : ℕ) (h : Tag) (v : Value) → is_read plan.program p ≡ true → IsWrittenFrom plan (d ++ u) g p h v → IsWrittenFrom plan (e ++ u) g p h v
  written_over p h v read o = go (same.written_same h p o.origin o.delays o.is_origin o.arrives)
    where
      go : AreSame h o.origin ⊎ (is_read plan.program p ≡ false) × ¬ PortClash plan (d ++ u) g p → IsWrittenFrom plan (e ++ u) g p h v
      go (inl q) = written_same_over p h v o q
      go (inr m) = absurd (false≢true (sym m.0 ∙ read))

  events_over : (a : ℕ) → events_of plan (d ++ u) g a ≡ events_of plan (e ++ u) g a
  events_over a = ap (λ (vs : List Value). vs ++ filter_map (given g a) plan.externals.events) (over (scheduled g a (min_delay plan.program a)) (same.scheduled_same a))

  at_over : (n : Name) (v : Value) → IsAwaited plan.program n → At plan (d ++ u) g n v → At plan (e ++ u) g n v
  at_over (Port p) v read o = (o.0, written_over p o.0 v read o.1)
  at_over (Action a) v read c = subst (λ (vs : List Value). Contains vs v) (events_over a) c

  triggered_over : (last : Tag) (r : ℕ) → TriggeredUntil last plan (d ++ u) g r → TriggeredUntil last plan (e ++ u) g r
  triggered_over last r o = record { reaction = o.reaction; trigger = o.trigger; is_reaction = o.is_reaction; is_trigger = o.is_trigger; occurs = go o.trigger o.is_trigger o.occurs }
    where
      awaited : (n : Name) → Contains o.reaction.triggers (On n) → IsAwaited plan.program n
      awaited n c = input_awaited plan.program r o.reaction o.is_reaction n (mem_left n (filter_map named o.reaction.triggers) o.reaction.uses (mem_filter named (On n) n o.reaction.triggers (contains_mem (On n) o.reaction.triggers c) refl))

      go : (x : Trigger) → Contains o.reaction.triggers x → OccursUntil last plan (d ++ u) g x → OccursUntil last plan (e ++ u) g x
      go Startup c q = q
      go Shutdown c q = q
      go (Timer n) c q = q
      go (On n) c q = (q.0, at_over n q.0 (awaited n c) q.1)

  clash_over : (n : Name) → ClashesAt plan (d ++ u) g n → ClashesAt plan (e ++ u) g n
  clash_over (Port p) k = go (same.written_same k.first p k.is_first.origin k.is_first.delays k.is_first.is_origin k.is_first.arrives) (same.written_same k.second p k.is_second.origin k.is_second.delays k.is_second.is_origin k.is_second.arrives)
    where
      go : AreSame k.first k.is_first.origin ⊎ (is_read plan.program p ≡ false) × ¬ PortClash plan (d ++ u) g p → AreSame k.second k.is_second.origin ⊎ (is_read plan.program p ≡ false) × ¬ PortClash plan (d ++ u) g p → PortClash plan (e ++ u) g p
      go (inl q) (inl w) = record { first = k.first; second = k.second; first_value = k.first_value; second_value = k.second_value; is_first = written_same_over p k.first k.first_value k.is_first q; is_second = written_same_over p k.second k.second_value k.is_second w; differ = k.differ }
      go (inr m) w = absurd (m.1 k)
      go (inl q) (inr m) = absurd (m.1 k)
  clash_over (Action a) k = subst (λ (vs : List Value). 2 ≤ length vs) (events_over a) k

  collision_over : Collision plan (d ++ u) g → Collision plan (e ++ u) g
  collision_over c = (c.0, clash_over c.0 c.1)

module _ (plan : PlanParts) (d e u : List Row) (low g : Tag) (under_d : AreBefore d low) (under_e : AreBefore e low) (same : CausesAt plan d e u g) (back : CausesAt plan e d u g) (up : UpTo low g) where
  before_d : (x : Row) → Mem x d → Before x.tag g
  before_d x m = let p = get_mem x d m in Before-UpTo x.tag low g (under_d p.0 x p.1) up

  before_e : (x : Row) → Mem x e → Before x.tag g
  before_e x m = let p = get_mem x e m in Before-UpTo x.tag low g (under_e p.0 x p.1) up

  shows_over : (n : Name) (o : Option Value) → IsAwaited plan.program n → Shows plan (e ++ u) g n o → Shows plan (d ++ u) g n o
  shows_over n None waited s = λ p. s (p.0, at_over plan d e u g same n p.0 waited p.1)
  shows_over n (Some v) waited s = at_over plan e d u g back n v waited s

  all_over : (ns : List Name) (os : List (Option Value)) → ((n : Name) → Mem n ns → IsAwaited plan.program n) → AllZip (Shows plan (e ++ u) g) ns os → AllZip (Shows plan (d ++ u) g) ns os
  all_over [] [] waited z = z
  all_over [] (o ∷ os) waited z = z
  all_over (n ∷ ns) [] waited z = z
  all_over (n ∷ ns) (o ∷ os) waited z = (shows_over n o (waited n (inl refl)) z.0, all_over ns os (λ m k. waited m (inr k)) z.1)

  reads_same : (r : ℕ) → reads_at plan (e ++ u) g r ≡ reads_at plan (d ++ u) g r
  reads_same r = reads_second plan e u g before_e r ∙ sym (reads_second plan d u g before_d r)

  reads_over : (r : ℕ) → Inputs plan (e ++ u) g r (reads_at plan (e ++ u) g r) → Inputs plan (d ++ u) g r (reads_at plan (d ++ u) g r)
  reads_over r o = subst (λ (shown : List (Option Value)). Inputs plan (d ++ u) g r shown) (reads_same r) (record { reaction = o.reaction; is_reaction = o.is_reaction; each = all_over (inputs o.reaction) (reads_at plan (e ++ u) g r) (input_awaited plan.program r o.reaction o.is_reaction) o.each })

  same_over : (last : Tag) → SameAt plan plan last last (d ++ u) (e ++ u) g
  same_over last = record {
    in_time = λ l. l;
    triggered = triggered_over plan d e u g same last;
    triggered_back = triggered_over plan e d u g back last;
    ran = λ r o. ran_whole plan e u g before_e r (ran_second plan d u g before_d r o);
    ran_back = λ r o. ran_whole plan d u g before_d r (ran_second plan e u g before_e r o);
    early = λ r o. too_early_whole plan e u g before_e r (too_early_second plan d u g before_d r o);
    reads_back = reads_over;
    collision = collision_over plan d e u g same;
  }

-- what causes the same from low on does so at a tag from there on
same_at : (plan : PlanParts) (d e u : List Row) (low g : Tag) → UpTo low g → CauseSame plan d e low → CausesAt plan d e u g
same_at plan d e u low g up same = record { scheduled_same = λ a. same.scheduled_same g a up; written_same = λ h p o delays way at. inl (same.written_same h p o delays way (subst (λ (k : Tag). UpTo low k) (sym at) up)) }

turned : (plan : PlanParts) (d e : List Row) (low : Tag) → CauseSame plan d e low → CauseSame plan e d low
turned plan d e low same = record { scheduled_same = λ g a up. sym (same.scheduled_same g a up); written_same = λ h p o delays is up. sym (same.written_same h p o delays is up) }

pub dropped_law : (plan : PlanParts) → DroppedLaw plan
dropped_law plan last d e u low b under_d under_e same up = (same_breach plan plan last last (d ++ u) (e ++ u) b (same_over plan d e u low b.tag under_d under_e there back up last), same_breach plan plan last last (e ++ u) (d ++ u) b (same_over plan e d u low b.tag under_e under_d back there up last))
  where
    there : CausesAt plan d e u b.tag
    there = same_at plan d e u low b.tag up same

    back : CausesAt plan e d u b.tag
    back = same_at plan e d u low b.tag up (turned plan d e low same)

-- the same of what causes alike from low on
alike_at : (last : Tag) (plan : PlanParts) (t d e u : List Row) (low g : Tag) → ((row : Row) → Contains d row → Contains t row) → AreLate u low → UpTo low g → UpTo g last → CauseAlike last plan t d e low → CausesAt plan d e u g
alike_at last plan t d e u low g own late up in_time same = record { scheduled_same = λ a. same.scheduled_same g a up; written_same = λ h p o delays way at. go h p o delays way at (same.written_alike h p o delays way (subst (λ (k : Tag). UpTo low k) (sym at) up)) }
  where
    go : (h : Tag) (p o : ℕ) (delays : List ℕ) → Origin plan.program p o delays → after_all h delays ≡ g → (filter_map (written h o) d ≡ filter_map (written h o) e) ⊎ GoesUnheard last plan t low h p (after_all h delays) → (filter_map (written h o) d ≡ filter_map (written h o) e) ⊎ (is_read plan.program p ≡ false) × ¬ PortClash plan (d ++ u) g p
    go h p o delays way at (inl q) = inl q
    go h p o delays way at (inr m) = inr (m.unread, λ c. m.apart (subst (λ (k : Tag). UpTo k last) (sym at) in_time) (subst (λ (k : Tag). PortClash plan t k p) (sym at) (own_clash plan t d u low h g p o delays own late way m.over at c)))

turned_alike : (last : Tag) (plan : PlanParts) (t d e : List Row) (low : Tag) → CauseAlike last plan t d e low → CauseAlike last plan t e d low
turned_alike last plan t d e low same = record { scheduled_same = λ g a up. sym (same.scheduled_same g a up); written_alike = λ h p o delays is up. go h p o (after_all h delays) (same.written_alike h p o delays is up) }
  where
    go : (h : Tag) (p o : ℕ) (g : Tag) → (filter_map (written h o) d ≡ filter_map (written h o) e) ⊎ GoesUnheard last plan t low h p g → (filter_map (written h o) e ≡ filter_map (written h o) d) ⊎ GoesUnheard last plan t low h p g
    go h p o g (inl q) = inl (sym q)
    go h p o g (inr m) = inr m

-- rows that are kept of all rows t, in their place
pub dropped_alike : (last : Tag) (plan : PlanParts) (t e u : List Row) (low : Tag) (b : Breach) → AreBefore t low → AreBefore e low → ((row : Row) → Contains e row → Contains t row) → AreLate u low → CauseAlike last plan t t e low → UpTo low b.tag → TagBreachUntil last plan (t ++ u) b ↔ TagBreachUntil last plan (e ++ u) b
dropped_alike last plan t e u low b under_t under_e own late same up = (λ x. same_breach plan plan last last (t ++ u) (e ++ u) b (same_over plan t e u low b.tag under_t under_e (there x.in_time) (back x.in_time) up last) x, λ x. same_breach plan plan last last (e ++ u) (t ++ u) b (same_over plan e t u low b.tag under_e under_t (back x.in_time) (there x.in_time) up last) x)
  where
    there : UpTo b.tag last → CausesAt plan t e u b.tag
    there in_time = alike_at last plan t t e u low b.tag (λ row k. k) late up in_time same

    back : UpTo b.tag last → CausesAt plan e t u b.tag
    back in_time = alike_at last plan t e t u low b.tag own late up in_time (turned_alike last plan t t e low same)
