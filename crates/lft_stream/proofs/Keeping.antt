-- What is kept stays right over the rows of a tag, and accepts in the end.
use Rattle.std.proofs.Common.{◌≡◌, ℕ, ◌+◌, ◌<◌, ◌≤◌, ◌⊎◌, inl, inr, Bool, true, false, List, [], ◌∷◌, ◌++◌, ◌-◌, append_assoc, take, map, length, refl, sym, ap, ◌∙◌, subst, arith, Option, Some, None, IsSome, slice_get, filter_map, option_map, option_to_list, Contains}
use Rattle.std.{specs.List.last_or, proofs.lemmas.List.append-nil}
use native.Mathlib.Decide.{dec_lt}
use Rattle.lft_tag.specs.{declared.Tag.Tag, Tags.{Before, UpTo, after, after_all, earliest}}
use Rattle.lft_tag.proofs.Order.{UpTo-refl, UpTo-trans, UpTo_antisym, UpTo-Before, Before-UpTo, Before-weaken, order_cases, after_past, from_first}
use Rattle.lft_lists.proofs.{Members.{get_mem, contains_mem, mem_contains}, Places.{get_there, get_right, get_append_cases}}
use Rattle.lft_ir.proofs.Ranges.{length-range}
use Rattle.lft_ir.specs.{Origins.Origin, Sound.IsSound}
use Rattle.lft_ir.specs.declared.parts.{Value.Value, Name.{Name, TheVariants.{Port, Action}}, Trigger.TheVariants.On}
use Rattle.lft_ir.specs.declared.steps.{externals.Event.Event, row.{Row.Row, Step.Step}}
use Rattle.lft_model.specs.{Plans.PlanParts, Presence.{requests, stop, given, written, Shows, Inputs, Triggered}, Runs.{Ran, inputs_of, read_of, reads_at}}
use Rattle.lft_model.specs.{Breaches.IsTooEarly, Accepted.{runs_in, IsAccepted}}
use Rattle.lft_model.proofs.Stops.{stop_append}
use Rattle.lft_rows.specs.{inner.{Firsts.FirstRow, Slices.IsSlice}, declared.slices.Slice.Slice}
use Rattle.lft_stream.specs.declared.stream.Stream.{Stream}
use Rattle.lft_stream.specs.inner.{Settled.IsRightBehind, Owed.MeetNowhere, StartTags.AreStartTags, Dues.{AreDues, NoneOwed}}
use Rattle.lft_stream.specs.inner.Kept.{KeepRules, IsLater, AreUpToLast, IsOfRow, HaveCome, state_of, IsStreamOf, IsAtHand, IsJudged}
use Rattle.lft_stream.specs.inner.Streams.{IsStream, IsGrown}
use Rattle.lft_stream.specs.Kept.{low_of}
use Rattle.lft_stream.proofs.{Before.ran_whole, Lanes.{held_append, held_first}, Lone.{unread_met, still_alone}, Owing.{due_law, ran_grows}}
use Rattle.lft_stream.proofs.{Parting.{rows_of, are_at, ran_part, ran_of, steps_part, up_to_end, part_kept}, Stopping.stop_law, Ruling.rows_law}
use Rattle.lft_stream.proofs.{Streaming.{stream_law, move_law}, Showing.shows_law}
use Rattle.lft_queue.specs.inner.Reading.{is_read}
use Rattle.lft_queue.specs.inner.Coming.{AtOnce.{is_undelayed, origin_of, MayHaveEvents, IsAwaited, AreHeard}, Channels.{AreReadChannels, caused_by}}
use Rattle.lft_queue.specs.inner.Coming.{Unread.{AreUnread, AreFree}, Listeners.{list_of, AreNameListeners, AreStarted, IsUnheard}, Listens.Listens}
use Rattle.lft_queue.specs.inner.Coming.Lanes.{held, first_events, IsMetAt, LaneGoesOn}
use Rattle.lft_queue.specs.inner.Coming.{Coming.{to_come, AreTaken, IsClear, IsNoLater, IsReached, AreOver, AreComing}, Shown.{IsInLane, last_write}}
use Rattle.lft_queue.specs.inner.Coming.Writes.{AreEarlierWrites}
use Rattle.lft_queue.specs.{Coming.AtTag.{AreBefore, AreAt}, declared.coming.{coming.Coming.Coming, listeners.NameListeners.NameListeners}, Pending.value_of}
use Rattle.lft_queue.proofs.ComingLemmas.AtOnce.{undelayed_way, delayed_way, origin_is, heard_there}
use Rattle.lft_queue.proofs.ComingLemmas.{Carrying.{carried_is, one_held, held_one, none_after, none_now, at_once_held}, Writing.earlier_on, Clearing.clear_up}
use Rattle.lft_queue.proofs.ComingLemmas.{Scheduled.none_at, ToCome.{only_queue, item_of, few_of}}

-- a port without a delay that triggers something is reached from its origin
listened_way : (plan : PlanParts) → IsSound plan.program → (p r : ℕ) → Listens plan r (On (Port p)) → is_undelayed plan.program p ≡ true → Origin plan.program p (origin_of plan.program p) []
listened_way plan good p r l e =
    let x = get_there plan.program.ports p ((good.exist r l.reaction l.is_reaction).triggers (On (Port p)) l.is_trigger) in
    let kept = good.origins p x.0 x.1 in
    let none = undelayed_way plan.program good p x.0.origin kept.0 kept.1 e in
    let own = origin_is plan.program good p x.0.origin kept.0 kept.1 in
    subst (λ (o : ℕ). Origin plan.program p o []) (sym own) (subst (λ (ds : List ℕ). Origin plan.program p x.0.origin ds) none kept.1)

-- a name that triggers something has a list
listed_there : (plan : PlanParts) → IsSound plan.program → (listeners : NameListeners) → AreNameListeners plan listeners → (n : Name) (r : ℕ) → Listens plan r (On n) → (list : List ℕ) × (list_of listeners n ≡ Some list)
listed_there plan good listeners are (Port p) r l = get_there listeners.ports p (let a : p < length plan.program.ports = (good.exist r l.reaction l.is_reaction).triggers (On (Port p)) l.is_trigger in let f = are.ports in omega arith)
listed_there plan good listeners are (Action a) r l = get_there listeners.actions a (let b : a < length plan.program.actions = (good.exist r l.reaction l.is_reaction).triggers (On (Action a)) l.is_trigger in let f = are.actions in omega arith)

-- of a name with events, the list has each reaction that it triggers
listener_of : (plan : PlanParts) (listeners : NameListeners) → AreNameListeners plan listeners → (n : Name) → MayHaveEvents plan.program n → (r : ℕ) (list : List ℕ) → Listens plan r (On n) → list_of listeners n ≡ Some list → Contains list r
listener_of plan listeners are n has r list l e = are.each n r list l (ap (λ (m : Name). list_of listeners m) (heard_there plan.program n has) ∙ e)

-- the first events are those that are to come first
first_to_come : (plan : PlanParts) (most : ℕ) (n : Name) (h : Tag) → held (first_events plan n) h ≡ to_come plan.externals.events (record { queue = []; most = most; next = 0; clash = None }) h n
first_to_come plan most (Port p) h = refl
first_to_come plan most (Action a) h = held_first plan a h ∙ sym (append-nil (filter_map (given h a) plan.externals.events))

-- an event of a name that triggers nothing is met
unheard_met : (plan : PlanParts) (t : List Row) (h : Tag) (n : Name) (lane : List (Tag × Value)) (listeners : NameListeners) → AreNameListeners plan listeners → ((p : ℕ) → n ≡ Port p → is_undelayed plan.program p ≡ true → held lane h ≡ []) → length (held lane h) < 2 → ((v : Value) → Contains (held lane h) v → IsUnheard listeners n) → IsMetAt plan t n h lane
unheard_met plan t h n lane listeners are none alone unheard = record { alone = alone; met = λ v k r l. go n none (unheard v k) v k r l }
  where
    silent : (m : Name) → MayHaveEvents plan.program m → IsUnheard listeners m → (r : ℕ) → Listens plan r (On m) → Ran t h r
    silent m has un r l = absurd (contains_mem r [] (listener_of plan listeners are m has r [] l un))

    port : (p : ℕ) (b : Bool) → is_undelayed plan.program p ≡ b → (is_undelayed plan.program p ≡ true → held lane h ≡ []) → IsUnheard listeners (Port p) → (v : Value) → Contains (held lane h) v → (r : ℕ) → Listens plan r (On (Port p)) → Ran t h r
    port p false e gone un v k r l = silent (Port p) e un r l
    port p true e gone un v k r l = absurd (contains_mem v [] (subst (λ (vs : List Value). Contains vs v) (gone e) k))

    go : (m : Name) → ((p : ℕ) → m ≡ Port p → is_undelayed plan.program p ≡ true → held lane h ≡ []) → IsUnheard listeners m → (v : Value) → Contains (held lane h) v → (r : ℕ) → Listens plan r (On m) → Ran t h r
    go (Port p) gone un v k r l = port p (is_undelayed plan.program p) refl (gone p refl) un v k r l
    go (Action a) gone un v k r l = silent (Action a) tt un r l

in_lane : (lane : List (Tag × Value)) (g : Tag) (o : Option Value) → held lane g ≡ option_to_list o → IsInLane lane g o
in_lane lane g None e = e
in_lane lane g (Some v) e = subst (λ (vs : List Value). Contains vs v) (sym e) (mem_contains v (v ∷ []) (inl refl))

up_to_last : (g h : Tag) → Before h (after g 0) → UpTo h g
up_to_last g h (inl l) = inl l
up_to_last g h (inr p) = let l : h.micro < g.micro + 1 = p.1 in inr (p.0, omega arith)

-- between a tag and the one behind it there is no other
only_tag : (g h : Tag) → UpTo g h → Before h (after g 0) → h ≡ g
only_tag g h up b = UpTo_antisym h g (up_to_last g h b) up

-- the tag behind one is up to each later one
next_up : (g h : Tag) → Before g h → UpTo (after g 0) h
next_up g h (inl l) = inl l
next_up g h (inr p) = let l : g.micro < h.micro = p.1 in inr (p.0, omega arith)

pub begins_kept : (plan : PlanParts) (s : Stream) (most : ℕ) → s.stop ≡ plan.externals.stop → s.tag ≡ None → s.runs ≡ 0 → s.tags ≡ 0 → AreDues plan [] s.dues → AreStartTags plan.program [] s.starts → ((g : Tag) → AreEarlierWrites plan.program g s.writes) → AreNameListeners plan s.listeners → AreReadChannels plan.program s.channels → s.coming ≡ record { queue = []; most = most; next = 0; clash = None } → AreUnread plan.program [] s.unread → IsStreamOf plan [] s
begins_kept plan s most stops none runs tags dues starts writes listeners channels begins unread = record {
  lanes = first_events plan;
  none = λ p h e up. refl;
  coming = λ n h waited up far clear. first_to_come plan most n h ∙ ap (λ (c : Coming). to_come plan.externals.events c h n) (sym begins);
  come = rw none (ap (λ (c : Coming). c.next) begins);
  alone = λ p h un up far clear. omega arith;
  state = rw (none, runs, tags) ((stream_law plan).begins s.dues dues);
  stop_is = stops;
  up_to = rw none refl;
  of_row = rw none tt;
  writes = writes (low_of s.tag);
  starts = starts;
  listeners = listeners;
  channels = channels;
  unread = unread;
}

-- where no two events are known to meet, no two writes meet at a port that no reaction reads
pub meet_nowhere : (plan : PlanParts) (t : List Row) (s : Stream) (low : Tag) → IsStreamOf plan t s → s.coming.clash ≡ None → AreBefore t low → MeetNowhere (stop plan t) plan t low
meet_nowhere plan t s low is none before p o ds g way un from up clash =
    let two : 2 ≤ length (held (is.lanes (Port p)) g) = ((is.state.ports p o ds way).ahead g ahead).clash clash in
    let one : length (held (is.lanes (Port p)) g) < 2 = is.alone p g un ahead (subst (λ (k : Tag). UpTo g k) (sym is.stop_is) up) (rw none tt) in
    absurd (omega (arith, one, two))
  where
    lowest : (last : Option Tag) → IsOfRow t last → UpTo (low_of last) low
    lowest None o = from_first low
    lowest (Some k) o = next_up k low (subst (λ (h : Tag). Before h low) o.3 (before o.0 o.1 o.2))

    ahead : UpTo (low_of s.tag) g
    ahead = UpTo-trans (low_of s.tag) low g (lowest s.tag is.of_row) from

-- the events that come up to a later tag are taken behind those that have come
come_on : (events : List Event) (last : Option Tag) (g : Tag) (from to : ℕ) → IsLater last g → HaveCome events last from → AreTaken events from to g → AreTaken events 0 to g
come_on events last g from to later come taken i above below = go (dec_lt i from)
  where
    before : (o : Option Tag) → IsLater o g → HaveCome events o from → i < from → (x : Event) × (slice_get events i ≡ Some x) × UpTo x.tag g
    before None l none at = absurd (omega arith)
    before (Some h) l come at = let c = come i above at in (c.0, c.1, UpTo-trans c.0.tag h g c.2 (Before-weaken h g l))

    go : Dec (i < from) → (x : Event) × (slice_get events i ≡ Some x) × UpTo x.tag g
    go (yes l) = before last later come l
    go (no m) = taken i (omega arith) below

-- what the lanes have at a tag is met: of names that somebody waits for where nothing comes that is heard, of the others in any case
lane_is_met : (plan : PlanParts) (t : List Row) (s : Stream) (is : IsStreamOf plan t s) (h : Tag) → UpTo (low_of s.tag) h → UpTo h s.stop → IsClear s.coming.clash h → ((n : Name) → length (to_come plan.externals.events s.coming h n) < 2) → ((n : Name) (v : Value) → Contains (to_come plan.externals.events s.coming h n) v → IsUnheard s.listeners n) → (n : Name) → IsMetAt plan t n h (is.lanes n)
lane_is_met plan t s is h low near clear alone unheard n = go n
  where
    awaited : (n : Name) → IsAwaited plan.program n → IsMetAt plan t n h (is.lanes n)
    awaited n waited = unheard_met plan t h n (is.lanes n) s.listeners is.listeners (λ p e z. ap (λ (k : Name). held (is.lanes k) h) e ∙ is.none p h z low) (rw (is.coming n h waited low near clear) (alone n)) (λ v k. unheard n v (subst (λ (vs : List Value). Contains vs v) (is.coming n h waited low near clear) k))

    port : (p : ℕ) (b : Bool) → is_read plan.program p ≡ b → IsMetAt plan t (Port p) h (is.lanes (Port p))
    port p true e = awaited (Port p) e
    port p false e = unread_met plan t h p (is.lanes (Port p)) e (is.alone p h e low near clear)

    go : (n : Name) → IsMetAt plan t n h (is.lanes n)
    go (Port p) = port p (is_read plan.program p) refl
    go (Action a) = awaited (Action a) tt

module _ (plan : PlanParts) (d u : List Row) (g : Tag) (old : Stream) (is : IsStreamOf plan d old) (first : Row) (is_first : slice_get u 0 ≡ Some first) (at : AreAt u g) (later : IsLater old.tag g) (reach : UpTo g old.stop) (kept : KeepRules plan u) where
  pub before : AreBefore d g
  before i x e = go old.tag is.up_to later
    where
      go : (last : Option Tag) → AreUpToLast d last → IsLater last g → Before x.tag g
      go None none l = absurd (let a : None ≡ Some x = ap (λ (t : List Row). slice_get t i) (sym none) ∙ e in cc)
      go (Some h) up l = UpTo-Before x.tag h g (up i x e) l

  pub in_time : UpTo g (stop plan d)
  in_time = subst (λ (k : Tag). UpTo g k) is.stop_is reach

  -- the stop that the rows lead to
  pub stop_now : earliest old.stop (requests u) ≡ stop plan (d ++ u)
  stop_now = ap (λ (k : Tag). earliest k (requests u)) is.stop_is ∙ sym (stop_law plan d u)

  kept_whole : FirstRow (stop plan (d ++ u)) plan u None
  kept_whole = (rows_law plan).with_them d u g kept.0 at in_time kept.1

  some_ran : Ran u g first.reaction
  some_ran = subst (λ (k : Tag). Ran u k first.reaction) (at 0 first is_first) ((rows_law plan).some_run kept.0 u first kept.1 is_first)

  passed : (last : Option Tag) → IsLater last g → UpTo (low_of last) g
  passed None l = from_first g
  passed (Some h) l = next_up h g l

  -- what was to come before the tag triggered nothing
  module _ (good : IsSound plan.program) (c : Coming) (reached : IsReached plan.externals.events old.listeners g old.coming c) where
    at_hand_at : (n : Name) (h : Tag) → IsAwaited plan.program n → UpTo g h → UpTo h old.stop → IsClear old.coming.clash h → held (is.lanes n) h ≡ to_come plan.externals.events c h n
    at_hand_at n h waited up near clear = is.coming n h waited (UpTo-trans (low_of old.tag) g h (passed old.tag later) up) near clear ∙ sym (reached.same h n up)

    in_queue : (n : Name) → IsAwaited plan.program n → held (is.lanes n) g ≡ option_to_list (value_of g n c.queue)
    in_queue n waited = at_hand_at n g waited (UpTo-refl g) reach reached.clear ∙ only_queue plan.externals.events c g g n reached.brought (UpTo-refl g)

    near : (h : Tag) → Before h g → UpTo h old.stop
    near h b = UpTo-trans h g old.stop (Before-weaken h g b) reach

    goes_up : (n : Name) → LaneGoesOn plan d n (low_of old.tag) (is.lanes n) g (is.lanes n)
    goes_up n = record {
      up = passed old.tag later;
      met = λ h up b. lane_is_met plan d old is h up (near h b) (clear_up old.coming.clash h g (Before-weaken h g b) reached.clear) (λ m. reached.alone h m b) (λ m v k. reached.unheard h m v b k) n;
      same = λ h up. refl;
    }

    there : IsStream plan d (state_of is.lanes g old)
    there = move_law plan d (state_of is.lanes (low_of old.tag) old) (state_of is.lanes g old) is.state (record { lanes = goes_up; dues = refl; runs = refl; tags = refl })

    pub shows : (n : Name) → MayHaveEvents plan.program n → IsAwaited plan.program n → Shows plan (d ++ u) g n (value_of g n c.queue)
    shows (Action a) has waited = (shows_law plan).action d u g g a (is.lanes (Action a)) (value_of g (Action a) c.queue) before at (UpTo-refl g) (there.actions a) (in_lane (is.lanes (Action a)) g (value_of g (Action a) c.queue) (in_queue (Action a) waited))
    shows (Port p) has waited =
        let way = delayed_way plan.program good p has in
        (shows_law plan).delayed d u g g p way.0 way.1 way.2 (is.lanes (Port p)) (value_of g (Port p) c.queue) before at way.3 (UpTo-refl g) (there.ports p way.0 (way.1 ∷ way.2) way.3) (in_lane (is.lanes (Port p)) g (value_of g (Port p) c.queue) (in_queue (Port p) waited))

    -- the lanes once the rows have put their events behind
    abbrev lanes_at : Name → List (Tag × Value)
    lanes_at n = is.lanes n ++ caused_by plan u g n

    -- what the rows cause for a name with events is later
    none_yet : (n : Name) → MayHaveEvents plan.program n → held (caused_by plan u g n) g ≡ []
    none_yet (Port p) has = none_now plan.program good u g p has
    none_yet (Action a) has = none_at plan u g g (Action a) at (UpTo-refl g)

    module _ (heard : AreHeard plan (d ++ u) u g) (met : (n : Name) → IsSome (value_of g n c.queue) → AreStarted (d ++ u) g old.listeners n) where
      -- what was to come at the tag is what is there
      at_once : (n : Name) → MayHaveEvents plan.program n → held (lanes_at n) g ≡ held (is.lanes n) g
      at_once n has = held_append (is.lanes n) (caused_by plan u g n) g ∙ ap (λ (vs : List Value). held (is.lanes n) g ++ vs) (none_yet n has) ∙ append-nil (held (is.lanes n) g)

      -- the event at the tag is met
      event_met : (n : Name) → MayHaveEvents plan.program n → IsAwaited plan.program n → IsMetAt plan (d ++ u) n g (lanes_at n)
      event_met n has waited = record { alone = rw own (few_of (value_of g n c.queue)); met = λ v k r l. ran v (item_of (value_of g n c.queue) v (subst (λ (vs : List Value). Contains vs v) own k)) r l }
        where
          own : held (lanes_at n) g ≡ option_to_list (value_of g n c.queue)
          own = at_once n has ∙ in_queue n waited

          ran : (v : Value) → value_of g n c.queue ≡ Some v → (r : ℕ) → Listens plan r (On n) → Ran (d ++ u) g r
          ran v e r l =
              let x = listed_there plan good old.listeners is.listeners n r l in
              met n (subst (λ (o : Option Value). IsSome o) (sym e) refl) x.0 r x.1 (listener_of plan old.listeners is.listeners n has r x.0 l x.1)

      delayed_met : (p : ℕ) (b : Bool) → is_undelayed plan.program p ≡ false → is_read plan.program p ≡ b → IsMetAt plan (d ++ u) (Port p) g (lanes_at (Port p))
      delayed_met p true has e = event_met (Port p) has e
      delayed_met p false has e = unread_met plan (d ++ u) g p (lanes_at (Port p)) e (subst (λ (vs : List Value). length vs < 2) (sym (at_once (Port p) has)) (is.alone p g e (passed old.tag later) reach reached.clear))

      -- the write of a port at the tag is met
      write_met : (p : ℕ) → is_undelayed plan.program p ≡ true → IsMetAt plan (d ++ u) (Port p) g (lanes_at (Port p))
      write_met p e = record {
        alone = rw own (one_held g g (last_write u g (origin_of plan.program p)));
        met = λ v k r l. heard p (origin_of plan.program p) r v (listened_way plan good p r l e) (held_one g g (last_write u g (origin_of plan.program p)) v (subst (λ (vs : List Value). Contains vs v) own k)) l;
      }
        where
          own : held (lanes_at (Port p)) g ≡ held (option_to_list (option_map (λ v. (g, v)) (last_write u g (origin_of plan.program p)))) g
          own = held_append (is.lanes (Port p)) (caused_by plan u g (Port p)) g ∙ ap (λ (vs : List Value). vs ++ held (caused_by plan u g (Port p)) g) (is.none p g e (passed old.tag later)) ∙ at_once_held plan.program u g p e

      port_met : (p : ℕ) (b : Bool) → is_undelayed plan.program p ≡ b → IsMetAt plan (d ++ u) (Port p) g (lanes_at (Port p))
      port_met p true e = write_met p e
      port_met p false e = delayed_met p (is_read plan.program p) e refl

      lane_met : (n : Name) → IsMetAt plan (d ++ u) n g (lanes_at n)
      lane_met (Port p) = port_met p (is_undelayed plan.program p) refl
      lane_met (Action a) = event_met (Action a) tt tt

      goes_past : (n : Name) → LaneGoesOn plan (d ++ u) n g (lanes_at n) (after g 0) (lanes_at n)
      goes_past n = record {
        up = Before-weaken g (after g 0) (after_past g 0);
        met = λ h up b. subst (λ (k : Tag). IsMetAt plan (d ++ u) n k (lanes_at n)) (sym (only_tag g h up b)) (lane_met n);
        same = λ h up. refl;
      }

      module _ (ranked : (r : ℕ) → Ran u g r → ¬ IsTooEarly plan u g r) (triggered : (r : ℕ) → Ran u g r → Triggered plan (d ++ u) g r) (reads : (r : ℕ) → Ran u g r → Inputs plan (d ++ u) g r (reads_at plan u g r)) where
        right : IsRightBehind plan d u g
        right = record { earlier = before; at_tag = at; rows = kept_whole; triggered = triggered; in_order = ranked; reads = reads }

        module _ (new : Stream) (runs : new.runs ≡ old.runs + runs_in u) (tags : new.tags ≡ old.tags + 1) (dues : AreDues plan (d ++ u) new.dues) where
          grown : IsGrown plan d u g (state_of is.lanes g old) (state_of lanes_at g new)
          grown = record {
            lows = λ n. refl;
            reached = λ n. UpTo-refl g;
            actions = λ a. refl;
            ports = λ p o delays way. ap (λ (es : List (Tag × Value)). is.lanes (Port p) ++ es) (carried_is plan.program good u g p o delays way);
            dues = dues;
            runs = runs;
            tags = tags;
          }

          stands : IsStream plan (d ++ u) (state_of lanes_at (after g 0) new)
          stands = move_law plan (d ++ u) (state_of lanes_at g new) (state_of lanes_at (after g 0) new) ((stream_law plan).grows d u g first.reaction (state_of is.lanes g old) (state_of lanes_at g new) there right some_ran grown) (record { lanes = goes_past; dues = refl; runs = refl; tags = refl })

          -- the state over the rows of a later tag
          pub grows_kept : new.stop ≡ earliest old.stop (requests u) → new.tag ≡ Some g → AreStartTags plan.program (d ++ u) new.starts → AreEarlierWrites plan.program (after g 0) new.writes → AreNameListeners plan new.listeners → AreReadChannels plan.program new.channels → AreUnread plan.program (d ++ u) new.unread → ((h : Tag) → IsClear new.coming.clash h → AreFree plan.program d u g h) → IsNoLater c.clash new.coming.clash → ((h : Tag) (n : Name) → IsAwaited plan.program n → Before g h → UpTo h new.stop → IsClear new.coming.clash h → to_come plan.externals.events new.coming h n ≡ to_come plan.externals.events c h n ++ held (caused_by plan u g n) h) → new.coming.next ≡ c.next → IsStreamOf plan (d ++ u) new
          grows_kept stops tag starts writes listeners channels unread free sooner more next = record {
            lanes = lanes_at;
            none = λ p h e up. none p h e (past h up);
            alone = λ p h un up far clear. lone p h un (past h up) far clear;
            coming = subst (λ (last : Option Tag). AreComing plan (low_of last) new.stop lanes_at new.coming) (sym tag) (λ n h waited up far clear. still n h waited (Before-UpTo g (after g 0) h (after_past g 0) up) far clear);
            come = subst (λ (last : Option Tag). HaveCome plan.externals.events last new.coming.next) (sym tag) (subst (λ (k : ℕ). AreTaken plan.externals.events 0 k g) (sym next) (come_on plan.externals.events old.tag g old.coming.next c.next later is.come reached.taken));
            state = subst (λ (last : Option Tag). IsStream plan (d ++ u) (state_of lanes_at (low_of last) new)) (sym tag) stands;
            stop_is = stops ∙ stop_now;
            up_to = subst (λ (last : Option Tag). AreUpToLast (d ++ u) last) (sym tag) up_to;
            of_row = subst (λ (last : Option Tag). IsOfRow (d ++ u) last) (sym tag) (length d + 0, first, get_right d u 0 ∙ is_first, at 0 first is_first);
            writes = subst (λ (last : Option Tag). AreEarlierWrites plan.program (low_of last) new.writes) (sym tag) writes;
            starts = starts;
            listeners = listeners;
            channels = channels;
            unread = unread;
          }
            where
              past : (h : Tag) → UpTo (low_of new.tag) h → Before g h
              past h up = Before-UpTo g (after g 0) h (after_past g 0) (subst (λ (last : Option Tag). UpTo (low_of last) h) tag up)

              -- a port without a delay has no event behind the tag
              none : (p : ℕ) (h : Tag) → is_undelayed plan.program p ≡ true → Before g h → held (lanes_at (Port p)) h ≡ []
              none p h e b = held_append (is.lanes (Port p)) (caused_by plan u g (Port p)) h ∙ ap (λ (vs : List Value). vs ++ held (caused_by plan u g (Port p)) h) (is.none p h e (UpTo-trans (low_of old.tag) g h (passed old.tag later) (Before-weaken g h b))) ∙ none_after plan.program u g h p e b

              -- the stop goes no further than it did
              no_later : UpTo new.stop old.stop
              no_later = subst (λ (k : Tag). UpTo k old.stop) (sym (stops ∙ stop_now)) (subst (λ (k : Tag). UpTo (stop plan (d ++ u)) k) (sym is.stop_is) (stop_append plan d u))

              -- what is clear now was so before
              clear_before : (h : Tag) → IsClear new.coming.clash h → IsClear old.coming.clash h
              clear_before h clear = subst (λ (k : Option Tag). IsClear k h) reached.clash (sooner h clear)

              still : (n : Name) (h : Tag) → IsAwaited plan.program n → Before g h → UpTo h new.stop → IsClear new.coming.clash h → held (lanes_at n) h ≡ to_come plan.externals.events new.coming h n
              still n h waited b far clear = held_append (is.lanes n) (caused_by plan u g n) h ∙ ap (λ (vs : List Value). vs ++ held (caused_by plan u g n) h) (at_hand_at n h waited (Before-weaken g h b) (UpTo-trans h new.stop old.stop far no_later) (clear_before h clear)) ∙ sym (more h n waited b far clear)

              -- an unread port has no two events at a tag
              lone : (p : ℕ) (h : Tag) → is_read plan.program p ≡ false → Before g h → UpTo h new.stop → IsClear new.coming.clash h → length (held (lanes_at (Port p)) h) < 2
              lone p h un b far clear = go (is_undelayed plan.program p) refl
                where
                  up : UpTo (low_of old.tag) h
                  up = UpTo-trans (low_of old.tag) g h (passed old.tag later) (Before-weaken g h b)

                  go : (z : Bool) → is_undelayed plan.program p ≡ z → length (held (lanes_at (Port p)) h) < 2
                  go true e = let gone : held (lanes_at (Port p)) h ≡ [] = none p h e b in rw gone (omega arith)
                  go false e =
                      let way = delayed_way plan.program good p e in
                      let ds = way.1 ∷ way.2 in
                      let same = carried_is plan.program good u g p way.0 ds way.3 in
                      subst (λ (es : List (Tag × Value)). length (held (is.lanes (Port p) ++ es) h) < 2) (sym same) (still_alone plan good d u g h (low_of old.tag) p way.0 ds (is.lanes (Port p)) way.3 un before (free h clear) (is.state.ports p way.0 ds way.3) h up (UpTo-refl h) (is.alone p h un up (UpTo-trans h new.stop old.stop far no_later) (clear_before h clear)) (one_held (after_all g ds) h (last_or None (filter_map (written g way.0) u))))

              up_to : (i : ℕ) (x : Row) → slice_get (d ++ u) i ≡ Some x → UpTo x.tag g
              up_to i x e = go (get_append_cases d u i x e)
                where
                  go : (slice_get d i ≡ Some x) ⊎ ((j : ℕ) × (i ≡ length d + j) × (slice_get u j ≡ Some x)) → UpTo x.tag g
                  go (inl p) = Before-weaken x.tag g (before i x p)
                  go (inr (j, q, p)) = subst (λ (k : Tag). UpTo k g) (sym (at j x p)) (UpTo-refl g)

pub accepts_kept : (plan : PlanParts) (t : List Row) (s : Stream) → IsStreamOf plan t s → NoneOwed s.stop s.dues → AreOver plan.externals.events s.listeners s.stop s.coming → IsAccepted plan t s.runs s.tags
accepts_kept plan t s is none over = by (order_cases (stop plan t) (low_of s.tag))
  where
    last : Tag
    last = stop plan t

    ends : (low : Tag) → Before (stop plan t) low → IsStream plan t (state_of is.lanes low s) → IsAccepted plan t s.runs s.tags
    ends low past stream = (stream_law plan).accepts t (state_of is.lanes low s) stream (record { dues = subst (λ (k : Tag). NoneOwed k s.dues) is.stop_is none; lows = λ n. past })

    goes : UpTo (low_of s.tag) (stop plan t) → (n : Name) → LaneGoesOn plan t n (low_of s.tag) (is.lanes n) (after (stop plan t) 0) (is.lanes n)
    goes up n = record {
      up = UpTo-trans (low_of s.tag) last (after last 0) up (Before-weaken last (after last 0) (after_past last 0));
      met = λ h low b.
          let there : UpTo h s.stop = subst (λ (k : Tag). UpTo h k) (sym is.stop_is) (up_to_last last h b) in
          lane_is_met plan t s is h low there (clear_up s.coming.clash h s.stop there over.clear) (λ m. over.alone h m there) (λ m v k. over.unheard h m v there k) n;
      same = λ h far. refl;
    }

    by : Before (stop plan t) (low_of s.tag) ⊎ UpTo (low_of s.tag) (stop plan t) → IsAccepted plan t s.runs s.tags
    by (inl past) = ends (low_of s.tag) past is.state
    by (inr up) = ends (after last 0) (after_past last 0) (move_law plan t (state_of is.lanes (low_of s.tag) s) (state_of is.lanes (after last 0) s) is.state (record { lanes = goes up; dues = refl; runs = refl; tags = refl }))

-- the same of a slice of more rows
module _ (plan : PlanParts) (done rows : List Row) (s : Slice) (slice : IsSlice rows s) (old : Stream) (is : IsStreamOf plan (done ++ take s.first rows) old) (later : IsLater old.tag s.tag) (reach : UpTo s.tag old.stop) (kept : KeepRules plan rows) where
  abbrev so_far : List Row
  so_far = done ++ take s.first rows

  abbrev own : List Row
  own = rows_of rows s slice

  together : so_far ++ own ≡ done ++ take s.end rows
  together = append_assoc done (take s.first rows) own ∙ ap (λ (t : List Row). done ++ t) (up_to_end rows s slice)

  first : (x : Row) × (slice_get own 0 ≡ Some x)
  first = get_there own 0 (let a = length-range rows s.first s.end slice.within in let b = slice.some in let c : length own ≡ s.end - s.first = a in omega arith)

  pub own_kept : KeepRules plan own
  own_kept = (kept.0, part_kept rows s slice kept.0 plan kept.1)

  pub own_before : AreBefore so_far s.tag
  own_before = before plan so_far own s.tag old is first.0 first.1 (are_at rows s slice) later reach own_kept

  own_in_time : UpTo s.tag (stop plan so_far)
  own_in_time = in_time plan so_far own s.tag old is first.0 first.1 (are_at rows s slice) later reach own_kept

  own_ran : (r : ℕ) → Ran rows s.tag r → Ran (so_far ++ own) s.tag r
  own_ran r o = ran_whole plan so_far own s.tag (λ x m. let i = get_mem x so_far m in own_before i.0 x i.1) r (ran_part rows s slice r o)

  -- the rows of the slice are at hand
  pub at_hand : IsSound plan.program → (hand : Stream) → IsReached plan.externals.events old.listeners s.tag old.coming hand.coming → hand.stop ≡ earliest old.stop (requests own) → hand.dues ≡ old.dues → hand.writes ≡ old.writes → hand.starts ≡ old.starts → hand.listeners ≡ old.listeners → hand.channels ≡ old.channels → IsAtHand plan so_far rows s hand
  at_hand good hand reached stops dues writes starts listeners channels = record {
    earlier = own_before;
    ran = own_ran;
    stop_is = stops ∙ stop_now plan so_far own s.tag old is first.0 first.1 (are_at rows s slice) later reach own_kept;
    dues = rw dues ((due_law plan).grows so_far own s.tag old.dues own_before own_in_time is.state.dues);
    writes = rw writes (earlier_on plan.program (low_of old.tag) s.tag old.writes (passed plan so_far own s.tag old is first.0 first.1 (are_at rows s slice) later reach own_kept old.tag later) is.writes);
    starts = rw starts (record { as_long = is.starts.as_long; each = λ r g e. ran_grows so_far own g r (is.starts.each r g e) });
    listeners = rw listeners is.listeners;
    channels = rw channels is.channels;
    queued = shows plan so_far own s.tag old is first.0 first.1 (are_at rows s slice) later reach own_kept good hand.coming reached;
  }

  -- and what is kept is right for them too, once they are judged
  pub slice_grows : IsSound plan.program → (c : Coming) → IsReached plan.externals.events old.listeners s.tag old.coming c → ((r : ℕ) → Ran own s.tag r → ¬ IsTooEarly plan own s.tag r) → (judged new : Stream) → IsJudged plan so_far rows s judged → judged.coming ≡ c → judged.listeners ≡ old.listeners → new.stop ≡ earliest old.stop (requests own) → new.tag ≡ Some s.tag → new.runs ≡ old.runs + runs_in own → new.tags ≡ old.tags + 1 → new.dues ≡ judged.dues → new.starts ≡ judged.starts → AreEarlierWrites plan.program (after s.tag 0) new.writes → new.listeners ≡ judged.listeners → new.channels ≡ old.channels → AreUnread plan.program (so_far ++ own) new.unread → ((h : Tag) → IsClear new.coming.clash h → AreFree plan.program so_far own s.tag h) → IsNoLater c.clash new.coming.clash → ((h : Tag) (n : Name) → IsAwaited plan.program n → Before s.tag h → UpTo h new.stop → IsClear new.coming.clash h → to_come plan.externals.events new.coming h n ≡ to_come plan.externals.events c h n ++ held (caused_by plan own s.tag n) h) → new.coming.next ≡ c.next → IsStreamOf plan (done ++ take s.end rows) new
  slice_grows good c reached ranked judged new is_judged coming heard_by stops tag runs tags dues starts writes listeners channels unread free sooner more next = subst (λ (t : List Row). IsStreamOf plan t new) together (grows_kept plan so_far own s.tag old is first.0 first.1 (are_at rows s slice) later reach own_kept good c reached is_judged.heard met ranked (λ r o. is_judged.triggered r (ran_of rows s slice r o)) own_reads new runs tags (rw dues is_judged.dues) stops tag (rw starts is_judged.starts) writes (rw listeners is_judged.listeners) (rw channels is.channels) unread free sooner more next)
    where
      met : (n : Name) → IsSome (value_of s.tag n c.queue) → AreStarted (so_far ++ own) s.tag old.listeners n
      met n some = subst (λ (l : NameListeners). AreStarted (so_far ++ own) s.tag l n) heard_by (is_judged.met n (subst (λ (k : Coming). IsSome (value_of s.tag n k.queue)) (sym coming) some))

      own_reads : (r : ℕ) → Ran own s.tag r → Inputs plan (so_far ++ own) s.tag r (reads_at plan own s.tag r)
      own_reads r o = subst (λ (steps : List Step). Inputs plan (so_far ++ own) s.tag r (map (read_of steps) (inputs_of plan.program r))) (steps_part rows s slice r) (is_judged.reads r (ran_of rows s slice r o))
