-- What is kept of rows is right still once an external event is told that is behind those that are judged.
use Rattle.std.proofs.Common.{◌≡◌, ℕ, ◌+◌, ◌<◌, ◌≤◌, ◌⊎◌, inl, inr, List, [], ◌∷◌, ◌++◌, length, length-append, drop, refl, sym, ap, ◌∙◌, subst, arith, Option, Some, None, slice_get, filter_map, Contains, option_to_list}
use Rattle.std.specs.List.{cons_option, insert}
use Rattle.std.proofs.lemmas.Option.{slice_get-get_or, get_or_from_slice_get}
use Rattle.std.proofs.lemmas.List.Edits.{get_or-insert_at, get_or-insert_below, get_or-insert_above, length-insert}
use lib.ListN.{get_or}
use native.Mathlib.Decide.{dec_lt}
use Rattle.lft_tag.specs.{declared.Tag.Tag, Tags.{Before, UpTo, after}}
use Rattle.lft_tag.proofs.Order.{UpTo-refl, UpTo-not, UpTo-Before, Before-UpTo, Before-weaken, after_past, from_first}
use Rattle.lft_lists.proofs.Members.{Mem, mem_get, get_mem, contains_mem, mem_contains, mem_left, mem_right, mem_cases}
use Rattle.lft_ir.specs.{Origins.Origin, Parts.Parts}
use Rattle.lft_ir.specs.declared.parts.{Value.Value, Name.{Name, TheVariants.{Port, Action}}, Trigger.TheVariants.On}
use Rattle.lft_ir.specs.declared.steps.{externals.Event.Event, row.Row.Row}
use Rattle.lft_ir.specs.Steps.Inputs.{ExternalInputs, ComesBefore, InOrder}
use Rattle.lft_model.specs.{Plans.PlanParts, Presence.{stop, scheduled, given, min_delay, IsWrittenFrom}, Runs.{Ran, start_row}}
use Rattle.lft_model.proofs.Places.{slice_get_within}
use Rattle.lft_queue.specs.{Coming.AtTag.AreBefore, inner.Coming.{Coming.AreComing, Lanes.{held, event_given_to, IsTagDone, IsKept, IsLane}}}
use Rattle.lft_stream.specs.declared.{acceptor.Acceptor.Acceptor, stream.Stream.Stream}
use Rattle.lft_stream.specs.{inner.{Settled.IsRightRun, Kept.{AreUpToLast, HaveCome, IsLater, IsOfRow, IsStreamOf, IsAcceptorOf}}, Kept.low_of}
use Rattle.lft_monitor.specs.Sure.{IsUnbroken, with_inputs, GiveSame}
use Rattle.lft_monitor.specs.inner.{Kept.IsPastOfRows, Going.IsGoing, Follows.{IsJudgedOf, IsFollowerOf, done_of, held_of}}
use Rattle.lft_monitor.specs.declared.{past.Past.Past, gone.Going.Going, judged.Judged.Judged, follower.Follower.Follower}
use Rattle.lft_monitor.proofs.{Behind.after_least, Later.{later_law, same_alike, at_alike, clash_alike}}
use Rattle.lft_monitor.proofs.{OtherInputs.{row_other, listens_back, listeners_other, dues_other, right_other, kept_other}, Passed.{reach_up, done_before}}
use Rattle.lft_monitor.proofs.OneMore.{front_put, held_given, alone_given, given_more, given_before}

later_up : (o : Option Tag) (g : Tag) → IsLater o g → UpTo (low_of o) g
later_up None g l = from_first g
later_up (Some h) g l = after_least h g l

get_before : (xs : List Event) (p : ℕ) (x : Event) (i : ℕ) (y : Event) → i < p → p ≤ length xs → slice_get xs i ≡ Some y → slice_get (insert xs p x) i ≡ Some y
get_before xs p x i y l m at = slice_get-get_or (insert xs p x) i y (let n = length-insert xs p x m in omega arith) ∙ ap (λ (z : Event). Some z) (get_or-insert_below xs p x y i l m ∙ get_or_from_slice_get xs i y y at)

abbrev plan_of : Parts → Tag → List Event → PlanParts
plan_of program g events = record { program = program; externals = record { stop = g; events = events } }

pub same_parts : (old new : PlanParts) (events : List Event) → new.program ≡ old.program → new.externals.stop ≡ old.externals.stop → new.externals.events ≡ events → plan_of old.program old.externals.stop events ≡ new
same_parts old new events program at same = ap (λ (p : Parts). plan_of p old.externals.stop events) (sym program) ∙ ap (λ (g : Tag). plan_of new.program g events) (sym at) ∙ ap (λ (es : List Event). plan_of new.program new.externals.stop es) (sym same)

-- values that somebody has, and one more that may stand in front
module _ (own given held : List Value) (there : (v : Value) → Contains (own ++ given) v → Contains held v) (back : (v : Value) → Contains held v → Contains (own ++ given) v) (clash : 2 ≤ length (own ++ given) → 2 ≤ length held) where
  there_front : (o : Option Value) (v : Value) → Contains (own ++ cons_option o given) v → Contains (cons_option o held) v
  there_front None v c = there v c
  there_front (Some w) v c = mem_contains v (w ∷ held) (go (mem_cases v own (w ∷ given) (contains_mem v (own ++ w ∷ given) c)))
    where
      old : Mem v (own ++ given) → Mem v (w ∷ held)
      old m = inr (contains_mem v held (there v (mem_contains v (own ++ given) m)))

      go : Mem v own ⊎ Mem v (w ∷ given) → Mem v (w ∷ held)
      go (inl m) = old (mem_left v own given m)
      go (inr (inl e)) = inl e
      go (inr (inr m)) = old (mem_right v own given m)

  back_front : (o : Option Value) (v : Value) → Contains (cons_option o held) v → Contains (own ++ cons_option o given) v
  back_front None v c = back v c
  back_front (Some w) v c = mem_contains v (own ++ w ∷ given) (go (contains_mem v (w ∷ held) c))
    where
      split : Mem v own ⊎ Mem v given → Mem v (own ++ w ∷ given)
      split (inl m) = mem_left v own (w ∷ given) m
      split (inr m) = mem_right v own (w ∷ given) (inr m)

      go : Mem v (w ∷ held) → Mem v (own ++ w ∷ given)
      go (inl e) = mem_right v own (w ∷ given) (inl e)
      go (inr m) = split (mem_cases v own given (contains_mem v (own ++ given) (back v (mem_contains v held m))))

  some_held : (vs : List Value) → own ++ given ≡ vs → 1 ≤ length vs → 1 ≤ length held
  some_held [] e l = absurd (omega arith)
  some_held (v ∷ vs) e l = go held (contains_mem v held (there v (mem_contains v (own ++ given) (subst (λ (us : List Value). Mem v us) (sym e) (inl refl)))))
    where
      go : (us : List Value) → Mem v us → 1 ≤ length us
      go [] m = absurd m
      go (u ∷ us) m = omega arith

  clash_front : (o : Option Value) → ((v : Value) → o ≡ Some v → given ≡ []) → 2 ≤ length (own ++ cons_option o given) → 2 ≤ length (cons_option o held)
  clash_front None none l = clash l
  clash_front (Some w) none l =
      let e : length (own ++ w ∷ given) ≡ length own + length (w ∷ given) = length-append own (w ∷ given) in
      let f : length (own ++ given) ≡ length own + length given = length-append own given in
      let z : length given ≡ 0 = ap (λ (vs : List Value). length vs) (none w refl) in
      let m : 1 ≤ length held = some_held (own ++ given) refl (omega arith) in
      omega arith

module _ (plan : PlanParts) (event : Event) (place : ℕ) (within : place ≤ length plan.externals.events) (order : InOrder (insert plan.externals.events place event)) where
  abbrev inputs : ExternalInputs
  inputs = record { stop = plan.externals.stop; events = insert plan.externals.events place event }

  -- the plan with one more external event
  abbrev pub more : PlanParts
  more = with_inputs plan inputs

  alike : (h : Tag) → Before h event.tag → (a : ℕ) → filter_map (given h a) inputs.events ≡ filter_map (given h a) plan.externals.events
  alike h b a = sym (given_before plan.externals.events event place within order h a b)

  pub unbroken_more : (t : List Row) (low : Tag) → UpTo low event.tag → IsUnbroken plan t low → IsUnbroken more t low
  unbroken_more t low up clean b (inl x) = clean b (inl (row_other plan inputs (stop plan t) (stop plan t) t b (λ i y at l. l) x.0, x.1))
  unbroken_more t low up clean b (inr x) = clean b (inr ((later_law plan inputs t low b same x.1).1 x.0, x.1))
    where
      same : GiveSame plan inputs t low
      same = record { given_same = λ h a before. sym (alike h (Before-UpTo h low event.tag before up) a); stop_same = inl refl }

  -- before its tag what is done with stays so
  done_more : (t : List Row) (n : Name) (h : Tag) → Before h event.tag → IsTagDone plan t n h → IsTagDone more t n h
  done_more t n h before o = record {
    met = λ v x r l. o.met v (at_alike plan inputs plan.externals t h (alike h before) n v x) r (listens_back plan inputs r (On n) l);
    apart = λ c. o.apart (clash_alike plan inputs plan.externals t h (alike h before) n c);
  }

  written_back : (one other : ExternalInputs) (t : List Row) (g : Tag) (p : ℕ) (h : Tag) (v : Value) → IsWrittenFrom (with_inputs plan one) t g p h v → IsWrittenFrom (with_inputs plan other) t g p h v
  written_back one other t g p h v o = record { origin = o.origin; delays = o.delays; is_origin = o.is_origin; arrives = o.arrives; is_last = o.is_last }

  kept_port : (t : List Row) (p : ℕ) (h : Tag) (queue : List (Tag × Value)) → IsKept plan t (Port p) h queue → IsKept more t (Port p) h queue
  kept_port t p h queue k = record {
    there = λ v x. k.there v (x.0, written_back inputs plan.externals t h p x.0 v x.1);
    back = λ v c. let x = k.back v c in (x.0, written_back plan.externals inputs t h p x.0 v x.1);
    clash = λ c. k.clash (record { first = c.first; second = c.second; first_value = c.first_value; second_value = c.second_value; is_first = written_back inputs plan.externals t h p c.first c.first_value c.is_first; is_second = written_back inputs plan.externals t h p c.second c.second_value c.is_second; differ = c.differ });
  }

  kept_action : (t : List Row) (a : ℕ) (h : Tag) (queue : List (Tag × Value)) → IsKept plan t (Action a) h queue → IsKept more t (Action a) h (option_to_list (event_given_to a event) ++ queue)
  kept_action t a h queue k = record {
    there = λ v c. subst (λ (vs : List Value). Contains vs v) (sym now_held) (there_front own out (held queue h) k.there k.back k.clash new v (subst (λ (vs : List Value). Contains (own ++ vs) v) now_given c));
    back = λ v c. subst (λ (vs : List Value). Contains (own ++ vs) v) (sym now_given) (back_front own out (held queue h) k.there k.back k.clash new v (subst (λ (vs : List Value). Contains vs v) now_held c));
    clash = λ c. subst (λ (vs : List Value). 2 ≤ length vs) (sym now_held) (clash_front own out (held queue h) k.there k.back k.clash new (alone_given plan.externals.events event place within order h a) (subst (λ (vs : List Value). 2 ≤ length (own ++ vs)) now_given c));
  }
    where
      own : List Value
      own = filter_map (scheduled h a (min_delay plan.program a)) t

      out : List Value
      out = filter_map (given h a) plan.externals.events

      new : Option Value
      new = given h a event

      now_held : held (option_to_list (event_given_to a event) ++ queue) h ≡ cons_option new (held queue h)
      now_held = held_given h a event queue

      now_given : filter_map (given h a) inputs.events ≡ cons_option new out
      now_given = given_more plan.externals.events event place within order 0 (omega arith) h a

  -- whoever belongs at the place or behind it isn't before the event
  not_earlier : (i : ℕ) (x : Event) → place ≤ i → slice_get plan.externals.events i ≡ Some x → UpTo event.tag x.tag
  not_earlier i x from at =
      let inside : i < length plan.externals.events = slice_get_within plan.externals.events i x at in
      let long = length-insert plan.externals.events place event within in
      let here : get_or inputs.events place x ≡ event = get_or-insert_at plan.externals.events place event x within in
      let there : get_or inputs.events (i + 1) x ≡ x = get_or-insert_above plan.externals.events place event x i from within ∙ get_or_from_slice_get plan.externals.events i x x at in
      let c : ComesBefore (get_or inputs.events place x) (get_or inputs.events (i + 1) x) = order place (i + 1) x (omega arith) (omega arith) in
      go (subst (λ (y : Event). ComesBefore event y) there (subst (λ (y : Event). ComesBefore y (get_or inputs.events (i + 1) x)) here c))
    where
      go : ComesBefore event x → UpTo event.tag x.tag
      go (inl b) = Before-weaken event.tag x.tag b
      go (inr p) = subst (λ (k : Tag). UpTo event.tag k) p.0 (UpTo-refl event.tag)

  -- so what has come is before the place, where the event is later than it
  next_up : (last : Option Tag) (n : ℕ) → IsLater last event.tag → HaveCome plan.externals.events last n → n ≤ place
  next_up None n later none = omega arith
  next_up (Some g) n later taken = go (dec_lt place n)
    where
      go : Dec (place < n) → n ≤ place
      go (yes l) = let c = taken place (omega arith) l in absurd (UpTo-not event.tag c.0.tag (not_earlier place c.0 (omega arith) c.1) (UpTo-Before c.0.tag g event.tag c.2 later))
      go (no m) = omega arith

  -- what has come is before the place
  come_more : (last : Option Tag) (n : ℕ) → n ≤ place → HaveCome plan.externals.events last n → HaveCome inputs.events last n
  come_more None n up none = none
  come_more (Some g) n up taken = λ i above below. let c = taken i above below in (c.0, get_before plan.externals.events place event i c.0 (omega arith) within c.1, c.2)

  -- a state that has come no further than its tag
  module _ (t : List Row) (s : Stream) (up : UpTo (low_of s.tag) event.tag) (next : s.coming.next ≤ place) (is : IsStreamOf plan t s) where
    past : (x : Row) (o : Option Tag) → Mem x t → AreUpToLast t o → UpTo (low_of o) event.tag → Before x.tag event.tag
    past x None m none l = absurd (subst (λ (rows : List Row). Mem x rows) none m)
    past x (Some g) m upto l = go m
      where
        go : Mem x t → Before x.tag event.tag
        go k = let p = get_mem x t k in Before-UpTo x.tag (after g 0) event.tag (UpTo-Before x.tag g (after g 0) (upto p.0 x p.1) (after_past g 0)) l

    ran_past : (g : Tag) (r : ℕ) → Ran t g r → Before g event.tag
    ran_past g r x = past (start_row x.worker g r) s.tag (mem_get t x.place (start_row x.worker g r) x.starts) is.up_to up

    run_more : (g : Tag) (r : ℕ) → Ran t g r → IsRightRun more t g r
    run_more g r x = right_other plan inputs t g r (same_alike plan inputs plan.externals t g (alike g (ran_past g r x)) (λ l. l) (λ e. e) (λ e. e)) (is.state.settled.runs g r x)

    abbrev lanes : Name → List (Tag × Value)
    lanes (Port p) = is.lanes (Port p)
    lanes (Action a) = option_to_list (event_given_to a event) ++ is.lanes (Action a)

    lane_port : (p o : ℕ) (delays : List ℕ) → Origin plan.program p o delays → IsLane more t (Port p) (low_of s.tag) (is.lanes (Port p))
    lane_port p o delays way = let old = is.state.ports p o delays way in record { past = λ h b. done_more t (Port p) h (Before-UpTo h (low_of s.tag) event.tag b up) (old.past h b); ahead = λ h l. kept_port t p h (is.lanes (Port p)) (old.ahead h l) }

    lane_action : (a : ℕ) → IsLane more t (Action a) (low_of s.tag) (lanes (Action a))
    lane_action a = let old = is.state.actions a in record { past = λ h b. done_more t (Action a) h (Before-UpTo h (low_of s.tag) event.tag b up) (old.past h b); ahead = λ h l. kept_action t a h (is.lanes (Action a)) (old.ahead h l) }

    coming_more : AreComing more (low_of s.tag) s.stop lanes s.coming
    coming_more (Port p) h waited from near clear = is.coming (Port p) h waited from near clear
    coming_more (Action a) h waited from near clear = held_given h a event (is.lanes (Action a)) ∙ go _ (is.coming (Action a) h waited from near clear)
      where
        new : Option Value
        new = given h a event

        out : List Event → List Value
        out events = filter_map (given h a) (drop s.coming.next events)

        go : (rest : List Value) → held (is.lanes (Action a)) h ≡ out plan.externals.events ++ rest → cons_option new (held (is.lanes (Action a)) h) ≡ out inputs.events ++ rest
        go rest e = ap (λ (vs : List Value). cons_option new vs) e ∙ front_put new (out plan.externals.events) rest ∙ ap (λ (vs : List Value). vs ++ rest) (sym (given_more plan.externals.events event place within order s.coming.next next h a))

    pub stream_more : IsStreamOf more t s
    stream_more = record {
      lanes = lanes;
      none = is.none;
      coming = coming_more;
      come = come_more s.tag s.coming.next next is.come;
      alone = is.alone;
      state = record {
        settled = record { rows = λ b x. is.state.settled.rows b (row_other plan inputs (stop plan t) (stop plan t) t b (λ i y at l. l) x); runs = run_more };
        counted = is.state.counted;
        actions = lane_action;
        ports = lane_port;
        dues = dues_other plan inputs t (λ r x. x) s.dues is.state.dues;
      };
      stop_is = is.stop_is;
      up_to = is.up_to;
      of_row = is.of_row;
      writes = is.writes;
      starts = is.starts;
      listeners = listeners_other plan inputs s.listeners is.listeners;
      channels = is.channels;
      unread = is.unread;
    }

  pub acceptor_more : (t : List Row) (a : Acceptor) → UpTo (low_of a.stream.tag) event.tag → a.stream.coming.next ≤ place → IsAcceptorOf plan t a → IsAcceptorOf more t a
  acceptor_more t a up next is = record { stands = stream_more t a.stream up next is.stands; pass = is.pass; laid = is.laid; order = is.order }

  past_more : (t : List Row) (p : Past) → AreBefore t event.tag → IsPastOfRows plan t p → IsPastOfRows more t p
  past_more t p before is = record {
    stop_is = is.stop_is;
    near = is.near;
    before = is.before;
    least = is.least;
    fit = is.fit;
    unbroken = unbroken_more t p.low (is.least event.tag before) is.unbroken;
    ways = is.ways;
    kept = kept_other plan inputs t p.kept.items p.low (UpTo-refl (stop plan t)) is.kept;
  }

  judged_more : (t : List Row) (j : Judged) → AreBefore t event.tag → IsJudgedOf plan t j → IsJudgedOf more t j
  judged_more t j before is = record {
    acceptor = acceptor_more t j.acceptor (later_up s.tag event.tag later) (next_up s.tag s.coming.next later is.acceptor.stands.come) is.acceptor;
    past = past_more t j.past before is.past;
    counted = is.counted;
    few = is.few;
    clean = record { reach = is.clean.reach; unbroken = unbroken_more t (low_of j.reach.tag) (reach_up t j.reach event.tag is.clean.reach before) is.clean.unbroken };
  }
    where
      s : Stream
      s = j.acceptor.stream

      later : IsLater s.tag event.tag
      later = is_later s.tag is.acceptor.stands.of_row
        where
          is_later : (last : Option Tag) → IsOfRow t last → IsLater last event.tag
          is_later None o = tt
          is_later (Some g) o = subst (λ (k : Tag). Before k event.tag) o.3 (before o.0 o.1 o.2)

  going_more : (done rows : List Row) (g : Going) → IsGoing plan done rows g → IsGoing more done rows g
  going_more done rows g is = record { within = is.within; stop_is = is.stop_is; passes = record { effects = is.passes.effects; known = is.passes.known; kept = is.passes.kept }; ended = is.ended; few = is.few; runs = is.runs }

  -- an event that isn't before the rows at hand
  pub follower_more : (t : List Row) (f : Follower) → AreBefore (done_of t f) event.tag → IsFollowerOf plan t f → IsFollowerOf more t f
  follower_more t f before is = record {
    within = is.within;
    parts = is.parts;
    held = record { judged = judged_more (done_of t f) f.judged before is.held.judged; fit = is.held.fit; earlier = is.held.earlier; some = is.held.some };
    going = going_more (done_of t f) (held_of f) f.going is.going;
    at_one = is.at_one;
  }

-- a plan that has one more event now, which no row is past
pub follower_told : (old new : PlanParts) (event : Event) (place : ℕ) → new.program ≡ old.program → new.externals.stop ≡ old.externals.stop → (place ≤ length old.externals.events) × (new.externals.events ≡ insert old.externals.events place event) → InOrder new.externals.events → (f : Follower) → ((x : Row) → slice_get (held_of f) 0 ≡ Some x → ¬ Before event.tag x.tag) → (t : List Row) → IsFollowerOf old t f → IsFollowerOf new t f
follower_told old new event place program at put order f not t is =
    subst (λ (plan : PlanParts). IsFollowerOf plan t f) (same_parts old new (insert old.externals.events place event) program at put.1)
    (follower_more old event place put.0 (subst (λ (events : List Event). InOrder events) put.1 order) t f (done_before old t f event.tag is not) is)
