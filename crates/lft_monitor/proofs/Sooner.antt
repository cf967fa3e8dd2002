-- What is kept of rows is right still once the plan stops sooner, at a tag that no row is past.
use Rattle.std.proofs.Common.{◌≡◌, ℕ, ◌<◌, ◌⊎◌, inl, inr, List, [], ◌∷◌, ◌++◌, take, refl, sym, ap, ◌∙◌, subst, arith, Some, slice_get, ⊎_elim}
use Rattle.lft_tag.specs.{declared.Tag.Tag, Tags.{Before, UpTo, earlier, earliest}}
use Rattle.lft_tag.proofs.Order.{Before-weaken, UpTo-refl, UpTo-trans, UpTo-not, UpTo_antisym, earlier_cases, order_cases}
use Rattle.lft_ir.specs.declared.{parts.{Value.Value, Name.{Name, TheVariants.{Port, Action}}, Trigger.TheVariants.On}, steps.row.Row.Row}
use Rattle.lft_ir.specs.Steps.Inputs.{ExternalInputs}
use Rattle.lft_model.specs.{Plans.PlanParts, Presence.{stop, requests, At, ClashesAt}, Runs.{Ran, start_row}, Breaches.BreaksRowUntil}
use Rattle.lft_model.proofs.Places.{slice_get_take}
use Rattle.lft_rows.{specs.inner.Passes.HasPassed, proofs.Growing.nearer_law}
use Rattle.lft_queue.specs.{Coming.AtTag.AreBefore, inner.Coming.Lanes.IsLane}
use Rattle.lft_stream.specs.{declared.stream.Stream.Stream, inner.{Settled.IsRightRun, Kept.{stopped_stream, IsStreamOf}}, Kept.low_of}
use Rattle.lft_monitor.specs.Sure.{IsUnbroken, GiveSame}
use Rattle.lft_monitor.specs.inner.{Kept.IsPastOfRows, Going.IsGoing, Follows.{IsJudgedOf, IsFollowerOf, done_of, held_of, stopped_at, stopped_judged}}
use Rattle.lft_monitor.specs.declared.{past.Past.Past, gone.Going.Going, judged.Judged.Judged, follower.Follower.Follower}
use Rattle.lft_monitor.proofs.{Same.SameAt, Later.{later_law, same_alike, same_time, same_stop, turned_stop, at_alike, clash_alike}}
use Rattle.lft_monitor.proofs.Passed.{reach_up, hand_up, done_before}
use Rattle.lft_monitor.proofs.OtherInputs.{row_other, listens_back, listeners_other, dues_other, right_other, kept_other}

-- the earlier of two tags is up to both
up_first : (g h : Tag) → UpTo (earlier g h) g
up_first g h = go (earlier_cases g h)
  where
    go : ((earlier g h ≡ g) × UpTo g h) ⊎ ((earlier g h ≡ h) × UpTo h g) → UpTo (earlier g h) g
    go (inl p) = subst (λ (k : Tag). UpTo k g) (sym p.0) (UpTo-refl g)
    go (inr p) = subst (λ (k : Tag). UpTo k g) (sym p.0) p.1

up_second : (g h : Tag) → UpTo (earlier g h) h
up_second g h = go (earlier_cases g h)
  where
    go : ((earlier g h ≡ g) × UpTo g h) ⊎ ((earlier g h ≡ h) × UpTo h g) → UpTo (earlier g h) h
    go (inl p) = subst (λ (k : Tag). UpTo k h) (sym p.0) p.1
    go (inr p) = subst (λ (k : Tag). UpTo k h) (sym p.0) (UpTo-refl h)

-- and what is up to both is up to it
up_both : (k g h : Tag) → UpTo k g → UpTo k h → UpTo k (earlier g h)
up_both k g h a b = go (earlier_cases g h)
  where
    go : ((earlier g h ≡ g) × UpTo g h) ⊎ ((earlier g h ≡ h) × UpTo h g) → UpTo k (earlier g h)
    go (inl p) = subst (λ (j : Tag). UpTo k j) (sym p.0) a
    go (inr p) = subst (λ (j : Tag). UpTo k j) (sym p.0) b

-- of three tags the earliest is one, whichever two are compared first
pub swapped : (h g k : Tag) → earlier h (earlier g k) ≡ earlier g (earlier h k)
swapped h g k = UpTo_antisym (earlier h (earlier g k)) (earlier g (earlier h k)) (below h g k) (below g h k)
  where
    below : (h g k : Tag) → UpTo (earlier h (earlier g k)) (earlier g (earlier h k))
    below h g k =
        let all = earlier h (earlier g k) in
        let rest : UpTo all (earlier g k) = up_second h (earlier g k) in
        up_both all g (earlier h k) (UpTo-trans all (earlier g k) g rest (up_first g k)) (up_both all h k (up_first h (earlier g k)) (UpTo-trans all (earlier g k) k rest (up_second g k)))

earliest_sooner : (g own : Tag) (hs : List Tag) → earliest (earlier g own) hs ≡ earlier g (earliest own hs)
earliest_sooner g own [] = refl
earliest_sooner g own (h ∷ hs) = ap (λ (k : Tag). earlier h k) (earliest_sooner g own hs) ∙ swapped h g (earliest own hs)

module _ (plan : PlanParts) (g : Tag) where
  abbrev inputs : ExternalInputs
  inputs = record { stop = earlier g plan.externals.stop; events = plan.externals.events }

  abbrev sooner : PlanParts
  sooner = stopped_at plan g

  stop_sooner : (t : List Row) → stop sooner t ≡ earlier g (stop plan t)
  stop_sooner t = earliest_sooner g plan.externals.stop (requests t)

  -- the stop is the same, or both are from the tag on
  near : (t : List Row) → (stop plan t ≡ stop sooner t) ⊎ UpTo g (stop plan t) × UpTo g (stop sooner t)
  near t = go (earlier_cases g (stop plan t))
    where
      go : ((earlier g (stop plan t) ≡ g) × UpTo g (stop plan t)) ⊎ ((earlier g (stop plan t) ≡ stop plan t) × UpTo (stop plan t) g) → (stop plan t ≡ stop sooner t) ⊎ UpTo g (stop plan t) × UpTo g (stop sooner t)
      go (inl p) = inr (p.1, subst (λ (k : Tag). UpTo g k) (sym (stop_sooner t ∙ p.0)) (UpTo-refl g))
      go (inr p) = inl (sym (stop_sooner t ∙ p.0))

  -- rows before the tag
  module _ (t : List Row) (before : AreBefore t g) where
    past_back : (i : ℕ) (x : Row) → slice_get t i ≡ Some x → Before (stop sooner t) x.tag → Before (stop plan t) x.tag
    past_back i x at b = go (near t)
      where
        go : (stop plan t ≡ stop sooner t) ⊎ UpTo g (stop plan t) × UpTo g (stop sooner t) → Before (stop plan t) x.tag
        go (inl e) = subst (λ (k : Tag). Before k x.tag) (sym e) b
        go (inr p) = absurd (UpTo-not x.tag (stop sooner t) (UpTo-trans x.tag g (stop sooner t) (Before-weaken x.tag g (before i x at)) p.1) b)

    ran_before : (h : Tag) (r : ℕ) → Ran t h r → Before h g
    ran_before h r x = before x.place (start_row x.worker h r) x.starts

    unbroken_sooner : (low : Tag) → UpTo low g → IsUnbroken plan t low → IsUnbroken sooner t low
    unbroken_sooner low up clean b (inl x) = clean b (inl (row_other plan inputs (stop plan t) (stop sooner t) t b past_back x.0, x.1))
    unbroken_sooner low up clean b (inr x) = clean b (inr ((later_law plan inputs t low b same x.1).1 x.0, x.1))
      where
        from : (stop plan t ≡ stop sooner t) ⊎ UpTo g (stop plan t) × UpTo g (stop sooner t) → (stop plan t ≡ stop sooner t) ⊎ UpTo low (stop plan t) × UpTo low (stop sooner t)
        from (inl e) = inl e
        from (inr p) = inr (UpTo-trans low g (stop plan t) up p.0, UpTo-trans low g (stop sooner t) up p.1)

        same : GiveSame plan inputs t low
        same = record { given_same = λ h a b. refl; stop_same = from (near t) }

    -- whoever ran at the stop ran at the stop that it has now
    last_run : (r : ℕ) → Ran t (stop plan t) r → Ran t (stop sooner t) r
    last_run r x = subst (λ (k : Tag). Ran t k r) (same_stop g (stop plan t) (stop plan t) (stop sooner t) (ran_before (stop plan t) r x) (near t) refl) x

    run_sooner : (h : Tag) (r : ℕ) → Ran t h r → IsRightRun plan t h r → IsRightRun sooner t h r
    run_sooner h r x = right_other plan inputs t h r same
      where
        back : (stop sooner t ≡ stop plan t) ⊎ UpTo g (stop sooner t) × UpTo g (stop plan t)
        back = turned_stop g (stop plan t) (stop sooner t) (near t)

        same : SameAt sooner plan (stop sooner t) (stop plan t) t t h
        same = same_alike plan inputs plan.externals t h (λ a. refl) (same_time g h (stop sooner t) (stop plan t) (ran_before h r x) back) (same_stop g h (stop sooner t) (stop plan t) (ran_before h r x) back) (same_stop g h (stop plan t) (stop sooner t) (ran_before h r x) (near t))

    lane_sooner : (n : Name) (low : Tag) (queue : List (Tag × Value)) → IsLane plan t n low queue → IsLane sooner t n low queue
    lane_sooner n low queue is = record {
      past = λ h b. let old = is.past h b in record { met = λ v x r l. old.met v (there h v x) r (listens_back plan inputs r (On n) l); apart = λ c. old.apart (clash h c) };
      ahead = λ h up. let old = is.ahead h up in record { there = λ v x. old.there v (there h v x); back = λ v c. at_alike plan plan.externals inputs t h (λ a. refl) n v (old.back v c); clash = λ c. old.clash (clash h c) };
    }
      where
        there : (h : Tag) (v : Value) → At sooner t h n v → At plan t h n v
        there h v x = at_alike plan inputs plan.externals t h (λ a. refl) n v x

        clash : (h : Tag) → ClashesAt sooner t h n → ClashesAt plan t h n
        clash h c = clash_alike plan inputs plan.externals t h (λ a. refl) n c

    stream_sooner : (s : Stream) → IsStreamOf plan t s → IsStreamOf sooner t (stopped_stream s g)
    stream_sooner s is = record {
      lanes = is.lanes;
      none = is.none;
      coming = λ n h waited from far clear. is.coming n h waited from (UpTo-trans h (earlier g s.stop) s.stop far (up_second g s.stop)) clear;
      come = is.come;
      alone = λ p h un from far clear. is.alone p h un from (UpTo-trans h (earlier g s.stop) s.stop far (up_second g s.stop)) clear;
      state = record {
        settled = record { rows = λ b x. is.state.settled.rows b (row_other plan inputs (stop plan t) (stop sooner t) t b past_back x); runs = λ h r x. run_sooner h r x (is.state.settled.runs h r x) };
        counted = is.state.counted;
        actions = λ a. lane_sooner (Action a) (low_of s.tag) (is.lanes (Action a)) (is.state.actions a);
        ports = λ p o delays way. lane_sooner (Port p) (low_of s.tag) (is.lanes (Port p)) (is.state.ports p o delays way);
        dues = dues_other plan inputs t last_run s.dues is.state.dues;
      };
      stop_is = ap (λ (k : Tag). earlier g k) is.stop_is ∙ sym (stop_sooner t);
      up_to = is.up_to;
      of_row = is.of_row;
      writes = is.writes;
      starts = is.starts;
      listeners = listeners_other plan inputs s.listeners is.listeners;
      channels = is.channels;
      unread = is.unread;
    }

    past_sooner : (p : Past) → IsPastOfRows plan t p → IsPastOfRows sooner t (record p { stop = earlier g p.stop })
    past_sooner p is = record {
      stop_is = ap (λ (k : Tag). earlier g k) is.stop_is ∙ sym (stop_sooner t);
      near = is.near;
      before = is.before;
      least = is.least;
      fit = is.fit;
      unbroken = unbroken_sooner p.low (is.least g before) is.unbroken;
      ways = is.ways;
      kept = kept_other plan inputs t p.kept.items p.low (subst (λ (k : Tag). UpTo k (stop plan t)) (sym (stop_sooner t)) (up_second g (stop plan t))) is.kept;
    }

    judged_sooner : (j : Judged) → IsJudgedOf plan t j → IsJudgedOf sooner t (stopped_judged j g)
    judged_sooner j is = record {
      acceptor = record { stands = stream_sooner j.acceptor.stream is.acceptor.stands; pass = is.acceptor.pass; laid = is.acceptor.laid; order = is.acceptor.order };
      past = past_sooner j.past is.past;
      counted = is.counted;
      few = is.few;
      clean = record { reach = is.clean.reach; unbroken = unbroken_sooner (low_of j.reach.tag) (reach_up t j.reach g is.clean.reach before) is.clean.unbroken };
    }

  -- rows at hand that are up to the tag
  going_sooner : (done rows : List Row) (k : Going) → ((i : ℕ) (x : Row) → slice_get rows i ≡ Some x → UpTo x.tag g) → IsGoing plan done rows k → IsGoing sooner done rows (record k { stop = earlier g k.stop })
  going_sooner done rows k up is = record {
    within = is.within;
    ended = is.ended;
    few = is.few;
    runs = is.runs;
    stop_is = ap (λ (h : Tag). earlier g h) is.stop_is ∙ sym (stop_sooner (done ++ take k.passed rows));
    passes = record { effects = passes.effects; known = passes.known; kept = λ i x n below at few broken. passes.kept i x n below at few (go n i x broken) };
  }
    where
      own : (i : ℕ) (x : Row) → i < k.passed → slice_get (take k.passed rows) i ≡ Some x → UpTo x.tag (earlier g k.stop)
      own i x below at = up_both x.tag g k.stop (up i x (slice_get_take k.passed rows i x at).1) (⊎_elim (λ b. absurd (is.passes.kept i x 2 below at (omega arith) (inr (inl (refl, b))))) (λ u. u) (order_cases k.stop x.tag))

      passes : HasPassed (earlier g k.stop) plan (take k.passed rows) k.passed k.pass
      passes = nearer_law plan k.stop (earlier g k.stop) (take k.passed rows) k.passed k.pass own is.passes

      go : (n i : ℕ) (x : Row) → BreaksRowUntil (earlier g k.stop) sooner (take k.passed rows) i x n → BreaksRowUntil (earlier g k.stop) plan (take k.passed rows) i x n
      go n i x y = y

  -- a follower whose rows are none of them past the tag
  pub follower_sooner : (t : List Row) (f : Follower) → ((i : ℕ) (x : Row) → slice_get (held_of f) i ≡ Some x → UpTo x.tag g) → AreBefore (done_of t f) g → IsFollowerOf plan t f → IsFollowerOf sooner t (record f { judged = stopped_judged f.judged g; going = record f.going { stop = earlier g f.going.stop } })
  follower_sooner t f up before is = record {
    within = is.within;
    parts = is.parts;
    held = record { judged = judged_sooner (done_of t f) before f.judged is.held.judged; fit = is.held.fit; earlier = is.held.earlier; some = is.held.some };
    going = going_sooner (done_of t f) (held_of f) f.going up is.going;
    at_one = is.at_one;
  }

-- a plan that stops at the tag now, which no row is past
pub follower_stopped : (plan new : PlanParts) (g : Tag) (f : Follower) (judged : Judged) (going : Going) → new ≡ stopped_at plan g → judged ≡ stopped_judged f.judged g → going ≡ record f.going { stop = earlier g f.going.stop } → ((x : Row) → slice_get (held_of f) 0 ≡ Some x → ¬ Before g x.tag) → (t : List Row) → IsFollowerOf plan t f → IsFollowerOf new t (record { judged = judged; going = going; rows = f.rows; held = f.held })
follower_stopped plan new g f judged going sooner_is judged_is going_is not t is =
    subst (λ (p : PlanParts). IsFollowerOf p t (record { judged = judged; going = going; rows = f.rows; held = f.held })) (sym sooner_is)
    (subst (λ (j : Judged). IsFollowerOf (stopped_at plan g) t (record { judged = j; going = going; rows = f.rows; held = f.held })) (sym judged_is)
    (subst (λ (k : Going). IsFollowerOf (stopped_at plan g) t (record { judged = stopped_judged f.judged g; going = k; rows = f.rows; held = f.held })) (sym going_is)
    (follower_sooner plan g t f (hand_up plan t f g is not) (done_before plan t f g is not) is)))
