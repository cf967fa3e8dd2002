-- The judge's whole state: it begins right, stays right over the rows of a later tag, and accepts what is legal.
use Rattle.std.proofs.Common.{◌≡◌, ℕ, ◌+◌, ◌<◌, List, [], ◌++◌, refl, sym, subst, arith, Some, slice_get}
use Rattle.lft_tag.specs.{declared.Tag.Tag, Tags.UpTo}
use Rattle.lft_ir.specs.Origins.{Origin}
use Rattle.lft_ir.specs.declared.parts.{Value.Value, Name.{Name, TheVariants.{Port, Action}}, Trigger.{Trigger, TheVariants.{Startup, Shutdown, Timer, On}}}
use Rattle.lft_ir.specs.declared.steps.row.Row.{Row}
use Rattle.lft_model.{specs.{Plans.PlanParts, Runs.{start_row, Ran}, Accepted.{IsAccepted, runs_in}}, proofs.Places.slice_get_within}
use Rattle.lft_stream.specs.inner.{Settled.IsRightBehind, Counted.AreRunsCounted, Owed.{IsMet, AreCausesApart}, Dues.{AreDues, timed}}
use Rattle.lft_stream.specs.inner.Streams.{State, first_state, IsStream, IsMetUpToStop, IsGrown}
use Rattle.lft_stream.specs.declared.due.Due.{Due}
use Rattle.lft_stream.proofs.{Settling.{step_law, legal_of}, Counting.count_law, Owing.{parts_law, due_law}, Lanes.{LaneLaw, lane_law}}
use Rattle.lft_queue.specs.inner.Coming.Lanes.{made, carried, IsLane, LaneGoesOn}

-- the whole: the first state is right for no rows; the rows of one later tag, right behind those so far, lead to a right state; and with a right state that has nothing left the rows are accepted, with its counts
pub record StreamLaw (plan : PlanParts) : Type 0 where
  pub begins : (dues : List (List Due)) → AreDues plan [] dues → IsStream plan [] (first_state plan dues)
  pub grows : (d u : List Row) (g : Tag) (r : ℕ) (old new : State) → IsStream plan d old → IsRightBehind plan d u g → Ran u g r → IsGrown plan d u g old new → IsStream plan (d ++ u) new
  pub accepts : (t : List Row) (s : State) → IsStream plan t s → IsMetUpToStop plan t s → IsAccepted plan t s.runs s.tags

-- no rows have none
no_place : {X : Type 0} (i : ℕ) (x : X) → ¬ (slice_get [] i ≡ Some x)
no_place i x e = let l : i < 0 = slice_get_within [] i x e in omega arith

module _ (plan : PlanParts) where
  laws : LaneLaw plan
  laws = lane_law plan

  begins_stream : (dues : List (List Due)) → AreDues plan [] dues → IsStream plan [] (first_state plan dues)
  begins_stream dues due = record {
    settled = record { rows = λ b o. absurd (no_place o.place o.row o.is_row); runs = λ g r o. absurd (never g r o) };
    counted = record { runs_are = refl; tags_are = ([], record { ascending = λ j k g h l p q. absurd (no_place j g p); ran = λ k g p. absurd (no_place k g p); each = λ g r o. absurd (never g r o) }, refl) };
    actions = λ a. laws.begins (Action a);
    ports = λ p o ds way. laws.begins (Port p);
    dues = due;
  }
    where
      never : (g : Tag) (r : ℕ) → ¬ Ran [] g r
      never g r o = no_place o.place (start_row o.worker g r) o.starts

  module _ (d u : List Row) (g : Tag) (old new : State) (stream : IsStream plan d old) (right : IsRightBehind plan d u g) (grown : IsGrown plan d u g old new) where
    moved : (n : Name) (queue : List (Tag × Value)) → new.queues n ≡ queue → IsLane plan (d ++ u) n (old.lows n) queue → IsLane plan (d ++ u) n (new.lows n) (new.queues n)
    moved n queue e lane = subst (λ (low : Tag). IsLane plan (d ++ u) n low (new.queues n)) (sym (grown.lows n)) (subst (λ (q : List (Tag × Value)). IsLane plan (d ++ u) n (old.lows n) q) (sym e) lane)

    action_grows : (a : ℕ) → IsLane plan (d ++ u) (Action a) (new.lows (Action a)) (new.queues (Action a))
    action_grows a = moved (Action a) (old.queues (Action a) ++ made plan u a) (grown.actions a) (laws.schedules d u a (old.lows (Action a)) (old.queues (Action a)) (λ i x e. subst (λ (z : Tag). UpTo (old.lows (Action a)) z) (sym (right.at_tag i x e)) (grown.reached (Action a))) (stream.actions a))

    port_grows : (p o : ℕ) (ds : List ℕ) → Origin plan.program p o ds → IsLane plan (d ++ u) (Port p) (new.lows (Port p)) (new.queues (Port p))
    port_grows p o ds way = moved (Port p) (old.queues (Port p) ++ carried u g o ds) (grown.ports p o ds way) (laws.writes d u g p o ds (old.lows (Port p)) (old.queues (Port p)) way right.earlier right.at_tag (grown.reached (Port p)) (stream.ports p o ds way))

    stream_grows : (r : ℕ) → Ran u g r → IsStream plan (d ++ u) new
    stream_grows r o = record {
      settled = step_law plan d u g stream.settled right;
      counted = subst (λ (k : ℕ). AreRunsCounted (d ++ u) k new.tags) (sym grown.runs) (subst (λ (k : ℕ). AreRunsCounted (d ++ u) (old.runs + runs_in u) k) (sym grown.tags) (count_law d u g r old.runs old.tags right.earlier right.at_tag o stream.counted));
      actions = action_grows;
      ports = port_grows;
      dues = grown.dues;
    }

  module _ (t : List Row) (s : State) (stream : IsStream plan t s) (ended : IsMetUpToStop plan t s) where
    port_ends : (p o : ℕ) (ds : List ℕ) → Origin plan.program p o ds → IsMet plan t (On (Port p)) × AreCausesApart plan t (Port p)
    port_ends p o ds way = laws.ends t (Port p) (s.lows (Port p)) (s.queues (Port p)) (ended.lows (Port p)) (stream.ports p o ds way)

    action_ends : (a : ℕ) → IsMet plan t (On (Action a)) × AreCausesApart plan t (Action a)
    action_ends a = laws.ends t (Action a) (s.lows (Action a)) (s.queues (Action a)) (ended.lows (Action a)) (stream.actions a)

    name_met : (n : Name) → IsMet plan t (On n)
    name_met (Port p) = λ h r up z l. (port_ends p z.1.1.origin z.1.1.delays z.1.1.is_origin).0 h r up z l
    name_met (Action a) = (action_ends a).0

    name_apart : (n : Name) → AreCausesApart plan t n
    name_apart (Port p) = λ h up c. (port_ends p c.is_first.origin c.is_first.delays c.is_first.is_origin).1 h up c
    name_apart (Action a) = (action_ends a).1

    timed_met : (x : Trigger) → timed x ≡ Some x → IsMet plan t x
    timed_met x is_timed = (due_law plan).meets t s.dues stream.dues ended.dues x is_timed

    trigger_met : (x : Trigger) → IsMet plan t x
    trigger_met Startup = timed_met Startup refl
    trigger_met Shutdown = timed_met Shutdown refl
    trigger_met (Timer n) = timed_met (Timer n) refl
    trigger_met (On n) = name_met n

    stream_accepts : IsAccepted plan t s.runs s.tags
    stream_accepts = record { legal = legal_of plan t stream.settled (parts_law plan t trigger_met name_apart); runs_are = stream.counted.runs_are; tags_are = stream.counted.tags_are }

pub stream_law : (plan : PlanParts) → StreamLaw plan
stream_law plan = record {
  begins = λ dues due. begins_stream plan dues due;
  grows = λ d u g r old new stream right o grown. stream_grows plan d u g old new stream right grown r o;
  accepts = λ t s stream ended. stream_accepts plan t s stream ended;
}

-- lanes go on, and all else is as it was
pub record IsMoved (plan : PlanParts) (t : List Row) (old new : State) : Type 0 where
  pub lanes : (n : Name) → LaneGoesOn plan t n (old.lows n) (old.queues n) (new.lows n) (new.queues n)
  pub dues : new.dues ≡ old.dues
  pub runs : new.runs ≡ old.runs
  pub tags : new.tags ≡ old.tags

-- what is kept stays right where lanes go on
abbrev pub MoveLaw : PlanParts → Type 0
MoveLaw plan = (t : List Row) (old new : State) → IsStream plan t old → IsMoved plan t old new → IsStream plan t new

module _ (plan : PlanParts) (t : List Row) (old new : State) (stream : IsStream plan t old) (moved : IsMoved plan t old new) where
  lane_moves : (n : Name) → IsLane plan t n (old.lows n) (old.queues n) → IsLane plan t n (new.lows n) (new.queues n)
  lane_moves n lane = (lane_law plan).goes t n (old.lows n) (new.lows n) (old.queues n) (new.queues n) (moved.lanes n) lane

  stream_moves : IsStream plan t new
  stream_moves = record {
    settled = stream.settled;
    counted = subst (λ (k : ℕ). AreRunsCounted t k new.tags) (sym moved.runs) (subst (λ (k : ℕ). AreRunsCounted t old.runs k) (sym moved.tags) stream.counted);
    actions = λ a. lane_moves (Action a) (stream.actions a);
    ports = λ p o ds way. lane_moves (Port p) (stream.ports p o ds way);
    dues = subst (λ (dues : List (List Due)). AreDues plan t dues) (sym moved.dues) stream.dues;
  }

pub move_law : (plan : PlanParts) → MoveLaw plan
move_law plan t old new stream moved = stream_moves plan t old new stream moved
