-- The judge's whole state, and when it may accept.
use Rattle.std.specs.Prelude.{◌≡◌, ℕ, ◌+◌, List, ◌++◌}
use Rattle.lft_tag.specs.{declared.Tag.Tag, Tags.{Before, UpTo}}
use Rattle.lft_ir.specs.{Origins.Origin, declared.{parts.{Value.Value, Name.{Name, TheVariants.{Port, Action}}}, steps.row.Row.Row}}
use Rattle.lft_model.specs.{Plans.PlanParts, Presence.stop, Accepted.runs_in}
use Rattle.lft_stream.specs.{inner.{Settled.AreRowsSettled, Counted.AreRunsCounted, Dues.{AreDues, NoneOwed}}, declared.due.Due.Due}
use Rattle.lft_queue.specs.inner.Coming.Lanes.{first_events, made, carried, IsLane}

-- what is kept: of each name its lane and the tag up to which it is done with, when each trigger is due, and the numbers of runs and tags
pub record State : Type 0 where
  pub lows : Name → Tag
  pub queues : Name → List (Tag × Value)
  pub dues : List (List Due)
  pub runs : ℕ
  pub tags : ℕ

-- before the first row
abbrev pub first_state : PlanParts → List (List Due) → State
first_state plan dues = record { lows = λ n. record { time = 0; micro = 0 }; queues = first_events plan; dues = dues; runs = 0; tags = 0 }

-- the state is right for the rows so far, all at finished tags
pub record IsStream (plan : PlanParts) (t : List Row) (s : State) : Type 0 where
  pub settled : AreRowsSettled plan t
  pub counted : AreRunsCounted t s.runs s.tags
  pub actions : (a : ℕ) → IsLane plan t (Action a) (s.lows (Action a)) (s.queues (Action a))
  pub ports : (p o : ℕ) (delays : List ℕ) → Origin plan.program p o delays → IsLane plan t (Port p) (s.lows (Port p)) (s.queues (Port p))
  pub dues : AreDues plan t s.dues

-- nothing is left to be met up to the stop
pub record IsMetUpToStop (plan : PlanParts) (t : List Row) (s : State) : Type 0 where
  pub dues : NoneOwed (stop plan t) s.dues
  pub lows : (n : Name) → Before (stop plan t) (s.lows n)

-- the state over the rows u at g: the lanes have their events behind, and what is due is so with these rows
pub record IsGrown (plan : PlanParts) (d u : List Row) (g : Tag) (old new : State) : Type 0 where
  pub lows : (n : Name) → new.lows n ≡ old.lows n
  pub reached : (n : Name) → UpTo (old.lows n) g
  pub actions : (a : ℕ) → new.queues (Action a) ≡ old.queues (Action a) ++ made plan u a
  pub ports : (p o : ℕ) (delays : List ℕ) → Origin plan.program p o delays → new.queues (Port p) ≡ old.queues (Port p) ++ carried u g o delays
  pub dues : AreDues plan (d ++ u) new.dues
  pub runs : new.runs ≡ old.runs + runs_in u
  pub tags : new.tags ≡ old.tags + 1
