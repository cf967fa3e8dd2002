-- Ports that are reached without a delay, and those behind one.
use Rattle.std.specs.Prelude.{◌≡◌, ℕ, ◌==◌, ◌&&◌, Bool, true, false, List, [], length, Some, slice_get, Contains, unwrap_or, option_map}
use Rattle.lft_tag.specs.declared.Tag.{Tag}
use Rattle.lft_ir.specs.{Parts.Parts, Origins.Origin}
use Rattle.lft_ir.specs.declared.{parts.{Value.Value, Name.{Name, TheVariants.{Port, Action}}, Trigger.TheVariants.On}, steps.row.Row.Row}
use Rattle.lft_model.specs.{Plans.PlanParts, Presence.Last, Runs.Ran}
use Rattle.lft_queue.specs.inner.{Reading.is_read, Coming.Listens.Listens}

-- the test of a port that lies behind no delay
abbrev pub is_undelayed : Parts → ℕ → Bool
is_undelayed program p = unwrap_or (option_map (λ x. (x.shift.time == 0) && (x.shift.steps == 0)) (slice_get program.ports p)) true

-- the origin that is kept with a port
abbrev pub origin_of : Parts → ℕ → ℕ
origin_of program p = unwrap_or (option_map (λ x. x.origin) (slice_get program.ports p)) 0

-- a name that has events: a port behind a delay, or an action
abbrev pub MayHaveEvents : Parts → Name → Type 0
MayHaveEvents program (Port p) = is_undelayed program p ≡ false
MayHaveEvents program (Action a) = Unit {0}

-- an action, or a port that passes the test
abbrev pub Passes : (ℕ → Bool) → Name → Type 0
Passes test (Port p) = test p ≡ true
Passes test (Action a) = Unit {0}

-- somebody waits for the name's events: it is an action, or a port that some reaction reads
abbrev pub IsAwaited : Parts → Name → Type 0
IsAwaited program n = Passes (is_read program) n

-- as many lists, each with all that it had
pub record HaveGrown (old new : List (List ℕ)) : Type 0 where
  pub as_long : length new ≡ length old
  pub kept : (o r : ℕ) (list more : List ℕ) → slice_get old o ≡ Some list → slice_get new o ≡ Some more → Contains list r → Contains more r

-- each reaction that a port triggers which the rows u at g write has a run there, by whatever port it is reached without a delay
abbrev pub AreHeard : PlanParts → List Row → List Row → Tag → Type 0
AreHeard plan t u g = (p o r : ℕ) (v : Value) → Origin plan.program p o [] → Last u g o v → Listens plan r (On (Port p)) → Ran t g r
