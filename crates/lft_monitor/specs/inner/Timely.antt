-- What is kept of finished tags, and when it shows that nothing is broken so far.
use Rattle.std.specs.Prelude.{◌≡◌, ℕ, List, Some, slice_get}
use Rattle.lft_tag.specs.{declared.Tag.Tag, Tags.UpTo}
use Rattle.lft_ir.specs.declared.{parts.Name.Name, steps.row.Row.Row}
use Rattle.lft_model.specs.{declared.breach.Breach.Breach, Plans.PlanParts, Presence.stop, Runs.Ran, Breaches.TagBreach}
use Rattle.lft_stream.specs.{declared.due.Due.{Due, TheVariants.AtTag}, inner.{Dues.{AreDues, NoneDueBefore}, Streams.{State, IsStream}}}
use Rattle.lft_monitor.specs.Sure.{IsUnbroken}

-- the state has come to low: each name is done with before it, and nothing is due before it
pub record HasComeTo (plan : PlanParts) (t : List Row) (low : Tag) (s : State) : Type 0 where
  pub lows : (n : Name) → UpTo low (s.lows n)
  pub dues : NoneDueBefore (stop plan t) low s.dues

-- a right state that has come to low shows that nothing is broken so far
abbrev pub TimelyLaw : PlanParts → Type 0
TimelyLaw plan = (t : List Row) (low : Tag) (s : State) → IsStream plan t s → HasComeTo plan t low s → IsUnbroken plan t low

-- the breach of rule 7 by reaction r at g
abbrev pub not_run : Tag → ℕ → Breach
not_run g r = record { rule = 7; tag = g; reaction = Some r; row = 0 }

-- where a trigger of a reaction is due at a tag up to the stop, and the reaction has no run there, rule 7 is broken there
abbrev pub OverdueLaw : PlanParts → Type 0
OverdueLaw plan = (t : List Row) (dues : List (List Due)) (r k : ℕ) (list : List Due) (g : Tag) (period : ℕ) → AreDues plan t dues → slice_get dues r ≡ Some list → slice_get list k ≡ Some (AtTag g period) → UpTo g (stop plan t) → ¬ Ran t g r → TagBreach plan t (not_run g r)
