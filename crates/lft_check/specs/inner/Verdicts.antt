-- Inside: the verdict, and the least breach of a kind.
use Rattle.std.specs.Prelude.{◌≡◌, ℕ, ◌<◌, ◌≤◌, List, length, Option, Some, MatchOption, slice_get}
use Rattle.lft_tag.specs.{declared.Tag.Tag, Tags.{Before, UpTo}}
use Rattle.lft_ir.specs.declared.steps.row.Row.{Row}
use Rattle.lft_model.specs.{declared.breach.Breach.Breach, Plans.PlanParts, Presence.{Triggered, Inputs, Collision}, Runs.{Ran, reads_at}}
use Rattle.lft_model.specs.{Breaches.{TagOrder, RowBreach, TagBreach, IsTooEarly}, inner.Breaches.BreaksTag}
use Rattle.lft_rows.specs.{declared.slices.Slice.Slice, Presence.Traces.TraceParts}
use Rattle.lft_check.specs.declared.fault.FromFault.{FromFault, TheVariants.{RowBroken, EarlyCollision, Refused}}

-- of the breaches of a kind the least, if any
abbrev pub LeastOf : (Breach → Type 0) → Option Breach → Type 0
LeastOf P o = MatchOption o ((c : Breach) → ¬ P c) (λ b. P b × ((c : Breach) → P c → TagOrder b c))

-- of the numbers of a kind the least, if any
abbrev pub LeastSuch : (ℕ → Type 0) → Option ℕ → Type 0
LeastSuch P o = MatchOption o ((r : ℕ) → ¬ P r) (λ r. P r × ((a : ℕ) → P a → r ≤ a))

-- r has a run at g and isn't triggered there
abbrev pub NotTriggered : TraceParts → Tag → ℕ → Type 0
NotTriggered cut g r = Ran cut.rows g r × (¬ Triggered cut.plan cut.rows g r)

-- the run of r at g started before the end of one that precedes it
abbrev pub TooEarly : TraceParts → Tag → ℕ → Type 0
TooEarly cut g r = Ran cut.rows g r × IsTooEarly cut.plan cut.rows g r

-- the run of r at g read something else than its inputs
abbrev pub WrongRead : TraceParts → Tag → ℕ → Type 0
WrongRead cut g r = Ran cut.rows g r × (¬ Inputs cut.plan cut.rows g r (reads_at cut.plan cut.rows g r))

-- the tag lies before the bound, if there is one
abbrev pub IsWithin : Tag → Option Tag → Type 0
IsWithin g o = MatchOption o (Unit {0}) (λ h. Before g h)

-- a reaction breaks one of the rules 8 to 10 at g
pub record BreachAt (cut : TraceParts) (g : Tag) (c : Breach) : Type 0 where
  pub tag_is : c.tag ≡ g
  pub row_is : c.row ≡ 0
  pub reaction : ℕ
  pub reaction_is : c.reaction ≡ Some reaction
  pub above : 7 < c.rule
  pub breaks : BreaksTag cut.plan cut.rows g reaction c.rule

-- a reaction breaks one of the rules 8 to 10 at the tag of a slice from the low-th up to, without, the high-th, before the bound
pub record BreachIn (cut : TraceParts) (slices : List Slice) (bound : Option Tag) (low high : ℕ) (c : Breach) : Type 0 where
  pub place : ℕ
  pub slice : Slice
  pub is_slice : slice_get slices place ≡ Some slice
  pub from : low ≤ place
  pub before : place < high
  pub within : IsWithin slice.tag bound
  pub breach : BreachAt cut slice.tag c

-- one of the rules 6 to 10 is broken at a tag from low on, up to the stop
abbrev pub BreachFrom : PlanParts → List Row → Tag → Breach → Type 0
BreachFrom plan t low c = TagBreach plan t c × UpTo low c.tag

-- the slices below the place are before the tag, and the others are not
pub record IsBegin (slices : List Slice) (low : Tag) (begin : ℕ) : Type 0 where
  pub before : (k : ℕ) (x : Slice) → k < begin → slice_get slices k ≡ Some x → Before x.tag low
  pub from : (k : ℕ) (x : Slice) → begin ≤ k → slice_get slices k ≡ Some x → UpTo low x.tag

-- the tag is not before low, if there is one
abbrev pub IsFrom : Tag → Option Tag → Type 0
IsFrom low o = MatchOption o (Unit {0}) (λ g. UpTo low g)

-- of the breaches of the rules 8 to 10 from low on, before the bound, the least, if any
abbrev pub IsLeastInner : TraceParts → List Slice → Option Tag → Tag → Option Breach → Type 0
IsLeastInner cut slices bound low o = (begin : ℕ) × IsBegin slices low begin × LeastOf (BreachIn cut slices bound begin (length slices)) o

-- why the first breach from low on isn't found: a row breaks one of the rules 1 to 5, two events meet before low, or a growth was refused
abbrev pub IsFromFault : PlanParts → List Row → Tag → FromFault → Type 0
IsFromFault plan t low RowBroken = (b : Breach) × RowBreach plan t b
IsFromFault plan t low EarlyCollision = (g : Tag) × Before g low × Collision plan t g
IsFromFault plan t low Refused = Unit {0}
