-- Inside: what is kept of rows that are judged while they come, and what is told of them.
use Rattle.std.specs.Prelude.{◌≡◌, ℕ, Bool, true, false, ◌+◌, ◌-◌, ◌^◌, ◌≤◌, ◌<◌, ◌⊎◌, List, ◌++◌, length, take, drop, None, Some, slice_get, slice_range, []}
use Rattle.std.specs.List.{insert}
use Rattle.lft_tag.specs.{declared.Tag.Tag, Tags.{Before, earlier}}
use Rattle.lft_ir.specs.{declared.steps.{externals.Event.Event, row.Row.Row}, Steps.{Fits.RowsFit, Inputs.IsTold}}
use Rattle.lft_model.specs.{Plans.PlanParts, Presence.stop, Breaches.First, Accepted.IsAccepted}
use Rattle.lft_rows.specs.inner.Firsts.{FirstRow}
use Rattle.lft_queue.specs.Coming.AtTag.{AreAt, AreBefore}
use Rattle.lft_stream.specs.inner.Kept.{IsAcceptorOf, stopped_stream}
use Rattle.lft_monitor.specs.{Sure.with_inputs, inner.{Kept.IsPastOfRows, Going.{IsGoing, IsGoneTo}}}
use Rattle.lft_monitor.specs.declared.{gone.Going.Going, reach.Reach.Reach, judged.{Judged.Judged, Closing.Closing, Ending.Ending, Unjudged.Unjudged}}
use Rattle.lft_monitor.specs.declared.follower.{Follower.Follower, Hitch.Hitch, Progress.{Progress, TheVariants.{GoesOn, Broken, Odd, TooMany}}}
use Rattle.lft_monitor.specs.declared.follower.Receipt.{Receipt}
use Rattle.lft_monitor.specs.Follows.{IsCleanSoFar, IsJudged, HasManyLater, breach_of, IsQuiet, KeepsButLast, IsSureSoFar, AreTooMany, IsFirstUpToLast}
use Rattle.lft_monitor.specs.declared.judged.Closing.TheVariants as closing
use Rattle.lft_monitor.specs.declared.judged.Ending.TheVariants as ending
use Rattle.lft_monitor.specs.declared.follower.Hitch.TheVariants as hitch
use Rattle.lft_monitor.specs.declared.follower.Receipt.TheVariants as receipt

-- what is kept of rows that are judged is right for them, and they are clean
pub record IsJudgedOf (plan : PlanParts) (t : List Row) (j : Judged) : Type 0 where
  pub acceptor : IsAcceptorOf plan t j.acceptor
  pub past : IsPastOfRows plan t j.past
  pub counted : j.count ≡ length t
  pub few : j.count ≤ 2 ^ 62 + 4000000
  pub clean : IsCleanSoFar plan t j.reach

-- of rows that are judged what is kept is right but for their acceptor, which may have gone on
pub record AreJudged (plan : PlanParts) (t : List Row) (j : Judged) : Type 0 where
  pub past : IsPastOfRows plan t j.past
  pub counted : j.count ≡ length t
  pub few : j.count ≤ 2 ^ 62 + 4000000
  pub rows : FirstRow (stop plan t) plan t None

-- what is kept of rows that are judged, with the tag for its stop, where that is earlier
abbrev pub stopped_judged : Judged → Tag → Judged
stopped_judged j g = record j { acceptor = record j.acceptor { stream = stopped_stream j.acceptor.stream g }; past = record j.past { stop = earlier g j.past.stop } }

-- the rows that the follower has judged
abbrev pub done_of : List Row → Follower → List Row
done_of t f = take f.judged.count t

-- the rows that the follower holds
abbrev pub held_of : Follower → List Row
held_of f = take f.held f.rows.items

-- the rows behind these, which it goes past next
abbrev pub next_of : Follower → List Row
next_of f = drop f.held f.rows.items

-- rows are at hand behind those that are judged, and at later tags
pub record IsHeld (plan : PlanParts) (done rows : List Row) (j : Judged) : Type 0 where
  pub judged : IsJudgedOf plan done j
  pub fit : RowsFit plan.program rows
  pub earlier : (x : Row) → slice_get rows 0 ≡ Some x → AreBefore done x.tag
  pub some : rows ≡ [] → done ≡ []

-- the follower has judged all rows but those at the last tag, which it holds, and has gone over some of these; what it goes past next isn't among the rows
pub record IsFollowerOf (plan : PlanParts) (t : List Row) (f : Follower) : Type 0 where
  pub within : f.held ≤ length f.rows.items
  pub parts : t ≡ done_of t f ++ held_of f
  pub held : IsHeld plan (done_of t f) (held_of f) f.judged
  pub going : IsGoing plan (done_of t f) (held_of f) f.going
  pub at_one : (g : Tag) × AreAt (held_of f) g

-- and it has gone past all of its rows
abbrev pub HasGonePast : PlanParts → List Row → Follower → Type 0
HasGonePast plan t f = IsFollowerOf plan t f × (next_of f ≡ [])

-- more rows are followed on: nothing is to be told of all, and no fewer are judged than before
pub record IsFollowedOn (plan : PlanParts) (t more : List Row) (old new : Follower) : Type 0 where
  pub follows : IsFollowerOf plan (t ++ more) new
  pub quiet : IsQuiet plan (t ++ more)
  pub further : length (done_of t old) ≤ length (done_of (t ++ more) new)

-- the new plan has one more external event, put at a place among the others
pub record HasOneMoreEvent (old new : PlanParts) (event : Event) : Type 0 where
  pub program : new.program ≡ old.program
  pub stop : new.externals.stop ≡ old.externals.stop
  pub place : ℕ
  pub within : place ≤ length old.externals.events
  pub events : new.externals.events ≡ insert old.externals.events place event

-- what is said of an event that is told: the plan has it now, or stays as it was since an event of its action is at its tag already, or there are too many, too many are later, or it is late
abbrev pub IsReceipt : PlanParts → PlanParts → Event → Receipt → Type 0
IsReceipt old new event receipt.Taken = HasOneMoreEvent old new event
IsReceipt old new event receipt.Late = new ≡ old
IsReceipt old new event receipt.Again = (new ≡ old) × IsTold old.externals.events event
IsReceipt old new event receipt.TooMany = (new ≡ old) × (4000000 ≤ length old.externals.events)
IsReceipt old new event receipt.ManyLater = (new ≡ old) × HasManyLater old.externals.events event.tag

-- the plan with the tag for its stop, where that is earlier than its own
abbrev pub stopped_at : PlanParts → Tag → PlanParts
stopped_at plan g = with_inputs plan (record { stop = earlier g plan.externals.stop; events = plan.externals.events })

-- the rows from the first place up to the end are at the tag of the last of them
pub record AreAtLastTag (rows : List Row) (end first : ℕ) : Type 0 where
  pub up : first ≤ end
  pub at_one : (i : ℕ) (x z : Row) → first ≤ i → i < end → slice_get rows i ≡ Some x → slice_get rows (end - 1) ≡ Some z → x.tag ≡ z.tag

-- and the row before is at another tag
pub record BeginsLast (rows : List Row) (end first : ℕ) : Type 0 where
  pub last : AreAtLastTag rows end first
  pub some : 0 < end → first < end
  pub other : (x z : Row) → 0 < first → slice_get rows (first - 1) ≡ Some x → slice_get rows (end - 1) ≡ Some z → ¬ (x.tag ≡ z.tag)

-- the line is that of a row behind the first n, and the next row is at a later tag
pub record IsOddBehind (t : List Row) (n line : ℕ) : Type 0 where
  pub place : ℕ
  pub row : Row
  pub next : Row
  pub is_row : slice_get t place ≡ Some row
  pub is_next : slice_get t (place + 1) ≡ Some next
  pub before : Before row.tag next.tag
  pub behind : n ≤ place
  pub line_is : line ≡ place + 2

-- of rows that came before more, those but the ones at the last tag are clean, and reach so far; the line is that of a row behind these, and the next row is at a later tag
pub record IsOdd (plan : PlanParts) (t more : List Row) (r : Reach) (line : ℕ) : Type 0 where
  pub judged : IsJudged plan t r
  pub odd : IsOddBehind (t ++ more) (length judged.done) line

-- why rows aren't gone past of which the first n are judged: a breach is sure behind some of them; or up to the line they are odd
abbrev pub IsHitch : PlanParts → List Row → ℕ → Hitch → Type 0
IsHitch plan t n (hitch.Broken b) = IsSureSoFar plan t (breach_of b)
IsHitch plan t n (hitch.Odd line) = IsOddBehind t n line

-- what is told of rows and more behind them: nothing is to be told, and all are gone past; a breach is sure behind some of them; they are odd; or they are too many
abbrev pub TellsProgress : PlanParts → List Row → List Row → Follower → Progress → Type 0
TellsProgress plan t more f GoesOn = HasGonePast plan (t ++ more) f × IsQuiet plan (t ++ more)
TellsProgress plan t more f (Broken b) = IsSureSoFar plan (t ++ more) (breach_of b)
TellsProgress plan t more f (Odd r line) = IsOdd plan t more r line
TellsProgress plan t more f TooMany = AreTooMany (t ++ more)

-- the rows are clean, all or but those at the last tag, and reach so far
abbrev pub IsReached : PlanParts → List Row → Reach → Type 0
IsReached plan t r = IsJudged plan t r ⊎ IsCleanSoFar plan t r

-- what is told of the rows where no more come: they are accepted; or, where some may be missing, they are clean, all or but those at the last tag; or this is their first breach, where none is missing
abbrev pub IsEnding : PlanParts → Bool → List Row → Ending → Type 0
IsEnding plan whole t (ending.Accepted c) = IsAccepted plan t c.runs c.tags
IsEnding plan whole t (ending.Unbroken r) = (whole ≡ false) × IsReached plan t r
IsEnding plan whole t (ending.Broken b) = (whole ≡ true) × First plan t (breach_of b)

-- what is told of rows that are all up to their last tag: they are clean, and reach so far; or this is their first breach, and not behind that tag
abbrev pub IsClosing : PlanParts → List Row → Closing → Type 0
IsClosing plan t (closing.Unbroken r) = IsCleanSoFar plan t r
IsClosing plan t (closing.Broken b) = IsFirstUpToLast plan t (breach_of b)

-- the rows can't be judged up to their last line, and reach so far
abbrev pub IsUnjudged : PlanParts → List Row → Unjudged → Type 0
IsUnjudged plan t u = IsReached plan t u.reach × (u.line ≡ length t + 1)

-- rows at hand behind those that are done are gone over up to an end, and their last tag begins at a place
pub record IsTurn (plan : PlanParts) (done rows : List Row) (begin end : ℕ) : Type 0 where
  pub gone : IsGoneTo plan done rows end
  pub begins : BeginsLast rows end begin
  pub kept : KeepsButLast plan (done ++ take end rows)

-- the rows at hand before the place are judged, those from there on are at one tag, and nothing is to be told of them
pub record IsJudgedTo (plan : PlanParts) (done rows : List Row) (j : Judged) (g : Going) (begin : ℕ) : Type 0 where
  pub within : begin ≤ length rows
  pub held : IsHeld plan (done ++ slice_range rows 0 begin) (slice_range rows begin (length rows)) j
  pub going : IsGoing plan (done ++ slice_range rows 0 begin) (slice_range rows begin (length rows)) g
  pub at_one : (h : Tag) × AreAt (slice_range rows begin (length rows)) h
  pub quiet : IsQuiet plan (done ++ rows)
