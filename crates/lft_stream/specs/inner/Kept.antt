-- Inside: what is kept of rows at finished tags, and what is asked of the next ones.
use Rattle.std.specs.Prelude.{◌≡◌, true, false, ℕ, ◌<◌, ◌≤◌, List, ◌++◌, length, Option, Some, None, IsSome, MatchOption, IfSome, slice_get, slice_range, []}
use Rattle.lft_tag.specs.{declared.Tag.Tag, Tags.{Before, UpTo, earlier}}
use Rattle.lft_ir.specs.declared.{parts.{Value.Value, Name.{Name, TheVariants.Port}}, steps.{externals.Event.Event, row.Row.Row}}
use Rattle.lft_model.specs.{Plans.PlanParts, Presence.{stop, Triggered, Inputs, Shows}, Runs.{Ran, reads_at}}
use Rattle.lft_graph.specs.inner.Sets.{AreAncestors}
use Rattle.lft_rows.specs.{inner.{Firsts.FirstRow, Marks.IsLaid, Passes.IsPass}, declared.slices.Slice.Slice}
use Rattle.lft_stream.specs.declared.{acceptor.Acceptor.Acceptor, stream.Stream.Stream}
use Rattle.lft_stream.specs.{inner.{Dues.AreDues, StartTags.AreStartTags, Streams.{State, IsStream}}, Kept.low_of}
use Rattle.lft_queue.specs.inner.Coming.{AtOnce.{is_undelayed, MayHaveEvents, IsAwaited, AreHeard}, Channels.AreReadChannels, Unread.AreUnread, Lanes.held}
use Rattle.lft_queue.specs.inner.Coming.{Listeners.{AreNameListeners, AreStarted}, Coming.{AreComing, AreTaken, IsClear}, Writes.{AreWrites, AreEarlierWrites}}
use Rattle.lft_queue.specs.inner.Reading.{is_read}
use Rattle.lft_queue.specs.{Coming.AtTag.AreBefore, Pending.value_of}

-- no row breaks one of the rules 1 to 5, with some stop
abbrev pub KeepRules : PlanParts → List Row → Type 0
KeepRules plan t = (last : Tag) × FirstRow last plan t None

-- g is later than the tag, if there is one
abbrev pub IsLater : Option Tag → Tag → Type 0
IsLater last g = MatchOption last (Unit {0}) (λ h. Before h g)

-- no row is past the tag; where there is none, there is no row
abbrev pub AreUpToLast : List Row → Option Tag → Type 0
AreUpToLast t last = MatchOption last (t ≡ []) (λ g. (i : ℕ) (x : Row) → slice_get t i ≡ Some x → UpTo x.tag g)

-- the tag, if there is one, is that of a row
abbrev pub IsOfRow : List Row → Option Tag → Type 0
IsOfRow t last = MatchOption last (Unit {0}) (λ g. (i : ℕ) × (x : Row) × (slice_get t i ≡ Some x) × (x.tag ≡ g))

-- there are external events up to the place, and none of them is past the tag; where there is no tag, the place is the first
abbrev pub HaveCome : List Event → Option Tag → ℕ → Type 0
HaveCome events last place = MatchOption last (place ≡ 0) (AreTaken events 0 place)

-- what is kept, with the tag for its stop, where that is earlier
abbrev pub stopped_stream : Stream → Tag → Stream
stopped_stream s g = record s { stop = earlier g s.stop }

-- the state that is kept, with these lanes, done with before a tag
abbrev pub state_of : (Name → List (Tag × Value)) → Tag → Stream → State
state_of lanes low s = record { lows = λ n. low; queues = lanes; dues = s.dues; runs = s.runs; tags = s.tags }

-- what is kept is right for the rows so far, all at finished tags
pub record IsStreamOf (plan : PlanParts) (t : List Row) (s : Stream) : Type 0 where
  pub lanes : Name → List (Tag × Value)
  pub none : (p : ℕ) (h : Tag) → is_undelayed plan.program p ≡ true → UpTo (low_of s.tag) h → held (lanes (Port p)) h ≡ []
  pub coming : AreComing plan (low_of s.tag) s.stop lanes s.coming
  pub come : HaveCome plan.externals.events s.tag s.coming.next
  pub alone : (p : ℕ) (h : Tag) → is_read plan.program p ≡ false → UpTo (low_of s.tag) h → UpTo h s.stop → IsClear s.coming.clash h → length (held (lanes (Port p)) h) < 2
  pub state : IsStream plan t (state_of lanes (low_of s.tag) s)
  pub stop_is : s.stop ≡ stop plan t
  pub up_to : AreUpToLast t s.tag
  pub of_row : IsOfRow t s.tag
  pub writes : AreEarlierWrites plan.program (low_of s.tag) s.writes
  pub starts : AreStartTags plan.program t s.starts
  pub listeners : AreNameListeners plan s.listeners
  pub channels : AreReadChannels plan.program s.channels
  pub unread : AreUnread plan.program t s.unread

-- what is kept is right for the rows so far, and what they are looked up in is of the program
pub record IsAcceptorOf (plan : PlanParts) (t : List Row) (a : Acceptor) : Type 0 where
  pub stands : IsStreamOf plan t a.stream
  pub pass : IsPass plan.program a.pass
  pub laid : IsLaid plan.program a.marks
  pub order : IfSome a.order (AreAncestors plan.program)

-- each row before the place is at an earlier tag than each from there on
abbrev pub RisesAt : List Row → ℕ → Type 0
RisesAt t n = (i j : ℕ) (x y : Row) → i < n → n ≤ j → slice_get t i ≡ Some x → slice_get t j ≡ Some y → Before x.tag y.tag

-- the rows of a slice are at hand behind those that are done: what is kept is right for them, but for what is written, which is of those before
pub record IsAtHand (plan : PlanParts) (done rows : List Row) (s : Slice) (stream : Stream) : Type 0 where
  pub earlier : AreBefore done s.tag
  pub ran : (r : ℕ) → Ran rows s.tag r → Ran (done ++ slice_range rows s.first s.end) s.tag r
  pub stop_is : stream.stop ≡ stop plan (done ++ slice_range rows s.first s.end)
  pub dues : AreDues plan (done ++ slice_range rows s.first s.end) stream.dues
  pub writes : AreEarlierWrites plan.program s.tag stream.writes
  pub starts : AreStartTags plan.program (done ++ slice_range rows s.first s.end) stream.starts
  pub listeners : AreNameListeners plan stream.listeners
  pub channels : AreReadChannels plan.program stream.channels
  pub queued : (n : Name) → MayHaveEvents plan.program n → IsAwaited plan.program n → Shows plan (done ++ slice_range rows s.first s.end) s.tag n (value_of s.tag n stream.coming.queue)

-- the runs of the slice are triggered and read what is present, the ports that it writes and the events of the queue at its tag are heard, and what is kept is right for the slice too
pub record IsJudged (plan : PlanParts) (done rows : List Row) (s : Slice) (stream : Stream) : Type 0 where
  pub triggered : (r : ℕ) → Ran rows s.tag r → Triggered plan (done ++ slice_range rows s.first s.end) s.tag r
  pub reads : (r : ℕ) → Ran rows s.tag r → Inputs plan (done ++ slice_range rows s.first s.end) s.tag r (reads_at plan rows s.tag r)
  pub heard : AreHeard plan (done ++ slice_range rows s.first s.end) (slice_range rows s.first s.end) s.tag
  pub dues : AreDues plan (done ++ slice_range rows s.first s.end) stream.dues
  pub writes : AreWrites plan.program (slice_range rows s.first s.end) s.tag stream.writes
  pub starts : AreStartTags plan.program (done ++ slice_range rows s.first s.end) stream.starts
  pub listeners : AreNameListeners plan stream.listeners
  pub met : (n : Name) → IsSome (value_of s.tag n stream.coming.queue) → AreStarted (done ++ slice_range rows s.first s.end) s.tag stream.listeners n
