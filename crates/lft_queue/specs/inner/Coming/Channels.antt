-- The ports behind delays, and the events that writes carry to them.
use Rattle.std.specs.Prelude.{◌≡◌, ◌≢◌, ℕ, ◌<◌, ◌⊎◌, Bool, true, false, not, cond, ◌&&◌, ◌==◌, List, [], ◌++◌, length, Option, Some, None, slice_get, Contains, unwrap_or, option_map, option_to_list}
use Rattle.lft_tag.specs.{declared.Tag.Tag, Tags.{Before, UpTo}, Shifts.shifted}
use Rattle.lft_ir.specs.Parts.{Parts}
use Rattle.lft_ir.specs.declared.parts.{Port.Port as PortOf, Name.{Name, TheVariants.{Port, Action}}, Value.Value}
use Rattle.lft_ir.specs.declared.steps.{row.{Row.Row, Step.TheVariants.Write}, externals.Event.Event}
use Rattle.lft_model.specs.Plans.{PlanParts}
use Rattle.lft_queue.specs.Pending.{same_key}
use Rattle.lft_queue.specs.inner.Reading.{is_read}
use Rattle.lft_queue.specs.inner.Coming.{AtOnce.{is_undelayed, origin_of}, Coming.{to_come, IsClear, IsNoLater}, Lanes.{held, made}, Shown.last_write}
use Rattle.lft_queue.specs.inner.Coming.Writes.{value_at_tag}
use Rattle.lft_queue.specs.declared.coming.{channels.Channels.Channels, coming.Coming.Coming, writes.Written.Written}

-- the test of a port that lies behind a delay of origin o
abbrev pub is_behind : Parts → ℕ → ℕ → Bool
is_behind program o p = unwrap_or (option_map (λ x. (x.origin == o) && not (is_undelayed program p)) (slice_get program.ports p)) false

-- where a write at g arrives at a port
abbrev pub arrives_at : Parts → Tag → ℕ → Tag
arrives_at program g p = unwrap_or (option_map (λ x. shifted g (x.shift.time, x.shift.steps)) (slice_get program.ports p)) g

-- the value that a write of origin o at g carries to a port, if that is name n and the write arrives at h
abbrev pub value_at_arrival : Parts → ℕ → Tag → Value → Tag → Name → ℕ → Option Value
value_at_arrival program o g v h n p = cond (is_behind program o p && same_key (arrives_at program g p) (Port p) h n) (Some v) None

-- the list of each origin has all ports of it that pass the test and are reached without a delay, or all that pass it and lie behind one
pub record AreChannelsTo (program : Parts) (test : ℕ → Bool) (at_once : Bool) (lists : List (List ℕ)) : Type 0 where
  pub as_long : length lists ≡ length program.ports
  pub each : (p : ℕ) (port : PortOf) (list : List ℕ) → test p ≡ true → slice_get program.ports p ≡ Some port → is_undelayed program p ≡ at_once → slice_get lists port.origin ≡ Some list → Contains list p

-- the lists of each origin have all ports of it that some reaction reads
pub record AreReadChannels (program : Parts) (channels : Channels) : Type 0 where
  pub at_once : AreChannelsTo program (is_read program) true channels.at_once
  pub delayed : AreChannelsTo program (is_read program) false channels.delayed

-- the event that the rows u at g make of a port: one, of its origin's last write
abbrev pub carried_to : Parts → List Row → Tag → ℕ → List (Tag × Value)
carried_to program u g p = option_to_list (option_map (λ v. (arrives_at program g p, v)) (last_write u g (origin_of program p)))

-- the events that last writes of the rows u at g make of a name
abbrev pub carried_by : Parts → List Row → Tag → Name → List (Tag × Value)
carried_by program u g (Port p) = carried_to program u g p
carried_by program u g (Action a) = []

-- the events that the rows u at g make of a name
abbrev pub caused_by : PlanParts → List Row → Tag → Name → List (Tag × Value)
caused_by plan u g (Port p) = carried_to plan.program u g p
caused_by plan u g (Action a) = made plan u a

-- the event of port p is put, where it is up to the stop tag, and the write that makes it is kept no more
pub record IsCarried (program : Parts) (u : List Row) (g last : Tag) (p : ℕ) (old new : Coming) (writes : List (Option Written)) : Type 0 where
  pub put : (events : List Event) (h : Tag) → Before g h → UpTo h last → to_come events new h (Port p) ≡ to_come events old h (Port p) ++ held (carried_to program u g p) h
  pub gone : (w : Option Written) → slice_get writes (origin_of program p) ≡ Some w → value_at_tag g w ≡ None

-- no event of port p up to the stop tag is put yet: none of so many first rows writes its origin, and the last write is kept
pub record IsUncarried (program : Parts) (u : List Row) (g last : Tag) (count p : ℕ) (old new : Coming) (writes : List (Option Written)) : Type 0 where
  pub same : (events : List Event) (h : Tag) → UpTo h last → to_come events new h (Port p) ≡ to_come events old h (Port p)
  pub kept : (w : Option Written) → slice_get writes (origin_of program p) ≡ Some w → value_at_tag g w ≡ last_write u g (origin_of program p)
  pub unwritten : (i : ℕ) (x : Row) (v : Value) → i < count → slice_get u i ≡ Some x → x.step ≢ Write (Port (origin_of program p)) v

-- so many first rows of u, all at g, have carried what they write up to the stop tag: each port that passes the test has its event, or none yet
pub record AreCarried (program : Parts) (test : ℕ → Bool) (u : List Row) (g last : Tag) (count : ℕ) (old new : Coming) (writes : List (Option Written)) : Type 0 where
  pub as_long : length writes ≡ length program.ports
  pub up_to : (p : ℕ) (w : Written) → slice_get writes p ≡ Some (Some w) → UpTo w.tag g
  pub actions : (events : List Event) (h : Tag) (a : ℕ) → UpTo h last → to_come events new h (Action a) ≡ to_come events old h (Action a)
  pub ports : (p : ℕ) → test p ≡ true → IsCarried program u g last p old new writes ⊎ IsUncarried program u g last count p old new writes

-- so many first rows have carried what they write, to the ports that some reaction reads, at all tags that are clear
pub record AreCarriedClear (program : Parts) (u : List Row) (g last : Tag) (count : ℕ) (old new : Coming) (writes : List (Option Written)) : Type 0 where
  pub as_long : length writes ≡ length program.ports
  pub up_to : (p : ℕ) (w : Written) → slice_get writes p ≡ Some (Some w) → UpTo w.tag g
  pub no_later : IsNoLater old.clash new.clash
  pub carried : (h : Tag) → UpTo h last → IsClear new.clash h → AreCarried program (is_read program) u g h count old new writes
