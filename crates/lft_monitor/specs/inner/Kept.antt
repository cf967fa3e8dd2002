-- What is kept of rows that are judged, so that what is broken behind them can be named.
use Rattle.std.specs.Prelude.{◌≡◌, ℕ, ◌<◌, ◌≤◌, ◌⊎◌, Bool, List, length, Some, None, true, false, slice_get, filter_map, Contains}
use Rattle.lft_tag.specs.{declared.{Tag.Tag, Shift.Shift}, Tags.{UpTo, after_all}}
use Rattle.lft_ir.specs.{Parts.Parts, Origins.Origin, declared.{parts.Port.Port, steps.row.Row.Row}}
use Rattle.lft_model.specs.{Plans.PlanParts, Presence.{asked, requests, scheduled, written, min_delay, stop, PortClash}, Fitting.EachFits}
use Rattle.lft_queue.specs.{Coming.AtTag.AreBefore, inner.{Coming.Unread.GoesAsFar, Reading.is_read}}
use Rattle.lft_monitor.specs.{Sure.IsUnbroken, declared.{kept.CarriedWrites.CarriedWrites, past.Past.Past}}

-- there is a way for each port, and the way of a port that passes the test is no further than that at the place of its origin
pub record AreFurthest (program : Parts) (Passes : ℕ → Type 0) (furthest : List Shift) : Type 0 where
  pub as_long : length furthest ≡ length program.ports
  pub each : (p : ℕ) (port : Port) → Passes p → slice_get program.ports p ≡ Some port → (f : Shift) × (slice_get furthest port.origin ≡ Some f) × GoesAsFar port.shift f

-- how far writes are carried to any port, and to ports that some reaction reads
pub record AreWaysOfWrites (program : Parts) (ways : CarriedWrites) : Type 0 where
  pub furthest : AreFurthest program (λ p. Unit {0}) ways.furthest.items
  pub heard : AreFurthest program (λ p. is_read program p ≡ true) ways.heard.items

-- nobody hears of a write at h that arrives at port p at g: no reaction reads the port, no more rows come at the time of h, and no two writes by the rows t meet there at g, where the stop tag is last
pub record GoesUnheard (last : Tag) (plan : PlanParts) (t : List Row) (low h : Tag) (p : ℕ) (g : Tag) : Type 0 where
  pub unread : is_read plan.program p ≡ false
  pub over : h.time < low.time
  pub apart : UpTo g last → ¬ PortClash plan t g p

-- of the rows t two lists cause the same from the tag on, but for writes that go unheard
pub record CauseAlike (last : Tag) (plan : PlanParts) (t d e : List Row) (low : Tag) : Type 0 where
  pub scheduled_same : (g : Tag) (a : ℕ) → UpTo low g → filter_map (scheduled g a (min_delay plan.program a)) d ≡ filter_map (scheduled g a (min_delay plan.program a)) e
  pub written_alike : (h : Tag) (p o : ℕ) (delays : List ℕ) → Origin plan.program p o delays → UpTo low (after_all h delays) → (filter_map (written h o) d ≡ filter_map (written h o) e) ⊎ GoesUnheard last plan t low h p (after_all h delays)

-- the row, of the rows t, causes nothing from the tag on, but for a write that goes unheard, and doesn't ask for the stop
pub record IsIdle (last : Tag) (plan : PlanParts) (t : List Row) (low : Tag) (row : Row) : Type 0 where
  pub schedules : (g : Tag) (a : ℕ) → UpTo low g → scheduled g a (min_delay plan.program a) row ≡ None
  pub writes : (h : Tag) (p o : ℕ) (delays : List ℕ) → Origin plan.program p o delays → UpTo low (after_all h delays) → (written h o row ≡ None) ⊎ GoesUnheard last plan t low h p (after_all h delays)
  pub asks : asked row.tag row.step ≡ None

-- of rows that are of the rows t each that isn't marked is idle
abbrev pub AreMarkedRows : Tag → PlanParts → List Row → List Row → Tag → List Bool → Type 0
AreMarkedRows last plan t rows low marks = (i : ℕ) (row : Row) → slice_get marks i ≡ Some false → slice_get rows i ≡ Some row → IsIdle last plan t low row

-- the rows that are kept are some of these rows, which are of the rows t, cause alike from the tag on, and ask for the same stops
pub record IsKept (last : Tag) (plan : PlanParts) (t rows kept : List Row) (low : Tag) : Type 0 where
  pub same : CauseAlike last plan t rows kept low
  pub asks : requests rows ≡ requests kept
  pub own : (row : Row) → Contains kept row → Contains rows row

-- the low tag is the first behind all rows, nothing is broken before it, and what is kept is right from there on
pub record IsPastOfRows (plan : PlanParts) (t : List Row) (p : Past) : Type 0 where
  pub stop_is : p.stop ≡ stop plan t
  pub near : p.low.time ≤ 1000000000000000000
  pub before : AreBefore t p.low
  pub least : (g : Tag) → AreBefore t g → UpTo p.low g
  pub fit : EachFits plan.program t
  pub unbroken : IsUnbroken plan t p.low
  pub ways : AreWaysOfWrites plan.program p.ways
  pub kept : IsKept (stop plan t) plan t t p.kept.items p.low
