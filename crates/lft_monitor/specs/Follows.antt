-- What is kept of rows that are judged while they come, and what is told of them.
use Rattle.std.specs.Prelude.{◌≡◌, ℕ, ◌+◌, ◌-◌, ◌≤◌, ◌<◌, ◌^◌, ◌⊎◌, List, ◌++◌, ◌∷◌, length, take, Some, slice_get, []}
use Rattle.lft_tag.specs.{declared.Tag.Tag, Tags.{Before, UpTo}}
use Rattle.lft_ir.specs.declared.steps.{externals.Event.Event, row.Row.Row}
use Rattle.lft_model.specs.{declared.breach.Breach.Breach, Plans.PlanParts, Breaches.{RowBreach, RowOrder, TagBreach, First}}
use Rattle.lft_queue.specs.Coming.AtTag.{AreAt, AreBefore}
use Rattle.lft_stream.specs.Kept.{low_of}
use Rattle.lft_monitor.specs.{Sure.{IsUnbroken, IsFirstBefore}, Reach.IsReach, declared.{reach.Reach.Reach, found.BrokenRule.BrokenRule}}

-- the rows reach so far, and no rule is broken in them before the tag behind their last
pub record IsCleanSoFar (plan : PlanParts) (t : List Row) (r : Reach) : Type 0 where
  pub reach : IsReach t r
  pub unbroken : IsUnbroken plan t (low_of r.tag)

-- the first rows, up to the place, are clean, and reach so far
pub record IsCleanTo (plan : PlanParts) (t : List Row) (r : Reach) (n : ℕ) : Type 0 where
  pub within : n ≤ length t
  pub clean : IsCleanSoFar plan (take n t) r

-- the rows but those at the last tag are clean, and reach so far
pub record IsJudged (plan : PlanParts) (t : List Row) (r : Reach) : Type 0 where
  pub done : List Row
  pub left : List Row
  pub parts : t ≡ done ++ left
  pub at_one : (g : Tag) × AreAt left g × AreBefore done g
  pub some : left ≡ [] → done ≡ []
  pub clean : IsCleanSoFar plan done r

-- some row is at a later tag
abbrev pub IsPassed : List Row → Tag → Type 0
IsPassed t g = (i : ℕ) × (x : Row) × (slice_get t i ≡ Some x) × Before g x.tag

-- the event that has 65,536 others behind it is at a later tag
abbrev pub HasManyLater : List Event → Tag → Type 0
HasManyLater events g = (65536 < length events) × ((x : Event) × (slice_get events (length events - 65537) ≡ Some x) × Before g x.tag)

-- the breach that is found
abbrev pub breach_of : BrokenRule → Breach
breach_of f = record { rule = f.rule; tag = f.tag; reaction = f.reaction; row = f.line }

-- the tag is finished: a row is at it or behind it, and another at a later tag still
pub record IsFinished (t : List Row) (g : Tag) : Type 0 where
  pub place : ℕ
  pub other : ℕ
  pub row : Row
  pub later : Row
  pub is_row : slice_get t place ≡ Some row
  pub is_later : slice_get t other ≡ Some later
  pub up : UpTo g row.tag
  pub before : Before row.tag later.tag

-- the breach is to be told of the rows: a row breaks one of the rules 1 to 4, or at a finished tag a run has no end or one of the rules 6 to 10 is broken
abbrev pub IsToTell : PlanParts → List Row → Breach → Type 0
IsToTell plan t b = RowBreach plan t b × ((b.rule ≤ 4) ⊎ IsFinished t b.tag) ⊎ TagBreach plan t b × IsFinished t b.tag

-- nothing is to be told of the rows
abbrev pub IsQuiet : PlanParts → List Row → Type 0
IsQuiet plan t = (b : Breach) → ¬ IsToTell plan t b

-- of the rows none breaks a rule but 5, and that only by runs at the last tag
abbrev pub KeepsButLast : PlanParts → List Row → Type 0
KeepsButLast plan t = (b : Breach) → RowBreach plan t b → (b.rule ≡ 5) × ((i : ℕ) (x : Row) → slice_get t i ≡ Some x → ¬ Before b.tag x.tag)

-- the last of the first n rows is the first that breaks one of the rules 1 to 4, and the breach is of the least of these: nothing was to be told before it came, and each run at an earlier tag has its end
pub record IsBadRow (plan : PlanParts) (t : List Row) (b : Breach) (n : ℕ) : Type 0 where
  pub rule : b.rule ≤ 4
  pub last : b.row ≡ n + 1
  pub quiet : IsQuiet plan (take (n - 1) t)
  pub least : (c : Breach) → RowBreach plan (take n t) c → c.row ≡ b.row → b.rule ≤ c.rule
  pub ended : (c : Breach) → RowBreach plan (take n t) c → c.rule ≡ 5 → ¬ Before c.tag b.tag

-- the breach is of the first run of the first n rows without an end, and the next row is at a later tag: nothing was to be told before it came
pub record IsLostRun (plan : PlanParts) (t : List Row) (b : Breach) (n : ℕ) : Type 0 where
  pub rule : b.rule ≡ 5
  pub next : Row
  pub is_next : slice_get t n ≡ Some next
  pub before : Before b.tag next.tag
  pub quiet : IsQuiet plan (take n t)
  pub first : (c : Breach) → RowBreach plan (take n t) c → RowOrder b c

-- the breach is sure behind the first n rows, and is the first that is to be told: the last of them breaks one of the rules 1 to 4, or a run of theirs has no end and the next row is at a later tag
pub record IsSureBehind (plan : PlanParts) (t : List Row) (b : Breach) (n : ℕ) : Type 0 where
  pub within : n ≤ length t
  pub breaks : RowBreach plan (take n t) b
  pub sure : IsBadRow plan t b n ⊎ IsLostRun plan t b n

-- the breach of one of the rules 6 to 10 is sure behind the first n rows: it is the first of them before the tag of the last row, and none of these rows breaks a rule but by runs at that tag
pub record IsFirstBehind (plan : PlanParts) (t : List Row) (b : Breach) (n : ℕ) : Type 0 where
  pub within : n ≤ length t
  pub some : 0 < n
  pub row : Row
  pub last : slice_get t (n - 1) ≡ Some row
  pub first : IsFirstBefore plan (take n t) row.tag b
  pub kept : KeepsButLast plan (take n t)

-- the breach is sure behind some of the rows, and is the first that is to be told of them
abbrev pub IsSureSoFar : PlanParts → List Row → Breach → Type 0
IsSureSoFar plan t b = (n : ℕ) × (IsSureBehind plan t b n ⊎ IsFirstBehind plan t b n)

-- so many of the first rows are clean, and reach so far; the line is that of a later row, or of the last of these
abbrev pub IsOddSoFar : PlanParts → List Row → Reach → ℕ → Type 0
IsOddSoFar plan t r line = (n : ℕ) × IsCleanTo plan t r n × (n < line) × (line ≤ length t + 1)

-- behind 4,000,000 rows at one tag another row stands, or more than 2^62 rows are there
abbrev pub AreTooMany : List Row → Type 0
AreTooMany t = ((done : List Row) × (held : List Row) × (row : Row) × (more : List Row) × (t ≡ (done ++ held) ++ row ∷ more) × ((g : Tag) × AreAt held g) × (4000000 ≤ length held)) ⊎ (2 ^ 62 < length t)

-- the breach is the first of the rows, at a tag up to that of one of them
pub record IsFirstUpToLast (plan : PlanParts) (t : List Row) (b : Breach) : Type 0 where
  pub first : First plan t b
  pub place : ℕ
  pub row : Row
  pub is_row : slice_get t place ≡ Some row
  pub up : UpTo b.tag row.tag
