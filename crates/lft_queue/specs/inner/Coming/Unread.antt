-- What is kept of ports behind delays that no reaction reads: nobody waits for their events.
use Rattle.std.specs.Prelude.{◌≡◌, ℕ, ◌<◌, ◌≤◌, ◌⊎◌, Bool, true, false, List, length, Option, Some, None, MatchOption, slice_get}
use Rattle.lft_tag.specs.{declared.{Tag.Tag, Shift.Shift}, Tags.{Before, UpTo}, Shifts.shifted}
use Rattle.lft_ir.specs.{Parts.Parts, declared.{parts.{Port.Port as PortOf, Value.Value, Name.TheVariants.Port}, steps.row.{Row.Row, Step.TheVariants.Write}}}
use Rattle.lft_queue.specs.inner.Reading.{is_read}

-- the second way leads as far as the first
abbrev pub GoesAsFar : Shift → Shift → Type 0
GoesAsFar s f = (s.time < f.time) ⊎ ((s.time ≡ f.time) × (s.steps ≤ f.steps))

-- of each port, as an origin, how soon a write of it arrives at a port that no reaction reads, if it does later than at once; whether it does of any; and the tag at which it is written last, if it is
pub record UnreadParts : Type 0 where
  pub soonest : List (Option Shift)
  pub any : Bool
  pub written : List (Option Tag)

-- of each unread port below a number, a write of its origin arrives there no sooner than is kept
pub record AreSoonest (program : Parts) (below : ℕ) (soonest : List (Option Shift)) : Type 0 where
  pub as_long : length soonest ≡ length program.ports
  pub each : (p : ℕ) (port : PortOf) (way : Option Shift) → p < below → slice_get program.ports p ≡ Some port → is_read program p ≡ false → 0 < port.shift.time → slice_get soonest port.origin ≡ Some way → MatchOption way ⊥ (λ s. GoesAsFar s port.shift)

-- a row of t writes port o at g
pub record IsWrittenAt (t : List Row) (o : ℕ) (g : Tag) : Type 0 where
  pub place : ℕ
  pub row : Row
  pub value : Value
  pub is_row : slice_get t place ≡ Some row
  pub writes : row.step ≡ Write (Port o) value
  pub tag_is : row.tag ≡ g

-- the rows t write port o last at the tag, or never where there is none
abbrev pub IsLastTag : List Row → ℕ → Option Tag → Type 0
IsLastTag t o last = MatchOption last ((g : Tag) → ¬ IsWrittenAt t o g) (λ k. IsWrittenAt t o k × ((g : Tag) → IsWrittenAt t o g → UpTo g k))

-- what is kept is right for the rows t, as far as any write arrives at such a port
pub record AreUnread (program : Parts) (t : List Row) (unread : UnreadParts) : Type 0 where
  pub soonest : AreSoonest program (length program.ports) unread.soonest
  pub none : unread.any ≡ false → (o : ℕ) (way : Option Shift) → slice_get unread.soonest o ≡ Some way → way ≡ None
  pub as_long : length unread.written ≡ length program.ports
  pub last : unread.any ≡ true → (o : ℕ) (k : Option Tag) → slice_get unread.written o ≡ Some k → IsLastTag t o k

-- wherever a write of origin o by the rows t, before g, and one at g arrive at an unread port at one tag, that tag is past the last one
abbrev pub MeetsPastLast : Parts → List Row → Tag → Tag → ℕ → Type 0
MeetsPastLast program t g last o = (p : ℕ) (port : PortOf) (h : Tag) → slice_get program.ports p ≡ Some port → port.origin ≡ o → is_read program p ≡ false → IsWrittenAt t o h → Before h g → shifted h (port.shift.time, port.shift.steps) ≡ shifted g (port.shift.time, port.shift.steps) → Before last (shifted g (port.shift.time, port.shift.steps))

-- each write of the rows u at g is free of all earlier ones by the rows t
abbrev pub AreFree : Parts → List Row → List Row → Tag → Tag → Type 0
AreFree program t u g last = (o : ℕ) → IsWrittenAt u o g → MeetsPastLast program t g last o
