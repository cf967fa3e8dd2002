-- What is kept for each reaction, and what is told on. The contracts of private functions alone need this file.
use Rattle.std.specs.Prelude.{◌≡◌, ◌≢◌, ◌↔◌, ◌⊎◌, ℕ, zero, suc, ◌+◌, ◌*◌, ◌<◌, ◌≤◌, List, [], ◌∷◌, Bool, true, false, not, IsTrue, Some, slice_get, slice_set, length, map}
use Rattle.lft_scheduler.specs.{declared.turn.{phase.Phase.{Phase, TheVariants.{Idle, Waiting, Open}}, seats.Seat.Seat}, inner.Turns.HasProgram}
use Rattle.lft_graph.specs.{Graph.GraphParts, Sets.Has}

-- a reaction as far as this, with so many busy ones before it, is busy
abbrev pub busy_at : Phase → ℕ → Bool
busy_at Idle zero = false
busy_at Idle (suc n) = true
busy_at Waiting n = true
busy_at Open n = true

-- the reaction is pending, or one of its short list is busy
abbrev pub busy : Seat → Bool
busy s = busy_at s.phase s.waits

-- a reaction as far as this, with so many busy ones before it, may start
abbrev pub free_at : Phase → ℕ → Bool
free_at Idle n = false
free_at Waiting zero = true
free_at Waiting (suc n) = false
free_at Open n = false

-- the reaction is triggered, and neither started nor held up
abbrev pub free : Seat → Bool
free s = free_at s.phase s.waits

-- the set has the reactions that may start, and room for all
pub record AreFreeSeats (seats : List Seat) (frees : List ℕ) : Type 0 where
  pub room : length seats ≤ 64 * length frees
  pub each : (r : ℕ) (s : Seat) → slice_get seats r ≡ Some s → IsTrue (free s) ↔ Has frees r

-- 1 for true, 0 for false
abbrev pub one : Bool → ℕ
one true = 1
one false = 0

-- 1 where two truth values differ
abbrev pub differ : Bool → Bool → ℕ
differ true b = one (not b)
differ false b = one b

-- a weight of each seat, added up
abbrev pub tally_of_seats : (Seat → ℕ) → List Seat → ℕ
tally_of_seats f [] = 0
tally_of_seats f (s ∷ ss) = f s + tally_of_seats f ss

-- 1 where two numbers are the same, else 0
abbrev pub hit : ℕ → ℕ → ℕ
hit zero zero = 1
hit zero (suc b) = 0
hit (suc a) zero = 0
hit (suc a) (suc b) = hit a b

-- how many seats don't count as up says
abbrev pub uncounted : Bool → List Seat → ℕ
uncounted up seats = tally_of_seats (λ s. differ up s.counted) seats

-- how many times a number stands in a list
abbrev pub times : ℕ → List ℕ → ℕ
times x [] = 0
times x (y ∷ ys) = hit x y + times x ys

-- how many times a reaction stands in the lists of those that count as busy
abbrev pub load : List Seat → List (List ℕ) → ℕ → ℕ
load [] after r = 0
load (s ∷ ss) [] r = 0
load (s ∷ ss) (l ∷ ls) r = one s.counted * times r l + load ss ls r

-- the number where true, else 0
abbrev pub gain : Bool → ℕ → ℕ
gain true n = n
gain false n = 0

-- the number where false, else 0
abbrev pub loss : Bool → ℕ → ℕ
loss true n = 0
loss false n = n

-- no number stands in a list twice
abbrev pub AreOnce : List (List ℕ) → Type 0
AreOnce after = (a r : ℕ) (list : List ℕ) → slice_get after a ≡ Some list → times r list ≤ 1

-- the seats at rest: each reaction knows how many of its short list are busy, and counts as busy where it is
pub record IsAtRest (after : List (List ℕ)) (seats : List Seat) : Type 0 where
  pub as_long : length seats ≡ length after
  pub waits : (r : ℕ) (s : Seat) → slice_get seats r ≡ Some s → s.waits ≡ load seats after r
  pub counted : (r : ℕ) (s : Seat) → slice_get seats r ≡ Some s → busy s ≡ s.counted

-- r is one of the first in the stack
abbrev pub IsStacked : List ℕ → ℕ → ℕ → Type 0
IsStacked stack top r = (i : ℕ) × (i < top) × (slice_get stack i ≡ Some r)

-- seats on the way to rest: the reactions in the stack became busy (up) or no longer busy, and don't count as it yet; the last one that was taken off has still to tell the rest of its list
pub record IsMoving (up : Bool) (after : List (List ℕ)) (seats : List Seat) (stack : List ℕ) (top : ℕ) (rest : List ℕ) : Type 0 where
  pub as_long : length seats ≡ length after
  pub room : length stack ≡ length after
  pub waits : (r : ℕ) (s : Seat) → slice_get seats r ≡ Some s → s.waits + gain up (times r rest) ≡ load seats after r + loss up (times r rest)
  pub stacked : (i r : ℕ) → i < top → slice_get stack i ≡ Some r → (s : Seat) × (slice_get seats r ≡ Some s) × (s.counted ≡ not up) × (busy s ≡ up)
  pub once : (i j r : ℕ) → i < top → j < top → slice_get stack i ≡ Some r → slice_get stack j ≡ Some r → i ≡ j
  pub counted : (r : ℕ) (s : Seat) → slice_get seats r ≡ Some s → (busy s ≡ s.counted) ⊎ IsStacked stack top r
  pub total : top + tally_of_seats (λ s. differ up (busy s)) seats ≡ uncounted up seats

-- r is put on the stack where it became busy or no longer busy
pub record IsPushed (was now : Bool) (stack : List ℕ) (top r : ℕ) (stack_after : List ℕ) (top_after : ℕ) : Type 0 where
  pub same : now ≡ was → (stack_after ≡ stack) × (top_after ≡ top)
  pub pushed : now ≢ was → (stack_after ≡ slice_set stack top r) × (top_after ≡ top + 1)

-- how far the reactions are
abbrev pub phases_of : List Seat → List Phase
phases_of seats = map (λ (s : Seat). s.phase) seats

-- the phases are as they were
abbrev pub KeepsPhases : List Seat → List Seat → Type 0
KeepsPhases old new = phases_of new ≡ phases_of old

-- for the first reactions of the program: a list names r as often as r's short list names its reaction, and names no other
pub record IsMirrored (before : List (List ℕ)) (count : ℕ) (after : List (List ℕ)) : Type 0 where
  pub as_long : length after ≡ length before
  pub there : (a r : ℕ) (list mine : List ℕ) → slice_get after a ≡ Some list → slice_get before r ≡ Some mine → r < count → times r list ≡ times a mine
  pub none : (a r : ℕ) (list : List ℕ) → slice_get after a ≡ Some list → count ≤ r → times r list ≡ 0

-- the lists turned round: whose short list is each reaction in
abbrev pub IsMirror : List (List ℕ) → List (List ℕ) → Type 0
IsMirror before after = IsMirrored before (length before) after

-- some of a short list are noted, and the rest isn't yet
pub record IsNoted (r : ℕ) (mine rest : List ℕ) (old new : List (List ℕ)) : Type 0 where
  pub as_long : length new ≡ length old
  pub here : (a : ℕ) (l m : List ℕ) → slice_get old a ≡ Some l → slice_get new a ≡ Some m → times r m + times a rest ≡ times r l + times a mine
  pub others : (a x : ℕ) (l m : List ℕ) → slice_get old a ≡ Some l → slice_get new a ≡ Some m → x ≢ r → times x m ≡ times x l

-- what is kept between two changes
pub record IsKept (graph : GraphParts) (after : List (List ℕ)) (seats : List Seat) (set stack : List ℕ) : Type 0 where
  pub program : HasProgram graph
  pub mirror : IsMirror graph.before after
  pub rest : IsAtRest after seats
  pub frees : AreFreeSeats seats set
  pub room : length stack ≡ length after
