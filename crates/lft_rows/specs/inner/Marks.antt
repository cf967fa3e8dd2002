-- Where each reaction read each of its inputs last. This serves the proofs of the rules 4 and 10.
use Rattle.std.specs.Prelude.{◌≡◌, ℕ, ◌+◌, ◌<◌, ◌≤◌, ◌⊎◌, List, length, Some, slice_get, slice_set}
use Rattle.lft_ir.specs.{Parts.{Parts, inputs}, declared.{parts.{Value.Value, Name.Name, Reaction.Reaction}, steps.row.{Row.Row, Step.TheVariants.Read}}}
use Rattle.lft_rows.specs.declared.marks.Marks.{Marks}

-- how many seats a reaction has: one for each input
abbrev pub width : Reaction → ℕ
width x = length (inputs x)

-- n is the k-th input of the reaction, counted from 0
abbrev pub HasSeat : Reaction → Name → ℕ → Type 0
HasSeat x n k = slice_get (inputs x) k ≡ Some n

-- the seats of all reactions lie one after another in a list of this length
pub record AreLaid (reactions : List Reaction) (firsts : List ℕ) (size : ℕ) : Type 0 where
  pub within : (r f : ℕ) (x : Reaction) → slice_get reactions r ≡ Some x → slice_get firsts r ≡ Some f → f + width x ≤ size
  pub apart : (r s f g : ℕ) (x : Reaction) → r < s → slice_get reactions r ≡ Some x → slice_get firsts r ≡ Some f → slice_get firsts s ≡ Some g → f + width x ≤ g

-- the marks know the inputs of each reaction, and have a seat for each
pub record IsLaid (program : Parts) (marks : Marks) : Type 0 where
  pub inputs_are : (r : ℕ) (x : Reaction) → slice_get program.reactions r ≡ Some x → slice_get marks.inputs.items r ≡ Some (inputs x)
  pub as_long : length marks.firsts.items ≡ length program.reactions
  pub laid : AreLaid program.reactions marks.firsts.items (length marks.places.items)

-- m is kept at seat k of reaction r
abbrev pub Mark : Marks → ℕ → ℕ → ℕ → Type 0
Mark marks r k m = (f : ℕ) × (slice_get marks.firsts.items r ≡ Some f) × (slice_get marks.places.items (f + k) ≡ Some m)

-- m is kept at one seat now, and all else is as it was
pub record IsMarkedBy (old : Marks) (r k m : ℕ) (new : Marks) : Type 0 where
  pub inputs : new.inputs.items ≡ old.inputs.items
  pub firsts : new.firsts.items ≡ old.firsts.items
  pub places : (f : ℕ) → slice_get old.firsts.items r ≡ Some f → new.places.items ≡ slice_set old.places.items (f + k) m

-- no number of the list is past the place
abbrev pub AreNoneFrom : ℕ → List ℕ → Type 0
AreNoneFrom i places = (k m : ℕ) → slice_get places k ≡ Some m → m ≤ i

-- the row reads n for r
abbrev pub ReadsFor : ℕ → Name → Row → Type 0
ReadsFor r n row = (row.reaction ≡ r) × ((v : Value) × (row.step ≡ Read n v))

-- no row from place low on and before place i reads n for r
abbrev pub NoneReads : List Row → ℕ → ℕ → ℕ → Name → Type 0
NoneReads t low i r n = (j : ℕ) (row : Row) → low ≤ j → j < i → slice_get t j ≡ Some row → ¬ ReadsFor r n row

-- the row at place j is the last from place low on and before place i that reads n for r
pub record IsLastRead (t : List Row) (low i r : ℕ) (n : Name) (j : ℕ) : Type 0 where
  pub row : Row
  pub from : low ≤ j
  pub before : j < i
  pub is_row : slice_get t j ≡ Some row
  pub reads : ReadsFor r n row
  pub none_after : NoneReads t (j + 1) i r n

-- m is the place past the last row from place low on and before place i that reads n for r; where none does, a place up to low
abbrev pub IsMark : List Row → ℕ → ℕ → ℕ → Name → ℕ → Type 0
IsMark t low i r n m = ((m ≤ low) × NoneReads t low i r n) ⊎ ((j : ℕ) × (m ≡ j + 1) × IsLastRead t low i r n j)

-- the marks tell of none but rows before place i
pub record AreBefore (program : Parts) (i : ℕ) (marks : Marks) : Type 0 where
  pub is_laid : IsLaid program marks
  pub none : AreNoneFrom i marks.places.items

-- the marks tell of the rows from place low on and before place i
pub record AreMarks (program : Parts) (t : List Row) (low i : ℕ) (marks : Marks) : Type 0 where
  pub are_before : AreBefore program i marks
  pub right : (r k m : ℕ) (x : Reaction) (n : Name) → slice_get program.reactions r ≡ Some x → HasSeat x n k → Mark marks r k m → IsMark t low i r n m
