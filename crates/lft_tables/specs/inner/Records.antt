-- Inside: the records of a text, and how they are read one at a time.
use Rattle.std.specs.Prelude.{ℕ, Bool, true, false, List, length, map, take, drop, get_or, ◌+◌, ◌≡◌, ◌≤◌, ◌<◌, ◌++◌, Option, Some, None, ◌∷◌, []}
use Rattle.std.proofs.Common.{Bor}
use Rattle.csv.specs.{Records.fields_of, Reading.{Ready, default_config, records_from, source_of, reader_trim, reader_config}}
use Rattle.csv.specs.declared.{parser.State.State, reader.Reader.Reader}
use Rattle.csv.specs.declared.record.ByteRecord.{ByteRecord}
use Rattle.lft_tables.specs.{declared.records.Records.Records, Records.records_of}
use Rattle.std.specs.{Io.Cursor.cursor_remaining, declared.io.impls.Cursor.Cursor}
use Rattle.csv.specs.declared.reader.Trim.TheVariants as trim

-- the bytes that a text in memory has left
abbrev pub in_memory : Bor (List ℕ) → Option (List ℕ)
in_memory text = Some text.now

-- and those that a cursor over one has left
abbrev pub in_cursor : Cursor (Bor (List ℕ)) → Option (List ℕ)
in_cursor c = cursor_remaining in_memory c

-- the reader reads as the crate's defaults say, takes no record for a header, and has not failed, and what it has left is known
abbrev pub IsPlainReader : {R : Type 0} → (R → Option (List ℕ)) → Reader R → Type 0
IsPlainReader remaining r = (reader_trim r ≡ trim.None) × Ready r × (reader_config r ≡ default_config) × (y : List ℕ) × (source_of remaining r ≡ Some y)

-- the records of these bytes from a state
abbrev pub records_behind : State → Option (List ℕ) → List (List (List ℕ))
records_behind s None = []
records_behind s (Some y) = records_from default_config (length y + 1) s y

-- the records that a reader has left
abbrev pub records_unread : {R : Type 0} → (R → Option (List ℕ)) → Reader R → List (List (List ℕ))
records_unread remaining r = records_behind r.state (source_of remaining r)

-- the same, unless none is left
abbrev pub unread_unless : {R : Type 0} → Bool → (R → Option (List ℕ)) → Reader R → List (List (List ℕ))
unread_unless true remaining r = []
unread_unless false remaining r = records_unread remaining r

-- the first records so many are those that the reader gave; where they are fewer than are read at a time, it has no more
pub record HaveRead {R : Type 0} (remaining : R → Option (List ℕ)) (old new : Reader R) (records : List ByteRecord) (count : ℕ) : Type 0 where
  pub all : count ≡ 32 → IsPlainReader remaining new × (records_unread remaining old ≡ map fields_of (take count records) ++ records_unread remaining new)
  pub fewer : count < 32 → records_unread remaining old ≡ map fields_of (take count records)

-- what was read at a time stands there, and the reader is plain, unless no record follows
abbrev pub IsPlain : {R : Type 0} → (R → Option (List ℕ)) → Records R → Type 0
IsPlain remaining r = (r.end ≤ length r.ahead.items) × (r.is_last ≡ false → IsPlainReader remaining r.reader)

-- the records that are left: those that were read and aren't given, and those that the reader has left
abbrev pub records_left : {R : Type 0} → (R → Option (List ℕ)) → Records R → List (List (List ℕ))
records_left remaining r = map fields_of (drop r.next (take r.end r.ahead.items)) ++ unread_unless r.is_last remaining r.reader

-- the fields of the record at hand, which stands before the next one
abbrev pub fields_at_hand : {R : Type 0} → Records R → List (List ℕ)
fields_at_hand r = fields_of (get_or (r.none ∷ r.ahead.items) r.next r.none)

-- all records of the text are left, of which there may be so many
pub record IsUnread {R : Type 0} (remaining : R → Option (List ℕ)) (r : Records R) (text : List ℕ) (limit : ℕ) : Type 0 where
  pub plain : IsPlain remaining r
  pub left : records_left remaining r ≡ records_of text
  pub line : r.line ≡ 0
  pub last : r.last ≡ limit

-- one line more was read, and it is within the lines that there may be
pub record IsCounted {R : Type 0} (old new : Records R) : Type 0 where
  pub line : new.line ≡ old.line + 1
  pub within : old.line < old.last
  pub last : new.last ≡ old.last

-- the first of the records left is at hand, and within the lines that there may be
pub record IsNext {R : Type 0} (remaining : R → Option (List ℕ)) (old new : Records R) : Type 0 where
  pub plain : IsPlain remaining new
  pub left : records_left remaining old ≡ fields_at_hand new ∷ records_left remaining new
  pub line : new.line ≡ old.line + 1
  pub within : old.line < old.last
  pub last : new.last ≡ old.last

-- all lines that there may be were read, and a record is left
pub record IsPast {R : Type 0} (remaining : R → Option (List ℕ)) (old new : Records R) : Type 0 where
  pub left : records_left remaining old ≡ fields_at_hand new ∷ records_left remaining new
  pub full : old.last ≤ old.line
