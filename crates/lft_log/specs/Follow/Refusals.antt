-- Why a log isn't followed: a line of it, a reader or a writer, or want of memory.
use Rattle.std.specs.Prelude.{◌≡◌, ◌⊎◌, ℕ, Bool, List, Option, Some, None, codes}
use Rattle.std.specs.Io.KnownBytes.{Consumes, IsAtEnd, Keeps}
use Rattle.lft_tag.specs.declared.Tag.{Tag}
use Rattle.lft_model.specs.Plans.{PlanParts}
use Rattle.lft_load.specs.{Faults.{IsFaultOfPath, table_number, words_of}, Words.field, Written.AppendsFront}
use Rattle.lft_load.specs.declared.fault.{Detail.Detail, Fault.Fault, Part.Part}
use Rattle.lft_log.specs.{Told.{IsFaultAtEnd, IsFaultOf}, declared.{fault.LogFault.LogFault, told.Final.Final}, Follow.{Followed.IsRead, Lines.line_of_log}}
use Rattle.lft_load.specs.declared.fault.Detail.TheVariants as detail
use Rattle.lft_load.specs.declared.fault.Part.TheVariants as part
use Rattle.lft_log.specs.declared.fault.LogFault.TheVariants as log

-- the detail tells the line, if there is one
abbrev pub TellsLine : Option ℕ → Detail → Type 0
TellsLine None d = d ≡ detail.Nothing
TellsLine (Some line) d = (d ≡ detail.Line line) ⊎ (words_of d ≡ Some (field (codes "line=") line))

-- a fault of this part, number, name and line, or of want of memory for its words
abbrev pub IsFaultNamed : Part → ℕ → List ℕ → Option ℕ → Fault → Type 0
IsFaultNamed p n name line f = (f.part ≡ p) × (f.number ≡ n) × (f.name.now ≡ name) × TellsLine line f.detail ⊎ (f.part ≡ part.Memory) × (f.number ≡ 1)

-- a fault of this part, number and line, by whatever name
abbrev pub IsFaultNumbered : Part → ℕ → ℕ → Fault → Type 0
IsFaultNumbered p n line f = (name : List ℕ) × IsFaultNamed p n name (Some line) f

-- how each fault of a log is told; of a line that is no row, or no external input, the number is that of a table's fault
abbrev pub IsToldAs : LogFault → Fault → Type 0
IsToldAs log.NoHeader f = IsFaultNamed part.Trace 1 (codes "BadHeader") None f
IsToldAs (log.NoRow e line) f = IsFaultNumbered part.Trace (table_number e) line f
IsToldAs log.TooManyRows f = IsFaultNamed part.Trace 10 (codes "TooManyRows") None f
IsToldAs (log.LongLine line) f = IsFaultNamed part.Trace 13 (codes "LongLine") (Some line) f
IsToldAs (log.NotPlain line) f = IsFaultNamed part.Trace 14 (codes "NotPlain") (Some line) f
IsToldAs (log.SecondHeader line) f = IsFaultNamed part.Trace 15 (codes "SecondHeader") (Some line) f
IsToldAs (log.NoInput e line) f = IsFaultNumbered part.Externals (table_number e) line f
IsToldAs (log.InputAgain line) f = IsFaultNamed part.Externals 7 (codes "DuplicateExternal") (Some line) f
IsToldAs log.TooManyInputs f = IsFaultNamed part.Externals 10 (codes "TooManyRows") None f
IsToldAs (log.LateInput line) f = IsFaultNamed part.Externals 13 (codes "LateExternal") (Some line) f
IsToldAs (log.NotPlainInput line) f = IsFaultNamed part.Externals 14 (codes "NotPlain") (Some line) f
IsToldAs (log.ManyLater line) f = IsFaultNamed part.Externals 15 (codes "ManyLater") (Some line) f
IsToldAs log.NoMemory f = (f.part ≡ part.Memory) × (f.number ≡ 1)

-- a fault of the log of these bytes
abbrev pub IsFaultOfLog : PlanParts → List ℕ → Fault → Type 0
IsFaultOfLog base bytes f = (e : LogFault) × IsFaultOf base bytes e × IsToldAs e f

-- a fault of the log of these bytes, behind which no more come
abbrev pub IsFaultAtEndOfLog : PlanParts → List ℕ → Fault → Type 0
IsFaultAtEndOfLog base bytes f = (e : LogFault) × IsFaultAtEnd base bytes e × IsToldAs e f

-- memory was refused, or the writer of what is told while the log comes failed
abbrev pub IsOutside : Fault → Type 0
IsOutside f = (f.part ≡ part.Memory) × (f.number ≡ 1) ⊎ (f.part ≡ part.Write) × (f.number ≡ 1)

-- nothing is told of a reader's log: what it gave has a fault, so far or at its end; the reader failed, or never ended; or it comes from outside
pub data ReadRefusal (base : PlanParts) (path : List ℕ) (old new : Option (List ℕ)) (f : Fault) : Type 0 where
  by_line : (bytes : List ℕ) → Consumes old new bytes → IsFaultOfLog base bytes f → ReadRefusal base path old new f
  by_end : (bytes : List ℕ) → Consumes old new bytes → IsAtEnd new → IsFaultAtEndOfLog base bytes f → ReadRefusal base path old new f
  by_reader : IsFaultOfPath f part.Read 1 path ⊎ IsFaultOfPath f part.Read 2 path → ReadRefusal base path old new f
  by_outside : IsOutside f → ReadRefusal base path old new f

-- a log isn't followed under a plan: nothing is told of it, and nothing was written, or the writer failed on the line of what is told
pub data FollowRefusalUnder (plan : PlanParts) (path : List ℕ) (until : Option Tag) (whole : Bool) (old new out_old out_new : Option (List ℕ)) (f : Fault) : Type 0 where
  by_reading : ReadRefusal plan path old new f → Keeps out_old out_new → FollowRefusalUnder plan path until whole old new out_old out_new f
  by_writer : (bytes : List ℕ) (told : Final) → f.part ≡ part.Write → f.number ≡ 1 → IsRead plan until whole bytes old new told → AppendsFront out_old out_new (line_of_log plan.program told) → FollowRefusalUnder plan path until whole old new out_old out_new f
