-- What some steps read last, kept by the names. This serves the reads of a run alone.
use Rattle.std.specs.Prelude.{◌≡◌, List, Option, Some, None, cond}
use Rattle.std.specs.{BTreeMap.get, Ordering.nat_cmp}
use Rattle.lft_ir.specs.{declared.{parts.{Name.{Name, TheVariants.{Port, Action}}, Value.Value}, steps.row.Step.Step}, Naming.same_name}
use Rattle.lft_model.specs.Runs.{read_of}
use Rattle.lft_rows.specs.declared.answers.readings.Readings.{Readings}

-- the value that is kept of a port or an action
abbrev pub last_of : Readings → Name → Option Value
last_of readings (Port p) = get nat_cmp readings.ports p
last_of readings (Action a) = get nat_cmp readings.actions a

-- what is read of a name, by the name and the value of a read
abbrev pub read_as : Name → Option (Name × Value) → Option Value
read_as n None = None
read_as n (Some read) = cond (same_name n read.0) (Some read.1) None

-- of each name what the steps read last is kept
abbrev pub AreReadBy : List Step → Readings → Type 0
AreReadBy steps readings = (n : Name) → last_of readings n ≡ read_of steps n

-- the value is kept of the name, and of each other name what was kept before
abbrev pub IsPut : Name → Value → Readings → Readings → Type 0
IsPut name value old new = (n : Name) → last_of new n ≡ cond (same_name n name) (Some value) (last_of old n)
