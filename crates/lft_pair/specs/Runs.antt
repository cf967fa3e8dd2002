-- The rows of one run, and what it answered in which of them.
use Rattle.std.specs.Prelude.{ℕ, List, Option, Some, None, filter_map, slice_get, option_map}
use Rattle.std.specs.List.{enumerate_from, last_or}
use Rattle.lft_tag.specs.declared.Tag.{Tag}
use Rattle.lft_ir.specs.declared.{parts.Value.Value, steps.row.{Row.Row, Step.{Step, TheVariants.{Start, Read, Write, Schedule, Stop, End}}}}
use Rattle.lft_model.specs.{Presence.{value_written, value_scheduled}, Runs.step_of}
use Rattle.lft_pair.specs.declared.contrasting.contrasts.{Placed.Placed, LastWrite.LastWrite, Scheduling.Scheduling}

abbrev pub step_in_row : ℕ → Step → Placed
step_in_row i s = record { row = i; step = s }

-- the step of the row at a place, where it is of r at g
abbrev pub placed_step : Tag → ℕ → ℕ × Row → Option Placed
placed_step g r x = option_map (step_in_row x.0) (step_of g r x.1)

-- the steps of the run of r at g in order, each with the place of its row
abbrev pub placed_steps : List Row → Tag → ℕ → List Placed
placed_steps t g r = filter_map (placed_step g r) (enumerate_from 0 t)

abbrev pub write : ℕ → Value → LastWrite
write i v = record { row = i; value = v }

-- a write of port p
abbrev pub write_of : ℕ → Placed → Option LastWrite
write_of p x = option_map (write x.row) (value_written p x.step)

-- the last write of port p in a run
abbrev pub last_write : List Placed → ℕ → Option LastWrite
last_write steps p = last_or None (filter_map (write_of p) steps)

abbrev pub scheduling : ℕ → ℕ × Value → Scheduling
scheduling i y = record { row = i; delay = y.0; value = y.1 }

-- a scheduling of action a
abbrev pub scheduling_of : ℕ → Placed → Option Scheduling
scheduling_of a x = option_map (scheduling x.row) (value_scheduled a x.step)

-- the schedulings of action a in a run, in order
abbrev pub schedulings : List Placed → ℕ → List Scheduling
schedulings steps a = filter_map (scheduling_of a) steps

-- the place of a stop request
abbrev pub request_at : ℕ → Step → Option ℕ
request_at i Stop = Some i
request_at i Start = None
request_at i (Read n v) = None
request_at i (Write n v) = None
request_at i (Schedule n v d) = None
request_at i End = None

abbrev pub request_of_step : Placed → Option ℕ
request_of_step x = request_at x.row x.step

-- the place of the first stop request in a run
abbrev pub first_request : List Placed → Option ℕ
first_request steps = slice_get (filter_map request_of_step steps) 0
