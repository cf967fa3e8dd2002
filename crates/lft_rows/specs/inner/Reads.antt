-- What a row reads.
use Rattle.std.specs.Prelude.{Option, Some, None}
use Rattle.lft_ir.specs.declared.{parts.Value.Value, steps.row.Step.{Step, TheVariants.{Start, Read, Write, Schedule, Stop, End}}}

-- the value that a step reads
abbrev pub value_read : Step → Option Value
value_read (Read n v) = Some v
value_read Start = None
value_read (Write n v) = None
value_read (Schedule n v d) = None
value_read Stop = None
value_read End = None
