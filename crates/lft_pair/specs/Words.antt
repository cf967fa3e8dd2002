-- The words of a contrast: which effect it tells of, and what was answered for it.
use Rattle.std.specs.Prelude.{ℕ, List, [], ◌++◌, Option, Some, None, slice_get, unwrap_or, codes, decimal, nat_eq, if◌then◌else◌}
use Rattle.lft_ir.specs.{Parts.Parts, Words.{Words.{time_words, value_words, port_words, action_words}, Lines.line_words}}
use Rattle.lft_pair.specs.declared.contrasting.contrasts.{LastWrite.LastWrite, Scheduling.Scheduling, Contrast.Contrast}
use Rattle.lft_pair.specs.declared.contrasting.contrasts.Contrast.TheVariants as contrast

-- the name of an instance
abbrev pub instance_words : Parts → ℕ → List ℕ
instance_words program i = unwrap_or (slice_get program.names.instances i) []

-- how many schedulings stand before it; nothing for none
abbrev pub schedulings_before_words : ℕ → List ℕ
schedulings_before_words k = if nat_eq k 0 then [] else codes " (" ++ decimal k ++ codes " before)"

-- the effect; nothing for what tells of none
abbrev pub effect_words : Parts → Contrast → List ℕ
effect_words program (contrast.Written p first second) = port_words program p
effect_words program (contrast.Scheduled a k first second) = action_words program a ++ schedulings_before_words k
effect_words program (contrast.Requested first second) = codes "stop request"
effect_words program (contrast.Starts first second) = []
effect_words program (contrast.Read k n read) = []
effect_words program (contrast.Earlier instance count) = []
effect_words program (contrast.Before count) = []

-- `V in line L`
abbrev pub write_words : Option LastWrite → List ℕ
write_words None = codes "not written"
write_words (Some w) = value_words (Some w.value) ++ codes " in " ++ line_words w.row

-- `V in line L, extra delay D`
abbrev pub scheduling_words : Option Scheduling → List ℕ
scheduling_words None = codes "not scheduled"
scheduling_words (Some y) = value_words (Some y.value) ++ codes " in " ++ line_words y.row ++ codes ", extra delay " ++ time_words y.delay

-- `requested in line L`
abbrev pub request_words : Option ℕ → List ℕ
request_words None = codes "not requested"
request_words (Some i) = codes "requested in " ++ line_words i

-- what the first run answered
abbrev pub first_words : Contrast → List ℕ
first_words (contrast.Written p first second) = write_words first
first_words (contrast.Scheduled a k first second) = scheduling_words first
first_words (contrast.Requested first second) = request_words first
first_words (contrast.Starts first second) = []
first_words (contrast.Read k n read) = []
first_words (contrast.Earlier instance count) = []
first_words (contrast.Before count) = []

-- what the second run answered
abbrev pub second_words : Contrast → List ℕ
second_words (contrast.Written p first second) = write_words second
second_words (contrast.Scheduled a k first second) = scheduling_words second
second_words (contrast.Requested first second) = request_words second
second_words (contrast.Starts first second) = []
second_words (contrast.Read k n read) = []
second_words (contrast.Earlier instance count) = []
second_words (contrast.Before count) = []
