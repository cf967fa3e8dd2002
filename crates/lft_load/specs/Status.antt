-- The exit status of an answer.
use Rattle.std.specs.Prelude.{Bool, true, false, ℕ, Result, Ok, Err}
use Rattle.lft_load.specs.declared.fault.Fault.{Fault}

-- 0 for true, 1 for false, 2 for a fault
abbrev pub status_of : Result Bool Fault → ℕ
status_of (Ok true) = 0
status_of (Ok false) = 1
status_of (Err fault) = 2
