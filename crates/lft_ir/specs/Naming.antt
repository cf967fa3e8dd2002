-- What a trigger names, and the tests of names.
use Rattle.std.specs.Prelude.{ℕ, ◌==◌, Bool, false, Option, Some, None}
use Rattle.lft_ir.specs.declared.parts.{Name.{Name, TheVariants.{Port, Action}}, Trigger.{Trigger, TheVariants.{Startup, Shutdown, Timer, On}}}

-- the port or action that a trigger names
abbrev pub named : Trigger → Option Name
named Startup = None
named Shutdown = None
named (Timer t) = None
named (On n) = Some n

-- the test of a name being that of a port
abbrev pub is_port : ℕ → Name → Bool
is_port p (Port q) = p == q
is_port p (Action b) = false

-- the test of a name being that of an action
abbrev pub is_action : ℕ → Name → Bool
is_action a (Port q) = false
is_action a (Action b) = a == b

-- the test of two ports or actions being the same
abbrev pub same_name : Name → Name → Bool
same_name (Port p) n = is_port p n
same_name (Action a) n = is_action a n
