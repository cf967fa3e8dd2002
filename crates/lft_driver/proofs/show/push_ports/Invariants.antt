use Rattle.std.proofs.Common.{◌≡◌, ◌++◌, take, flat_map, string_bytes}
use Rattle.std.specs.List.{enumerate_from}
use Rattle.lft_driver.specs.Shown.{shown_port_words}
use Rattle.lft_driver.proofs.show.push_ports.Given as goal

abbrev pub invariant-loop-number : goal.invariant-loop-number
invariant-loop-number l = string_bytes l.text ≡ string_bytes l.fn.text ++ flat_map (shown_port_words l.program) (take l.number (enumerate_from 0 l.program.ports))
