use Rattle.std.proofs.Common.{◌≡◌, ◌++◌, take, flat_map, string_bytes}
use Rattle.lft_driver.specs.Shown.{instance_line}
use Rattle.lft_driver.proofs.listing.push_instances.Given as goal

abbrev pub invariant-loop-number : goal.invariant-loop-number
invariant-loop-number l = string_bytes l.text ≡ string_bytes l.fn.text ++ flat_map instance_line (take l.number l.program.names.instances)
