use Rattle.std.proofs.Common.{◌≡◌, map, string_bytes, take}
use Rattle.lft_validate.specs.Findings.{name_at}
use Rattle.lft_validate.proofs.twice.given_names.Given as goal

abbrev pub invariant-loop-assignment : goal.invariant-loop-assignment
invariant-loop-assignment l = map name_at l.names.items ≡ map (λ a. (string_bytes a.name, a.at)) (take l.assignment-index l.given)
