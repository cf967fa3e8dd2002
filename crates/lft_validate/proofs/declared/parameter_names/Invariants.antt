use Rattle.std.proofs.Common.{◌≡◌, map, string_bytes, take}
use Rattle.lft_validate.specs.Findings.{name_at}
use Rattle.lft_validate.proofs.declared.parameter_names.Given as goal

abbrev pub invariant-loop-parameter : goal.invariant-loop-parameter
invariant-loop-parameter l = map name_at l.names.items ≡ map (λ p. (string_bytes p.name, p.at)) (take l.parameter-index l.parameters)
