use Rattle.std.proofs.Common.{◌≡◌, map}
use Rattle.std.specs.List.{fold}
use Rattle.lft_whole_parser.specs.Imports.Paths.{step}
use Rattle.lft_whole_parser.proofs.imports.paths.push_parts.Given as goal

abbrev pub invariant-loop-part : goal.invariant-loop-part
invariant-loop-part l = map (λ x. x.now) l.folders.items ≡ fold (step l.fn.from_root) (map (λ x. x.now) l.fn.folders.items) (map (λ x. x.now) l.yielded)
