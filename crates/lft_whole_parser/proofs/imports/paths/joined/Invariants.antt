use Rattle.std.proofs.Common.{◌≡◌, map, take, string_bytes}
use Rattle.lft_whole_parser.specs.Imports.Paths.{joined_path}
use Rattle.lft_whole_parser.proofs.imports.paths.joined.Given as goal

abbrev pub invariant-loop-place : goal.invariant-loop-place
invariant-loop-place l = string_bytes l.path ≡ joined_path l.fn.from_root (take l.place (map (λ x. x.now) l.folders))
