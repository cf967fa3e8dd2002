use Rattle.std.proofs.Common.{◌≡◌, ◌++◌, take}
use Rattle.lft_validate.specs.inner.Members.{behind}
use Rattle.lft_validate.proofs.names.push_all.Given as goal

abbrev pub invariant-loop-reference : goal.invariant-loop-reference
invariant-loop-reference l = behind l.found.items ≡ behind l.initial.found.items ++ take l.reference-index l.references
