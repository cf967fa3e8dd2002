use Rattle.std.proofs.Common.{◌≡◌, ℕ, ◌<◌, Some, slice_get}
use Rattle.lft_syntax.specs.declared.token.Token.{Token}
use Rattle.lft_program_diagnostics.specs.inner.Codes.{IsCodeWith}
use Rattle.lft_program_diagnostics.proofs.code.has_code_with.Given as goal

abbrev pub invariant-loop-at : goal.invariant-loop-at
invariant-loop-at l = (i : ℕ) (code : Token) → i < l.at → slice_get l.tokens i ≡ Some code → IsCodeWith l.text l.word code → ⊥
