use Rattle.std.proofs.Common.{◌≡◌, ℕ, ◌<◌, Some, slice_get}
use Rattle.lft_program_diagnostics.specs.{Pages.HasByte, declared.pages.Page.Page}
use Rattle.lft_program_diagnostics.proofs.pages.page_of.Given as goal

abbrev pub invariant-loop-place : goal.invariant-loop-place
invariant-loop-place l = (i : ℕ) (page : Page) → i < l.place → slice_get l.files i ≡ Some page → HasByte l.at page → ⊥
