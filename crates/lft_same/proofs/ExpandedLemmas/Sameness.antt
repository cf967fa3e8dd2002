-- A flat program of what is the whole program is one of the whole program.
use Rattle.std.proofs.Common.{◌≡◌, ℕ, List, Option, Some, None, option_map, refl, sym, ap, subst, ◌∙◌}
use Rattle.lft_same.specs.{Expanded.{Expanded.Contents, Flat.IsFlat, Same.awake, Whole.expanded_files}, inner.Expanded.Laws.{CoreLaw, SameLaw}}
use Rattle.lft_same.proofs.ExpandedLemmas.Flattened.{flat_out}

pub core_law : CoreLaw
core_law = flat_out

awoken : (path : List ℕ) (q : Option (List ℕ)) → q ≡ None → (o : Option Contents) → option_map (awake path q) o ≡ o
awoken path q none None = refl
awoken path q none (Some c) = ap (λ v. Some (awake path v c)) none

pub same_law : SameLaw
same_law files expanded same wake p flat = subst (λ e. IsFlat e p) at_each flat
  where
    at_each : expanded ≡ expanded_files files same.widths
    at_each = λ i path. (sym (awoken path (same.never path) (wake path) (expanded path)) ∙ same.same path) i
