-- Inside: names of reactors in the core.
use Rattle.std.specs.Prelude.{◌≡◌, ℕ, List, Option, Some, None, slice_index_or, map, option_map, String, string_bytes, true}
use Rattle.std.specs.BTreeSet.{contains_text}
use Rattle.lft_lower.specs.declared.meanings.naming.CoreNames.{CoreNames}

-- no two of the names are the same
abbrev pub AreNamesApart : List (Option (List ℕ)) → Type 0
AreNamesApart names = (i j : ℕ) (q : List ℕ) → slice_index_or names i None ≡ Some q → slice_index_or names j None ≡ Some q → i ≡ j

-- the names as texts, by number
abbrev pub texts : {Z : Type 0} → List (Option (String Z)) → List (Option (List ℕ))
texts names = map (λ name. option_map (λ text. string_bytes text) name) names

-- ---- for the crate's own contracts
-- no two of the names that were found are the same, and each is taken
pub record AreNamesTaken (names : CoreNames) : Type 0 where
  pub apart : AreNamesApart (texts names.found.items)
  pub taken : (i : ℕ) (q : List ℕ) → slice_index_or (texts names.found.items) i None ≡ Some q → contains_text names.taken q ≡ true
