-- Names that differ.
use Rattle.std.proofs.Common.{◌≡◌, ℕ, ◌<◌, List, [], ◌∷◌, ◌++◌, zero, suc, Option, Some, None, Bool, true, false, cond, length, set, get_or, refl, ◌∙◌, ap, arith, get_or-set_other, get_or-set_same}
use Rattle.std.specs.Prelude.{slice_index_or}
use Rattle.std.specs.{Str.bytes_eq, Cmp.Lexicographic.nat_list_eq_equiv}
use Rattle.lft_lower.specs.inner.Meanings.Names.{AreNamesApart}

-- there is no name yet
abbrev pub AreNone : List (Option (List ℕ)) → Type 0
AreNone names = (i : ℕ) (q : List ℕ) → slice_index_or names i None ≡ Some q → ⊥

pub none_first : AreNone []
none_first zero q at = absurd (cc)
none_first (suc i) q at = absurd (cc)

pub none_more : (names : List (Option (List ℕ))) → AreNone names → AreNone (names ++ None ∷ [])
none_more [] none zero q at = absurd (cc)
none_more [] none (suc i) q at = none_first i q at
none_more (n ∷ ns) none zero q at = none zero q at
none_more (n ∷ ns) none (suc i) q at = none_more ns (λ j p. none (suc j) p) i q at

-- each of the names is such a one
abbrev pub AreIn : List (Option (List ℕ)) → (List ℕ → Bool) → Type 0
AreIn names taken = (i : ℕ) (q : List ℕ) → slice_index_or names i None ≡ Some q → taken q ≡ true

not_in : (names : List (Option (List ℕ))) (taken : List ℕ → Bool) (q : List ℕ) → AreIn names taken → taken q ≡ false → (i : ℕ) → get_or names i None ≡ Some q → ⊥
not_in names taken q known free i at = grind (arith, known i q at)

-- one more name, which isn't taken, is apart from the others
pub apart_more : (names : List (Option (List ℕ))) (taken : List ℕ → Bool) (k : ℕ) (q : List ℕ) → k < length names → AreNamesApart names → AreIn names taken → taken q ≡ false → AreNamesApart (set names k (Some q))
apart_more names taken k q within apart known free i j p at_i at_j =
    let out : (m : ℕ) → get_or names m None ≡ Some q → ⊥ = not_in names taken q known free in
    grind (arith, get_or-set_other, get_or-set_same)

both : (b : Bool) → cond b true true ≡ true
both true = refl
both false = refl

-- those that are taken stay so
pub taken_still : (names : List (Option (List ℕ))) (taken after : List ℕ → Bool) (q : List ℕ) → AreIn names taken → ((p : List ℕ) → after p ≡ cond (bytes_eq q p) true (taken p)) → AreIn names after
taken_still names taken after q known more i p at = more p ∙ ap (cond (bytes_eq q p) true) (known i p at) ∙ both (bytes_eq q p)

-- one more name is taken, as the others
pub taken_more : (names : List (Option (List ℕ))) (taken after : List ℕ → Bool) (k : ℕ) (q : List ℕ) → k < length names → AreIn names taken → ((p : List ℕ) → after p ≡ cond (bytes_eq q p) true (taken p)) → AreIn (set names k (Some q)) after
taken_more names taken after k q within known more i p at =
    let here : after q ≡ true = more q ∙ ap (λ b. cond b true (taken q)) (nat_list_eq_equiv.refl q) in
    let was : get_or names i None ≡ Some p → after p ≡ true = taken_still names taken after q known more i p in
    grind (arith, get_or-set_other, get_or-set_same)
