-- Whether reactions met, as a test.
use Rattle.std.proofs.Common.{◌≡◌, ◌<◌, ◌≤◌, ◌+◌, ◌/◌, ◌%◌, ◌++◌, ℕ, zero, suc, Bool, true, false, List, [], ◌∷◌, length, flat_map, take, refl, sym, ap, ◌∙◌, arith, eq-eqb}
use Rattle.std.specs.Prelude.{◌↔◌, IsTrue, unwrap_or, slice_index}
use Rattle.std.{specs.{List.enumerate_from, Int.bit_at}, proofs.lemmas.Bool.ne_eqb}
use Rattle.lft_lists.proofs.Places.{get_there}
use Rattle.lft_ir.specs.Parts.{Parts}
use Rattle.lft_graph.specs.Sets.{Has}
use Rattle.lft_counts.specs.{declared.overlaps.Overlaps.Overlaps, Overlaps.met_by}
use Rattle.lft_coverage.specs.{Facts.{has, pair_words}, inner.Facts.HasSets}

-- what is asked of a set is the test
pub as_test : (set : List ℕ) (a : ℕ) (b : Bool) → IsTrue b ↔ Has set a → b ≡ has set a
as_test set a true h = sym (eq-eqb (bit_at (slice_index set (a / 64)) (a % 64)) 1 (h.0 refl))
as_test set a false h = sym (ne_eqb (bit_at (slice_index set (a / 64)) (a % 64)) 1 (λ e. let z : ◌≡◌ false true = h.1 e in absurd (cc)))

-- a set has room for all reactions
pub has_room : (program : Parts) (overlaps : Overlaps) → HasSets program overlaps → (r : ℕ) → r < length program.reactions → length (met_by overlaps r) ≡ length program.reactions / 64 + 1
has_room program overlaps sets r l =
    let x = get_there overlaps.met.items r (let e = sets.as_long in omega (arith, l, e)) in
    ap (λ o. length (unwrap_or o [])) x.1 ∙ sets.room r x.0 x.1

-- no lines of so many reactions from a number on, none of which is in the set
pub none_met_from : {X : Type 0} (program : Parts) (set : List ℕ) (then n from : ℕ) (xs : List X) → ((r : ℕ) → from ≤ r → r < from + n → Has set r → ⊥) → flat_map (λ d. pair_words program (has set d.0) d.0 then) (take n (enumerate_from from xs)) ≡ []
none_met_from program set then zero from xs none = refl
none_met_from program set then (suc n) from [] none = refl
none_met_from program set then (suc n) from (x ∷ xs) none =
    let off : has set from ≡ false = ne_eqb (bit_at (slice_index set (from / 64)) (from % 64)) 1 (none from (omega arith) (omega arith)) in
    ap (λ b. pair_words program b from then ++ flat_map (λ d. pair_words program (has set d.0) d.0 then) (take n (enumerate_from (from + 1) xs))) off
    ∙ none_met_from program set then n (from + 1) xs (λ r l m h. none r (omega (arith, l)) (omega (arith, m)) h)
