-- Where the slices from a tag on begin.
use Rattle.std.proofs.Common.{◌≡◌, ℕ, ◌+◌, ◌<◌, ◌≤◌, List, length, subst, arith, Some, slice_get}
use native.Mathlib.Decide.{dec_lt}
use Rattle.lft_tag.{specs.{declared.Tag.Tag, Tags.{Before, UpTo}}, proofs.Order.{UpTo-trans, Before-weaken}}
use Rattle.lft_lists.proofs.Places.{same_at}
use Rattle.lft_ir.specs.declared.steps.row.Row.{Row}
use Rattle.lft_model.proofs.Places.{slice_get_within}
use Rattle.lft_rows.{specs.declared.slices.Slice.Slice, proofs.PresenceLemmas.Skips.up_to_stop}
use Rattle.lft_check.specs.inner.{ByTag.Slices.AreSlices, Verdicts.IsBegin}

-- the slices below the place are before the tag
abbrev pub AreBelow : List Slice → Tag → ℕ → Type 0
AreBelow slices low place = (k : ℕ) (x : Slice) → k < place → slice_get slices k ≡ Some x → Before x.tag low

pub one_below : (slices : List Slice) (low : Tag) (place : ℕ) (here : Slice) → slice_get slices place ≡ Some here → Before here.tag low → AreBelow slices low place → AreBelow slices low (place + 1)
one_below slices low place here is before below k x l e = go (dec_lt k place)
  where
    go : Dec (k < place) → Before x.tag low
    go (yes m) = below k x m e
    go (no m) = subst (λ (z : Slice). Before z.tag low) (same_at slices place k here x is e (omega arith)) before

pub begins_here : (t : List Row) (slices : List Slice) → AreSlices t slices → (low : Tag) (place : ℕ) (here : Slice) → slice_get slices place ≡ Some here → ¬ Before here.tag low → AreBelow slices low place → IsBegin slices low place
begins_here t slices are low place here is n below = record { before = below; from = λ k x l e. go k x l e (dec_lt place k) }
  where
    go : (k : ℕ) (x : Slice) → place ≤ k → slice_get slices k ≡ Some x → Dec (place < k) → UpTo low x.tag
    go k x l e (yes m) = UpTo-trans low here.tag x.tag (up_to_stop here.tag low n) (Before-weaken here.tag x.tag (are.ascending place k here x m is e))
    go k x l e (no m) = subst (λ (z : Slice). UpTo low z.tag) (same_at slices place k here x is e (omega arith)) (up_to_stop here.tag low n)

pub none_begins : (slices : List Slice) (low : Tag) (n : ℕ) → length slices ≤ n → AreBelow slices low n → IsBegin slices low n
none_begins slices low n all below = record { before = below; from = λ k x l e. absurd (let m : k < length slices = slice_get_within slices k x e in omega arith) }
