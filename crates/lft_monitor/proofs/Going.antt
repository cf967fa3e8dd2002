-- From what an acceptor keeps to what is sure of its rows.
use Rattle.std.proofs.Common.{◌≡◌, ℕ, ◌+◌, ◌<◌, inl, inr, List, [], ◌++◌, length, ap, ◌∙◌, subst, arith, Option, Some, None, slice_get}
use Rattle.lft_tag.specs.{declared.Tag.Tag, Tags.{UpTo, after}}
use Rattle.lft_lists.proofs.Places.{get_right}
use Rattle.lft_model.{proofs.Places.slice_get_within, specs.Plans.PlanParts}
use Rattle.lft_ir.specs.declared.steps.row.Row.{Row}
use Rattle.lft_stream.specs.{declared.stream.Stream.Stream, inner.{Dues.NoneDueBefore, Kept.{AreUpToLast, state_of, IsStreamOf}}, Kept.low_of}
use Rattle.lft_monitor.{specs.Sure.IsUnbroken, proofs.Coming.timely_law}

pub shown : (plan : PlanParts) (t : List Row) (low : Tag) (s : Stream) → IsStreamOf plan t s → UpTo low (low_of s.tag) → NoneDueBefore s.stop low s.dues → IsUnbroken plan t low
shown plan t low s stands up none = timely_law plan t low (state_of stands.lanes (low_of s.tag) s) stands.state (record { lows = λ n. up; dues = subst (λ (k : Tag). NoneDueBefore k low s.dues) stands.stop_is none })

pub next_up : (g h : Tag) → UpTo g h → UpTo (after g 0) (after h 0)
next_up g h (inl l) = inl l
next_up g h (inr x) = inr (x.0, (let a = x.1 in omega arith))

-- behind the last row, what is kept has come to its tag
pub behind_last : (d u : List Row) (x : Row) (k : ℕ) (tag : Option Tag) → slice_get u k ≡ Some x → AreUpToLast (d ++ u) tag → UpTo (after x.tag 0) (low_of tag)
behind_last d u x k None e none = absurd (nothing (d ++ u) (length d + k) none (get_right d u k ∙ e))
  where
    nothing : (t : List Row) (i : ℕ) → t ≡ [] → slice_get t i ≡ Some x → ⊥
    nothing t i q p = let l : i < length t = slice_get_within t i x p in let z : length t ≡ 0 = ap (λ (s : List Row). length s) q in omega arith
behind_last d u x k (Some g) e up = next_up x.tag g (up (length d + k) x (get_right d u k ∙ e))
