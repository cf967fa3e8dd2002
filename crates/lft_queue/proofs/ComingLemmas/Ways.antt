-- Ways, and where they lead from a tag.
use Rattle.std.proofs.Common.{◌≡◌, ℕ, zero, suc, ◌<◌, ◌≤◌, ◌⊎◌, inl, inr, refl, ◌∙◌, arith}
use Rattle.lft_tag.specs.{declared.{Tag.Tag, Shift.Shift}, Tags.UpTo, Shifts.moved}
use Rattle.lft_queue.specs.inner.Coming.Unread.{GoesAsFar}

pub moved_up : (g : Tag) (a b c d : ℕ) → (a < c) ⊎ ((a ≡ c) × (b ≤ d)) → UpTo (moved g a b) (moved g c d)
moved_up g zero b zero d (inl l) = absurd (omega arith)
moved_up g zero b zero d (inr e) = let l : b ≤ d = e.1 in inr (refl, omega arith)
moved_up g zero b (suc c) d h = inl (omega arith)
moved_up g (suc a) b zero d (inl l) = absurd (omega arith)
moved_up g (suc a) b zero d (inr e) = let z : suc a ≡ zero = e.0 in absurd (omega arith)
moved_up g (suc a) b (suc c) d (inl l) = inl (omega arith)
moved_up g (suc a) b (suc c) d (inr e) = let z : suc a ≡ suc c = e.0 in inr (omega arith, e.1)

pub far_trans : (s f h : Shift) → GoesAsFar s f → GoesAsFar f h → GoesAsFar s h
far_trans s f h (inl a) (inl b) = inl (omega arith)
far_trans s f h (inl a) (inr b) = let e : f.time ≡ h.time = b.0 in inl (omega arith)
far_trans s f h (inr a) (inl b) = let e : s.time ≡ f.time = a.0 in inl (omega arith)
far_trans s f h (inr a) (inr b) = let p : s.steps ≤ f.steps = a.1 in let q : f.steps ≤ h.steps = b.1 in inr (a.0 ∙ b.0, omega arith)
