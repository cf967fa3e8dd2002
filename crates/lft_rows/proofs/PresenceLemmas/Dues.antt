-- The reactions that are due at a tag, one after another.
use Rattle.std.proofs.Common.{◌≡◌, ℕ, ◌+◌, ◌<◌, ◌≤◌, ◌⊎◌, inl, inr, List, [], ◌∷◌, ◌++◌, length, sym, ap, ◌∙◌, subst, arith, Some, slice_get}
use native.Mathlib.Decide.{ℕ_discrete}
use Rattle.lft_tag.specs.declared.Tag.{Tag}
use Rattle.lft_lists.proofs.Places.{get_left, get_last, get_push_cases}
use Rattle.lft_model.{specs.Presence.Triggered, proofs.Places.slice_get_within}
use Rattle.lft_rows.specs.Presence.Traces.{TraceParts, AreDue}

-- the reactions below n that are due
pub record AreDueTo (cut : TraceParts) (g : Tag) (n : ℕ) (due : List ℕ) : Type 0 where
  pub ascending : (j k a b : ℕ) → j < k → slice_get due j ≡ Some a → slice_get due k ≡ Some b → a < b
  pub triggered : (k a : ℕ) → slice_get due k ≡ Some a → Triggered cut.plan cut.rows g a
  pub below : (k a : ℕ) → slice_get due k ≡ Some a → a < n
  pub each : (a : ℕ) → a < n → Triggered cut.plan cut.rows g a → (k : ℕ) × (slice_get due k ≡ Some a)

module _ (cut : TraceParts) (g : Tag) (n : ℕ) (due : List ℕ) (so_far : AreDueTo cut g n due) where
  pub due_stays : ¬ Triggered cut.plan cut.rows g n → AreDueTo cut g (n + 1) due
  due_stays d = record { ascending = so_far.ascending; triggered = so_far.triggered; below = λ k a e. let l : a < n = so_far.below k a e in omega arith; each = λ a l x. go a l x (ℕ_discrete a n) }
    where
      go : (a : ℕ) → a < n + 1 → Triggered cut.plan cut.rows g a → Dec (a ≡ n) → (k : ℕ) × (slice_get due k ≡ Some a)
      go a l x (yes e) = absurd (d (subst (λ z. Triggered cut.plan cut.rows g z) e x))
      go a l x (no e) = so_far.each a (omega arith) x

  pub due_more : Triggered cut.plan cut.rows g n → AreDueTo cut g (n + 1) (due ++ n ∷ [])
  due_more h = record { ascending = λ j k a b l p q. up j k a b l (get_push_cases due n j a p) (get_push_cases due n k b q); triggered = λ k a e. has a (get_push_cases due n k a e); below = λ k a e. low a (get_push_cases due n k a e); each = λ a l x. go a l x (ℕ_discrete a n) }
    where
      up : (j k a b : ℕ) → j < k → (slice_get due j ≡ Some a) ⊎ ((j ≡ length due) × (n ≡ a)) → (slice_get due k ≡ Some b) ⊎ ((k ≡ length due) × (n ≡ b)) → a < b
      up j k a b l (inl p) (inl q) = so_far.ascending j k a b l p q
      up j k a b l (inl p) (inr q) = let m : a < n = so_far.below j a p in let e : n ≡ b = q.1 in omega arith
      up j k a b l (inr p) (inl q) = let m : k < length due = slice_get_within due k b q in let e : j ≡ length due = p.0 in absurd (omega arith)
      up j k a b l (inr p) (inr q) = let e : j ≡ length due = p.0 in let f : k ≡ length due = q.0 in absurd (omega arith)

      has : (a : ℕ) → {k : ℕ} → (slice_get due k ≡ Some a) ⊎ ((k ≡ length due) × (n ≡ a)) → Triggered cut.plan cut.rows g a
      has a {k} (inl p) = so_far.triggered k a p
      has a {k} (inr p) = subst (λ z. Triggered cut.plan cut.rows g z) p.1 h

      low : (a : ℕ) → {k : ℕ} → (slice_get due k ≡ Some a) ⊎ ((k ≡ length due) × (n ≡ a)) → a < n + 1
      low a {k} (inl p) = let m : a < n = so_far.below k a p in omega arith
      low a {k} (inr p) = let e : n ≡ a = p.1 in omega arith

      go : (a : ℕ) → a < n + 1 → Triggered cut.plan cut.rows g a → Dec (a ≡ n) → (k : ℕ) × (slice_get (due ++ n ∷ []) k ≡ Some a)
      go a l x (yes e) = (length due, get_last due n ∙ ap Some (sym e))
      go a l x (no e) = let k = so_far.each a (omega arith) x in (k.0, get_left due (n ∷ []) k.0 a k.1)

pub due_ends : (cut : TraceParts) (g : Tag) (n : ℕ) (due : List ℕ) → length cut.plan.program.reactions ≤ n → AreDueTo cut g n due → AreDue cut g due
due_ends cut g n due l h = record { ascending = h.ascending; triggered = h.triggered; each = λ a x. let m : a < length cut.plan.program.reactions = slice_get_within cut.plan.program.reactions a x.reaction x.is_reaction in h.each a (omega arith) x }
