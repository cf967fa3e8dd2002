-- The numbers of runs and tags, over the rows of a later tag.
use Rattle.std.proofs.Common.{◌≡◌, ℕ, ◌+◌, ◌<◌, ◌⊎◌, inl, inr, List, [], ◌∷◌, ◌++◌, length, length-append, refl, sym, ap, ◌∙◌, subst, arith, Bool, cond, Some, slice_get}
use Rattle.std.{specs.List.count_by, proofs.lemmas.List.Sums.sum_by-append}
use Rattle.lft_tag.specs.{declared.Tag.Tag, Tags.Before}
use Rattle.lft_lists.proofs.Places.{get_left, get_right, get_push, get_last, get_push_cases, get_append_cases}
use Rattle.lft_ir.specs.declared.steps.row.Row.{Row}
use Rattle.lft_model.{specs.{Runs.{start_row, Ran}, Accepted.{begins, runs_in, AreTags}}, proofs.Places.slice_get_within}
use Rattle.lft_queue.specs.Coming.AtTag.{AreBefore, AreAt}
use Rattle.lft_stream.specs.inner.Counted.{AreRunsCounted}

-- a later tag with a run adds its runs, and one tag
abbrev pub CountLaw : Type 0
CountLaw = (d u : List Row) (g : Tag) (r runs tags : ℕ) → AreBefore d g → AreAt u g → Ran u g r → AreRunsCounted d runs tags → AreRunsCounted (d ++ u) (runs + runs_in u) (tags + 1)

count_append : {X : Type 0} (p : X → Bool) (xs ys : List X) → count_by p (xs ++ ys) ≡ count_by p xs + count_by p ys
count_append p xs ys = sum_by-append (λ x. cond (p x) 1 0) xs ys

module _ (d u : List Row) (g : Tag) (earlier : AreBefore d g) (at : AreAt u g) where
  tags_step : (r : ℕ) → Ran u g r → (gs : List Tag) → AreTags d gs → AreTags (d ++ u) (gs ++ g ∷ [])
  tags_step r o gs are = record { ascending = ascending; ran = ran; each = each }
    where
      before : (j : ℕ) (h : Tag) → slice_get gs j ≡ Some h → Before h g
      before j h e = let x = are.ran j h e in earlier x.1.place (start_row x.1.worker h x.0) x.1.starts

      ascending : (j k : ℕ) (h i : Tag) → j < k → slice_get (gs ++ g ∷ []) j ≡ Some h → slice_get (gs ++ g ∷ []) k ≡ Some i → Before h i
      ascending j k h i l p q = go (get_push_cases gs g j h p) (get_push_cases gs g k i q)
        where
          go : (slice_get gs j ≡ Some h) ⊎ ((j ≡ length gs) × (g ≡ h)) → (slice_get gs k ≡ Some i) ⊎ ((k ≡ length gs) × (g ≡ i)) → Before h i
          go (inl a) (inl b) = are.ascending j k h i l a b
          go (inl a) (inr b) = subst (λ (z : Tag). Before h z) b.1 (before j h a)
          go (inr a) (inl b) = let x : k < length gs = slice_get_within gs k i b in let y : j ≡ length gs = a.0 in absurd (omega arith)
          go (inr a) (inr b) = let x : k ≡ length gs = b.0 in let y : j ≡ length gs = a.0 in absurd (omega arith)

      ran : (k : ℕ) (h : Tag) → slice_get (gs ++ g ∷ []) k ≡ Some h → (c : ℕ) × Ran (d ++ u) h c
      ran k h e = go (get_push_cases gs g k h e)
        where
          go : (slice_get gs k ≡ Some h) ⊎ ((k ≡ length gs) × (g ≡ h)) → (c : ℕ) × Ran (d ++ u) h c
          go (inl a) = let x = are.ran k h a in (x.0, record { place = x.1.place; worker = x.1.worker; starts = get_left d u x.1.place (start_row x.1.worker h x.0) x.1.starts })
          go (inr a) = subst (λ (z : Tag). (c : ℕ) × Ran (d ++ u) z c) a.1 (r, record { place = length d + o.place; worker = o.worker; starts = get_right d u o.place ∙ o.starts })

      each : (h : Tag) (c : ℕ) → Ran (d ++ u) h c → (k : ℕ) × (slice_get (gs ++ g ∷ []) k ≡ Some h)
      each h c x = go (get_append_cases d u x.place (start_row x.worker h c) x.starts)
        where
          go : (slice_get d x.place ≡ Some (start_row x.worker h c)) ⊎ ((j : ℕ) × (x.place ≡ length d + j) × (slice_get u j ≡ Some (start_row x.worker h c))) → (k : ℕ) × (slice_get (gs ++ g ∷ []) k ≡ Some h)
          go (inl a) = let k = are.each h c (record { place = x.place; worker = x.worker; starts = a }) in (k.0, get_push gs g k.0 h k.1)
          go (inr a) = (length gs, get_last gs g ∙ ap Some (sym (at a.0 (start_row x.worker h c) a.2)))

pub count_law : CountLaw
count_law d u g r runs tags earlier at o old = record {
  runs_are = ap (λ n. n + runs_in u) old.runs_are ∙ sym (count_append (λ (row : Row). begins row.step) d u);
  tags_are =
      let gs = old.tags_are.0 in
      let a : tags ≡ length gs = old.tags_are.2 in
      let b : length (gs ++ g ∷ []) ≡ length gs + length (g ∷ []) = length-append gs (g ∷ []) in
      let c : length (g ∷ []) ≡ 1 = refl in
      (gs ++ g ∷ [], tags_step d u g earlier at r o gs old.tags_are.1, omega arith);
}
