-- How far rows reach, one row after another.
use Rattle.std.proofs.Common.{◌≡◌, ℕ, ◌+◌, ◌<◌, ◌⊎◌, inl, inr, List, [], ◌∷◌, ◌++◌, length, take, length-append, refl, sym, ap, ◌∙◌, subst, arith, Option, Some, None, slice_get}
use native.Mathlib.Decide.{dec_lt}
use Rattle.lft_tag.{specs.{declared.Tag.Tag, Tags.{Before, UpTo}}, proofs.Order.{Before-trans, split_up}}
use Rattle.lft_lists.proofs.Places.{get_push, get_last, get_push_cases, same_at}
use Rattle.lft_ir.specs.declared.steps.row.{Row.Row, Step.TheVariants.Start}
use Rattle.lft_model.{specs.{Runs.{start_row, Ran}, Accepted.AreTags}, proofs.Places.{slice_get_within, slice_get_take, slice_get_taken}}
use Rattle.lft_rows.{specs.inner.Slices.Rises, proofs.{Counted.{count_start, count_inner}, Steps.row_eq}}
use Rattle.lft_monitor.specs.{Reach.{IsLastOf, IsReach}, declared.reach.Reach.Reach}

module _ (t : List Row) (n : ℕ) (row : Row) (at : slice_get t n ≡ Some row) where
  ran_more : (g : Tag) (c : ℕ) → Ran (take n t) g c → Ran (take (n + 1) t) g c
  ran_more g c x = let p = slice_get_take n t x.place (start_row x.worker g c) x.starts in let l : x.place < n = p.0 in record { place = x.place; worker = x.worker; starts = slice_get_taken (n + 1) t x.place (start_row x.worker g c) (omega arith) p.1 }

  ran_cases : (g : Tag) (c : ℕ) → Ran (take (n + 1) t) g c → Ran (take n t) g c ⊎ ((w : ℕ) × (row ≡ start_row w g c))
  ran_cases g c x = go (dec_lt x.place n)
    where
      p : (x.place < n + 1) × (slice_get t x.place ≡ Some (start_row x.worker g c))
      p = slice_get_take (n + 1) t x.place (start_row x.worker g c) x.starts

      go : Dec (x.place < n) → Ran (take n t) g c ⊎ ((w : ℕ) × (row ≡ start_row w g c))
      go (yes l) = inl (record { place = x.place; worker = x.worker; starts = slice_get_taken n t x.place (start_row x.worker g c) l p.1 })
      go (no m) = let a : x.place < n + 1 = p.0 in inr (x.worker, same_at t n x.place row (start_row x.worker g c) at p.1 (omega arith))

  -- the tags stay as they are
  tags_same : (gs : List Tag) → AreTags (take n t) gs → ((g : Tag) (c w : ℕ) → row ≡ start_row w g c → (k : ℕ) × (slice_get gs k ≡ Some g)) → AreTags (take (n + 1) t) gs
  tags_same gs are own = record { ascending = are.ascending; ran = λ k g e. let x = are.ran k g e in (x.0, ran_more g x.0 x.1); each = λ g c x. go g c (ran_cases g c x) }
    where
      go : (g : Tag) (c : ℕ) → Ran (take n t) g c ⊎ ((w : ℕ) × (row ≡ start_row w g c)) → (k : ℕ) × (slice_get gs k ≡ Some g)
      go g c (inl x) = are.each g c x
      go g c (inr x) = own g c x.0 x.1

  -- a row that starts no run
  pub reach_inner : (r : Reach) → ¬ (row.step ≡ Start) → IsReach (take n t) r → IsReach (take (n + 1) t) r
  reach_inner r not old = record {
    runs_are = old.runs_are ∙ sym (count_inner t n row at not);
    tags = old.tags;
    tags_are = tags_same old.tags old.tags_are (λ g c w e. absurd (not (ap (λ (x : Row). x.step) e)));
    many = old.many;
    last = old.last;
  }

  at_end : (gs before : List Tag) (g : Tag) → gs ≡ before ++ g ∷ [] → slice_get gs (length before) ≡ Some g
  at_end gs before g is = subst (λ (xs : List Tag). slice_get xs (length before) ≡ Some g) (sym is) (get_last before g)

  -- one more run at the last tag
  pub reach_same : (r new : Reach) → row.step ≡ Start → r.tag ≡ Some row.tag → IsReach (take n t) r → new.runs ≡ r.runs + 1 → new.tags ≡ r.tags → new.tag ≡ r.tag → IsReach (take (n + 1) t) new
  reach_same r new start tag old runs many same = record {
    runs_are = runs ∙ ap (λ k. k + 1) old.runs_are ∙ sym (count_start t n row at start);
    tags = old.tags;
    tags_are = tags_same old.tags old.tags_are (λ g c w e. let is : row.tag ≡ g = ap (λ (x : Row). x.tag) e in (length here.0, at_end old.tags here.0 g (here.1 ∙ ap (λ (k : Tag). here.0 ++ k ∷ []) is)));
    many = many ∙ old.many;
    last = subst (IsLastOf old.tags) (sym same) old.last;
  }
    where
      here : (before : List Tag) × (old.tags ≡ before ++ row.tag ∷ [])
      here = subst (IsLastOf old.tags) tag old.last

  module _ (rises : Rises t) where
    before_row : (g : Tag) (c : ℕ) → Ran (take n t) g c → UpTo g row.tag
    before_row g c x = let p = slice_get_take n t x.place (start_row x.worker g c) x.starts in rises x.place n (start_row x.worker g c) row p.0 p.1 at

    below : (o : Option Tag) → ¬ (o ≡ Some row.tag) → (gs : List Tag) → AreTags (take n t) gs → IsLastOf gs o → (j : ℕ) (h : Tag) → slice_get gs j ≡ Some h → Before h row.tag
    below None not gs are none j h e = let l : j < length gs = slice_get_within gs j h e in let z : length gs ≡ 0 = ap (λ (s : List Tag). length s) none in absurd (omega arith)
    below (Some g) not gs are (before, is) j h e = go (get_push_cases before g j h (subst (λ (xs : List Tag). slice_get xs j ≡ Some h) is e))
      where
        last_at : slice_get gs (length before) ≡ Some g
        last_at = at_end gs before g is

        last_before : Before g row.tag
        last_before = split (split_up g row.tag (let x = are.ran (length before) g last_at in before_row g x.0 x.1))
          where
            split : Before g row.tag ⊎ (g ≡ row.tag) → Before g row.tag
            split (inl b) = b
            split (inr q) = absurd (not (ap Some q))

        go : (slice_get before j ≡ Some h) ⊎ ((j ≡ length before) × (g ≡ h)) → Before h row.tag
        go (inl a) = Before-trans h g row.tag (are.ascending j (length before) h g (slice_get_within before j h a) e last_at) last_before
        go (inr a) = subst (λ (k : Tag). Before k row.tag) a.1 last_before

    -- one more run, at a tag that has none so far
    pub reach_next : (r new : Reach) → row.step ≡ Start → ¬ (r.tag ≡ Some row.tag) → IsReach (take n t) r → new.runs ≡ r.runs + 1 → new.tags ≡ r.tags + 1 → new.tag ≡ Some row.tag → IsReach (take (n + 1) t) new
    reach_next r new start other old runs many next = record {
      runs_are = runs ∙ ap (λ k. k + 1) old.runs_are ∙ sym (count_start t n row at start);
      tags = gs ++ row.tag ∷ [];
      tags_are = record { ascending = ascending; ran = ran; each = λ g c x. each g c (ran_cases g c x) };
      many = let a : length (gs ++ row.tag ∷ []) ≡ length gs + length (row.tag ∷ []) = length-append gs (row.tag ∷ []) in let b : length (row.tag ∷ []) ≡ 1 = refl in let c : r.tags ≡ length gs = old.many in let e : new.tags ≡ r.tags + 1 = many in omega arith;
      last = subst (IsLastOf (gs ++ row.tag ∷ [])) (sym next) (gs, refl);
    }
      where
        gs : List Tag
        gs = old.tags

        before : (j : ℕ) (h : Tag) → slice_get gs j ≡ Some h → Before h row.tag
        before = below r.tag other gs old.tags_are old.last

        ascending : (j k : ℕ) (h i : Tag) → j < k → slice_get (gs ++ row.tag ∷ []) j ≡ Some h → slice_get (gs ++ row.tag ∷ []) k ≡ Some i → Before h i
        ascending j k h i l p q = go (get_push_cases gs row.tag j h p) (get_push_cases gs row.tag k i q)
          where
            go : (slice_get gs j ≡ Some h) ⊎ ((j ≡ length gs) × (row.tag ≡ h)) → (slice_get gs k ≡ Some i) ⊎ ((k ≡ length gs) × (row.tag ≡ i)) → Before h i
            go (inl a) (inl b) = old.tags_are.ascending j k h i l a b
            go (inl a) (inr b) = subst (λ (z : Tag). Before h z) b.1 (before j h a)
            go (inr a) (inl b) = let x : k < length gs = slice_get_within gs k i b in let y : j ≡ length gs = a.0 in absurd (omega arith)
            go (inr a) (inr b) = let x : k ≡ length gs = b.0 in let y : j ≡ length gs = a.0 in absurd (omega arith)

        is : row ≡ start_row row.worker row.tag row.reaction
        is = row_eq row Start start

        ran : (k : ℕ) (h : Tag) → slice_get (gs ++ row.tag ∷ []) k ≡ Some h → (c : ℕ) × Ran (take (n + 1) t) h c
        ran k h e = go (get_push_cases gs row.tag k h e)
          where
            go : (slice_get gs k ≡ Some h) ⊎ ((k ≡ length gs) × (row.tag ≡ h)) → (c : ℕ) × Ran (take (n + 1) t) h c
            go (inl a) = let x = old.tags_are.ran k h a in (x.0, ran_more h x.0 x.1)
            go (inr a) = subst (λ (z : Tag). (c : ℕ) × Ran (take (n + 1) t) z c) a.1 (row.reaction, record { place = n; worker = row.worker; starts = slice_get_taken (n + 1) t n (start_row row.worker row.tag row.reaction) (omega arith) (at ∙ ap Some is) })

        each : (g : Tag) (c : ℕ) → Ran (take n t) g c ⊎ ((w : ℕ) × (row ≡ start_row w g c)) → (k : ℕ) × (slice_get (gs ++ row.tag ∷ []) k ≡ Some g)
        each g c (inl x) = let k = old.tags_are.each g c x in (k.0, get_push gs row.tag k.0 g k.1)
        each g c (inr x) = (length gs, get_last gs row.tag ∙ ap Some (ap (λ (y : Row). y.tag) x.1))
