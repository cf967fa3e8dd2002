-- Where runs at a tag end first, and which no row ends.
use Rattle.std.proofs.Common.{◌≡◌, ℕ, ◌+◌, ◌<◌, ◌≤◌, ◌⊎◌, inl, inr, Bool, true, false, List, length, refl, sym, ap, ◌∙◌, subst, arith, Some, slice_get, slice_set}
use Rattle.std.specs.Prelude.{◌↔◌}
use native.Mathlib.Decide.{ℕ_discrete, dec_lt}
use Rattle.lft_lists.proofs.Places.{get_write_cases, get_unwritten, Some_same}
use Rattle.lft_graph.specs.Sets.{Has}
use Rattle.lft_tag.specs.declared.Tag.{Tag}
use Rattle.lft_ir.specs.declared.steps.row.{Row.Row, Step.TheVariants.{Start, End}}
use Rattle.lft_rows.{specs.{declared.slices.Slice.Slice, inner.Slices.IsSlice}, proofs.Steps.row_eq}
use Rattle.lft_model.specs.Runs.{start_row, end_row}
use Rattle.lft_races.specs.Runs.{StartsAt, EndsAt}
use Rattle.lft_races.specs.inner.{Runs.HaveRun, Races.AreUnfinished, Noted.{EndRuns, AreUpTo, IsNoted, AreNoted, HasUnfinished, HasOpenReactions}}
use Rattle.lft_races.specs.Races.{NotEnded, IsUnfinished}

-- a row of a step and a tag
module _ (t : List Row) (i : ℕ) (row : Row) (is_row : slice_get t i ≡ Some row) where
  pub starts_here : (g : Tag) → row.step ≡ Start → row.tag ≡ g → StartsAt t g row.reaction i
  starts_here g s e = (row.worker, is_row ∙ ap Some (row_eq row Start s) ∙ ap (λ (h : Tag). Some (start_row row.worker h row.reaction)) e)

  pub ends_here : (g : Tag) → row.step ≡ End → row.tag ≡ g → EndsAt t g row.reaction i
  ends_here g s e = (row.worker, is_row ∙ ap Some (row_eq row End s) ∙ ap (λ (h : Tag). Some (end_row row.worker h row.reaction)) e)

  pub start_here : (g : Tag) (a : ℕ) → StartsAt t g a i → (a ≡ row.reaction) × (row.step ≡ Start)
  start_here g a x = let e : start_row x.0 g a ≡ row = Some_same (start_row x.0 g a) row (sym x.1 ∙ is_row) in (ap (λ (y : Row). y.reaction) e, ap (λ (y : Row). y.step) (sym e))

  pub end_here : (g : Tag) (a : ℕ) → EndsAt t g a i → (a ≡ row.reaction) × (row.step ≡ End) × (row.tag ≡ g)
  end_here g a x = let e : end_row x.0 g a ≡ row = Some_same (end_row x.0 g a) row (sym x.1 ∙ is_row) in (ap (λ (y : Row). y.reaction) e, ap (λ (y : Row). y.step) (sym e), ap (λ (y : Row). y.tag) (sym e))

-- no row up to a place ends a run, where none before it does and it doesn't
pub not_ended_more : (t : List Row) (g : Tag) (a i : ℕ) → ¬ EndsAt t g a i → NotEnded t g a i → NotEnded t g a (i + 1)
not_ended_more t g a i none so_far j l e = go (ℕ_discrete j i)
  where
    go : Dec (j ≡ i) → ⊥
    go (yes z) = none (subst (λ k. EndsAt t g a k) z e)
    go (no n) = so_far j (omega arith) e

pub not_ended_less : (t : List Row) (g : Tag) (a i : ℕ) → NotEnded t g a (i + 1) → NotEnded t g a i
not_ended_less t g a i so_far j l e = so_far j (omega arith) e

pub unfinished_less : (t : List Row) (g : Tag) (a i : ℕ) → IsUnfinished t g a (i + 1) → IsUnfinished t g a i
unfinished_less t g a i u = record { ran = u.ran; not_ended = not_ended_less t g a i u.not_ended }

pub unfinished_more : (t : List Row) (g : Tag) (a i : ℕ) → ¬ EndsAt t g a i → IsUnfinished t g a i → IsUnfinished t g a (i + 1)
unfinished_more t g a i none u = record { ran = u.ran; not_ended = not_ended_more t g a i none u.not_ended }

-- what is noted of a reaction that doesn't end in one more row
pub noted_stays : (t : List Row) (s : Slice) (i a x : ℕ) → ¬ EndsAt t s.tag a i → IsNoted t s i a x → IsNoted t s (i + 1) a x
noted_stays t s i a x none (inl p) = inl (p.0, not_ended_more t s.tag a i none p.1)
noted_stays t s i a x none (inr p) = let l : p.0 < i = p.3 in inr (p.0, p.1, p.2, omega arith, p.4, p.5)

pub noted_none : (t : List Row) (s : Slice) → IsSlice t s → (ends : List ℕ) → AreUpTo ends s.first → AreNoted t s s.first ends
noted_none t s slice ends low a x e = inl (low a x e, none)
  where
    none : NotEnded t s.tag a s.first
    none j l q = let r : s.first ≤ j = (slice.all j (end_row q.0 s.tag a) q.1 refl).0 in absurd (omega arith)

-- one more row of a slice
module _ (t : List Row) (s : Slice) (slice : IsSlice t s) (i : ℕ) (row : Row) (is_row : slice_get t i ≡ Some row) (from : s.first ≤ i) (before : i < s.end) where
  here : row.step ≡ End → EndsAt t s.tag row.reaction i
  here d = ends_here t i row is_row s.tag d (slice.at_tag i row is_row from before)

  not_end : ¬ (row.step ≡ End) → (a : ℕ) → ¬ EndsAt t s.tag a i
  not_end n a x = n ((end_here t i row is_row s.tag a x).1)

  not_start : ¬ (row.step ≡ Start) → (a : ℕ) → ¬ StartsAt t s.tag a i
  not_start n a x = n ((start_here t i row is_row s.tag a x).1)

  pub note_stays : (ends : List ℕ) → ¬ (row.step ≡ End) → AreNoted t s i ends → AreNoted t s (i + 1) ends
  note_stays ends n so_far a x e = noted_stays t s i a x (not_end n a) (so_far a x e)

  -- the run ended before
  pub note_kept : (ends : List ℕ) (x : ℕ) → slice_get ends row.reaction ≡ Some x → s.first < x → AreNoted t s i ends → AreNoted t s (i + 1) ends
  note_kept ends x at above so_far a y e = go (so_far a y e) (ℕ_discrete a row.reaction)
    where
      go : IsNoted t s i a y → Dec (a ≡ row.reaction) → IsNoted t s (i + 1) a y
      go p (no n) = noted_stays t s i a y (λ x. n ((end_here t i row is_row s.tag a x).0)) p
      go (inl p) (yes r) = let w : y ≡ x = Some_same y x (sym e ∙ ap (λ k. slice_get ends k) r ∙ at) in let b : y ≤ s.first = p.0 in absurd (omega arith)
      go (inr p) (yes r) = let l : p.0 < i = p.3 in inr (p.0, p.1, p.2, omega arith, p.4, p.5)

  -- the run ends here first
  pub note_first : (ends new : List ℕ) (x : ℕ) → row.step ≡ End → slice_get ends row.reaction ≡ Some x → x ≤ s.first → row.reaction < length ends → new ≡ slice_set ends row.reaction (i + 1) → AreNoted t s i ends → AreNoted t s (i + 1) new
  note_first ends new x d at low there is so_far a y e = go (get_write_cases ends row.reaction a (i + 1) y there (ap (λ xs. slice_get xs a) (sym is) ∙ e))
    where
      first : IsNoted t s i row.reaction x → NotEnded t s.tag row.reaction i
      first (inl q) = q.1
      first (inr q) = let z : q.0 + 1 ≡ x = q.1 in let w : s.first ≤ q.0 = q.2 in absurd (omega arith)

      go : ((a ≡ row.reaction) × (i + 1 ≡ y)) ⊎ (¬ (a ≡ row.reaction) × (slice_get ends a ≡ Some y)) → IsNoted t s (i + 1) a y
      go (inl p) = inr (i, p.1, from, omega arith, subst (λ k. EndsAt t s.tag k i) (sym p.0) (here d), subst (λ k. NotEnded t s.tag k i) (sym p.0) (first (so_far row.reaction x at)))
      go (inr p) = noted_stays t s i a y (λ q. p.0 ((end_here t i row is_row s.tag a q).0)) (so_far a y p.1)

  back_start : (set : List ℕ) (a : ℕ) → ¬ StartsAt t s.tag a i → HasOpenReactions t s i set → ((k : ℕ) × (k < i + 1) × StartsAt t s.tag a k) × NotEnded t s.tag a s.end → Has set a
  back_start set a none so_far x = go (ℕ_discrete x.0.0 i)
    where
      go : Dec (x.0.0 ≡ i) → Has set a
      go (yes z) = absurd (none (subst (λ k. StartsAt t s.tag a k) z x.0.2))
      go (no n) = let l : x.0.0 < i + 1 = x.0.1 in (so_far a).1 ((x.0.0, omega arith, x.0.2), x.1)

  on_start : (set : List ℕ) (a : ℕ) → HasOpenReactions t s i set → Has set a → ((k : ℕ) × (k < i + 1) × StartsAt t s.tag a k) × NotEnded t s.tag a s.end
  on_start set a so_far h = let x = (so_far a).0 h in let l : x.0.0 < i = x.0.1 in ((x.0.0, omega arith, x.0.2), x.1)

  pub open_stays : (set : List ℕ) → ¬ (row.step ≡ Start) → HasOpenReactions t s i set → HasOpenReactions t s (i + 1) set
  open_stays set n so_far a = (on_start set a so_far, back_start set a (not_start n a) so_far)

  -- the run that starts here ends in the slice
  pub open_kept : (ends set : List ℕ) (x : ℕ) → slice_get ends row.reaction ≡ Some x → s.first < x → AreNoted t s s.end ends → HasOpenReactions t s i set → HasOpenReactions t s (i + 1) set
  open_kept ends set x at above noted so_far a = (on_start set a so_far, λ y. back y (ℕ_discrete a row.reaction))
    where
      ended : IsNoted t s s.end row.reaction x → ¬ NotEnded t s.tag row.reaction s.end
      ended (inl p) never = let l : x ≤ s.first = p.0 in absurd (omega arith)
      ended (inr p) never = never p.0 p.3 p.4

      back : ((k : ℕ) × (k < i + 1) × StartsAt t s.tag a k) × NotEnded t s.tag a s.end → Dec (a ≡ row.reaction) → Has set a
      back y (yes r) = absurd (ended (noted row.reaction x at) (subst (λ k. NotEnded t s.tag k s.end) r y.1))
      back y (no n) = back_start set a (λ q. n ((start_here t i row is_row s.tag a q).0)) so_far y

  -- no row ends the run that starts here
  pub open_more : (ends set new : List ℕ) (x : ℕ) → row.step ≡ Start → slice_get ends row.reaction ≡ Some x → x ≤ s.first → AreNoted t s s.end ends → ((a : ℕ) → Has new a ↔ ((a ≡ row.reaction) ⊎ Has set a)) → HasOpenReactions t s i set → HasOpenReactions t s (i + 1) new
  open_more ends set new x st at low noted inserted so_far a = (λ h. fore ((inserted a).0 h), λ y. (inserted a).1 (back y (ℕ_discrete a row.reaction)))
    where
      never : IsNoted t s s.end row.reaction x → NotEnded t s.tag row.reaction s.end
      never (inl p) = p.1
      never (inr p) = let z : p.0 + 1 ≡ x = p.1 in let w : s.first ≤ p.0 = p.2 in absurd (omega arith)

      fore : (a ≡ row.reaction) ⊎ Has set a → ((k : ℕ) × (k < i + 1) × StartsAt t s.tag a k) × NotEnded t s.tag a s.end
      fore (inl q) = ((i, omega arith, subst (λ n. StartsAt t s.tag n i) (sym q) (starts_here t i row is_row s.tag st (slice.at_tag i row is_row from before))), subst (λ n. NotEnded t s.tag n s.end) (sym q) (never (noted row.reaction x at)))
      fore (inr h) = on_start set a so_far h

      back : ((k : ℕ) × (k < i + 1) × StartsAt t s.tag a k) × NotEnded t s.tag a s.end → Dec (a ≡ row.reaction) → (a ≡ row.reaction) ⊎ Has set a
      back y (yes r) = inl r
      back y (no n) = inr (back_start set a (λ q. n ((start_here t i row is_row s.tag a q).0)) so_far y)

  pub left_stays : (set : List ℕ) → ¬ (row.step ≡ End) → HasUnfinished t s.tag (i + 1) set → HasUnfinished t s.tag i set
  left_stays set n so_far a = (λ h. unfinished_less t s.tag a i ((so_far a).0 h), λ u. (so_far a).1 (unfinished_more t s.tag a i (not_end n a) u))

  -- the run ended before
  pub left_kept : (ends set : List ℕ) (x : ℕ) → slice_get ends row.reaction ≡ Some x → ¬ (x ≡ i + 1) → row.step ≡ End → AreNoted t s s.end ends → HasUnfinished t s.tag (i + 1) set → HasUnfinished t s.tag i set
  left_kept ends set x at other d noted so_far a = (λ h. unfinished_less t s.tag a i ((so_far a).0 h), λ u. (so_far a).1 (unfinished_more t s.tag a i (λ q. later q u) u))
    where
      is_first : NotEnded t s.tag row.reaction i → IsNoted t s s.end row.reaction x → x ≡ i + 1
      is_first none (inl p) = absurd (p.1 i before (here d))
      is_first none (inr p) = by (dec_lt p.0 i) (dec_lt i p.0)
        where
          by : Dec (p.0 < i) → Dec (i < p.0) → x ≡ i + 1
          by (yes l) m = absurd (none p.0 l p.4)
          by (no n) (yes l) = absurd (p.5 i l (here d))
          by (no n) (no m) = let z : p.0 + 1 ≡ x = p.1 in omega arith

      later : EndsAt t s.tag a i → ¬ IsUnfinished t s.tag a i
      later q u = other (is_first (subst (λ k. NotEnded t s.tag k i) ((end_here t i row is_row s.tag a q).0) u.not_ended) (noted row.reaction x at))

  -- the run ends here first
  pub left_more : (ends set new : List ℕ) (x : ℕ) → EndRuns t → row.step ≡ End → slice_get ends row.reaction ≡ Some x → x ≡ i + 1 → AreNoted t s s.end ends → ((a : ℕ) → Has new a ↔ ((a ≡ row.reaction) ⊎ Has set a)) → HasUnfinished t s.tag (i + 1) set → HasUnfinished t s.tag i new
  left_more ends set new x runs d at next noted inserted so_far a = (λ h. fore ((inserted a).0 h), λ u. (inserted a).1 (back u (ℕ_discrete a row.reaction)))
    where
      first : IsNoted t s s.end row.reaction x → NotEnded t s.tag row.reaction i
      first (inl p) = let l : x ≤ s.first = p.0 in absurd (omega arith)
      first (inr p) = let z : p.0 + 1 ≡ x = p.1 in let e : p.0 ≡ i = omega arith in subst (λ k. NotEnded t s.tag row.reaction k) e p.5

      own : IsUnfinished t s.tag row.reaction i
      own = record { ran = runs i row.reaction s.tag (here d); not_ended = first (noted row.reaction x at) }

      fore : (a ≡ row.reaction) ⊎ Has set a → IsUnfinished t s.tag a i
      fore (inl e) = subst (λ k. IsUnfinished t s.tag k i) (sym e) own
      fore (inr h) = unfinished_less t s.tag a i ((so_far a).0 h)

      back : IsUnfinished t s.tag a i → Dec (a ≡ row.reaction) → (a ≡ row.reaction) ⊎ Has set a
      back u (yes e) = inl e
      back u (no n) = inr ((so_far a).1 (unfinished_more t s.tag a i (λ q. n ((end_here t i row is_row s.tag a q).0)) u))

pub open_none : (t : List Row) (s : Slice) → IsSlice t s → (set : List ℕ) → ((r : ℕ) → Has set r → ⊥) → HasOpenReactions t s s.first set
open_none t s slice set none a = (λ h. absurd (none a h), λ x. absurd (early x))
  where
    early : ¬ (((k : ℕ) × (k < s.first) × StartsAt t s.tag a k) × NotEnded t s.tag a s.end)
    early x = let r : s.first ≤ x.0.0 = (slice.all x.0.0 (start_row x.0.2.0 s.tag a) x.0.2.1 refl).0 in let l : x.0.0 < s.first = x.0.1 in absurd (omega arith)

pub open_all : (t : List Row) (s : Slice) → IsSlice t s → (place : ℕ) → s.end ≤ place → (set : List ℕ) → HasOpenReactions t s place set → HasUnfinished t s.tag s.end set
open_all t s slice place all set open_to a = (λ h. let x = (open_to a).0 h in record { ran = record { place = x.0.0; worker = x.0.2.0; starts = x.0.2.1 }; not_ended = x.1 }, back)
  where
    back : IsUnfinished t s.tag a s.end → Has set a
    back u = let l : u.ran.place < s.end = (slice.all u.ran.place (start_row u.ran.worker s.tag a) u.ran.starts refl).1 in (open_to a).1 ((u.ran.place, omega arith, (u.ran.worker, u.ran.starts)), u.not_ended)

-- marks of the runs at a tag
pub marks_none : (t : List Row) (g : Tag) (marks : List Bool) → HaveRun t g marks → AreUnfinished t g 0 marks
marks_none t g marks have a = (λ h. record { ran = (have a).0 h; not_ended = none }, λ u. (have a).1 u.ran)
  where
    none : NotEnded t g a 0
    none j l e = absurd (omega arith)

module _ (t : List Row) (g : Tag) (i : ℕ) (row : Row) (is_row : slice_get t i ≡ Some row) where
  pub marks_stay : (marks : List Bool) → ¬ EndsAt t g row.reaction i → AreUnfinished t g i marks → AreUnfinished t g (i + 1) marks
  marks_stay marks none so_far a = (λ h. unfinished_more t g a i (λ q. none (subst (λ k. EndsAt t g k i) ((end_here t i row is_row g a q).0) q)) ((so_far a).0 h), λ u. (so_far a).1 (unfinished_less t g a i u))

  pub marks_less : (marks new : List Bool) → EndsAt t g row.reaction i → row.reaction < length marks → new ≡ slice_set marks row.reaction false → AreUnfinished t g i marks → AreUnfinished t g (i + 1) new
  marks_less marks new ends there is so_far a = (λ h. fore (get_write_cases marks row.reaction a false true there (ap (λ bs. slice_get bs a) (sym is) ∙ h)), λ u. ap (λ bs. slice_get bs a) is ∙ back u (ℕ_discrete a row.reaction))
    where
      fore : ((a ≡ row.reaction) × (false ≡ true)) ⊎ (¬ (a ≡ row.reaction) × (slice_get marks a ≡ Some true)) → IsUnfinished t g a (i + 1)
      fore (inl q) = let z : ◌≡◌ {A = Bool} false true = q.1 in absurd (cc)
      fore (inr q) = unfinished_more t g a i (λ x. q.0 ((end_here t i row is_row g a x).0)) ((so_far a).0 q.1)

      back : IsUnfinished t g a (i + 1) → Dec (a ≡ row.reaction) → slice_get (slice_set marks row.reaction false) a ≡ Some true
      back u (yes q) = absurd (u.not_ended i (omega arith) (subst (λ k. EndsAt t g k i) (sym q) ends))
      back u (no n) = get_unwritten marks row.reaction a false n ∙ (so_far a).1 (unfinished_less t g a i u)
