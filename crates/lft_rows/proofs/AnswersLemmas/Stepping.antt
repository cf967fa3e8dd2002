-- The steps of a run, one row after another, and what they answer.
use Rattle.std.proofs.Common.{◌≡◌, ℕ, zero, suc, ◌+◌, ◌<◌, ◌≤◌, ◌⊎◌, inl, inr, List, [], ◌∷◌, ◌++◌, length, take, append-nil, refl, sym, ap, ◌∙◌, subst, arith, Option, Some, None, Bool, true, false, slice_get, filter_map, is_some}
use Rattle.std.specs.List.{last_or, cons_option}
use Rattle.lft_tag.specs.declared.Tag.{Tag}
use Rattle.lft_lists.proofs.{Members.{last-append_nil, last-append_some, get_mem, mem_get, none_nil}, Picked.kept_more}
use Rattle.lft_ir.specs.declared.steps.row.{Row.Row, Step.{Step, TheVariants.{Start, Stop, End}}}
use Rattle.lft_model.specs.{Plans.PlanParts, Breaches.IsOpen, Runs.{start_row, end_row, step_of, steps_of, request_of}}
use Rattle.lft_model.proofs.Steps.{step_row, row_step, request_mem, mem_request}
use Rattle.lft_model.proofs.{Legality.{four, opened, start_of, one_start, one_starter, start_or_inner, IsInner}, Places.{slice_get_within, slice_get_take}}
use Rattle.lft_model.proofs.Ended.{row_is}
use Rattle.lft_rows.specs.Answers.Answers.{KeepsRows}

nothing : {Y : Type 0} (o : Option Y) → is_some o ≡ false → cons_option o [] ≡ []
nothing None e = refl
nothing (Some y) e = absurd (cc)

-- the last of what a filter keeps, one item more
pub last_stays : {X Y : Type 0} (h : X → Option Y) (xs : List X) (i : ℕ) (x : X) (o now : Option Y) → slice_get xs i ≡ Some x → now ≡ h x → is_some now ≡ false → o ≡ last_or None (filter_map h (take i xs)) → o ≡ last_or None (filter_map h (take (i + 1) xs))
last_stays h xs i x o now e q s inv = inv ∙ sym (ap (λ zs. last_or None zs) (kept_more h xs i x now e q) ∙ last-append_nil None (filter_map h (take i xs)) (cons_option now []) (nothing now s))

pub last_changes : {X Y : Type 0} (h : X → Option Y) (xs : List X) (i : ℕ) (x : X) (now : Option Y) → slice_get xs i ≡ Some x → now ≡ h x → is_some now ≡ true → now ≡ last_or None (filter_map h (take (i + 1) xs))
last_changes h xs i x None e q s = absurd (cc)
last_changes h xs i x (Some y) e q s = sym (ap (λ zs. last_or None zs) (kept_more h xs i x (Some y) e q) ∙ last-append_some None (filter_map h (take i xs)) (y ∷ []) y refl)

-- no stop among the first steps
abbrev pub NoStopTo : List Step → ℕ → Type 0
NoStopTo steps i = (j : ℕ) → j < i → ¬ (slice_get steps j ≡ Some Stop)

pub stop_found : (steps : List Step) (i : ℕ) (s : Step) → slice_get steps i ≡ Some s → s ≡ Stop → request_of steps ≡ true
stop_found steps i s e q = mem_request steps (mem_get steps i Stop (e ∙ ap Some q))

pub no_stop : (steps : List Step) (i : ℕ) → length steps ≤ i → NoStopTo steps i → request_of steps ≡ false
no_stop steps i l none = go (request_of steps) refl
  where
    go : (b : Bool) → request_of steps ≡ b → request_of steps ≡ false
    go false e = e
    go true e = let m = get_mem Stop steps (request_mem steps e) in let k : m.0 < length steps = slice_get_within steps m.0 Stop m.1 in absurd (none m.0 (omega arith) m.1)

-- a filter keeps nothing from a place on
kept_all : {X Y : Type 0} (h : X → Option Y) (xs : List X) (n : ℕ) → ((j : ℕ) (y : X) → n ≤ j → slice_get xs j ≡ Some y → h y ≡ None) → filter_map h (take n xs) ≡ filter_map h xs
kept_all h [] zero n = refl
kept_all h [] (suc k) n = refl
kept_all h (x ∷ xs) zero n = sym (none_nil h (x ∷ xs) (λ j y q. n j y (omega arith) q))
kept_all h (x ∷ xs) (suc k) n = ap (λ zs. cons_option (h x) zs) (kept_all h xs k (λ j y l q. n (suc j) y (omega arith) q))

-- where rows stand that are no step of a run
module _ (plan : PlanParts) (t : List Row) (rules : KeepsRows plan t) (place : ℕ) (start : Row) (is_start : slice_get t place ≡ Some start) (begins : start.step ≡ Start) where
  as_start : slice_get t place ≡ Some (start_row start.worker start.tag start.reaction)
  as_start = is_start ∙ ap (λ (s : Step). let y : Row = record { worker = start.worker; tag = start.tag; reaction = start.reaction; step = s } in Some y) begins

  -- no row of the run stands before its start row
  none_before : (j : ℕ) (x : Row) → j < place → slice_get t j ≡ Some x → x.tag ≡ start.tag → x.reaction ≡ start.reaction → ⊥
  none_before j x l e p q =
      let s = start_of plan t (four plan t rules) j x e in
      let at : slice_get t s.0 ≡ Some (start_row x.worker start.tag start.reaction) = s.2 ∙ ap (λ (h : Tag). Some (start_row x.worker h x.reaction)) p ∙ ap (λ (c : ℕ). Some (start_row x.worker start.tag c)) q in
      let same : s.0 ≡ place = one_start plan t (four plan t rules) s.0 place x.worker start.worker start.tag start.reaction at as_start in
      let u : s.0 ≤ j = s.1 in
      absurd (omega arith)

  step_none : (x : Row) → ¬ ((x.tag ≡ start.tag) × (x.reaction ≡ start.reaction)) → step_of start.tag start.reaction x ≡ None
  step_none x n = go (step_of start.tag start.reaction x) refl
    where
      go : (o : Option Step) → step_of start.tag start.reaction x ≡ o → step_of start.tag start.reaction x ≡ None
      go None e = e
      go (Some s) e = let z = step_row t start.tag start.reaction x s e in absurd (n (z.0, z.1))

  pub none_yet : filter_map (step_of start.tag start.reaction) (take place t) ≡ []
  none_yet = none_nil (step_of start.tag start.reaction) (take place t) (λ j y q. let z = slice_get_take place t j y q in step_none y (λ d. none_before j y z.0 z.1 d.0 d.1))

  -- one row more that is a step of the run, or isn't
  pub step_more : (at : ℕ) (row : Row) (steps : List Step) → slice_get t at ≡ Some row → (row.tag ≡ start.tag) × (row.reaction ≡ start.reaction) → steps ≡ filter_map (step_of start.tag start.reaction) (take at t) → steps ++ row.step ∷ [] ≡ filter_map (step_of start.tag start.reaction) (take (at + 1) t)
  step_more at row steps e d so_far = ap (λ zs. zs ++ row.step ∷ []) so_far ∙ sym (kept_more (step_of start.tag start.reaction) t at row (Some row.step) e (sym (row_step start.tag start.reaction row d.0 d.1)))

  pub step_past : (at : ℕ) (row : Row) (steps : List Step) → slice_get t at ≡ Some row → ¬ ((row.tag ≡ start.tag) × (row.reaction ≡ start.reaction)) → steps ≡ filter_map (step_of start.tag start.reaction) (take at t) → steps ≡ filter_map (step_of start.tag start.reaction) (take (at + 1) t)
  step_past at row steps e d so_far = so_far ∙ sym (kept_more (step_of start.tag start.reaction) t at row None e (sym (step_none row d)) ∙ append-nil (filter_map (step_of start.tag start.reaction) (take at t)))

  -- no row of the run stands after its end row
  module _ (at : ℕ) (row : Row) (is_row : slice_get t at ≡ Some row) (here : (row.tag ≡ start.tag) × (row.reaction ≡ start.reaction)) (is_end : row.step ≡ End) (from : place ≤ at) where
    ends : slice_get t at ≡ Some (end_row row.worker start.tag start.reaction)
    ends = is_row ∙ ap Some (row_is row row.worker start.tag start.reaction End refl here.0 here.1 is_end)

    first : IsOpen t at row.worker start.tag start.reaction
    first = opened plan t (four plan t rules) at (end_row row.worker start.tag start.reaction) ends tt

    none_after : (j : ℕ) (x : Row) → at < j → slice_get t j ≡ Some x → ¬ ((x.tag ≡ start.tag) × (x.reaction ≡ start.reaction))
    none_after j x m f d = go (start_or_inner x.step)
      where
        go : (x.step ≡ Start) ⊎ IsInner x.step → ⊥
        go (inl z) =
            let st : slice_get t j ≡ Some (start_row x.worker start.tag start.reaction) = f ∙ ap Some (row_is x x.worker start.tag start.reaction Start refl d.0 d.1 z) in
            let same : j ≡ place = one_start plan t (four plan t rules) j place x.worker start.worker start.tag start.reaction st as_start in
            absurd (omega arith)
        go (inr z) =
            let o : IsOpen t j x.worker start.tag start.reaction = subst (λ (h : Tag). IsOpen t j x.worker h start.reaction) d.0 (subst (λ (c : ℕ). IsOpen t j x.worker x.tag c) d.1 (opened plan t (four plan t rules) j x f z)) in
            let same : o.start ≡ first.start = one_start plan t (four plan t rules) o.start first.start x.worker row.worker start.tag start.reaction o.starts first.starts in
            let who : row.worker ≡ x.worker = one_starter plan t (four plan t rules) first.start o.start row.worker x.worker start.tag start.reaction first.starts o.starts in
            let l1 : first.start < at = first.before in
            o.not_ended at (omega arith) m (ends ∙ ap (λ (w : ℕ). Some (end_row w start.tag start.reaction)) who)

    pub all_steps : filter_map (step_of start.tag start.reaction) (take (at + 1) t) ≡ steps_of t start.tag start.reaction
    all_steps = kept_all (step_of start.tag start.reaction) t (at + 1) (λ j y l q. step_none y (none_after j y (omega arith) q))
