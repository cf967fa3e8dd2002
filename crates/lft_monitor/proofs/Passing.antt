-- One row after another is gone over, at hand behind rows that are done.
use Rattle.std.proofs.Common.{◌≡◌, ℕ, ◌+◌, ◌-◌, ◌<◌, ◌≤◌, ◌⊎◌, inl, inr, List, [], ◌∷◌, ◌++◌, length, take, refl, sym, ap, ◌∙◌, subst, arith, Option, Some, None, MatchOption, slice_get, slice_range}
use Rattle.std.proofs.lemmas.{List.{append-nil, length-take-le}, Option.get_or_from_slice_get}
use native.Mathlib.Decide.{dec_lt}
use Rattle.lft_tag.specs.{declared.Tag.Tag, Tags.{Before, UpTo, after}}
use Rattle.lft_tag.proofs.Order.{Before-irrefl, Before-UpTo, UpTo-Before, UpTo-refl, UpTo-trans, Before-weaken, after_past, order_cases}
use Rattle.lft_lists.proofs.{Members.Mem, Places.{get_there, same_at}, Picked.take_one_more}
use Rattle.lft_ir.specs.declared.steps.row.{Row.Row, Step.{Step, TheVariants.End}}
use Rattle.lft_model.specs.{Breaches.{IsOpen, IsOutOfOrder}, Plans.PlanParts, Presence.{stop, requests}}
use Rattle.lft_model.proofs.{Places.{slice_get_within, slice_get_take, slice_get_taken}, Stops.{asker, stop_added}}
use Rattle.lft_rows.specs.{inner.{Passes.{KeepsEarly, EarlyRule, FirstUnended, HasPassed, HasGoneOn, IsPass}, Places.place_of}, declared.pass.Pass.Pass}
use Rattle.lft_rows.proofs.Growing.{grown_law, nearer_law}
use Rattle.lft_stream.proofs.Parting.{up_to_second}
use Rattle.lft_monitor.specs.{declared.gone.Going.Going, inner.Going.{AreEnded, AreFewOpenRuns, HasEnded, IsGoing, IsGoneTo, IsFirstBad, IsRunLost, opened}}
use Rattle.lft_monitor.proofs.{Opening.{next_open, opened_few, unended_front}, Stops.stop_row}

-- what a pass goes by is of the program
pub is_pass : (plan : PlanParts) (done rows : List Row) (g : Going) → IsGoing plan done rows g → IsPass plan.program g.pass
is_pass plan done rows g is = record { effects = is.passes.effects; laid = is.passes.known.marked.are_before.is_laid }

-- before the first row
pub begun : (plan : PlanParts) (done rows : List Row) (g : Going) → g.stop ≡ stop plan done → g.passed ≡ 0 → g.runs ≡ 0 → ((last : Tag) (t : List Row) → HasPassed last plan t 0 g.pass) → IsGoing plan done rows g
begun plan done rows g stops none shut passes = record {
  within = let z : g.passed ≡ 0 = none in omega arith;
  stop_is = stops ∙ ap (λ (t : List Row). stop plan t) (sym (append-nil done)) ∙ ap (λ (n : ℕ). stop plan (done ++ take n rows)) (sym none);
  passes = subst (λ (n : ℕ). HasPassed g.stop plan (take n rows) n g.pass) (sym none) (passes g.stop (take 0 rows));
  ended = λ z e i x at. absurd (nothing i x at);
  few = let z : g.runs ≡ 0 = shut in omega arith;
  runs = ([], omega arith, λ i x at. absurd (nothing i x at));
}
  where
    nothing : (i : ℕ) (x : Row) → slice_get (take g.passed rows) i ≡ Some x → ⊥
    nothing i x at = let l : i < g.passed = (slice_get_take g.passed rows i x at).0 in let z : g.passed ≡ 0 = none in omega arith

module _ (rows : List Row) (place : ℕ) (row : Row) (at : slice_get rows place ≡ Some row) where
  inside : place < length rows
  inside = slice_get_within rows place row at

  next : take (place + 1) rows ≡ take place rows ++ row ∷ []
  next = take_one_more rows place row inside (get_or_from_slice_get rows place row row at)

  own : slice_range rows 0 (place + 1) ≡ take (place + 1) rows
  own = up_to_second rows 0 (place + 1) (omega arith)

  module _ (plan : PlanParts) (done : List Row) (g : Going) (here : place ≡ g.passed) (is : IsGoing plan done rows g) where
    stops : g.stop ≡ stop plan (done ++ take place rows)
    stops = subst (λ (n : ℕ). g.stop ≡ stop plan (done ++ take n rows)) (sym here) is.stop_is

    passes : HasPassed g.stop plan (take place rows) place g.pass
    passes = subst (λ (n : ℕ). HasPassed g.stop plan (take n rows) n g.pass) (sym here) is.passes

    -- what is gone over is gone over still with the next row
    grown : HasPassed g.stop plan (take (place + 1) rows) place g.pass
    grown = subst (λ (t : List Row). HasPassed g.stop plan t place g.pass) (sym next) (grown_law plan g.stop (take place rows) (row ∷ []) place g.pass (let a = length-take-le place rows (let l : place < length rows = inside in omega arith) in omega arith) passes)

    pub grown_own : HasPassed g.stop plan (slice_range rows 0 (place + 1)) place g.pass
    grown_own = subst (λ (t : List Row). HasPassed g.stop plan t place g.pass) (sym own) grown

    pub gone_to : IsGoneTo plan done rows place
    gone_to = record {
      within = let l : place < length rows = inside in omega arith;
      kept = subst (λ (s : Tag). KeepsEarly s plan (take place rows) place) stops passes.kept;
      ended = λ z e. subst (λ (n : ℕ). AreEnded (take n rows) z.tag) (sym here) (is.ended z (subst (λ (n : ℕ). slice_get rows (n - 1) ≡ Some z) here e));
    }

    -- the next row breaks a rule
    pub bad_here : HasEnded rows place → (new : Pass) (i k : ℕ) → HasGoneOn g.stop plan (slice_range rows 0 (place + 1)) new (Some (i, k)) → IsFirstBad plan done rows place k
    bad_here ended new i k gone = record {
      row = x;
      is_row = (slice_get_take (place + 1) rows place x there).1;
      gone = gone_to;
      ended = ended x (slice_get_take (place + 1) rows place x there).1;
      rule = subst (λ (s : Tag). EarlyRule s plan (take (place + 1) rows) place x (Some k)) stops rule;
    }
      where
        x : Row
        x = gone.0

        got : slice_get (take (place + 1) rows) i ≡ Some x
        got = subst (λ (t : List Row). slice_get t i ≡ Some x) own gone.1

        broken : EarlyRule g.stop plan (take (place + 1) rows) i x (Some k)
        broken = subst (λ (t : List Row). EarlyRule g.stop plan t i x (Some k)) own gone.3

        same : i ≡ place
        same = go (dec_lt i place)
          where
            go : Dec (i < place) → i ≡ place
            go (yes l) = absurd (grown.kept i x k l got broken.1 broken.0)
            go (no n) = let a = (slice_get_take (place + 1) rows i x got).0 in omega (arith, a)

        there : slice_get (take (place + 1) rows) place ≡ Some x
        there = subst (λ (n : ℕ). slice_get (take (place + 1) rows) n ≡ Some x) same got

        rule : EarlyRule g.stop plan (take (place + 1) rows) place x (Some k)
        rule = subst (λ (n : ℕ). EarlyRule g.stop plan (take (place + 1) rows) n x (Some k)) same broken

    -- the next row breaks none
    pub gone_on : HasEnded rows place → (new : Going) → HasGoneOn g.stop plan (slice_range rows 0 (place + 1)) new.pass None → new.passed ≡ place + 1 → new.runs ≡ opened g.runs row.step → ((p : PlanParts) (t : List Row) → g.stop ≡ stop p t → new.stop ≡ stop p (t ++ row ∷ [])) → IsGoing plan done rows new
    gone_on ended new gone on counts stopped = record {
      within = let a : new.passed ≡ place + 1 = on in let l : place < length rows = inside in omega arith;
      stop_is = is_stop ∙ stop_row plan done rows place row at ∙ ap (λ (n : ℕ). stop plan (done ++ take n rows)) (sym on);
      passes = subst (λ (n : ℕ). HasPassed new.stop plan (take n rows) n new.pass) (sym on) nearer;
      ended = λ z e. subst (λ (n : ℕ). AreEnded (take n rows) z.tag) (sym on) (subst (λ (y : Row). AreEnded (take (place + 1) rows) y.tag) (same_at rows place (new.passed - 1) row z at e (let a : new.passed ≡ place + 1 = on in omega arith)) ended_here);
      few = let a : new.runs ≡ opened g.runs row.step = counts in let b = opened_few g.runs row.step in let l : g.runs ≤ g.passed = is.few in let q : place ≡ g.passed = here in let c : new.passed ≡ place + 1 = on in omega (arith, b);
      runs = subst (λ (n : ℕ). AreFewOpenRuns (take n rows) new.runs) (sym on) (subst (λ (n : ℕ). AreFewOpenRuns (take (place + 1) rows) n) (sym counts) open_here);
    }
      where
        is_stop : new.stop ≡ stop plan ((done ++ take place rows) ++ row ∷ [])
        is_stop = stopped plan (done ++ take place rows) stops

        long : length (take (place + 1) rows) ≡ place + 1
        long = length-take-le (place + 1) rows (let l : place < length rows = inside in omega arith)

        whole : HasPassed g.stop plan (take (place + 1) rows) (place + 1) new.pass
        whole = subst (λ (n : ℕ). HasPassed g.stop plan (take (place + 1) rows) n new.pass) long (subst (λ (t : List Row). HasPassed g.stop plan t (length t) new.pass) own gone)

        there : slice_get (take (place + 1) rows) place ≡ Some row
        there = slice_get_taken (place + 1) rows place row (omega arith) at

        in_time : (j : ℕ) (x : Row) → j < place + 1 → slice_get (take (place + 1) rows) j ≡ Some x → UpTo x.tag g.stop
        in_time j x l e = go (order_cases g.stop x.tag)
          where
            go : Before g.stop x.tag ⊎ UpTo x.tag g.stop → UpTo x.tag g.stop
            go (inl b) = absurd (whole.kept j x 2 l e (omega arith) (inr (inl (refl, b))))
            go (inr u) = u

        rising : (j : ℕ) (x : Row) → j < place + 1 → slice_get (take (place + 1) rows) j ≡ Some x → UpTo x.tag row.tag
        rising j x l e = go (dec_lt j place) (order_cases row.tag x.tag)
          where
            go : Dec (j < place) → Before row.tag x.tag ⊎ UpTo x.tag row.tag → UpTo x.tag row.tag
            go d (inr u) = u
            go (yes m) (inl b) = absurd (whole.kept place row 1 (omega arith) there (omega arith) (inl (refl, (j, x, m, e, b))))
            go (no n) (inl b) = let q : x ≡ row = same_at (take (place + 1) rows) j place x row e there (omega arith) in subst (λ (y : Row). UpTo y.tag row.tag) (sym q) (UpTo-refl row.tag)

        up : (j : ℕ) (x : Row) → j < place + 1 → slice_get (take (place + 1) rows) j ≡ Some x → UpTo x.tag new.stop
        up j x l e = go (stop_added plan (done ++ take place rows) (row ∷ []))
          where
            go : (stop plan ((done ++ take place rows) ++ row ∷ []) ≡ stop plan (done ++ take place rows)) ⊎ Mem (stop plan ((done ++ take place rows) ++ row ∷ [])) (requests (row ∷ [])) → UpTo x.tag new.stop
            go (inl q) = subst (λ (s : Tag). UpTo x.tag s) (stops ∙ sym q ∙ sym is_stop) (in_time j x l e)
            go (inr m) = let a = asker (row ∷ []) (stop plan ((done ++ take place rows) ++ row ∷ [])) m in subst (λ (s : Tag). UpTo x.tag s) (a.3 ∙ sym is_stop) (asked a.0 a.1)
              where
                asked : (y : Row) → Mem y (row ∷ []) → UpTo x.tag (after y.tag 0)
                asked y (inl q) = subst (λ (z : Row). UpTo x.tag (after z.tag 0)) q (UpTo-trans x.tag row.tag (after row.tag 0) (rising j x l e) (Before-weaken row.tag (after row.tag 0) (after_past row.tag 0)))
                asked y (inr n) = absurd n

        nearer : HasPassed new.stop plan (take (place + 1) rows) (place + 1) new.pass
        nearer = nearer_law plan g.stop new.stop (take (place + 1) rows) (place + 1) new.pass up whole

        -- each run before its tag has its end
        ended_here : AreEnded (take (place + 1) rows) row.tag
        ended_here i x e before o = go (dec_lt i place)
          where
            got : (i < place + 1) × (slice_get rows i ≡ Some x)
            got = slice_get_take (place + 1) rows i x e

            go : Dec (i < place) → ⊥
            go (yes l) = ended row at i x (slice_get_taken place rows i x l got.1) before (unended_front rows place (place + 1) i x (omega arith) o)
            go (no n) = let l : i < place + 1 = got.0 in Before-irrefl row.tag (subst (λ (y : Row). Before y.tag row.tag) (same_at rows i place x row got.1 at (omega arith)) before)

        -- the runs that are open
        open_here : AreFewOpenRuns (take (place + 1) rows) (opened g.runs row.step)
        open_here = next_open rows place row at g.runs (subst (λ (n : ℕ). AreFewOpenRuns (take n rows) g.runs) (sym here) is.runs) (place_of g.pass.known.runs row.worker) (passes.known.held row.worker) in_order
          where
            in_order : row.step ≡ End → ¬ (¬ IsOpen (take (place + 1) rows) place row.worker row.tag row.reaction)
            in_order ends none = whole.kept place row 3 (omega arith) there (omega arith) (inr (inr (inl (refl, subst (λ (s : Step). IsOutOfOrder (take (place + 1) rows) place row s) (sym ends) none))))

-- the rows before the place are all gone over
module _ (rows : List Row) (place : ℕ) (inside : place < length rows) where
  front : slice_range rows 0 place ≡ take place rows
  front = up_to_second rows 0 place (omega arith)

  long_front : length (take place rows) ≡ place
  long_front = length-take-le place rows (omega arith)

  pub all_gone : (plan : PlanParts) (done : List Row) (g : Going) → place ≡ g.passed → IsGoing plan done rows g → HasPassed g.stop plan (slice_range rows 0 place) (length (slice_range rows 0 place)) g.pass
  all_gone plan done g here is = subst (λ (t : List Row). HasPassed g.stop plan t (length t) g.pass) (sym front) (subst (λ (n : ℕ). HasPassed g.stop plan (take place rows) n g.pass) (sym long_front) (subst (λ (n : ℕ). HasPassed g.stop plan (take n rows) n g.pass) (sym here) is.passes))

  -- where no row is before the place
  pub none_before : place ≡ 0 → HasEnded rows place
  none_before first row at i x e before o = let l : i < place = (slice_get_take place rows i x e).0 in omega arith

  -- where the tag doesn't rise, what was so at the tag is so
  pub none_rises : (plan : PlanParts) (done : List Row) (g : Going) → place ≡ g.passed → IsGoing plan done rows g → 0 < place → ((x y : Row) → slice_get rows (place - 1) ≡ Some x → slice_get rows place ≡ Some y → ¬ Before x.tag y.tag) → HasEnded rows place
  none_rises plan done g here is some flat row at i x e before o =
      let z = get_there rows (place - 1) (omega (arith, inside, some)) in
      let ended : AreEnded (take place rows) z.0.tag = subst (λ (n : ℕ). AreEnded (take n rows) z.0.tag) (sym here) (is.ended z.0 (subst (λ (n : ℕ). slice_get rows (n - 1) ≡ Some z.0) here z.1)) in
      ended i x e (Before-UpTo x.tag row.tag z.0.tag before (up z.0 (order_cases z.0.tag row.tag) (flat z.0 row z.1 at))) o
    where
      up : (y : Row) → Before y.tag row.tag ⊎ UpTo row.tag y.tag → ¬ Before y.tag row.tag → UpTo row.tag y.tag
      up y (inl b) never = absurd (never b)
      up y (inr u) never = u

  -- where none is found, each has its end
  pub none_lost : FirstUnended (slice_range rows 0 place) place None → HasEnded rows place
  none_lost none row at i x e before o = subst (λ (t : List Row). FirstUnended t place None) front none i x (slice_get_take place rows i x e).0 e o

  -- the first that is found is at the tag of the row before, or at an earlier one
  pub lost_here : (plan : PlanParts) (done : List Row) (g : Going) → place ≡ g.passed → IsGoing plan done rows g → 0 < place → ((x y : Row) → slice_get rows (place - 1) ≡ Some x → slice_get rows place ≡ Some y → Before x.tag y.tag) → (s : ℕ) → FirstUnended (slice_range rows 0 place) place (Some s) → IsRunLost plan done rows s place
  lost_here plan done g here is some rises s found = record { row = first.0; later = later.0; is_row = got.1; is_later = later.1; before = UpTo-Before first.0.tag z.0.tag later.0.tag up (rises z.0 later.0 z.1 later.1); gone = gone; first = first }
    where
      first : FirstUnended (take place rows) place (Some s)
      first = subst (λ (t : List Row). FirstUnended t place (Some s)) front found

      got : (s < place) × (slice_get rows s ≡ Some first.0)
      got = slice_get_take place rows s first.0 first.2

      later : (y : Row) × (slice_get rows place ≡ Some y)
      later = get_there rows place inside

      z : (x : Row) × (slice_get rows (place - 1) ≡ Some x)
      z = get_there rows (place - 1) (omega (arith, inside, some))

      gone : IsGoneTo plan done rows place
      gone = gone_to rows place later.0 later.1 plan done g here is

      up : UpTo first.0.tag z.0.tag
      up = go (dec_lt s (place - 1)) (order_cases z.0.tag first.0.tag)
        where
          l : s < place
          l = got.0

          go : Dec (s < place - 1) → Before z.0.tag first.0.tag ⊎ UpTo first.0.tag z.0.tag → UpTo first.0.tag z.0.tag
          go d (inr u) = u
          go (yes m) (inl b) = absurd (gone.kept (place - 1) z.0 1 (omega (arith, some)) (slice_get_taken place rows (place - 1) z.0 (omega (arith, some)) z.1) (omega arith) (inl (refl, (s, first.0, m, first.2, b))))
          go (no n) (inl b) = subst (λ (y : Row). UpTo first.0.tag y.tag) (same_at rows s (place - 1) first.0 z.0 got.1 z.1 (omega (arith, some, l))) (UpTo-refl first.0.tag)

  -- what is found or not, where the tag rises
  pub lost_or_none : (plan : PlanParts) (done : List Row) (g : Going) → place ≡ g.passed → IsGoing plan done rows g → 0 < place → ((x y : Row) → slice_get rows (place - 1) ≡ Some x → slice_get rows place ≡ Some y → Before x.tag y.tag) → (o : Option ℕ) → FirstUnended (slice_range rows 0 place) place o → MatchOption o (HasEnded rows place) (λ s. IsRunLost plan done rows s place)
  lost_or_none plan done g here is some rises None none = none_lost none
  lost_or_none plan done g here is some rises (Some s) found = lost_here plan done g here is some rises s found
