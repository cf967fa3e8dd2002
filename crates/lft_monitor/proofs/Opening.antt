-- How many runs are open, one row after another.
use Rattle.std.proofs.Common.{◌≡◌, ℕ, suc, ◌+◌, ◌-◌, ◌<◌, ◌≤◌, ◌⊎◌, inl, inr, List, [], ◌∷◌, length, take, refl, sym, ap, ◌∙◌, arith, Option, Some, None, Contains, slice_get}
use native.Mathlib.Decide.{dec_lt}
use Rattle.lft_lists.proofs.{Members.{Mem, contains_mem, mem_contains}, Places.same_at}
use Rattle.lft_ir.specs.declared.steps.row.{Row.Row, Step.{Step, TheVariants.{Start, Read, Write, Schedule, Stop, End}}}
use Rattle.lft_model.{specs.{Runs.{start_row, end_row}, Breaches.{IsOpen, IsUnended}}, proofs.Places.{slice_get_take, slice_get_taken}}
use Rattle.lft_rows.specs.inner.Passes.{IsOnlyOpen, OpenPlace, Unended}
use Rattle.lft_monitor.specs.inner.Going.{AreFewOpenRuns, opened}

-- the other members of a list, of which one is left out
less_more : (y s j : ℕ) (xs ys : List ℕ) → (Mem j xs → (j ≡ s) ⊎ Mem j ys) → (y ≡ j) ⊎ Mem j xs → (j ≡ s) ⊎ Mem j (y ∷ ys)
less_more y s j xs ys f (inl q) = inr (inl q)
less_more y s j xs ys f (inr m) = up (f m)
  where
    up : (j ≡ s) ⊎ Mem j ys → (j ≡ s) ⊎ Mem j (y ∷ ys)
    up (inl q) = inl q
    up (inr n) = inr (inr n)

less : (xs : List ℕ) (s : ℕ) → Mem s xs → (ys : List ℕ) × (length xs ≡ suc (length ys)) × ((j : ℕ) → Mem j xs → (j ≡ s) ⊎ Mem j ys)
less [] s m = absurd m
less (y ∷ xs) s (inl e) = (xs, refl, λ j m. go j m)
  where
    go : (j : ℕ) → (y ≡ j) ⊎ Mem j xs → (j ≡ s) ⊎ Mem j xs
    go j (inl q) = inl (sym q ∙ e)
    go j (inr n) = inr n
less (y ∷ xs) s (inr m) = let r = less xs s m in (y ∷ r.0, ap suc r.1, λ j n. less_more y s j xs r.0 (r.2 j) n)

-- a run without an end among some rows has none among the first of them
pub unended_front : (rows : List Row) (n m i : ℕ) (x : Row) → n ≤ m → IsUnended (take m rows) i x → IsUnended (take n rows) i x
unended_front rows n m i x up o = (o.0, λ k l e. let p = slice_get_take n rows k (end_row x.worker x.tag x.reaction) e in let q : k < n = p.0 in o.1 k l (slice_get_taken m rows k (end_row x.worker x.tag x.reaction) (omega arith) p.1))

-- the row that comes next keeps the number of open runs right
module _ (rows : List Row) (place : ℕ) (row : Row) (at : slice_get rows place ≡ Some row) where
  abbrev front : List Row
  front = take place rows

  abbrev more : List Row
  more = take (place + 1) rows

  -- a run without an end is one of those before, or starts here
  cases : (i : ℕ) (x : Row) → slice_get more i ≡ Some x → IsUnended more i x → ((slice_get front i ≡ Some x) × IsUnended front i x) ⊎ ((i ≡ place) × (row.step ≡ Start))
  cases i x e o = go (dec_lt i place)
    where
      p : (i < place + 1) × (slice_get rows i ≡ Some x)
      p = slice_get_take (place + 1) rows i x e

      go : Dec (i < place) → ((slice_get front i ≡ Some x) × IsUnended front i x) ⊎ ((i ≡ place) × (row.step ≡ Start))
      go (yes l) = inl (slice_get_taken place rows i x l p.1, unended_front rows place (place + 1) i x (omega arith) o)
      go (no n) =
          let l : i < place + 1 = p.0 in
          let q : i ≡ place = omega arith in
          inr (q, ap (λ (y : Row). y.step) (same_at rows place i row x at p.1 (sym q)) ∙ o.0)

  module _ (n : ℕ) (old : AreFewOpenRuns front n) where
    same : (row.step ≡ Start → ⊥) → AreFewOpenRuns more n
    same never = (old.0, old.1, λ i x e o. go i x (cases i x e o))
      where
        go : (i : ℕ) (x : Row) → ((slice_get front i ≡ Some x) × IsUnended front i x) ⊎ ((i ≡ place) × (row.step ≡ Start)) → Contains old.0 i
        go i x (inl p) = old.2 i x p.0 p.1
        go i x (inr p) = absurd (never p.1)

    begun : AreFewOpenRuns more (n + 1)
    begun = (place ∷ old.0, let l : length old.0 ≤ n = old.1 in omega arith, λ i x e o. mem_contains i (place ∷ old.0) (go i x (cases i x e o)))
      where
        go : (i : ℕ) (x : Row) → ((slice_get front i ≡ Some x) × IsUnended front i x) ⊎ ((i ≡ place) × (row.step ≡ Start)) → (place ≡ i) ⊎ Mem i old.0
        go i x (inl p) = inr (contains_mem i old.0 (old.2 i x p.0 p.1))
        go i x (inr p) = inl (sym p.0)

    -- the end of a run that is open
    module _ (ends : row.step ≡ End) (o : Option ℕ) (held : OpenPlace front place place row.worker o) (still : ¬ (¬ IsOpen more place row.worker row.tag row.reaction)) where
      is_end : slice_get more place ≡ Some (end_row row.worker row.tag row.reaction)
      is_end = slice_get_taken (place + 1) rows place row (omega arith) at ∙ ap (λ (s : Step). Some (record { worker = row.worker; tag = row.tag; reaction = row.reaction; step = s })) ends

      unended : (q : IsOpen more place row.worker row.tag row.reaction) → Unended front place q.start row.worker row.tag row.reaction
      unended q = record {
        starts = slice_get_taken place rows q.start (start_row row.worker row.tag row.reaction) q.before (slice_get_take (place + 1) rows q.start (start_row row.worker row.tag row.reaction) q.starts).1;
        not_ended = λ k l m e. q.not_ended k l m (slice_get_taken (place + 1) rows k (end_row row.worker row.tag row.reaction) (omega arith) (slice_get_take place rows k (end_row row.worker row.tag row.reaction) e).1);
      }

      ended_by : (s : ℕ) → IsOnlyOpen front place place row.worker s → AreFewOpenRuns more (n - 1)
      ended_by s only = (rest.0, let a : length old.0 ≤ n = old.1 in let b : length old.0 ≡ suc (length rest.0) = rest.1 in omega arith, λ i x e u. mem_contains i rest.0 (go i x e u (cases i x e u)))
        where
          first : Row
          first = start_row row.worker only.tag only.reaction

          is_there : Contains old.0 s
          is_there = old.2 s first only.unended.starts (refl, λ k l e. only.unended.not_ended k l (slice_get_take place rows k (end_row row.worker only.tag only.reaction) e).0 e)

          rest : (ys : List ℕ) × (length old.0 ≡ suc (length ys)) × ((j : ℕ) → Mem j old.0 → (j ≡ s) ⊎ Mem j ys)
          rest = less old.0 s (contains_mem s old.0 is_there)

          -- the run of the row has its end now
          over : (i : ℕ) (x : Row) → slice_get front i ≡ Some x → IsUnended more i x → i ≡ s → ⊥
          over i x e u here = still (λ q. by q (only.only q.start row.tag row.reaction q.before (unended q)))
            where
              by : (q : IsOpen more place row.worker row.tag row.reaction) → q.start ≡ s → ⊥
              by q same =
                  let is : x ≡ start_row row.worker row.tag row.reaction = same_at front i q.start x (start_row row.worker row.tag row.reaction) e (unended q).starts (here ∙ sym same) in
                  let l : q.start < place = q.before in
                  u.1 place (let a : i ≡ q.start = here ∙ sym same in omega arith) (is_end ∙ ap (λ (y : Row). Some (end_row y.worker y.tag y.reaction)) (sym is))

          go : (i : ℕ) (x : Row) → slice_get more i ≡ Some x → IsUnended more i x → ((slice_get front i ≡ Some x) × IsUnended front i x) ⊎ ((i ≡ place) × (row.step ≡ Start)) → Mem i rest.0
          go i x e u (inl p) = by (rest.2 i (contains_mem i old.0 (old.2 i x p.0 p.1)))
            where
              by : (i ≡ s) ⊎ Mem i rest.0 → Mem i rest.0
              by (inl q) = absurd (over i x p.0 u q)
              by (inr m) = m
          go i x e u (inr p) = let a : row.step ≡ Start = p.1 in let b : row.step ≡ End = ends in absurd (cc)

      ended : AreFewOpenRuns more (n - 1)
      ended = go o held
        where
          go : (o : Option ℕ) → OpenPlace front place place row.worker o → AreFewOpenRuns more (n - 1)
          go None none = absurd (still (λ q. none q.start row.tag row.reaction q.before (unended q)))
          go (Some s) only = ended_by s only

    -- where the row doesn't end what isn't open
    pub next_open : (o : Option ℕ) → OpenPlace front place place row.worker o → (row.step ≡ End → ¬ (¬ IsOpen more place row.worker row.tag row.reaction)) → AreFewOpenRuns more (opened n row.step)
    next_open o held still = go row.step refl
      where
        go : (s : Step) → row.step ≡ s → AreFewOpenRuns more (opened n s)
        go Start is = begun
        go (Read m v) is = same (λ q. absurd (cc))
        go (Write m v) is = same (λ q. absurd (cc))
        go (Schedule m v d) is = same (λ q. absurd (cc))
        go Stop is = same (λ q. absurd (cc))
        go End is = ended is o held (still is)

-- a step opens one run at most
pub opened_few : (n : ℕ) (s : Step) → opened n s ≤ n + 1
opened_few n Start = omega arith
opened_few n (Read m v) = omega arith
opened_few n (Write m v) = omega arith
opened_few n (Schedule m v d) = omega arith
opened_few n Stop = omega arith
opened_few n End = omega arith
