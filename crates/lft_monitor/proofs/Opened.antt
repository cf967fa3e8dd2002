-- Runs without an end among rows that are gone through.
use Rattle.std.proofs.Common.{◌≡◌, ℕ, ◌+◌, ◌<◌, ◌≤◌, ◌⊎◌, inl, inr, Bool, true, false, List, [], ◌∷◌, ◌++◌, length, refl, sym, ap, ◌∙◌, subst, arith, Some, slice_get}
use Rattle.std.specs.Prelude.{◌↔◌, IsTrue, min}
use Rattle.std.proofs.Math.{Bool.not, Nat.le-min}
use native.Mathlib.Decide.{dec_lt}
use Rattle.lft_lists.proofs.Places.{get_append_cases, get_last, get_left, get_push, get_push_cases, get_right, same_at}
use Rattle.lft_ir.specs.declared.steps.row.{Row.Row, Step.TheVariants.Start}
use Rattle.lft_model.{specs.{Plans.PlanParts, Presence.stop, Runs.end_row, Breaches.IsUnended}, proofs.Places.slice_get_within}
use Rattle.lft_monitor.specs.declared.follower.Follower.{Follower}
use Rattle.lft_monitor.specs.declared.open.StillOpen.{StillOpen}
use Rattle.lft_monitor.specs.{inner.{Follows.{IsFollowerOf, held_of}, OpenRuns.EndBefore}, OpenRuns.{AreOpenRuns, IsOpenRun, run_in}}
use Rattle.lft_monitor.proofs.{Ended.at_end, Hand.{ended, unended_whole}}

-- whether the row starts a run without an end, where its end is looked for up to the last of its reaction
module _ (t : List Row) (place past : ℕ) (last : List ℕ) (row : Row) (starts : row.step ≡ Start) (before : EndBefore t (length t) last) (at : slice_get last row.reaction ≡ Some past) where
  abbrev pub IsEndedTo : ℕ → Type 0
  IsEndedTo end = (k : ℕ) × (place < k) × (k < end) × (slice_get t k ≡ Some (end_row row.worker row.tag row.reaction))

  -- an end of it stands before the place that is kept
  below : (k : ℕ) → slice_get t k ≡ Some (end_row row.worker row.tag row.reaction) → k < min past (length t)
  below k e =
      let a : k < length t = slice_get_within t k (end_row row.worker row.tag row.reaction) e in
      le-min (before k past (end_row row.worker row.tag row.reaction) a e refl at) a

  pub open_exact : (b : Bool) → IsTrue b ↔ IsEndedTo (min past (length t)) → IsTrue (not b) ↔ IsUnended t place row
  open_exact true x = (λ no. absurd (cc), λ o. let y = x.0 refl in absurd (o.1 y.0 y.1 y.3))
  open_exact false x = (λ yes. (starts, λ k l e. let z : ◌≡◌ {A = Bool} false true = x.1 (k, l, below k e, e) in absurd (cc)), λ o. refl)

-- of the runs without an end those that the first n rows start
pub record AreOpenTo (before : ℕ) (t : List Row) (n : ℕ) (runs : List StillOpen) : Type 0 where
  pub each : (k : ℕ) (run : StillOpen) → slice_get runs k ≡ Some run → IsOpenRun before t run × (run.line < before + n + 2)
  pub all : (i : ℕ) (row : Row) → i < n → slice_get t i ≡ Some row → IsUnended t i row → (k : ℕ) × (run : StillOpen) × (slice_get runs k ≡ Some run) × (run.line ≡ before + i + 2)
  pub order : (k m : ℕ) (run other : StillOpen) → k < m → slice_get runs k ≡ Some run → slice_get runs m ≡ Some other → run.line < other.line

module _ (before : ℕ) (t : List Row) where
  pub open_none : AreOpenTo before t 0 []
  open_none = record { each = λ k run e. absurd (cc); all = λ i row l at o. absurd (omega arith); order = λ k m run other l e f. absurd (cc) }

  pub open_all : (n : ℕ) (runs : List StillOpen) → length t ≤ n → AreOpenTo before t n runs → AreOpenRuns before t runs
  open_all n runs high is = record { each = λ k run e. (is.each k run e).0; all = λ i row at o. is.all i row (let l : i < length t = slice_get_within t i row at in omega arith) at o; order = is.order }

  module _ (n : ℕ) (runs : List StillOpen) (is : AreOpenTo before t n runs) (row : Row) (here : slice_get t n ≡ Some row) where
    up : (k : ℕ) (run : StillOpen) → slice_get runs k ≡ Some run → IsOpenRun before t run × (run.line < before + (n + 1) + 2)
    up k run e = let x = is.each k run e in (x.0, let l : run.line < before + n + 2 = x.1 in omega arith)

    -- the row starts none
    pub open_same : ¬ IsUnended t n row → AreOpenTo before t (n + 1) runs
    open_same none = record { each = up; all = all; order = is.order }
      where
        all : (i : ℕ) (x : Row) → i < n + 1 → slice_get t i ≡ Some x → IsUnended t i x → (k : ℕ) × (run : StillOpen) × (slice_get runs k ≡ Some run) × (run.line ≡ before + i + 2)
        all i x l at o = go (dec_lt i n)
          where
            go : Dec (i < n) → (k : ℕ) × (run : StillOpen) × (slice_get runs k ≡ Some run) × (run.line ≡ before + i + 2)
            go (yes m) = is.all i x m at o
            go (no m) =
                let q : i ≡ n = omega arith in
                let same : x ≡ row = same_at t i n x row at here q in
                absurd (none (subst (λ (y : Row). IsUnended t n y) same (subst (λ (j : ℕ). IsUnended t j x) q o)))

    -- the row starts one
    pub open_more : IsUnended t n row → AreOpenTo before t (n + 1) (runs ++ run_in row (before + n + 2) ∷ [])
    open_more starts = record { each = each; all = all; order = order }
      where
        new : StillOpen
        new = run_in row (before + n + 2)

        more : List StillOpen
        more = runs ++ new ∷ []

        each : (k : ℕ) (run : StillOpen) → slice_get more k ≡ Some run → IsOpenRun before t run × (run.line < before + (n + 1) + 2)
        each k run e = go (get_push_cases runs new k run e)
          where
            go : (slice_get runs k ≡ Some run) ⊎ ((k ≡ length runs) × (new ≡ run)) → IsOpenRun before t run × (run.line < before + (n + 1) + 2)
            go (inl p) = up k run p
            go (inr p) = (record { place = n; row = row; is_row = here; unended = starts; run_is = sym p.1 }, let l : run.line ≡ before + n + 2 = ap (λ (r : StillOpen). r.line) (sym p.1) in omega arith)

        all : (i : ℕ) (x : Row) → i < n + 1 → slice_get t i ≡ Some x → IsUnended t i x → (k : ℕ) × (run : StillOpen) × (slice_get more k ≡ Some run) × (run.line ≡ before + i + 2)
        all i x l at o = go (dec_lt i n)
          where
            go : Dec (i < n) → (k : ℕ) × (run : StillOpen) × (slice_get more k ≡ Some run) × (run.line ≡ before + i + 2)
            go (yes m) = let y = is.all i x m at o in (y.0, y.1, get_push runs new y.0 y.1 y.2, y.3)
            go (no m) = let q : n ≡ i = omega arith in (length runs, new, get_last runs new, ap (λ (j : ℕ). before + j + 2) q)

        order : (k m : ℕ) (run other : StillOpen) → k < m → slice_get more k ≡ Some run → slice_get more m ≡ Some other → run.line < other.line
        order k m run other l e f = go (get_push_cases runs new k run e) (get_push_cases runs new m other f)
          where
            go : (slice_get runs k ≡ Some run) ⊎ ((k ≡ length runs) × (new ≡ run)) → (slice_get runs m ≡ Some other) ⊎ ((m ≡ length runs) × (new ≡ other)) → run.line < other.line
            go (inl p) (inl q) = is.order k m run other l p q
            go (inl p) (inr q) = let a : run.line < before + n + 2 = (is.each k run p).1 in let b : before + n + 2 ≡ other.line = ap (λ (r : StillOpen). r.line) q.1 in omega arith
            go (inr p) (inl q) = let a : m < length runs = slice_get_within runs m other q in let b : k ≡ length runs = p.0 in absurd (omega arith)
            go (inr p) (inr q) = let a : m ≡ length runs = q.0 in let b : k ≡ length runs = p.0 in absurd (omega arith)

-- behind rows whose runs all have their ends
module _ (done rows : List Row) (runs : List StillOpen) (over : (j : ℕ) (x : Row) → slice_get done j ≡ Some x → ¬ IsUnended done j x) (is : AreOpenRuns (length done) rows runs) where
  each_behind : (k : ℕ) (run : StillOpen) → slice_get runs k ≡ Some run → IsOpenRun 0 (done ++ rows) run
  each_behind k run e = let x = is.each k run e in record {
    place = length done + x.place;
    row = x.row;
    is_row = get_right done rows x.place ∙ x.is_row;
    unended = unended_whole done rows x.place x.row x.unended;
    run_is = x.run_is ∙ ap (λ (n : ℕ). run_in x.row n) (let q : length done + x.place + 2 ≡ 0 + (length done + x.place) + 2 = omega arith in q);
  }

  all_behind : (i : ℕ) (x : Row) → slice_get (done ++ rows) i ≡ Some x → IsUnended (done ++ rows) i x → (k : ℕ) × (run : StillOpen) × (slice_get runs k ≡ Some run) × (run.line ≡ 0 + i + 2)
  all_behind i x at o = go (get_append_cases done rows i x at)
    where
      go : (slice_get done i ≡ Some x) ⊎ ((j : ℕ) × (i ≡ length done + j) × (slice_get rows j ≡ Some x)) → (k : ℕ) × (run : StillOpen) × (slice_get runs k ≡ Some run) × (run.line ≡ 0 + i + 2)
      go (inl p) = absurd (over i x p (o.0, λ k l e. o.1 k l (get_left done rows k (end_row x.worker x.tag x.reaction) e)))
      go (inr (j, q, p)) =
          let a : i ≡ length done + j = q in
          let y = is.all j x p (o.0, λ k l e. o.1 (length done + k) (omega arith) (get_right done rows k ∙ e)) in
          let b : y.1.line ≡ length done + j + 2 = y.3 in
          (y.0, y.1, y.2, omega arith)

  open_behind : AreOpenRuns 0 (done ++ rows) runs
  open_behind = record { each = each_behind; all = all_behind; order = is.order }

-- those at hand are all: the runs that are judged have their ends
pub open_runs : (plan : PlanParts) (t : List Row) (f : Follower) → IsFollowerOf plan t f → (s : List Row) → s ≡ held_of f → (runs : List StillOpen) → AreOpenRuns f.judged.count s runs → AreOpenRuns 0 t runs
open_runs plan t f is s rows runs at_hand = at_end plan t f is s rows (λ u. AreOpenRuns 0 u runs) (λ d judged earlier so_far. open_behind d s runs (λ j x e. ended plan d s (stop plan d) judged.acceptor.stands.state.settled.rows 0 j x e) (subst (λ (n : ℕ). AreOpenRuns n s runs) judged.counted at_hand))
