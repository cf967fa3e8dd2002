-- The steps of a run, one row after another.
use Rattle.std.proofs.Common.{◌≡◌, ℕ, ◌+◌, ◌≤◌, List, [], ◌∷◌, ◌++◌, length, take, take_all, map, filter_map, sym, ap, ◌∙◌, refl, arith, Option, Some, None, slice_get, option_map}
use Rattle.std.{specs.List.{enumerate_from, cons_option}, proofs.lemmas.List.FromFn.length-enumerate_from}
use Rattle.lft_tag.specs.declared.Tag.{Tag}
use Rattle.lft_lists.proofs.{Picked.kept_more, Mapped.enumerate_at}
use Rattle.lft_ir.specs.declared.steps.row.{Row.Row, Step.Step}
use Rattle.lft_model.specs.Runs.{step_of, steps_of}
use Rattle.lft_pair.specs.{declared.contrasting.contrasts.Placed.Placed, Runs.{step_in_row, placed_step, placed_steps}, Enough.steps}

numbered : (t : List Row) (i : ℕ) (row : Row) → slice_get t i ≡ Some row → slice_get (enumerate_from 0 t) i ≡ Some (i, row)
numbered t i row e = let z : 0 + i ≡ i = omega arith in enumerate_at 0 t i row e ∙ ap (λ w. Some (w, row)) z

-- the steps with one row more
pub placed_more : (t : List Row) (g : Tag) (r i : ℕ) (row : Row) (o : Option Step) (run : List Placed) → slice_get t i ≡ Some row → o ≡ step_of g r row → run ≡ filter_map (placed_step g r) (take i (enumerate_from 0 t)) → run ++ cons_option (option_map (step_in_row i) o) [] ≡ filter_map (placed_step g r) (take (i + 1) (enumerate_from 0 t))
placed_more t g r i row o run e q so_far = ap (λ zs. zs ++ cons_option (option_map (step_in_row i) o) []) so_far ∙ sym (kept_more (placed_step g r) (enumerate_from 0 t) i (i, row) (option_map (step_in_row i) o) (numbered t i row e) (ap (λ p. option_map (step_in_row i) p) q))

pub placed_end : (t : List Row) (g : Tag) (r i : ℕ) (run : List Placed) → length t ≤ i → run ≡ filter_map (placed_step g r) (take i (enumerate_from 0 t)) → run ≡ placed_steps t g r
placed_end t g r i run l so_far =
    let long : length (enumerate_from 0 t) ≡ length t = length-enumerate_from 0 t in
    let m : length (enumerate_from 0 t) ≤ i = omega arith in
    so_far ∙ ap (λ zs. filter_map (placed_step g r) zs) (take_all i (enumerate_from 0 t) m)

-- without the places they are the steps of the run
pub placed_are : (t : List Row) (g : Tag) (r : ℕ) → steps (placed_steps t g r) ≡ steps_of t g r
placed_are t g r = from 0 t
  where
    by : (n : ℕ) (rows : List Row) (o : Option Step) → map (λ x. x.step) (filter_map (placed_step g r) (enumerate_from (n + 1) rows)) ≡ filter_map (step_of g r) rows → map (λ x. x.step) (cons_option (option_map (step_in_row n) o) (filter_map (placed_step g r) (enumerate_from (n + 1) rows))) ≡ cons_option o (filter_map (step_of g r) rows)
    by n rows None e = e
    by n rows (Some s) e = ap (λ l. s ∷ l) e

    from : (n : ℕ) (rows : List Row) → map (λ x. x.step) (filter_map (placed_step g r) (enumerate_from n rows)) ≡ filter_map (step_of g r) rows
    from n [] = refl
    from n (row ∷ rows) = by n rows (step_of g r row) (from (n + 1) rows)
