-- The counts of reactions, ports and workers, before a row and behind it.
use Rattle.std.proofs.Common.{◌≡◌, ℕ, ◌+◌, ◌<◌, ◌==◌, Bool, true, false, cond, List, length, replicate, refl, sym, ap, ◌∙◌, subst, Some, slice_get, slice_set, eqb-true, eq-eqb}
use Rattle.lft_lists.proofs.Places.{length_written, length_same}
use Rattle.lft_tag.specs.declared.Tag.{Tag}
use Rattle.lft_ir.specs.{Parts.Parts, declared.{parts.{Value.Value, Name.TheVariants.Port}, steps.row.{Row.Row, Step.{Step, TheVariants.{Start, Write}}}}}
use Rattle.lft_ir.specs.Steps.Fits.{RowFits, StepFits}
use Rattle.lft_model.{specs.Runs.start_row, proofs.Places.slice_get_within}
use Rattle.lft_counts.specs.{declared.{cover.Counting.Counting, workers.Workers.Workers}, Counts.{StartsRun, StartsBy, WritesAt}, Cover.IsCounting}
use Rattle.lft_counts.specs.Workers.{runs_by, AllRun, AreByWorker}
use Rattle.lft_counts.proofs.{Numbers.{counts_none, counts_more, counts_same}, Going.started}
use Rattle.lft_graph.specs.Counts.{Count, none, more, same}

-- before the first row
pub none_counted : (program : Parts) (t : List Row) (counting : Counting) → counting.runs ≡ replicate (length program.reactions) 0 → counting.writes ≡ replicate (length program.ports) 0 → ((w : ℕ) → runs_by counting.workers w ≡ 0) → AllRun counting.workers → IsCounting program t 0 counting
none_counted program t counting runs writes workers listed = record {
  reactions = ap (λ (z : List ℕ). length z) runs ∙ length_same (length program.reactions) 0;
  runs = subst (λ (z : List ℕ). (x n : ℕ) → slice_get z x ≡ Some n → Count (StartsRun t x) 0 n) (sym runs) (counts_none (StartsRun t) (length program.reactions));
  ports = ap (λ (z : List ℕ). length z) writes ∙ length_same (length program.ports) 0;
  writes = subst (λ (z : List ℕ). (x n : ℕ) → slice_get z x ≡ Some n → Count (WritesAt t x) 0 n) (sym writes) (counts_none (WritesAt t) (length program.ports));
  workers = λ w. subst (λ k. Count (StartsBy t w) 0 k) (sym (workers w)) none;
  listed = listed;
}

module _ (t : List Row) (i : ℕ) (row : Row) (here : slice_get t i ≡ Some row) where
  row_there : (x : Row) → slice_get t i ≡ Some x → x ≡ row
  row_there x e = let z : Some x ≡ Some row = sym e ∙ here in cc

  started_row : (w : ℕ) (g : Tag) (r : ℕ) → slice_get t i ≡ Some (start_row w g r) → (row.step ≡ Start) × (r ≡ row.reaction) × (w ≡ row.worker)
  started_row w g r e = let z = row_there (start_row w g r) e in (ap (λ (x : Row). x.step) (sym z), ap (λ (x : Row). x.reaction) z, ap (λ (x : Row). x.worker) z)

  written_row : (p : ℕ) → WritesAt t p i → (v : Value) × (row.step ≡ Write (Port p) v)
  written_row p x = (x.1, ap (λ (y : Row). y.step) (sym (row_there x.0 x.2)) ∙ x.3)

  none_written : ((p : ℕ) (v : Value) → row.step ≡ Write (Port p) v → ⊥) → (p : ℕ) → WritesAt t p i → ⊥
  none_written never p x = let y = written_row p x in never p y.0 y.1

  one_written : (p : ℕ) (v : Value) → row.step ≡ Write (Port p) v → (q : ℕ) → WritesAt t q i → q ≡ p
  one_written p v s q x = let y = written_row q x in let z : Write (Port q) y.0 ≡ Write (Port p) v = sym y.1 ∙ s in cc

  start_no_write : row.step ≡ Start → (p : ℕ) (v : Value) → row.step ≡ Write (Port p) v → ⊥
  start_no_write s p v e = let z : Start ≡ Write (Port p) v = sym s ∙ e in absurd (cc)

  write_no_start : (p : ℕ) (v : Value) → row.step ≡ Write (Port p) v → ¬ (row.step ≡ Start)
  write_no_start p v e s = let z : Start ≡ Write (Port p) v = sym s ∙ e in absurd (cc)

  workers_more : row.step ≡ Start → (old new : Workers) → ((w : ℕ) → runs_by new w ≡ cond (row.worker == w) (runs_by old row.worker + 1) (runs_by old w)) → AreByWorker t i old → AreByWorker t (i + 1) new
  workers_more s old new law so w = go (row.worker == w) refl
    where
      go : (b : Bool) → (row.worker == w) ≡ b → Count (StartsBy t w) (i + 1) (runs_by new w)
      go true e =
          let q : row.worker ≡ w = eqb-true row.worker w e in
          let n : runs_by new w ≡ runs_by old w + 1 = law w ∙ ap (λ b. cond b (runs_by old row.worker + 1) (runs_by old w)) e ∙ ap (λ k. runs_by old k + 1) q in
          subst (λ k. Count (StartsBy t w) (i + 1) k) (sym n) (more (row.tag, row.reaction, started t i row s here ∙ ap (λ k. Some (start_row k row.tag row.reaction)) q) (so w))
      go false e =
          let n : runs_by new w ≡ runs_by old w = law w ∙ ap (λ b. cond b (runs_by old row.worker + 1) (runs_by old w)) e in
          subst (λ k. Count (StartsBy t w) (i + 1) k) (sym n) (same (λ x. let z : ◌≡◌ false true = sym e ∙ eq-eqb row.worker w (sym (started_row w x.0 x.1 x.2).2) in absurd (cc)) (so w))

  workers_same : ¬ (row.step ≡ Start) → (workers : Workers) → AreByWorker t i workers → AreByWorker t (i + 1) workers
  workers_same n workers so w = same (λ x. n (started_row w x.0 x.1 x.2).0) (so w)

  module _ (program : Parts) (old : Counting) (so : IsCounting program t i old) where
    -- a row that starts a run
    pub counted_start : (n : ℕ) (new : Counting) → row.step ≡ Start → slice_get old.runs row.reaction ≡ Some n → new.runs ≡ slice_set old.runs row.reaction (n + 1) → new.writes ≡ old.writes → ((w : ℕ) → runs_by new.workers w ≡ cond (row.worker == w) (runs_by old.workers row.worker + 1) (runs_by old.workers w)) → (AllRun old.workers → AllRun new.workers) → IsCounting program t (i + 1) new
    counted_start n new s was runs writes law listed = record {
      reactions = ap (λ (z : List ℕ). length z) runs ∙ length_written old.runs row.reaction (n + 1) ∙ so.reactions;
      runs = subst (λ (z : List ℕ). (x k : ℕ) → slice_get z x ≡ Some k → Count (StartsRun t x) (i + 1) k) (sym runs) (counts_more (StartsRun t) i old.runs row.reaction n was (slice_get_within old.runs row.reaction n was) (row.worker, row.tag, started t i row s here) (λ x y. (started_row y.0 y.1 x y.2).1) so.runs);
      ports = ap (λ (z : List ℕ). length z) writes ∙ so.ports;
      writes = subst (λ (z : List ℕ). (x k : ℕ) → slice_get z x ≡ Some k → Count (WritesAt t x) (i + 1) k) (sym writes) (counts_same (WritesAt t) i old.writes (none_written (start_no_write s)) so.writes);
      workers = workers_more s old.workers new.workers law so.workers;
      listed = listed so.listed;
    }

    -- a row that writes a port
    pub counted_write : (p n : ℕ) (v : Value) (new : Counting) → row.step ≡ Write (Port p) v → slice_get old.writes p ≡ Some n → new.writes ≡ slice_set old.writes p (n + 1) → new.runs ≡ old.runs → new.workers ≡ old.workers → IsCounting program t (i + 1) new
    counted_write p n v new s was writes runs workers = record {
      reactions = ap (λ (z : List ℕ). length z) runs ∙ so.reactions;
      runs = subst (λ (z : List ℕ). (x k : ℕ) → slice_get z x ≡ Some k → Count (StartsRun t x) (i + 1) k) (sym runs) (counts_same (StartsRun t) i old.runs (λ x y. write_no_start p v s (started_row y.0 y.1 x y.2).0) so.runs);
      ports = ap (λ (z : List ℕ). length z) writes ∙ length_written old.writes p (n + 1) ∙ so.ports;
      writes = subst (λ (z : List ℕ). (x k : ℕ) → slice_get z x ≡ Some k → Count (WritesAt t x) (i + 1) k) (sym writes) (counts_more (WritesAt t) i old.writes p n was (slice_get_within old.writes p n was) (row, v, here, s) (one_written p v s) so.writes);
      workers = subst (λ (z : Workers). AreByWorker t (i + 1) z) (sym workers) (workers_same (write_no_start p v s) old.workers so.workers);
      listed = subst (λ (z : Workers). AllRun z) (sym workers) so.listed;
    }

    -- another row
    pub counted_none : ¬ (row.step ≡ Start) → ((p : ℕ) (v : Value) → row.step ≡ Write (Port p) v → ⊥) → IsCounting program t (i + 1) old
    counted_none n never = record {
      reactions = so.reactions;
      runs = counts_same (StartsRun t) i old.runs (λ x y. n (started_row y.0 y.1 x y.2).0) so.runs;
      ports = so.ports;
      writes = counts_same (WritesAt t) i old.writes (none_written never) so.writes;
      workers = workers_same n old.workers so.workers;
      listed = so.listed;
    }

-- a port that is written is of the program
pub is_port : (program : Parts) (row : Row) (p : ℕ) (v : Value) → row.step ≡ Write (Port p) v → RowFits program row → p < length program.ports
is_port program row p v s fits = subst (λ (x : Step). StepFits program x) s fits.step
