use Rattle.std.proofs.Common.{◌≡◌, ◌-◌, ◌≤◌, ◌++◌, ℕ, List, drop, length}
use Rattle.lft_model.specs.Plans.{PlanParts}
use Rattle.lft_log.specs.inner.Told.{IsReadSoFar}
use Rattle.lft_log.proofs.rows.LogRows.add_text.Given as goal

abbrev pub invariant-loop-begin : goal.invariant-loop-begin
invariant-loop-begin l = record {
  within : l.begin ≤ length l.text;
  program : l.plan.program ≡ l.fn.plan.program;
  some : (base : PlanParts) × (bytes : List ℕ) × (rest : List ℕ) × IsReadSoFar base l.fn.plan bytes (l.text ++ rest) l.fn.self;
  stands : (base : PlanParts) (bytes behind : List ℕ) → IsReadSoFar base l.fn.plan bytes (l.text ++ behind) l.fn.self → IsReadSoFar base l.plan bytes (drop l.begin l.text ++ behind) l.self;
}

abbrev pub decreases-loop-begin : goal.decreases-loop-begin
decreases-loop-begin l = length l.text - l.begin
