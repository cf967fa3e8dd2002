-- Rows at finished tags: what is kept of them, and what they still owe.
use Rattle.std.specs.Prelude.{ℕ, List, ◌++◌, None}
use Rattle.lft_tag.specs.{declared.Tag.Tag, Tags.UpTo}
use Rattle.lft_ir.specs.declared.steps.row.Row.{Row}
use Rattle.lft_model.specs.{Plans.PlanParts, Presence.{stop, Triggered, Inputs, Collision}, Runs.{Ran, reads_at}, Breaches.IsTooEarly}
use Rattle.lft_rows.specs.inner.Firsts.{FirstRow}
use Rattle.lft_queue.specs.Coming.AtTag.{AreBefore, AreAt}

-- the run of r at g is right: some trigger of r is present, no reaction that precedes r is unfinished when it starts, and it read each input as it is
pub record IsRightRun (plan : PlanParts) (t : List Row) (g : Tag) (r : ℕ) : Type 0 where
  pub triggered : Triggered plan t g r
  pub in_order : ¬ IsTooEarly plan t g r
  pub reads : Inputs plan t g r (reads_at plan t g r)

-- rows whose tags are finished: none breaks one of the rules 1 to 5, and each run is right
pub record AreRowsSettled (plan : PlanParts) (t : List Row) : Type 0 where
  pub rows : FirstRow (stop plan t) plan t None
  pub runs : (g : Tag) (r : ℕ) → Ran t g r → IsRightRun plan t g r

-- nothing is owed at g: each reaction that is triggered there has a run, and no two causes meet
pub record OwesNothingAt (plan : PlanParts) (t : List Row) (g : Tag) : Type 0 where
  pub has_run : (r : ℕ) → Triggered plan t g r → Ran t g r
  pub apart : ¬ Collision plan t g

-- nothing is owed at any tag up to the stop
abbrev pub OwesNothing : PlanParts → List Row → Type 0
OwesNothing plan t = (h : Tag) → UpTo h (stop plan t) → OwesNothingAt plan t h

-- the rows u, all at g, are right behind rows d, all at earlier tags: the order of runs and what they read is asked of u alone, presence of both
pub record IsRightBehind (plan : PlanParts) (d u : List Row) (g : Tag) : Type 0 where
  pub earlier : AreBefore d g
  pub at_tag : AreAt u g
  pub rows : FirstRow (stop plan (d ++ u)) plan u None
  pub triggered : (r : ℕ) → Ran u g r → Triggered plan (d ++ u) g r
  pub in_order : (r : ℕ) → Ran u g r → ¬ IsTooEarly plan u g r
  pub reads : (r : ℕ) → Ran u g r → Inputs plan (d ++ u) g r (reads_at plan u g r)
