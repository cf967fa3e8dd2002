-- How many runs each worker starts.
use Rattle.std.specs.Prelude.{ℕ, ◌<◌, List, unwrap_or}
use Rattle.std.specs.{List.AllByRecursion, Ordering.nat_cmp}
use Rattle.lft_ir.specs.declared.steps.row.Row.{Row}
use Rattle.lft_counts.specs.{declared.workers.Workers.Workers, Counts.StartsBy}
use Rattle.lft_graph.specs.Counts.{Count}
use Rattle.std.specs.BTreeMap as map

-- how many runs of a worker are kept: none where the map has no number
abbrev pub runs_by : Workers → ℕ → ℕ
runs_by workers w = unwrap_or (map.get nat_cmp workers.counts w) 0

-- the workers that start runs, each with how many, in the order of their numbers
abbrev pub by_number : Workers → List (ℕ × ℕ)
by_number workers = workers.counts.entries

-- no worker is listed without a run
abbrev pub AllRun : Workers → Type 0
AllRun workers = AllByRecursion (λ d. 0 < d.1) (by_number workers)

-- of each worker the starts of its runs before place i
abbrev pub AreByWorker : List Row → ℕ → Workers → Type 0
AreByWorker t i workers = (w : ℕ) → Count (StartsBy t w) i (runs_by workers w)
