-- All counts of a trace, and whose orders they are.
use Rattle.std.specs.Prelude.{◌≡◌, ℕ, List, map, length}
use Rattle.lft_ir.specs.{Parts.Parts, declared.steps.row.Row.Row}
use Rattle.lft_graph.specs.Graph.{GraphParts, IsGraphOf}
use Rattle.lft_counts.specs.{declared.cover.{Counting.Counting, Cover.Cover}, Counts.{AreCounts, StartsRun, WritesAt}, Orders.{Stands, orders_from, cleared}}
use Rattle.lft_counts.specs.{Overlaps.Overlap, Workers.{AllRun, AreByWorker}}

-- the counts of reactions, ports and workers are those of the rows before place i
pub record IsCounting (program : Parts) (t : List Row) (i : ℕ) (counting : Counting) : Type 0 where
  pub reactions : length counting.runs ≡ length program.reactions
  pub runs : AreCounts (StartsRun t) i counting.runs
  pub ports : length counting.writes ≡ length program.ports
  pub writes : AreCounts (WritesAt t) i counting.writes
  pub workers : AreByWorker t i counting.workers
  pub listed : AllRun counting.workers

-- all counts are those of the rows that are gone through
pub record IsCover (program : Parts) (t : List Row) (cover : Cover) : Type 0 where
  pub counted : IsCounting program t cover.rows cover.counting
  pub met : Stands t (length program.reactions) cover.rows cover.orders
  pub overlapped : Overlap t (length program.reactions) cover.rows cover.overlaps
  pub inputs : length cover.inputs.items ≡ length program.reactions

-- the orders are those of the short lists of a graph, in order
abbrev pub ListsOrders : GraphParts → Cover → Type 0
ListsOrders graph cover = map cleared cover.orders.all.items ≡ orders_from 0 graph.before

-- the counts are those of the first n rows, and the orders are those of the program's graph
pub record CoversRows (program : Parts) (t : List Row) (n : ℕ) (cover : Cover) : Type 0 where
  pub counts : IsCover program t cover
  pub rows : cover.rows ≡ n
  pub graph : GraphParts
  pub is_graph : IsGraphOf program graph
  pub listed : ListsOrders graph cover
