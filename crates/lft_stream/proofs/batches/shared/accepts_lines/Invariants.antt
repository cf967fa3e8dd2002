use Rattle.std.proofs.Common.{◌≡◌, ℕ, List, Some, IfSome}
use Rattle.lft_ir.specs.declared.steps.row.Row.{Row}
use Rattle.lft_tables.specs.inner.{Parts.items_of, TableLines.text_left}
use Rattle.lft_stream.specs.inner.Batches.{Parted.PartsFit, Progresses.{IsProgress, IsReadUpTo}}
use Rattle.lft_stream.proofs.batches.shared.accepts_lines.Given as goal

abbrev pub invariant-loop-batch : goal.invariant-loop-batch
invariant-loop-batch g l =
    let remaining = g.R.Read.remaining in
    record {
      parts_fit : PartsFit l.plan.program l.parts.items;
      stands : (t : List Row) × IsProgress l.plan t l.progress;
      read : IfSome (text_left remaining l.fn.text) (λ body. (rest : List ℕ) × (text_left remaining l.text ≡ Some rest) × IsReadUpTo l.plan body l.progress (items_of l.parts.items) rest);
    }
