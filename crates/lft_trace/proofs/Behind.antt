-- A text whose batches are read one after another.
use Rattle.std.proofs.Common.{◌≡◌, ◌++◌, ℕ, List}
use Rattle.std.proofs.lemmas.List.{append_assoc}
use Rattle.lft_ir.specs.{Parts.Parts, declared.steps.row.Row.Row}
use Rattle.lft_tables.{specs.{Parts.EndsLine, inner.Parts.BeginsPlain}, proofs.Together.holds_both}
use Rattle.lft_trace.specs.{Traces.IsRow, inner.Parts.HoldsRows}

-- the text holds these rows and behind them those of its rest, whichever they are
abbrev pub GoesOn : Parts → List ℕ → List Row → List ℕ → Type 0
GoesOn program text rows rest = (more : List Row) → HoldsRows program rest more → HoldsRows program text (rows ++ more)

-- one batch of the rest more
pub goes_on : (program : Parts) (text rest batch behind : List ℕ) (rows more : List Row) → GoesOn program text rows rest → rest ≡ batch ++ behind → EndsLine batch → BeginsPlain behind → HoldsRows program batch more → GoesOn program text (rows ++ more) behind
goes_on program text rest batch behind rows more on is ends plain held =
    λ last h. rw (append_assoc rows more last) (on (more ++ last) (holds_both (IsRow program) rest batch behind more last is ends plain held h))
