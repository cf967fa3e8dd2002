-- Rule 3 at a row that is no start row: its run isn't open.
use Rattle.std.proofs.Common.{◌≡◌, ℕ, List, refl}
use Rattle.lft_ir.specs.declared.steps.row.{Row.Row, Step.{Step, TheVariants.{Start, Read, Write, Schedule, Stop, End}}}
use Rattle.lft_model.specs.Breaches.{IsOpen, IsOutOfOrder}

pub out_inner : (t : List Row) (i : ℕ) (row : Row) (s : Step) → ¬ (s ≡ Start) → ¬ IsOpen t i row.worker row.tag row.reaction → IsOutOfOrder t i row s
out_inner t i row Start n o = absurd (n refl)
out_inner t i row (Read m v) n o = o
out_inner t i row (Write m v) n o = o
out_inner t i row (Schedule m v d) n o = o
out_inner t i row Stop n o = o
out_inner t i row End n o = o

pub inner_out : (t : List Row) (i : ℕ) (row : Row) (s : Step) → ¬ (s ≡ Start) → IsOutOfOrder t i row s → ¬ IsOpen t i row.worker row.tag row.reaction
inner_out t i row Start n o = absurd (n refl)
inner_out t i row (Read m v) n o = o
inner_out t i row (Write m v) n o = o
inner_out t i row (Schedule m v d) n o = o
inner_out t i row Stop n o = o
inner_out t i row End n o = o
