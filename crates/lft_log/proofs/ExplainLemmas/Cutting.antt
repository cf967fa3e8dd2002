-- The rows behind which a breach is sure.
use Rattle.std.proofs.Common.{◌≡◌, ℕ, ◌+◌, ◌<◌, ◌≤◌, inr, refl, Bool, true, false, List, length, Some, slice_get}
use Rattle.lft_tag.specs.Tags.{Before}
use Rattle.lft_ir.specs.declared.steps.row.Row.{Row}
use Rattle.lft_model.specs.declared.breach.Breach.{Breach}
use Rattle.lft_log.specs.Explain.{Cuts.IsCutBehind, Explained.IsCutUpTo}

-- from the row of the breach up to a place none is at a later tag
pub record NoneLater (t : List Row) (b : Breach) (place : ℕ) : Type 0 where
  pub from : b.row ≤ place + 1
  pub none : (i : ℕ) (x : Row) → b.row ≤ i + 1 → i < place → slice_get t i ≡ Some x → ¬ Before b.tag x.tag

-- where the breach is sure behind no rows, all are told of at the end
pub cut_none : (at_end : Bool) (t : List Row) (b : Breach) → at_end ≡ true → ((n : ℕ) → ¬ IsCutBehind t b n) → IsCutUpTo at_end t b (length t)
cut_none false t b is none = absurd (cc)
cut_none true t b is none = inr (none, refl)
