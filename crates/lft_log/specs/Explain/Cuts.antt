-- The rows behind which a breach is sure.
use Rattle.std.specs.Prelude.{◌≡◌, ◌≢◌, ℕ, ◌+◌, ◌<◌, ◌≤◌, List, length, Some, slice_get}
use Rattle.lft_tag.specs.Tags.{Before}
use Rattle.lft_ir.specs.declared.steps.row.Row.{Row}
use Rattle.lft_model.specs.declared.breach.Breach.{Breach}

-- the row at place m is at a tag after that of the breach, and none from that of the breach up to it is
pub record IsLaterAt (t : List Row) (b : Breach) (m : ℕ) : Type 0 where
  pub later : Row
  pub from : b.row ≤ m + 1
  pub is_later : slice_get t m ≡ Some later
  pub after : Before b.tag later.tag
  pub none : (i : ℕ) (x : Row) → b.row ≤ i + 1 → i < m → slice_get t i ≡ Some x → ¬ Before b.tag x.tag

-- the first n rows are those up to the one at place m: with it where a run has no end, else without it
pub record IsEndBehind (b : Breach) (m n : ℕ) : Type 0 where
  pub with_it : b.rule ≡ 5 → n ≡ m + 1
  pub without : b.rule ≢ 5 → n ≡ m

-- the breach is sure behind the first n rows: its row is the last of them, where it breaks one of the rules 1 to 4; else they are those up to the first at a later tag, with it for rule 5
pub record IsCutBehind (t : List Row) (b : Breach) (n : ℕ) : Type 0 where
  pub within : n ≤ length t
  pub of_row : b.rule ≤ 4 → b.row ≡ n + 1
  pub of_tag : 4 < b.rule → (m : ℕ) × IsLaterAt t b m × IsEndBehind b m n
