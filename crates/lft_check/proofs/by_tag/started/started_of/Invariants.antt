use Rattle.std.proofs.Common.{◌≡◌, ◌≤◌, take}
use Rattle.lft_check.specs.inner.ByTag.Indexes.{HasRunsTo}
use Rattle.lft_model.specs.Accepted.{runs_in}
use Rattle.lft_check.proofs.by_tag.started.started_of.Given as goal

abbrev pub invariant-loop-place : goal.invariant-loop-place
invariant-loop-place l = record { lists : HasRunsTo l.rows l.place l.fn.reactions l.tags l.places; few : l.runs ≤ l.place; counted : l.runs ≡ runs_in (take l.place l.rows) }
