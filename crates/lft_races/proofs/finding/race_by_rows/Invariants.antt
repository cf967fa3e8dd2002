use Rattle.std.proofs.Common.{◌≡◌, ◌+◌, ◌-◌, ◌/◌, ◌≤◌, length}
use Rattle.lft_ir.specs.Parts.{Parts}
use Rattle.lft_graph.specs.inner.Sets.{AreAncestors}
use Rattle.lft_races.specs.inner.Noted.{HasUnfinished, IsFirstIn}
use Rattle.lft_races.proofs.finding.race_by_rows.Given as goal

abbrev pub invariant-loop-place : goal.invariant-loop-place
invariant-loop-place l = record { from : l.slice.first ≤ l.place; within : l.place ≤ l.slice.end; room : length l.unfinished ≡ length l.ends / 64 + 1; left : HasUnfinished l.rows l.slice.tag l.place l.unfinished; found : (program : Parts) → AreAncestors program l.ancestors → IsFirstIn program l.rows l.place l.slice.end l.race }

abbrev pub decreases-loop-place : goal.decreases-loop-place
decreases-loop-place l = l.place - l.slice.first
