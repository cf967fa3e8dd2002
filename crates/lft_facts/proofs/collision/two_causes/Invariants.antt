use Rattle.std.proofs.Common.{◌≤◌, ℕ, ◌<◌, length}
use Rattle.lft_model.specs.Presence.{PortClash, events_of}
use Rattle.lft_facts.proofs.collision.two_causes.Given as goal

abbrev pub invariant-loop-port : goal.invariant-loop-port
invariant-loop-port l = (p : ℕ) → p < l.port → ¬ PortClash l.plan l.rows l.tag p

abbrev pub invariant-loop-action : goal.invariant-loop-action
invariant-loop-action l = (a : ℕ) → a < l.action → ¬ (2 ≤ length (events_of l.plan l.rows l.tag a))
