use Rattle.std.proofs.Common.{◌≡◌, ◌↔◌, ◌<◌, ℕ, true, Some, slice_get, Contains}
use Rattle.lft_scheduler.proofs.listeners.leading.live_timers.Given as goal

abbrev pub invariant-timers : goal.invariant-timers
invariant-timers l = (m : ℕ) → Contains l.live.items m ↔ ((m < l.number) × (slice_get l.marked.items m ≡ Some true))
