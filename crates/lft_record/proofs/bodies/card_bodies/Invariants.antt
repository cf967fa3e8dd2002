use Rattle.std.proofs.Common.{◌≡◌, ◌<◌, ◌≤◌, ℕ, length}
use Rattle.std.specs.Prelude.{min, slice_index}
use Rattle.lft_record.specs.Scripts.{bodies_at}
use Rattle.lft_record.proofs.bodies.card_bodies.Given as goal

abbrev pub invariant-loop-reaction : goal.invariant-loop-reaction
invariant-loop-reaction g l = record {
  long : length l.bodies ≡ length l.program.reactions;
  done : (r : ℕ) → r < l.reaction → slice_index l.bodies r ≡ min (bodies_at l.cards r) l.fn.max_runs;
  none : (r : ℕ) → l.reaction ≤ r → r < length l.bodies → slice_index l.bodies r ≡ 0;
}
