use Rattle.std.proofs.Common.{List, ℕ, subst, sym}
use Rattle.lft_counts.{specs.Overlaps.AreWidthCounts, proofs.Overlapping.{none_open, none_met, none_wide}}
use Rattle.lft_counts.proofs.overlaps.Overlaps.new.Goals as goal

pub returns : goal.returns
returns c t = record {
  running = none_open t c.args.reactions c.in_ok-running.running c.in_ok-running.ensures.room c.in_ok-running.ensures.none;
  met = none_met t c.args.reactions c.in_ok-met.met.items c.in_ok-met.ensures.long c.in_ok-met.ensures.room c.in_ok-met.ensures.none;
  widths = subst (λ (z : List ℕ). AreWidthCounts t c.args.reactions 0 z) (sym c.in_ok-widths.ensures) (none_wide t c.args.reactions);
}
