use Rattle.std.proofs.Common.{Ok, refl, sym, ap, ◌∙◌}
use Rattle.lft_whole_parser.{specs.Files.timeout_at, proofs.Targets.{found_turn, found_done}}
use Rattle.lft_whole.specs.inner.Parts.Parsing.{source}
use Rattle.lft_whole_parser.proofs.files.timeouts.Goals as goal

pub loop-at-init : goal.loop-at-init
loop-at-init c = rw c.new-timeouts.ensures.items refl

pub loop-at-preserved : goal.loop-at-preserved
loop-at-preserved c =
    rw c.in_ok-push_found.ensures.items (found_turn (timeout_at (source c.args.input.now) c.args.end) c.loop-at.timeouts.items c.timeout-found.result c.loop-at.at c.args.end c.loop-at-test.true c.timeout-found.ensures.is ∙ c.loop-at.invariant)

pub returns-clause-gives : goal.returns-clause-gives
returns-clause-gives c = ap Ok (sym c.loop-at.invariant ∙ found_done (timeout_at (source c.args.input.now) c.args.end) c.loop-at.timeouts.items c.loop-at.at c.args.end c.loop-at-test.false)
