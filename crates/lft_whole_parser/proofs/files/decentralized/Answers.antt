use Rattle.std.proofs.Common.{sym, ◌∙◌}
use Rattle.lft_whole_parser.{specs.Files.decentralized_at, proofs.Targets.find_turn}
use Rattle.lft_whole.specs.inner.Parts.Parsing.{source}
use Rattle.lft_whole_parser.proofs.files.decentralized.Goals as goal

pub loop-at-preserved : goal.loop-at-preserved
loop-at-preserved c = find_turn (decentralized_at (source c.args.input.now) c.args.end) c.loop-at.at c.args.end c.loop-at-test.true (sym c.is_decentralized.ensures.is ∙ c.if-is_decentralized.false) ∙ c.loop-at.invariant
