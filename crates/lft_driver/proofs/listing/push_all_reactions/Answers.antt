use Rattle.std.proofs.Common.{string_bytes, arith, sym}
use Rattle.std.proofs.lemmas.List.{append-nil}
use Rattle.lft_driver.{specs.Shown.reaction_lines, proofs.Listed.{placed_all, placed_more}}
use Rattle.lft_driver.proofs.listing.push_all_reactions.Goals as goal

pub loop-number-init : goal.loop-number-init
loop-number-init c = sym (append-nil (string_bytes c.args.text.now))

pub loop-number-preserved : goal.loop-number-preserved
loop-number-preserved c = placed_more (reaction_lines c.args.program.now c.args.graph.now) c.args.program.now.reactions c.loop-number.number (string_bytes c.args.text.now) (string_bytes c.loop-number.text) (string_bytes c.push_reaction_lines.new.text) (omega arith) c.loop-number.invariant c.in_ok-push_reaction_lines.ensures

pub returns : goal.returns
returns c = placed_all (reaction_lines c.args.program.now c.args.graph.now) c.args.program.now.reactions c.loop-number.number (string_bytes c.args.text.now) (string_bytes c.loop-number.text) (omega arith) c.loop-number.invariant
