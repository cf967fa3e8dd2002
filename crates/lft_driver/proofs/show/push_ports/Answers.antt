use Rattle.std.proofs.Common.{string_bytes, arith, sym}
use Rattle.std.proofs.lemmas.List.{append-nil}
use Rattle.lft_driver.{specs.Shown.shown_port_words, proofs.Listed.{placed_all, placed_more}}
use Rattle.lft_driver.proofs.show.push_ports.Goals as goal

pub loop-number-init : goal.loop-number-init
loop-number-init c = sym (append-nil (string_bytes c.args.text.now))

pub loop-number-preserved : goal.loop-number-preserved
loop-number-preserved c = placed_more (shown_port_words c.args.program.now) c.args.program.now.ports c.loop-number.number (string_bytes c.args.text.now) (string_bytes c.loop-number.text) (string_bytes c.push_port_line.new.text) (omega arith) c.loop-number.invariant c.in_ok-push_port_line.ensures

pub returns : goal.returns
returns c = placed_all (shown_port_words c.args.program.now) c.args.program.now.ports c.loop-number.number (string_bytes c.args.text.now) (string_bytes c.loop-number.text) (omega arith) c.loop-number.invariant
