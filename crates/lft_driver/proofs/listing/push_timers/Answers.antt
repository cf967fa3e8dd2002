use Rattle.std.proofs.Common.{string_bytes, arith, sym}
use Rattle.std.proofs.lemmas.List.{append-nil}
use Rattle.lft_driver.{specs.Shown.timer_line, proofs.Listed.{placed_all, placed_more}}
use Rattle.lft_driver.proofs.listing.push_timers.Goals as goal

pub loop-number-init : goal.loop-number-init
loop-number-init c = sym (append-nil (string_bytes c.args.text.now))

pub loop-number-preserved : goal.loop-number-preserved
loop-number-preserved c = placed_more (timer_line c.args.program.now) c.args.program.now.timers c.loop-number.number (string_bytes c.args.text.now) (string_bytes c.loop-number.text) (string_bytes c.push_timer_line.new.text) (omega arith) c.loop-number.invariant c.in_ok-push_timer_line.ensures

pub returns : goal.returns
returns c = placed_all (timer_line c.args.program.now) c.args.program.now.timers c.loop-number.number (string_bytes c.args.text.now) (string_bytes c.loop-number.text) (omega arith) c.loop-number.invariant
