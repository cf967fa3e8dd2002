use Rattle.std.proofs.Common.{string_bytes, arith, sym}
use Rattle.std.proofs.lemmas.List.{append-nil}
use Rattle.lft_ir.proofs.WordsLemmas.Steps.{said_all, said_more}
use Rattle.lft_driver.specs.Shown.{use_line}
use Rattle.lft_driver.proofs.listing.push_uses.Goals as goal

pub loop-place-init : goal.loop-place-init
loop-place-init c = sym (append-nil (string_bytes c.args.text.now))

pub loop-place-preserved : goal.loop-place-preserved
loop-place-preserved c = said_more (use_line c.args.program.now c.args.reaction) c.args.uses.now c.loop-place.place c.item_at.result (string_bytes c.args.text.now) (string_bytes c.loop-place.text) (string_bytes c.push_use.new.text) c.item_at.ensures c.loop-place.invariant c.in_ok-push_use.ensures

pub returns : goal.returns
returns c = said_all (use_line c.args.program.now c.args.reaction) c.args.uses.now c.loop-place.place (string_bytes c.args.text.now) (string_bytes c.loop-place.text) (omega arith) c.loop-place.invariant
