use Rattle.std.proofs.Common.{string_bytes, arith, sym}
use Rattle.std.proofs.lemmas.List.{append-nil}
use Rattle.lft_ir.proofs.WordsLemmas.Steps.{said_all, said_more}
use Rattle.lft_driver.specs.Shown.{instance_line}
use Rattle.lft_driver.proofs.listing.push_instances.Goals as goal

pub loop-number-init : goal.loop-number-init
loop-number-init c = sym (append-nil (string_bytes c.args.text.now))

pub loop-number-preserved : goal.loop-number-preserved
loop-number-preserved c = said_more instance_line c.args.program.now.names.instances c.loop-number.number c.name_of_instance.result.now (string_bytes c.args.text.now) (string_bytes c.loop-number.text) (string_bytes c.push_instance.new.text) c.name_of_instance.ensures.value c.loop-number.invariant c.in_ok-push_instance.ensures

pub returns : goal.returns
returns c = said_all instance_line c.args.program.now.names.instances c.loop-number.number (string_bytes c.args.text.now) (string_bytes c.loop-number.text) (omega arith) c.loop-number.invariant
