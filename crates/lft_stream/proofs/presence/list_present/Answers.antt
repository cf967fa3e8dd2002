use Rattle.std.proofs.Common.{refl}
use Rattle.lft_ir.specs.declared.parts.Name.TheVariants.{Port}
use Rattle.lft_stream.proofs.Meeting.{present_or_absent}
use Rattle.lft_stream.proofs.presence.list_present.Goals as goal

pub returns-then-add_written : goal.returns-then-add_written
returns-then-add_written c = λ z d writes n shown within awaited. present_or_absent c.args.plan.now c.program.ensures.sound.sound c.args.channels.now c.requires.channels c.args.own.now c.args.tag c.args.coming.now.queue c.add_waiting.new.names.items (λ i o p x v list e step at m. c.add_waiting.ensures.kept z (Port p) (c.if-add_written.ensures refl i o p x v list e step at m)) (λ m some. c.add_waiting.ensures.added z m some) d writes shown n within awaited
