use Rattle.std.proofs.Common.{length, ◌<◌, ◌-◌, arith}
use Rattle.lft_counts.proofs.{Going.ended, Overlapping.{some_open, open_less, met_same, widths_same, no_start, end_no_start}}
use Rattle.lft_counts.proofs.overlaps.Overlaps.end.Goals as goal

pub overflow_sub-self : goal.overflow_sub-self
overflow_sub-self g c =
    let here = ended g.here.trace g.here.place c.args.row c.requires.1.1.1.1 c.requires.1.1.0 in
    let some : 0 < c.args.self.now.many = some_open g.here.trace (length g.here.program.reactions) g.here.place c.requires.0 c.args.row.worker c.args.row.tag c.args.row.reaction here c.requires.1.1.1.0 c.args.self.now.running c.args.self.now.many c.requires.1.0.running in
    omega (arith, some)

pub returns : goal.returns
returns g c =
    let t = g.here.trace in
    let m = (length g.here.program.reactions) in
    let i = g.here.place in
    let row = c.args.row in
    let old = c.args.self.now in
    let so = c.requires.1.0 in
    let e = c.requires.1.1.0 in
    let known = c.requires.1.1.1.0 in
    let is_end = c.requires.1.1.1.1 in
    let here = ended t i row is_end e in
    let some : 0 < c.args.self.now.many = some_open t m i c.requires.0 row.worker row.tag row.reaction here known old.running old.many so.running in
    let none = no_start t m i row e (end_no_start row is_end) in
    record {
      running = open_less t m i c.requires.0 row.worker row.tag row.reaction here known old.running c.toggle.new.self old.many (old.many - 1) (omega (arith, some)) so.running c.toggle.ensures.room c.toggle.ensures.others c.toggle.ensures.taken;
      met = met_same t m i old.met.items none so.met;
      widths = widths_same t m i old.widths none so.widths;
    }
