use Rattle.std.proofs.Common.{length, ◌≡◌, refl, false, true}
use Rattle.lft_ir.specs.declared.steps.row.Step.TheVariants.{Start, End}
use Rattle.lft_counts.proofs.Overlapping.{open_same, met_same, widths_same, no_start}
use Rattle.lft_counts.proofs.overlaps.Overlaps.add.Goals as goal

pub start-requires : goal.start-requires
start-requires g c = (c.requires.0, (c.requires.1.0, (c.requires.1.1.0, (c.requires.1.1.1.0, (c.requires.1.1.1.1, c.if-is_start.ensures.0 refl)))))

pub end-requires : goal.end-requires
end-requires g c = (c.requires.0, (c.requires.1.0, (c.requires.1.1.0, (c.requires.1.1.1.1, c.if-is_end.ensures.0 refl))))

pub returns-else-is_end : goal.returns-else-is_end
returns-else-is_end g c =
    let t = g.here.trace in
    let m = (length g.here.program.reactions) in
    let i = g.here.place in
    let old = c.args.self.now in
    let so = c.requires.1.0 in
    let row = c.args.row in
    let e = c.requires.1.1.0 in
    let n : ¬ (c.args.row.step ≡ Start) = λ q. (let z : ◌≡◌ false true = c.if-is_start.ensures.1 q in absurd (cc)) in
    let d : ¬ (c.args.row.step ≡ End) = λ q. (let z : ◌≡◌ false true = c.if-is_end.ensures.1 q in absurd (cc)) in
    record { running = open_same t m i old.running old.many row e n d so.running; met = met_same t m i old.met.items (no_start t m i row e n) so.met; widths = widths_same t m i old.widths (no_start t m i row e n) so.widths }
