use Rattle.std.proofs.Common.{◌<◌, length, ◌∙◌, arith}
use Rattle.std.proofs.lemmas.Option.{slice_get_within}
use Rattle.lft_lists.proofs.Places.{length_written}
use Rattle.lft_rows.proofs.Marked.{all_cleared, zeros_more}
use Rattle.lft_rows.proofs.marks.Marks.clear.Goals as goal

pub loop-seat-preserved : goal.loop-seat-preserved
loop-seat-preserved c =
    let places = c.loop-seat.self.places.items in
    let is = c.loop-seat.invariant in
    let count = is.count in
    let within = c.loop-seat-test.true in
    let room : c.loop-seat.seat < length places = omega (arith, within, count, c.len-seat-end.ensures, c.args.self.now.places.ok.0) in
    record { inputs = is.inputs; firsts = is.firsts; count = length_written places c.loop-seat.seat 0 ∙ is.count; none = zeros_more places c.loop-seat.seat room is.none }

pub returns : goal.returns
returns c program laid =
    let is = c.loop-seat.invariant in
    let past = c.loop-seat-test.false in
    let count = is.count in
    all_cleared program c.args.self.now c.loop-seat.self laid is.inputs is.firsts is.count (λ k m e. is.none k m (let l = slice_get_within c.loop-seat.self.places.items k m e in omega (arith, l, past, count, c.len-seat-end.ensures, c.args.self.now.places.ok.0)) e)
