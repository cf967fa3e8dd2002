use Rattle.std.proofs.Common.{◌<◌, length, refl, arith}
use Rattle.std.proofs.lemmas.Option.{slice_get_read, slice_get_within}
use Rattle.lft_classes.specs.{declared.shapes.Inherited.Inherited, inner.Needs.{HasNeed, IsUnmarkedAt}, Needs.{Times, Widths}}
use Rattle.lft_classes.proofs.{Building.below_one, Marking.below_more, Passing.marked_all}
use Rattle.lft_classes.proofs.deciding.needs_of.Goals as goal

pub loop-number-preserved : goal.loop-number-preserved
loop-number-preserved c =
    let shapes = c.args.shapes.now in
    let shape = c.args.shape.now in
    let members = shape.members.items in
    let number = c.loop-number.number in
    let m = c.index.result.now in
    let within : number < length members = omega arith in
    let there = slice_get_read members (length members) number m refl within c.index.ensures in
    record {
      sized = below_more (λ k (x : Inherited). HasNeed Widths shapes shape k x.member.now) members number m _ _ _ there c.loop-number.invariant.sized c.in_ok-note.ensures.sized;
      timed = below_more (λ k (x : Inherited). HasNeed Times shapes shape k x.member.now) members number m _ _ _ there c.loop-number.invariant.timed c.in_ok-note.ensures.timed;
      index = below_one (λ k (x : Inherited). IsUnmarkedAt shapes shape k x.member.now) members number m there c.loop-number.invariant.index c.in_ok-note.ensures.index;
    }

pub returns-clause-sized : goal.returns-clause-sized
returns-clause-sized c = marked_all Widths c.args.shapes.now c.args.shape.now c.len-count.result c.loop-number.number _ _ (omega arith) (c.in_ok-vec.ensures.items_if_clones_equal (λ y e. e)) (omega arith) c.loop-number.invariant.sized

pub returns-clause-timed : goal.returns-clause-timed
returns-clause-timed c = marked_all Times c.args.shapes.now c.args.shape.now c.len-count.result c.loop-number.number _ _ (omega arith) (c.in_ok-vec-2.ensures.items_if_clones_equal (λ y e. e)) (omega arith) c.loop-number.invariant.timed

pub returns-clause-index : goal.returns-clause-index
returns-clause-index c k m at = c.loop-number.invariant.index k m (let within = slice_get_within c.args.shape.now.members.items k m at in omega (arith, within)) at
