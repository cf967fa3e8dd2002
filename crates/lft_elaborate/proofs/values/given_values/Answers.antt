use Rattle.std.proofs.Common.{None, length, ap, ◌∙◌, arith}
use Rattle.lft_lists.proofs.Places.{length_same}
use Rattle.lft_elaborate.proofs.Valuing.{given_none, given_put}
use Rattle.lft_elaborate.proofs.values.given_values.Goals as goal

pub loop-place-init : goal.loop-place-init
loop-place-init c =
    let items = c.in_ok-table.ensures in
    record {
      long = (let l = ap length items ∙ length_same c.args.count None in let ok = c.in_ok-table.table.ok.0 in omega (arith, l, ok));
      given = given_none c.in_ok-table.table.items c.args.count c.len-place.result c.args.child.now.given.items items (omega arith);
    }

pub loop-place-preserved-then-found-len : goal.loop-place-preserved-then-found-len
loop-place-preserved-then-found-len c =
    let ok = c.loop-place.table.ok.0 in
    record {
      long = omega arith;
      given = given_put c.loop-place.table.items c.args.count c.loop-place.place c.args.child.now.given.items c.index-found.result.now (omega arith) (omega arith) (omega arith) c.index-found.ensures (omega arith) c.loop-place.invariant.given;
    }
