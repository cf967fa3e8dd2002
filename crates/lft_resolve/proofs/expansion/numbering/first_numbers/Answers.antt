use Rattle.std.proofs.Common.{◌≡◌, ◌+◌, ◌<◌, ◌≤◌, length, arith}
use Rattle.lft_resolve.specs.inner.Expansion.Numbers.{count_of_things, things}
use Rattle.lft_resolve.proofs.ExpansionLemmas.Things.{numbering_more, numbering_passed, numbering_total, walk_more_things, walk_not_more_things}
use Rattle.lft_resolve.proofs.expansion.numbering.first_numbers.Goals.{Then-count-limit}
use Rattle.lft_resolve.proofs.expansion.numbering.first_numbers.Goals as goal

-- the instance whose things pass the limit
passes : (c : goal.Then-count-limit) → c.args.limit < things c.args.counts.now c.args.instances.now
passes c =
    let n : c.count_at-count.result ≡ count_of_things c.args.counts.now c.item_at.result.reactor = c.count_at-count.ensures in
    let t : c.args.limit < c.instances.total + c.count_at-count.result = omega arith in
    numbering_passed c.args.counts.now c.args.instances.now c.instances.firsts.items c.instances.number c.instances.total c.args.limit c.item_at.result c.instances.invariant.0 c.item_at.ensures (omega arith)

pub returns-then-count-limit-clause-passed : goal.returns-then-count-limit-clause-passed
returns-then-count-limit-clause-passed c = passes ((goal.at.returns-then-count-limit-clause-passed c).Then-count-limit)

pub returns-then-count-limit-clause-tree : goal.returns-then-count-limit-clause-tree
returns-then-count-limit-clause-tree c table main w = walk_more_things c.args.counts.now table main c.args.instances.now c.args.limit w (passes ((goal.at.returns-then-count-limit-clause-tree c).Then-count-limit))

pub instances-preserved : goal.instances-preserved
instances-preserved c =
    let n : c.count_at-count.result ≡ count_of_things c.args.counts.now c.item_at.result.reactor = c.count_at-count.ensures in
    (rw (c.in_ok-push.ensures.items, n) (numbering_more c.args.counts.now c.args.instances.now c.instances.firsts.items c.instances.number c.instances.total c.item_at.result c.instances.invariant.0 c.item_at.ensures), omega arith)

pub returns-clause-tree : goal.returns-clause-tree
returns-clause-tree c table main w =
    let low : length c.args.instances.now ≤ c.instances.number = c.instances-test.false in
    let high : c.instances.number ≤ length c.args.instances.now = c.instances.auto.number-end in
    let t = numbering_total c.args.counts.now c.args.instances.now c.instances.firsts.items c.instances.number c.instances.total c.instances.invariant.0 (omega arith) in
    walk_not_more_things c.args.counts.now table main c.args.instances.now c.args.limit w (omega arith)
