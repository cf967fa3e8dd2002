use Rattle.std.proofs.Common.{◌≡◌, [], length, replicate, subst, arith}
use Rattle.lft_lists.specs.{declared.walk.Stage.TheVariants.New, inner.Walking.{IsOrder, IsWalk, Leads}}
use Rattle.lft_lists.proofs.{Places.length_same, Walking.{walk_end, walk_start}}
use Rattle.lft_lists.proofs.walk.walk_all.Goals as goal

pub starts-init : goal.starts-init
starts-init g c =
    let marks : c.in_ok-marks.marks.items ≡ replicate c.args.count New = c.in_ok-marks.ensures.items_if_clones_equal (λ y e. e) in
    let nexts : c.in_ok-nexts.nexts.items ≡ replicate c.args.count 0 = c.in_ok-nexts.ensures.items_if_clones_equal (λ y e. e) in
    rw (marks, nexts, c.new-order.ensures.items) (length_same c.args.count New, walk_start (g.W.Ways.ways c.args.ways.now) c.args.count)

pub returns : goal.returns
returns g c =
    let ways = g.W.Ways.ways c.args.ways.now in
    let marks = c.starts.marks.items in
    let order = c.starts.order.items in
    let all = c.starts.invariant.0 in
    let past = c.starts-test.false in
    let end = c.starts.auto.start-end in
    let e : c.starts.start ≡ length marks = omega arith in
    let w = subst (λ k. IsWalk ways k marks c.starts.nexts.items [] order) e c.starts.invariant.1 in
    subst (λ n. IsOrder (Leads ways) n order) all (walk_end ways marks c.starts.nexts.items order w)
