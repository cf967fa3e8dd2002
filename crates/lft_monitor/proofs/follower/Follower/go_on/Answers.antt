use Rattle.std.proofs.Common.{◌∙◌, ◌++◌, List, length, ap, arith}
use Rattle.std.proofs.lemmas.List.{length-drop, length-take-le}
use Rattle.lft_ir.specs.declared.steps.row.Row.{Row}
use Rattle.lft_monitor.specs.inner.Follows.{next_of}
use Rattle.lft_monitor.proofs.{Following.odd_of_first, Onward.{all_gone, gone_on, hitch_on, left_fit, many_held, many_judged, none_gone}}
use Rattle.lft_monitor.proofs.follower.Follower.go_on.Goals as goal

pub parts-init : goal.parts-init
parts-init c = λ t is. none_gone c.args.plan.now t c.args.self.now is

pub returns-then-self-gt-MOST : goal.returns-then-self-gt-MOST
returns-then-self-gt-MOST c = λ t is.
    let old = c.args.self.now in
    many_judged c.args.plan.now t (next_of old) old c.parts.self (c.parts.invariant t is) c.if-self-gt-MOST.true

pub returns-then-left-gt0 : goal.returns-then-left-gt0
returns-then-left-gt0 c = λ t is.
    let old = c.args.self.now in
    let mid = c.parts.self in
    let next = length-drop mid.held mid.rows.items in
    let ok = mid.rows.ok.0 in
    many_held c.args.plan.now t (next_of old) old mid (c.parts.invariant t is) (omega arith) (omega (arith, next, ok))

pub go_to-requires : goal.go_to-requires
go_to-requires c =
    let t = c.requires.stands.0 in
    let old = c.args.self.now in
    let mid = c.parts.self in
    let way = c.parts.invariant t c.requires.stands.1 in
    let next = length-drop mid.held mid.rows.items in
    let ok = mid.rows.ok.0 in
    let held = length-take-le mid.held mid.rows.items way.follows.within in
    let few = way.follows.held.fit.few in
    record {
      count = omega (arith, next, ok);
      short = omega (arith, held, few);
      fit = left_fit c.args.plan.now t (next_of old) old mid way c.requires.fit;
      few = omega arith;
      stands = (t ++ way.first, way.follows);
    }

pub parts-preserved : goal.parts-preserved
parts-preserved c = λ t is.
    let old = c.args.self.now in
    let mid = c.parts.self in
    let way = c.parts.invariant t is in
    let on = (rw c.in-None.is at c.in_ok-go_to.ensures.on) (t ++ way.first) way.follows in
    gone_on c.args.plan.now t (next_of old) old mid way c.min-count.result c.go_to.new.self on (rw c.in-None.is at c.in_ok-go_to.ensures.next)

pub parts-smaller : goal.parts-smaller
parts-smaller c =
    let mid = c.parts.self in
    let count = c.min-count.result in
    let next = rw c.in-None.is at c.in_ok-go_to.ensures.next in
    let fewer = ap (λ (u : List Row). length u) next ∙ length-drop count (next_of mid) in
    let long = length-drop mid.held mid.rows.items in
    let ok = mid.rows.ok.0 in
    omega (arith, fewer, long, ok)

pub returns-then-count-left : goal.returns-then-count-left
returns-then-count-left c = λ t is.
    let old = c.args.self.now in
    let mid = c.parts.self in
    let way = c.parts.invariant t is in
    let on = (rw c.in-None.is at c.in_ok-go_to.ensures.on) (t ++ way.first) way.follows in
    let next = length-drop mid.held mid.rows.items in
    let ok = mid.rows.ok.0 in
    all_gone c.args.plan.now t (next_of old) old mid way c.min-count.result c.go_to.new.self on (rw c.in-None.is at c.in_ok-go_to.ensures.next) (omega (arith, next, ok))

pub returns-in-Some-Broken : goal.returns-in-Some-Broken
returns-in-Some-Broken c = λ t is.
    let old = c.args.self.now in
    let way = c.parts.invariant t is in
    let hitch = (rw c.in-Some-Broken.is at c.in_ok-go_to.ensures.on) (t ++ way.first) way.follows in
    rw (← c.in-Some-Broken.found-is) at (rw c.in-Some-Broken.field-0-is at (hitch_on c.args.plan.now t (next_of old) old c.parts.self way c.min-count.result _ hitch))

pub returns-in-Some-Odd : goal.returns-in-Some-Odd
returns-in-Some-Odd c = λ t is.
    let plan = c.args.plan.now in
    let old = c.args.self.now in
    let way = c.parts.invariant t is in
    let hitch = (rw c.in-Some-Odd.is at c.in_ok-go_to.ensures.on) (t ++ way.first) way.follows in
    let odd = odd_of_first plan t (next_of old) old is c.in-Some-Odd.line (rw c.in-Some-Odd.field-0-is at (hitch_on plan t (next_of old) old c.parts.self way c.min-count.result _ hitch)) in
    rw (← c.in-Some-Odd.line-is) at odd
