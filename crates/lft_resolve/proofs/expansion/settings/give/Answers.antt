use Rattle.std.proofs.Common.{◌≡◌, ◌+◌, ◌-◌, subst, arith, drop}
use Rattle.lft_resolve.proofs.{ExpansionLemmas.Entering.{entered_is, AreEntered, entered_more, entered_skip}, expansion.settings.give.Goals.After-item_at-one}
use Rattle.lft_resolve.proofs.expansion.settings.give.Goals as goal

-- what is written so far, by the number of the one that is given now
so_far : (c : goal.After-item_at-one) → AreEntered c.args.outer.now (drop ((c.given.number - 1) + 1) c.args.given.now) c.args.own.now c.given.own
so_far c = let q : c.given.number ≡ (c.given.number - 1) + 1 = omega arith in subst (λ n. AreEntered c.args.outer.now (drop n c.args.given.now) c.args.own.now c.given.own) q c.given.invariant

pub given-preserved-then-one-own : goal.given-preserved-then-one-own
given-preserved-then-one-own c = rw c.read.ensures (entered_more c.args.outer.now c.args.given.now c.args.own.now c.given.own (c.given.number - 1) c.item_at-one.result c.item_at-one.ensures (so_far ((goal.at.given-preserved-then-one-own c).After-item_at-one)) (omega arith))

pub given-preserved : goal.given-preserved
given-preserved c = entered_skip c.args.outer.now c.args.given.now c.args.own.now c.given.own (c.given.number - 1) c.item_at-one.result c.item_at-one.ensures (so_far ((goal.at.given-preserved c).After-item_at-one)) (omega arith)

pub returns : goal.returns
returns c =
    let z : c.given.number ≡ 0 = omega arith in
    entered_is c.args.outer.now c.args.given.now c.args.own.now c.given.own (subst (λ n. AreEntered c.args.outer.now (drop n c.args.given.now) c.args.own.now c.given.own) z c.given.invariant)
