use Rattle.std.proofs.Common.{◌≡◌, ◌++◌, ◌<◌, map, take, length, refl, sym, ap, ◌∙◌, arith}
use Rattle.std.proofs.lemmas.Grind.{common_steps}
use Rattle.lft_classes.{specs.inner.Built.located, proofs.Building.pushed}
use Rattle.lft_classes.proofs.shapes.push_members.Goals as goal

pub loop-member-preserved : goal.loop-member-preserved
loop-member-preserved c =
    let within : c.loop-member.member-index < length c.deref-member-items.result.now = omega arith in
    record { all = ap located c.in_ok-push.ensures.items ∙ pushed (λ m. (m.file, m.member.now)) (λ m. (c.args.class.file, m)) (located c.args.members.now.items) c.loop-member.members.items c.deref-member-items.result.now c.loop-member.member-index _ c.member-item.result within (sym c.member-item.is) refl c.loop-member.invariant.all; main = c.in_ok-spend.ensures.main ∙ c.loop-member.invariant.main }

pub returns-clause-members : goal.returns-clause-members
returns-clause-members c =
    let whole : take c.loop-member.member-index c.deref-member-items.result.now ≡ c.deref-member-items.result.now = grind (arith, common_steps) in
    c.loop-member.invariant.all ∙ ap (λ l. located c.args.members.now.items ++ map (λ m. (c.args.class.file, m)) l) (whole ∙ c.deref-member-items.ensures.value)
