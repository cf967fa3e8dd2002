use Rattle.std.proofs.Common.{◌≡◌, ◌<◌, length, ap, subst, arith, rules, Some, slice_get, Contains}
use Rattle.lft_ir.specs.{Parts.Parts, declared.parts.Name.TheVariants.Action}
use Rattle.lft_scheduler.proofs.answering.may_make.Goals as goal

pub action-requires : goal.action-requires
action-requires c =
    let x = c.reaction.result.now in
    let own = c.program-program.result.now in
    let of : slice_get own.reactions c.args.reaction ≡ Some x = search rules in
    let s = c.program-program.ensures.sound in
    let has : Contains x.effects (Action c.in-Schedule-Action-default-default.action) = search rules in
    let same : own ≡ c.args.plan.now.program = c.program-program.ensures.value in
    let l : c.in-Schedule-Action-default-default.action < length c.args.plan.now.program.actions = (s.sound.exist c.args.reaction x (subst (λ (z : Parts). slice_get z.reactions c.args.reaction ≡ Some x) same of)).effects (Action c.in-Schedule-Action-default-default.action) has in
    let e = ap (λ (z : Parts). length z.actions) same in
    omega arith
