use Rattle.std.proofs.Common.{◌<◌, length, map, ap, sym, ◌∙◌, arith}
use Rattle.std.specs.Option.{option_map}
use Rattle.lft_validate.specs.{Findings.name_at, Members.declared}
use Rattle.lft_validate.proofs.{Picking.{joined_some, joined_none}, declared.push_declared.Goals.{in-Some+in_ok-push-in-Some, in-None}}
use Rattle.lft_validate.proofs.declared.push_declared.Goals as goal

pub loop-member-preserved : goal.loop-member-preserved
loop-member-preserved c =
    let within : c.loop-member.member-index < length c.args.members.now = omega arith in
    elim c.match-declared.branch [
      | in-Some+in_ok-push-in-Some w ↦ rw (w.names-is, w.in_ok-push-in-Some.ensures.items) (joined_some declared c.args.members.now c.loop-member.member-index c.member-item.result within (sym c.member-item.is) name_at (map name_at c.args.names.now.items) c.loop-member.names.items c.loop-member.invariant _ (sym c.declared.ensures ∙ ap (option_map name_at) w.in-Some.is))
      | in-None w ↦ rw w.names-is (joined_none declared c.args.members.now c.loop-member.member-index c.member-item.result within (sym c.member-item.is) name_at (map name_at c.args.names.now.items) c.loop-member.names.items c.loop-member.invariant (sym c.declared.ensures ∙ ap (option_map name_at) w.in-None.is))
    ]
