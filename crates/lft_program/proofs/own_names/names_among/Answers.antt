use Rattle.std.proofs.Common.{◌<◌, length, ap, sym, ◌∙◌, arith}
use Rattle.std.specs.Option.{option_map}
use Rattle.lft_tree.specs.View.{member_view}
use Rattle.lft_program.{specs.inner.OwnNames.name_in, proofs.own_names.names_among.Goals.{in-Some+in_ok-push-in-Some, in-None}}
use Rattle.lft_lists.proofs.Picked.{picked_some, picked_none}
use Rattle.lft_program.proofs.own_names.names_among.Goals as goal

pub loop-member-preserved : goal.loop-member-preserved
loop-member-preserved c =
    let within : c.loop-member.member-index < length c.args.members.now = omega arith in
    elim c.match-name_of.branch [
      | in-Some+in_ok-push-in-Some w ↦ rw (w.names-is, w.in_ok-push-in-Some.ensures.items) (picked_some (name_in c.args.kind) member_view (λ t. t.now) c.args.members.now c.loop-member.member-index c.member-item.result within (sym c.member-item.is) c.loop-member.names.items c.loop-member.invariant _ (sym c.name_of.ensures ∙ ap (option_map (λ t. t.now)) w.in-Some.is))
      | in-None w ↦ rw w.names-is (picked_none (name_in c.args.kind) member_view (λ t. t.now) c.args.members.now c.loop-member.member-index c.member-item.result within (sym c.member-item.is) c.loop-member.names.items c.loop-member.invariant (sym c.name_of.ensures ∙ ap (option_map (λ t. t.now)) w.in-None.is))
    ]
