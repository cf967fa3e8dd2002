use Rattle.std.proofs.Common.{◌<◌, length, ap, sym, ◌∙◌, arith}
use Rattle.std.specs.Option.{option_map}
use Rattle.lft_tree.specs.{Tree.reaction_in, View.{member_view, reaction_view}}
use Rattle.lft_lists.proofs.Picked.{picked_some, picked_none}
use Rattle.lft_resolve.proofs.members.reactions.Goals.{in-Some+in_ok-push-in-Some, in-None}
use Rattle.lft_resolve.proofs.members.reactions.Goals as goal

pub loop-member-preserved : goal.loop-member-preserved
loop-member-preserved c =
    let within : c.loop-member.member-index < length c.args.members.now = omega arith in
    elim c.match-as_reaction.branch [
      | in-Some+in_ok-push-in-Some w ↦ rw (w.found-is, w.in_ok-push-in-Some.ensures.items) (picked_some reaction_in member_view (λ x. reaction_view x.now) c.args.members.now c.loop-member.member-index c.member-item.result within (sym c.member-item.is) c.loop-member.found.items c.loop-member.invariant _ (sym c.as_reaction.ensures ∙ ap (option_map (λ x. reaction_view x.now)) w.in-Some.is))
      | in-None w ↦ rw w.found-is (picked_none reaction_in member_view (λ x. reaction_view x.now) c.args.members.now c.loop-member.member-index c.member-item.result within (sym c.member-item.is) c.loop-member.found.items c.loop-member.invariant (sym c.as_reaction.ensures ∙ ap (option_map (λ x. reaction_view x.now)) w.in-None.is))
    ]
