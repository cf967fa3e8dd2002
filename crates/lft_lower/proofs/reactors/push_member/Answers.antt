use Rattle.std.proofs.Common.{◌≡◌, ℕ, List, string_bytes, refl, subst, sym, ap}
use Rattle.std.specs.Prelude.{option_map}
use Rattle.lft_tree.specs.declared.tree.Member.{Member as Core}
use Rattle.lft_whole.specs.declared.tree.Member.{Member}
use Rattle.lft_lower.specs.inner.{Meanings.{Meanings.{here, token_in}, Names.texts}, Lowered.ports, Standing.{AddsAt, ArePartsAt, declared_at}}
use Rattle.lft_lower.specs.declared.meanings.places.Within.{Within}
use Rattle.lft_lower.proofs.{Adding.lowered_as, Standing.at_this}
use Rattle.lft_whole.specs.declared.tree.Member.TheVariants as member
use Rattle.lft_lower.proofs.reactors.push_member.Goals as goal

-- what stands at the token of this member, if it is the one
stands_as : (w : Within) (n : ℕ) (old now : List Core) (m this : Member) → m ≡ this → AddsAt old now (token_in w (declared_at this)) (ArePartsAt (token_in w) (here w) n this) → AddsAt old now (token_in w (declared_at m)) (ArePartsAt (token_in w) (here w) n m)
stands_as w n old now m this is adds = subst (λ x. AddsAt old now (token_in w (declared_at x)) (ArePartsAt (token_in w) (here w) n x)) (sym is) adds

pub returns-in_ok-push_ports-in-Port-clause-made : goal.returns-in_ok-push_ports-in-Port-clause-made
returns-in_ok-push_ports-in-Port-clause-made c same =
    let before = option_map string_bytes c.args.never.now in
    lowered_as (texts c.args.maker.names.now) (here c.args.within) c.args.number before before c.args.list.now.items _ c.args.member.now (member.Port c.in-Port.port) c.in-Port.is (_, (refl, ap (λ t. ports t c.in-Port.port.is_input) c.named-channels.ensures), c.in_ok-push_ports-in-Port.ensures.made)

pub returns-in_ok-push_timer-in-Timer-clause-made : goal.returns-in_ok-push_timer-in-Timer-clause-made
returns-in_ok-push_timer-in-Timer-clause-made c same =
    let before = option_map string_bytes c.args.never.now in
    lowered_as (texts c.args.maker.names.now) (here c.args.within) c.args.number before before c.args.list.now.items _ c.args.member.now (member.Timer c.in-Timer.timer) c.in-Timer.is (_, (refl, c.in_ok-push_timer-in-Timer.ensures.read.0, c.in_ok-push_timer-in-Timer.ensures.read.1, refl), c.in_ok-push_timer-in-Timer.ensures.made)

pub returns-in_ok-push_action-in-Action-clause-made : goal.returns-in_ok-push_action-in-Action-clause-made
returns-in_ok-push_action-in-Action-clause-made c same =
    let before = option_map string_bytes c.args.never.now in
    lowered_as (texts c.args.maker.names.now) (here c.args.within) c.args.number before before c.args.list.now.items _ c.args.member.now (member.Action c.in-Action.action) c.in-Action.is (_, (refl, c.in_ok-push_action-in-Action.ensures.read, c.in_ok-push_action-in-Action.ensures.spacing, refl), c.in_ok-push_action-in-Action.ensures.made)

pub returns-in_ok-push_reaction-in-Reaction-clause-made : goal.returns-in_ok-push_reaction-in-Reaction-clause-made
returns-in_ok-push_reaction-in-Reaction-clause-made c same =
    let made = c.in_ok-push_reaction-in-Reaction.ensures in
    lowered_as (texts c.args.maker.names.now) (here c.args.within) c.args.number _ _ c.args.list.now.items _ c.args.member.now (member.Reaction c.in-Reaction.reaction) c.in-Reaction.is (made.lowered.0, (made.means, made.lowered.1), made.lowered.2)

pub returns-in_ok-push_instances-in-Instance-clause-made : goal.returns-in_ok-push_instances-in-Instance-clause-made
returns-in_ok-push_instances-in-Instance-clause-made c same =
    let before = option_map string_bytes c.args.never.now in
    let made = c.in_ok-push_instances-in-Instance.ensures.made same in
    lowered_as (texts c.args.maker.names.now) (here c.args.within) c.args.number before before c.args.list.now.items _ c.args.member.now (member.Instance c.in-Instance.instance) c.in-Instance.is (made.0, (refl, made.1), made.2)

pub returns-in_ok-push_connection-in-Connection-clause-made : goal.returns-in_ok-push_connection-in-Connection-clause-made
returns-in_ok-push_connection-in-Connection-clause-made c same =
    let before = option_map string_bytes c.args.never.now in
    let made = c.in_ok-push_connection-in-Connection.ensures in
    lowered_as (texts c.args.maker.names.now) (here c.args.within) c.args.number before before c.args.list.now.items _ c.args.member.now (member.Connection c.in-Connection.connection) c.in-Connection.is (made.joined.0, (refl, made.logical, made.mean, made.read, made.joined.1), made.joined.2)

pub returns-in_ok-push_ports-in-Port-clause-at : goal.returns-in_ok-push_ports-in-Port-clause-at
returns-in_ok-push_ports-in-Port-clause-at c = stands_as c.args.within c.args.number c.args.list.now.items _ c.args.member.now (member.Port c.in-Port.port) c.in-Port.is (at_this c.args.list.now.items _ _ _ _ c.token-at.ensures c.in_ok-push_ports-in-Port.ensures.at)

pub returns-in_ok-push_timer-in-Timer-clause-at : goal.returns-in_ok-push_timer-in-Timer-clause-at
returns-in_ok-push_timer-in-Timer-clause-at c = stands_as c.args.within c.args.number c.args.list.now.items _ c.args.member.now (member.Timer c.in-Timer.timer) c.in-Timer.is c.in_ok-push_timer-in-Timer.ensures.at

pub returns-in_ok-push_action-in-Action-clause-at : goal.returns-in_ok-push_action-in-Action-clause-at
returns-in_ok-push_action-in-Action-clause-at c = stands_as c.args.within c.args.number c.args.list.now.items _ c.args.member.now (member.Action c.in-Action.action) c.in-Action.is c.in_ok-push_action-in-Action.ensures.at

pub returns-in_ok-push_reaction-in-Reaction-clause-at : goal.returns-in_ok-push_reaction-in-Reaction-clause-at
returns-in_ok-push_reaction-in-Reaction-clause-at c = stands_as c.args.within c.args.number c.args.list.now.items _ c.args.member.now (member.Reaction c.in-Reaction.reaction) c.in-Reaction.is c.in_ok-push_reaction-in-Reaction.ensures.at

pub returns-in_ok-push_instances-in-Instance-clause-at : goal.returns-in_ok-push_instances-in-Instance-clause-at
returns-in_ok-push_instances-in-Instance-clause-at c = stands_as c.args.within c.args.number c.args.list.now.items _ c.args.member.now (member.Instance c.in-Instance.instance) c.in-Instance.is c.in_ok-push_instances-in-Instance.ensures.at

pub returns-in_ok-push_connection-in-Connection-clause-at : goal.returns-in_ok-push_connection-in-Connection-clause-at
returns-in_ok-push_connection-in-Connection-clause-at c = stands_as c.args.within c.args.number c.args.list.now.items _ c.args.member.now (member.Connection c.in-Connection.connection) c.in-Connection.is c.in_ok-push_connection-in-Connection.ensures.at
