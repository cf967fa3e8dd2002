use Rattle.std.proofs.Common.{true, false, option_map, is_some, sym, ap, ◌∙◌}
use Rattle.lft_tree.specs.{Tree.{timers_of, actions_of, instances_of}, View.port_view}
use Rattle.lft_resolve.{specs.Kinds.own_port, proofs.Owned.{as_action, as_instance, as_nothing, as_parameter, as_port, as_timer, indexed}}
use Rattle.lft_resolve.proofs.own.Own.kind.Goals as goal

pub returns-then-has_parameter : goal.returns-then-has_parameter
returns-then-has_parameter c r is = as_parameter r c.args.name.now (sym (c.has_parameter.ensures r is) ∙ c.if-has_parameter.true)

pub returns-in-Some : goal.returns-in-Some
returns-in-Some c r is = as_port r c.args.name.now (sym (c.has_parameter.ensures r is) ∙ c.if-has_parameter.false) (port_view c.in-Some.port.now) _ (ap own_port (sym c.if-port.true)) (ap (option_map (λ p. port_view p.now)) (sym c.in-Some.is) ∙ c.port.ensures r is)

pub returns-in-Some-2 : goal.returns-in-Some-2
returns-in-Some-2 c r is = as_port r c.args.name.now (sym (c.has_parameter.ensures r is) ∙ c.if-has_parameter.false) (port_view c.in-Some.port.now) _ (ap own_port (sym c.if-port.false)) (ap (option_map (λ p. port_view p.now)) (sym c.in-Some.is) ∙ c.port.ensures r is)

pub returns-then-is_some : goal.returns-then-is_some
returns-then-is_some c r is = as_timer r c.args.name.now (sym (c.has_parameter.ensures r is) ∙ c.if-has_parameter.false) (ap (option_map (λ p. port_view p.now)) (sym c.in-None.is) ∙ c.port.ensures r is) (indexed (λ x. x.name) c.args.name.now (timers_of r) c.args.self.now.timers true is.timers (ap is_some (sym c.get.ensures) ∙ sym c.is_some.ensures ∙ c.if-is_some.true))

pub returns-then-is_some-2 : goal.returns-then-is_some-2
returns-then-is_some-2 c r is = as_action r c.args.name.now (sym (c.has_parameter.ensures r is) ∙ c.if-has_parameter.false) (ap (option_map (λ p. port_view p.now)) (sym c.in-None.is) ∙ c.port.ensures r is) (indexed (λ x. x.name) c.args.name.now (timers_of r) c.args.self.now.timers false is.timers (ap is_some (sym c.get.ensures) ∙ sym c.is_some.ensures ∙ c.if-is_some.false)) (indexed (λ x. x.name) c.args.name.now (actions_of r) c.args.self.now.actions true is.actions (ap is_some (sym c.get-2.ensures) ∙ sym c.is_some-2.ensures ∙ c.if-is_some-2.true))

pub returns-then-is_some-3 : goal.returns-then-is_some-3
returns-then-is_some-3 c r is = as_instance r c.args.name.now (sym (c.has_parameter.ensures r is) ∙ c.if-has_parameter.false) (ap (option_map (λ p. port_view p.now)) (sym c.in-None.is) ∙ c.port.ensures r is) (indexed (λ x. x.name) c.args.name.now (timers_of r) c.args.self.now.timers false is.timers (ap is_some (sym c.get.ensures) ∙ sym c.is_some.ensures ∙ c.if-is_some.false)) (indexed (λ x. x.name) c.args.name.now (actions_of r) c.args.self.now.actions false is.actions (ap is_some (sym c.get-2.ensures) ∙ sym c.is_some-2.ensures ∙ c.if-is_some-2.false)) (indexed (λ x. x.name) c.args.name.now (instances_of r) c.args.self.now.instances true is.instances (ap is_some (sym c.get-3.ensures) ∙ sym c.is_some-3.ensures ∙ c.if-is_some-3.true))

pub returns : goal.returns
returns c r is = as_nothing r c.args.name.now (sym (c.has_parameter.ensures r is) ∙ c.if-has_parameter.false) (ap (option_map (λ p. port_view p.now)) (sym c.in-None.is) ∙ c.port.ensures r is) (indexed (λ x. x.name) c.args.name.now (timers_of r) c.args.self.now.timers false is.timers (ap is_some (sym c.get.ensures) ∙ sym c.is_some.ensures ∙ c.if-is_some.false)) (indexed (λ x. x.name) c.args.name.now (actions_of r) c.args.self.now.actions false is.actions (ap is_some (sym c.get-2.ensures) ∙ sym c.is_some-2.ensures ∙ c.if-is_some-2.false)) (indexed (λ x. x.name) c.args.name.now (instances_of r) c.args.self.now.instances false is.instances (ap is_some (sym c.get-3.ensures) ∙ sym c.is_some-3.ensures ∙ c.if-is_some-3.false))
