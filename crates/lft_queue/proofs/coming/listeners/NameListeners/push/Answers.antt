use Rattle.std.proofs.Common.{◌≡◌, ◌<◌, Some, length, subst}
use Rattle.lft_ir.specs.declared.parts.Name.{Name}
use Rattle.lft_queue.{specs.inner.Coming.Listeners.{list_of, HasListOf}, proofs.ComingLemmas.AtOnce.{same_lists, pushed_grows, pushed_there}}
use Rattle.std.proofs.lemmas.Result.{on_ok_weaker}
use Rattle.lft_queue.proofs.coming.listeners.NameListeners.push.Goals as goal

pub returns-in-Port-clause-grown : goal.returns-in-Port-clause-grown
returns-in-Port-clause-grown c =
    let within : c.in-Port.number < length c.args.self.now.ports = subst (λ (n : Name). HasListOf c.args.self.now n) c.in-Port.is c.requires in
    on_ok_weaker c.push.result (λ pushed. (pushed_grows c.args.self.now.ports c.push.new.self c.in-Port.number c.args.reaction within pushed, same_lists c.args.self.now.actions)) c.push.ensures

pub returns-in-Port-clause-listed : goal.returns-in-Port-clause-listed
returns-in-Port-clause-listed c =
    let within : c.in-Port.number < length c.args.self.now.ports = subst (λ (n : Name). HasListOf c.args.self.now n) c.in-Port.is c.requires in
    on_ok_weaker c.push.result (λ pushed list e. pushed_there c.args.self.now.ports c.push.new.self c.in-Port.number c.args.reaction within pushed list (subst (λ (n : Name). list_of (record { ports = c.push.new.self; actions = c.args.self.now.actions }) n ≡ Some list) c.in-Port.is e)) c.push.ensures

pub returns-in-Action-clause-grown : goal.returns-in-Action-clause-grown
returns-in-Action-clause-grown c =
    let within : c.in-Action.number < length c.args.self.now.actions = subst (λ (n : Name). HasListOf c.args.self.now n) c.in-Action.is c.requires in
    on_ok_weaker c.push-in-Action.result (λ pushed. (same_lists c.args.self.now.ports, pushed_grows c.args.self.now.actions c.push-in-Action.new.self c.in-Action.number c.args.reaction within pushed)) c.push-in-Action.ensures

pub returns-in-Action-clause-listed : goal.returns-in-Action-clause-listed
returns-in-Action-clause-listed c =
    let within : c.in-Action.number < length c.args.self.now.actions = subst (λ (n : Name). HasListOf c.args.self.now n) c.in-Action.is c.requires in
    on_ok_weaker c.push-in-Action.result (λ pushed list e. pushed_there c.args.self.now.actions c.push-in-Action.new.self c.in-Action.number c.args.reaction within pushed list (subst (λ (n : Name). list_of (record { ports = c.args.self.now.ports; actions = c.push-in-Action.new.self }) n ≡ Some list) c.in-Action.is e)) c.push-in-Action.ensures
