use Rattle.std.proofs.lemmas.Result.{IfOk-weaker}
use Rattle.lft_model.specs.declared.breach.Breach.{Breach}
use Rattle.lft_facts.{specs.{Facts.AreFacts, inner.Enough.Extends, Enough.{ProvesTag, AreOwn}}, proofs.Added.extends_proves}
use Rattle.lft_facts.proofs.finding.at_tag.Goals as goal

pub returns-clause-holds : goal.returns-clause-holds
returns-clause-holds c = IfOk-weaker c.with_reasons.result (λ fs. (b : Breach) → AreOwn b c.in_ok-facts.facts.items → Extends b c.args.plan.now c.args.rows.now c.in_ok-facts.facts.items fs.items) (λ fs. AreFacts c.args.plan.now c.args.rows.now fs.items) (λ fs x. (x c.args.breach c.in_ok-facts.ensures.own).holds) c.with_reasons.ensures

pub returns-clause-enough : goal.returns-clause-enough
returns-clause-enough c = IfOk-weaker c.with_reasons.result (λ fs. (b : Breach) → AreOwn b c.in_ok-facts.facts.items → Extends b c.args.plan.now c.args.rows.now c.in_ok-facts.facts.items fs.items) (λ fs. ProvesTag fs.items c.args.breach) (λ fs x. extends_proves c.args.plan.now c.args.rows.now c.in_ok-facts.facts.items fs.items c.args.breach (x c.args.breach c.in_ok-facts.ensures.own) c.in_ok-facts.ensures.enough) c.with_reasons.ensures

pub returns-clause-own : goal.returns-clause-own
returns-clause-own c = IfOk-weaker c.with_reasons.result (λ fs. (b : Breach) → AreOwn b c.in_ok-facts.facts.items → Extends b c.args.plan.now c.args.rows.now c.in_ok-facts.facts.items fs.items) (λ fs. AreOwn c.args.breach fs.items) (λ fs x. (x c.args.breach c.in_ok-facts.ensures.own).own) c.with_reasons.ensures
