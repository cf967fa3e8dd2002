use Rattle.std.proofs.Common.{arith, rules}
use Rattle.std.proofs.Common.{Some, None, refl}
use Rattle.std.proofs.lemmas.Result.{IfOk-weaker}
use Rattle.lft_facts.{specs.{inner.Enough.{Gives, AreOwnAt}, Enough.{ProvesTag, AreOwn}}, proofs.Found.{of_tag, no_clash, proves, clash_proves, is_tenth}}
use Rattle.lft_facts.proofs.finding.enough_at_tag.Goals as goal

pub too_early-requires-clause-kept : goal.too_early-requires-clause-kept
too_early-requires-clause-kept c = (of_tag c.args.plan.now c.args.rows.now c.args.breach c.requires.first c.requires.tag).kept

pub wrong_read-requires-clause-kept : goal.wrong_read-requires-clause-kept
wrong_read-requires-clause-kept c = (of_tag c.args.plan.now c.args.rows.now c.args.breach c.requires.first c.requires.tag).kept

pub wrong_read-requires-clause-no_clash : goal.wrong_read-requires-clause-no_clash
wrong_read-requires-clause-no_clash c =
    let k = is_tenth c.args.plan.now c.args.rows.now c.args.breach c.in-Some.reaction (of_tag c.args.plan.now c.args.rows.now c.args.breach c.requires.first c.requires.tag).breach c.in-Some.is (search rules) (search rules) (search rules) in
    no_clash c.args.plan.now c.args.rows.now c.args.breach c.requires.first c.in-Some.reaction 10 c.in-Some.is k (omega arith) (omega arith)

pub returns-in_default-clause-enough : goal.returns-in_default-clause-enough
returns-in_default-clause-enough c = IfOk-weaker c.collision.result (λ fs. Gives fs.items c.args.breach.tag None 6) (λ fs. ProvesTag fs.items c.args.breach) (λ fs g. clash_proves c.args.plan.now c.args.rows.now c.args.breach c.requires.first c.in_default.is fs.items g) c.collision.ensures.enough

pub returns-in-9-clause-enough : goal.returns-in-9-clause-enough
returns-in-9-clause-enough c = IfOk-weaker c.too_early.result (λ fs. Gives fs.items c.args.breach.tag (Some c.in-Some.reaction) 9) (λ fs. ProvesTag fs.items c.args.breach) (λ fs g. proves c.args.plan.now c.args.rows.now c.args.breach c.requires.first c.in-Some.reaction 9 c.in-Some.is c.in-9.is (omega arith) fs.items g) c.too_early.ensures.enough

pub returns-in_default-rule-clause-enough : goal.returns-in_default-rule-clause-enough
returns-in_default-rule-clause-enough c =
    let k = is_tenth c.args.plan.now c.args.rows.now c.args.breach c.in-Some.reaction (of_tag c.args.plan.now c.args.rows.now c.args.breach c.requires.first c.requires.tag).breach c.in-Some.is (search rules) (search rules) (search rules) in
    IfOk-weaker c.wrong_read.result (λ fs. Gives fs.items c.args.breach.tag (Some c.in-Some.reaction) 10) (λ fs. ProvesTag fs.items c.args.breach) (λ fs g. proves c.args.plan.now c.args.rows.now c.args.breach c.requires.first c.in-Some.reaction 10 c.in-Some.is k (omega arith) fs.items g) c.wrong_read.ensures.enough

pub returns-in_default-clause-own : goal.returns-in_default-clause-own
returns-in_default-clause-own c = IfOk-weaker c.collision.result (λ fs. AreOwnAt c.args.breach.tag None fs.items) (λ fs. AreOwn c.args.breach fs.items) (λ fs own. own c.args.breach refl c.in_default.is) c.collision.ensures.own

pub returns-in-7-clause-own : goal.returns-in-7-clause-own
returns-in-7-clause-own c = IfOk-weaker c.not_run.result (λ fs. AreOwnAt c.args.breach.tag (Some c.in-Some.reaction) fs.items) (λ fs. AreOwn c.args.breach fs.items) (λ fs own. own c.args.breach refl c.in-Some.is) c.not_run.ensures.own

pub returns-in-8-clause-own : goal.returns-in-8-clause-own
returns-in-8-clause-own c = IfOk-weaker c.not_triggered.result (λ fs. AreOwnAt c.args.breach.tag (Some c.in-Some.reaction) fs.items) (λ fs. AreOwn c.args.breach fs.items) (λ fs own. own c.args.breach refl c.in-Some.is) c.not_triggered.ensures.own

pub returns-in-9-clause-own : goal.returns-in-9-clause-own
returns-in-9-clause-own c = IfOk-weaker c.too_early.result (λ fs. AreOwnAt c.args.breach.tag (Some c.in-Some.reaction) fs.items) (λ fs. AreOwn c.args.breach fs.items) (λ fs own. own c.args.breach refl c.in-Some.is) c.too_early.ensures.own

pub returns-in_default-rule-clause-own : goal.returns-in_default-rule-clause-own
returns-in_default-rule-clause-own c = IfOk-weaker c.wrong_read.result (λ fs. AreOwnAt c.args.breach.tag (Some c.in-Some.reaction) fs.items) (λ fs. AreOwn c.args.breach fs.items) (λ fs own. own c.args.breach refl c.in-Some.is) c.wrong_read.ensures.own
