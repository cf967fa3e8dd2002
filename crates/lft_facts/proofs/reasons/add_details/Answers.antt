use Rattle.std.proofs.Common.{subst}
use Rattle.std.proofs.lemmas.Result.{on_ok_weaker}
use Rattle.lft_facts.{specs.{declared.facts.Fact.Fact, Facts.{IsFact, IsUntriggered}}, proofs.Added.trigger_known}
use Rattle.lft_facts.proofs.reasons.add_details.Goals as goal

pub add_absent-requires-clause-trigger : goal.add_absent-requires-clause-trigger
add_absent-requires-clause-trigger c = trigger_known c.args.plan.now c.keeps.ensures.sound.sound c.args.rows.now c.in-Untriggered.tag c.in-Untriggered.reaction c.in-Untriggered.place c.in-Untriggered.trigger (subst (λ (f : Fact). IsFact c.args.plan.now c.args.rows.now f) c.in-Untriggered.is c.requires.fact)

pub add_absent-requires-clause-absent : goal.add_absent-requires-clause-absent
add_absent-requires-clause-absent c = let f : IsUntriggered c.args.plan.now c.args.rows.now c.in-Untriggered.tag c.in-Untriggered.reaction c.in-Untriggered.place c.in-Untriggered.trigger = subst (λ (f : Fact). IsFact c.args.plan.now c.args.rows.now f) c.in-Untriggered.is c.requires.fact in f.absent

pub returns-in-Cause-AtShutdown : goal.returns-in-Cause-AtShutdown
returns-in-Cause-AtShutdown c = on_ok_weaker c.add.result (λ told b own. told b c.args.plan.now c.args.rows.now c.requires.stop (c.requires.stop_own b)) c.add.ensures.adds
