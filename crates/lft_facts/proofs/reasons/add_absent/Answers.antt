use Rattle.std.proofs.lemmas.Result.{on_ok_weaker}
use Rattle.lft_facts.proofs.reasons.add_absent.Goals as goal

pub returns-in-Shutdown : goal.returns-in-Shutdown
returns-in-Shutdown c = on_ok_weaker c.add.result (λ told b p. told b c.args.plan.now c.args.rows.now c.requires.stop (c.requires.stop_own b)) c.add.ensures.adds
