use Rattle.lft_driver.specs.Explained.ExplainBundleRefusal.{by_explaining}
use Rattle.lft_driver.proofs.answer.explain_bundle_answer.Goals as goal

pub returns-in-Err-clause-refused : goal.returns-in-Err-clause-refused
returns-in-Err-clause-refused g c = by_explaining c.in-Some.bundle.program.now c.in-Some.bundle.externals.now c.in-Some.bundle.trace.now c.in-Some.ensures.some c.in-Err.ensures.refused
