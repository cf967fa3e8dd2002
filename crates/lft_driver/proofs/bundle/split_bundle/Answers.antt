use Rattle.lft_driver.proofs.Missing.{no_bundle}
use Rattle.lft_driver.proofs.bundle.split_bundle.Goals as goal

pub returns-in-Err-clause-none : goal.returns-in-Err-clause-none
returns-in-Err-clause-none c = no_bundle c.args.text.now c.in-Err.field-0 c.in-Err.ensures.missing
