use Rattle.lft_driver.proofs.bundle.read_bundle.Goals as goal

pub returns-in_default-cut-clause-missing : goal.returns-in_default-cut-clause-missing
returns-in_default-cut-clause-missing c = (c.in-Some.rest.now, c.in-Some.ensures.some, c.in_default-cut.ensures.none)

pub returns-in_default-cut-2-clause-missing : goal.returns-in_default-cut-2-clause-missing
returns-in_default-cut-2-clause-missing c = (c.in-Some.rest.now, c.in-Some-cut.program.now, c.in-Some-cut.others.now, c.in-Some.ensures.some, c.in-Some-cut.ensures.some, c.in_default-cut-2.ensures.none)
