use Rattle.lft_coverage.proofs.driver.front.covers_text.Goals as goal

pub add_text-requires-clause-stands : goal.add_text-requires-clause-stands
add_text-requires-clause-stands c = c.in-Ok.ensures.stands c.in_ok-body.body.now

pub returns : goal.returns
returns c =
    let x = c.in_ok-counts.ensures in
    (x.0, record { rest = _; under = c.in_ok-body.ensures; each = x.1; few = x.2 }, x.3, x.4)
