use Rattle.std.proofs.Common.{ap, ◌∙◌}
use Rattle.lft_report.specs.Told.{told}
use Rattle.lft_report.proofs.explaining.explain.Goals as goal

pub returns : goal.returns
returns c = record {
  facts = c.in_ok-facts.facts;
  holds = c.in_ok-facts.ensures.holds;
  enough = c.in_ok-facts.ensures.enough;
  own = c.in_ok-facts.ensures.own;
  race = c.in_ok-facts.ensures.race;
  is_told = c.in_ok-text.ensures ∙ ap (λ p. told c.args.all p c.args.rows.now c.in_ok-facts.facts) c.program.ensures.value;
}
