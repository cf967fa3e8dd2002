use Rattle.lft_record.specs.declared.cards.expression.Summand.TheVariants as term
use Rattle.lft_record.proofs.cards.expression.read_term.Goals as goal

pub returns-in-None-read_input-clause-none : goal.returns-in-None-read_input-clause-none
returns-in-None-read_input-clause-none c (term.Number n) h = c.in-None.ensures.none (term.Number n) h
returns-in-None-read_input-clause-none c term.State h = c.in-None.ensures.none term.State h
returns-in-None-read_input-clause-none c term.Time h = c.in-None.ensures.none term.Time h
returns-in-None-read_input-clause-none c (term.Input i) h = c.in-None-read_input.ensures.none i h.1
