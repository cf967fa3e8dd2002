use Rattle.std.proofs.Common.{ℕ, sym, subst}
use Rattle.lft_model.specs.inner.Breaches.{BreaksRow}
use Rattle.lft_facts.{specs.inner.Enough.GivesRow, proofs.RowGiving.breaks_4}
use Rattle.lft_facts.proofs.rows.row_fact.Goals as goal

pub undeclared_fact-requires-clause-breaks : goal.undeclared_fact-requires-clause-breaks
undeclared_fact-requires-clause-breaks c = (c.requires.breaks.0.program, breaks_4 c.requires.breaks.0 c.args.rows.now c.args.place c.args.row (subst (λ (k : ℕ). BreaksRow c.requires.breaks.0 c.args.rows.now c.args.place c.args.row k) c.in-4.is c.requires.breaks.1))

pub returns-in-3-clause-holds : goal.returns-in-3-clause-holds
returns-in-3-clause-holds c plan x = c.order_fact.ensures.holds plan

pub returns-in-3-clause-gives : goal.returns-in-3-clause-gives
returns-in-3-clause-gives c = subst (λ (k : ℕ). GivesRow c.order_fact.result c.args.place k) (sym c.in-3.is) c.order_fact.ensures.gives

pub returns-in-4-clause-holds : goal.returns-in-4-clause-holds
returns-in-4-clause-holds c plan x = c.undeclared_fact.ensures.holds plan (breaks_4 plan c.args.rows.now c.args.place c.args.row (subst (λ (k : ℕ). BreaksRow plan c.args.rows.now c.args.place c.args.row k) c.in-4.is x))

pub returns-in-4-clause-gives : goal.returns-in-4-clause-gives
returns-in-4-clause-gives c = subst (λ (k : ℕ). GivesRow c.undeclared_fact.result c.args.place k) (sym c.in-4.is) c.undeclared_fact.ensures.gives
