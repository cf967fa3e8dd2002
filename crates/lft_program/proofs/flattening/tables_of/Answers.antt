use Rattle.std.proofs.Common.{◌≢◌}
use Rattle.lft_resolve.specs.Causes.{IsFirst}
use Rattle.lft_program.{specs.inner.{Faults.reactor_causes, Refusals.{Tells, cause_of}}, proofs.Firsts.{handed_on, lawful}}
use Rattle.lft_program.specs.declared.refusal.Refusal.TheVariants as refusals
use Rattle.lft_program.proofs.flattening.tables_of.Goals as goal

pub returns-in_err-contents-clause-first : goal.returns-in_err-contents-clause-first
returns-in_err-contents-clause-first c = handed_on (λ f. f ≢ refusals.NoMemory → IsFirst (reactor_causes c.args.scopes.now) (cause_of f)) c.in_err-contents.field-0.0 c.from_residual.result c.in_err-contents.ensures.first c.from_residual.ensures.1

pub returns-in_err-contents-clause-tells : goal.returns-in_err-contents-clause-tells
returns-in_err-contents-clause-tells c = handed_on (Tells c.args.ast.now) c.in_err-contents.field-0.0 c.from_residual.result c.in_err-contents.ensures.tells c.from_residual.ensures.1

pub tables_with-requires-clause-first : goal.tables_with-requires-clause-first
tables_with-requires-clause-first c = (lawful c.args.scopes.now c.in_ok-contents.ensures.none).first

pub tables_with-requires-clause-later : goal.tables_with-requires-clause-later
tables_with-requires-clause-later c = (lawful c.args.scopes.now c.in_ok-contents.ensures.none).later
