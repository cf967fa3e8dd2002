use Rattle.std.proofs.Common.{inl, inr, string_bytes, subst}
use Rattle.lft_graph.specs.Precedence.{HasNoLoop}
use Rattle.lft_driver.specs.{declared.refused.Start.Start, Told.{HasNoOrder, TellsLoop, TellsNoOrder}, inner.Told.ReadsProgram}
use Rattle.lft_driver.proofs.Telling.{of_found, told_loop, no_order_by_loop, no_order_by_program}
use Rattle.lft_lists.proofs.Options.{ok_none}
use Rattle.lft_driver.proofs.refused.refusal_of_program.Goals as goal

pub returns-in-Program-clause-no_order : goal.returns-in-Program-clause-no_order
returns-in-Program-clause-no_order c =
    let only = subst (λ (s : Start). ReadsProgram c.args.program.now s) c.in-Program.is c.in_ok-flat.ensures in
    of_found c.refusal_of_graph.result (λ words. TellsLoop c.in-Program.flat (string_bytes words)) (λ _. HasNoOrder c.args.program.now) (λ words h. no_order_by_loop c.args.program.now c.in-Program.flat only (told_loop c.in-Program.flat (string_bytes words) h)) c.refusal_of_graph.ensures.tells

pub returns-in-Program-clause-tells : goal.returns-in-Program-clause-tells
returns-in-Program-clause-tells c =
    let only = subst (λ (s : Start). ReadsProgram c.args.program.now s) c.in-Program.is c.in_ok-flat.ensures in
    of_found c.refusal_of_graph.result (λ words. TellsLoop c.in-Program.flat (string_bytes words)) (λ words. TellsNoOrder c.args.program.now (string_bytes words)) (λ words h. inr (record { it = c.in-Program.flat; is_only = only; said = h })) c.refusal_of_graph.ensures.tells

pub returns-in-Program-clause-none : goal.returns-in-Program-clause-none
returns-in-Program-clause-none c =
    let only = subst (λ (s : Start). ReadsProgram c.args.program.now s) c.in-Program.is c.in_ok-flat.ensures in
    ok_none (HasNoLoop c.in-Program.flat) _ c.refusal_of_graph.result (λ h. (c.in-Program.flat, only.is, h)) c.refusal_of_graph.ensures.none

pub returns-in-Refused-clause-no_order : goal.returns-in-Refused-clause-no_order
returns-in-Refused-clause-no_order c = no_order_by_program c.args.program.now (subst (λ (s : Start). ReadsProgram c.args.program.now s) c.in-Refused.is c.in_ok-flat.ensures).0

pub returns-in-Refused-clause-tells : goal.returns-in-Refused-clause-tells
returns-in-Refused-clause-tells c = inl (subst (λ (s : Start). ReadsProgram c.args.program.now s) c.in-Refused.is c.in_ok-flat.ensures).1
