use Rattle.std.proofs.Common.{inl, inr, string_bytes}
use Rattle.lft_graph.specs.Precedence.{HasNoLoop}
use Rattle.lft_driver.specs.Told.{IsTable, IsUnplanned, TellsExternals, TellsInputsOrLoop, TellsLoop}
use Rattle.lft_driver.proofs.Telling.{of_found, some_so, told_loop, unplanned_by_loop, unplanned_by_table}
use Rattle.lft_lists.proofs.Options.{found, lacking, ok_none}
use Rattle.lft_driver.proofs.refused.refusal_of_plan.Goals as goal

pub returns-in-Some-clause-no_plan : goal.returns-in-Some-clause-no_plan
returns-in-Some-clause-no_plan c = unplanned_by_table c.args.program.now c.args.externals.now (some_so c.in_ok-words.field-0 c.in-Some.words _ c.in-Some.is c.in_ok-words.ensures.no_table)

pub returns-in-Some-clause-tells : goal.returns-in-Some-clause-tells
returns-in-Some-clause-tells c = inl (found (λ words. TellsExternals c.args.program.now c.args.externals.now (string_bytes words)) c.in_ok-words.field-0 c.in-Some.words c.in_ok-words.ensures.tells c.in-Some.is)

pub returns-in-None-clause-no_plan : goal.returns-in-None-clause-no_plan
returns-in-None-clause-no_plan c = of_found c.refusal_of_graph.result (λ words. TellsLoop c.args.program.now (string_bytes words)) (λ _. IsUnplanned c.args.program.now c.args.externals.now) (λ words h. unplanned_by_loop c.args.program.now c.args.externals.now (told_loop c.args.program.now (string_bytes words) h)) c.refusal_of_graph.ensures.tells

pub returns-in-None-clause-tells : goal.returns-in-None-clause-tells
returns-in-None-clause-tells c =
    let table : IsTable c.args.program.now c.args.externals.now = lacking _ c.in_ok-words.field-0 c.in_ok-words.ensures.none c.in-None.is in
    of_found c.refusal_of_graph.result (λ words. TellsLoop c.args.program.now (string_bytes words)) (λ words. TellsInputsOrLoop c.args.program.now c.args.externals.now (string_bytes words)) (λ words h. inr (table, h)) c.refusal_of_graph.ensures.tells

pub returns-in-None-clause-none : goal.returns-in-None-clause-none
returns-in-None-clause-none c =
    let table : IsTable c.args.program.now c.args.externals.now = lacking _ c.in_ok-words.field-0 c.in_ok-words.ensures.none c.in-None.is in
    ok_none (HasNoLoop c.args.program.now) _ c.refusal_of_graph.result (λ h. (table, h)) c.refusal_of_graph.ensures.none
