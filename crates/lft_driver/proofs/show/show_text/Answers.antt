use Rattle.std.proofs.Common.{inl, inr, subst}
use Rattle.std.proofs.lemmas.Result.{IfErr-weaker, on_ok_weaker}
use Rattle.lft_graph.specs.Precedence.{HasNoLoop}
use Rattle.lft_driver.proofs.show.show_text.Goals as goal

pub returns-in-Ok-clause-shown : goal.returns-in-Ok-clause-shown
returns-in-Ok-clause-shown g c = on_ok_weaker c.show_program.result (λ h. record { it = c.in-Ok.flat; is_only = c.in-Ok.ensures.program; said = h }) c.show_program.ensures.shown

pub returns-in-Ok-clause-refused : goal.returns-in-Ok-clause-refused
returns-in-Ok-clause-refused g c = IfErr-weaker c.show_program.result _ _ (λ f h. inr (record { it = c.in-Ok.flat; is_only = c.in-Ok.ensures.program; said = h })) c.show_program.ensures.refused

pub returns-in-Ok-clause-none : goal.returns-in-Ok-clause-none
returns-in-Ok-clause-none g c = IfErr-weaker c.show_program.result _ _ (λ f h t parts x n. h t (subst HasNoLoop (c.in-Ok.ensures.program.only parts x) n)) c.show_program.ensures.none

pub returns-in-Err-clause-refused : goal.returns-in-Err-clause-refused
returns-in-Err-clause-refused g c = inl c.in-Err.ensures.refused

pub returns-in-Err-clause-none : goal.returns-in-Err-clause-none
returns-in-Err-clause-none g c = λ t parts x n. c.in-Err.ensures.none t parts x
