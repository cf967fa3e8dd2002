use Rattle.std.proofs.Common.{is_some, sym, ap, ◌∙◌}
use Rattle.lft_resolve.proofs.Placing.{find-some}
use Rattle.lft_resolve.proofs.own.Own.has_parameter.Goals as goal

pub returns : goal.returns
returns c r is = c.is_some.ensures ∙ ap is_some (c.get.ensures ∙ is.parameters c.args.name.now) ∙ sym (find-some (λ p. p.name) c.args.name.now r.parameters)
