use Rattle.lft_rows.specs.{Presence.Traces.LeastTag, inner.Presence.Clashes.ActionsClash}
use Rattle.lft_rows.proofs.presence.clashes.actions_clash.Given as goal

abbrev pub invariant-loop-action : goal.invariant-loop-action
invariant-loop-action l = LeastTag (ActionsClash l.plan l.rows l.action) l.least
