use Rattle.std.proofs.Common.{◌≡◌, List, Option, IfOk, subst}
use Rattle.lft_ir.specs.declared.parts.Value.{Value}
use Rattle.lft_model.specs.Presence.{Inputs}
use Rattle.lft_rows.specs.Presence.Traces.{TraceParts}
use Rattle.lft_slices.proofs.cuts.Cut.inputs.Goals as goal

pub returns-clause-only : goal.returns-clause-only
returns-clause-only c = subst (λ (z : TraceParts). IfOk c.inputs.result (λ reads. (other : List (Option Value)) → Inputs z.plan z.rows c.args.tag c.args.reaction other → other ≡ reads)) c.presence.ensures c.inputs.ensures.only
