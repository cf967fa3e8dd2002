use Rattle.std.proofs.Common.{sym, ◌∙◌, subst}
use Rattle.lft_rows.specs.Presence.Traces.{TraceParts}
use Rattle.lft_model.specs.Presence.{Inputs}
use Rattle.lft_facts.proofs.reads.wrong_read.Goals as goal

pub read_facts-requires-clause-only : goal.read_facts-requires-clause-only
read_facts-requires-clause-only c = λ other i. c.in_ok-present.ensures.only other (subst (λ (x : TraceParts). Inputs x.plan x.rows c.args.tag c.args.reaction other) (sym c.requires.same) i) ∙ sym c.as_slice.ensures
