use Rattle.std.proofs.Common.{◌≡◌, ◌∙◌, List, Some, slice_get, sym, ap, subst}
use Rattle.lft_ir.specs.{Parts.Parts, declared.steps.row.Row.Row}
use Rattle.lft_model.specs.Runs.{read_of, steps_of}
use Rattle.lft_check.proofs.by_tag.sliced.Sliced.read_at.Goals as goal

pub returns : goal.returns
returns c x n is seat =
    c.read_at.ensures x n (subst (λ (p : Parts). slice_get p.reactions c.args.reaction ≡ Some x) (sym c.program.ensures.value) is) seat ∙ ap (λ (t : List Row). read_of (steps_of t c.args.slice.tag c.args.reaction) n) c.rows.ensures.value
