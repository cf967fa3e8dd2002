use Rattle.lft_ir.proofs.Ranges.{named_at, place_named}
use Rattle.lft_ir.proofs.names.NameTable.find.Goals as goal

pub returns-clause-some : goal.returns-clause-some
returns-clause-some c =
    rw (← c.self.view_is, c.thing.ensures)
    (named_at c.self.inside.texts c.self.inside.starts c.self.invariant.0 c.in_ok-place.place c.args.text.now c.in_ok-place.ensures.some)

pub returns-in_err-place-clause-none : goal.returns-in_err-place-clause-none
returns-in_err-place-clause-none c =
    rw (c.from_residual.ensures, ← c.self.view_is)
    (λ f named. let at = place_named c.self.inside.texts c.self.inside.starts c.self.invariant.0 f c.args.text.now named in c.in_err-place.ensures.none at.0 at.1)
