use Rattle.std.specs.Str.{IsUtf8}
use Rattle.lft_ir.proofs.Ranges.{each_named}
use Rattle.lft_ir.proofs.names.NameTable.find_bytes.Goals as goal

pub returns-in-Err-clause-none : goal.returns-in-Err-clause-none
returns-in-Err-clause-none c =
    rw (← c.self.view_is)
    (λ f named. c.in-Err.ensures.cases.0 (each_named c.self.inside.texts c.self.inside.starts c.self.invariant.0 IsUtf8 c.self.invariant.2 f c.args.name.now named))
