use Rattle.std.proofs.Common.{◌∷◌, length, refl, subst, ◌≤◌, Vec, List}
use Rattle.std.specs.declared.alloc.Global.{Global}
use Rattle.lft_tables.specs.{Records.records_of, inner.Parts.items_of}
use Rattle.lft_trace.{specs.Traces.header, proofs.TraceFacts.table_fits}
use Rattle.lft_ir.specs.declared.steps.row.Row.{Row}
use Rattle.lft_trace.proofs.reading.batch.read_lines.Goals as goal

pub returns-clause-fit : goal.returns-clause-fit
returns-clause-fit g c =
    let few = subst (λ (ps : List (Vec Row Global)). length (items_of ps) ≤ 4000000) c.as_slice.ensures.value (c.if-not-are_few.ensures refl) in
    table_fits c.args.names.now (header ∷ records_of c.args.lines.now) (items_of c.in_ok-parts.parts.items) c.program.ensures.sound (record { rest = records_of c.args.lines.now; under = refl; each = c.in_ok-parts.ensures.1; few = few })
