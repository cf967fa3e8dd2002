use Rattle.std.proofs.Common.{◌≡◌, ◌++◌, ap, inr}
use Rattle.lft_ir.specs.Parts.{Parts}
use Rattle.lft_coverage.specs.Facts.{fact_lines}
use Rattle.lft_driver.proofs.Behind.{no_text}
use Rattle.lft_coverage.proofs.driver.texts.write_listed.Goals as goal

pub returns-in-Err-clause-refused : goal.returns-in-Err-clause-refused
returns-in-Err-clause-refused g c = no_text (λ text. text ≡ c.args.line.now ++ fact_lines c.args.plan.now.program c.args.cover.now) _ c.no_memory.result c.no_memory.ensures.part c.no_memory.ensures.number

pub returns-then-write_facts-clause-written : goal.returns-then-write_facts-clause-written
returns-then-write_facts-clause-written g c =
    let cover = c.args.cover.now in
    (c.args.line.now ++ fact_lines c.program.result.now cover, ap (λ (p : Parts). c.args.line.now ++ fact_lines p cover) c.program.ensures.value, c.if-write_facts.ensures)

pub returns-clause-refused : goal.returns-clause-refused
returns-clause-refused g c =
    let cover = c.args.cover.now in
    inr (c.plain.ensures.part, c.plain.ensures.number, (c.args.line.now ++ fact_lines c.program.result.now cover, ap (λ (p : Parts). c.args.line.now ++ fact_lines p cover) c.program.ensures.value, c.if-write_facts.ensures))
