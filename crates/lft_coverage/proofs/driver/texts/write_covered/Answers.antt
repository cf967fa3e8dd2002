use Rattle.std.proofs.Common.{◌≡◌, ◌∙◌, ap, string_bytes}
use Rattle.lft_ir.specs.Parts.{Parts}
use Rattle.lft_check.specs.declared.verdict.Verdict.{Verdict}
use Rattle.lft_driver.{specs.Lines.line_of, proofs.Behind.{no_text, text_refused, text_written}}
use Rattle.lft_coverage.specs.inner.Driver.Covered.{IsCoverText, verdict_in}
use Rattle.lft_coverage.proofs.DriverLemmas.Covering.{broken_text, counts_of, listed_text, people_text, refused_as, written_as}
use Rattle.lft_coverage.proofs.driver.texts.write_covered.Goals as goal

pub returns-in-Err-clause-refused : goal.returns-in-Err-clause-refused
returns-in-Err-clause-refused g c = no_text (IsCoverText c.args.list c.args.plan.now c.args.covered.now) _ c.no_memory.result c.no_memory.ensures.part c.no_memory.ensures.number

pub write_listed-requires : goal.write_listed-requires
write_listed-requires g c = counts_of c.args.plan.now c.requires.0 c.args.covered.now c.in-Accepted.is c.requires.1

pub write_told-requires : goal.write_told-requires
write_told-requires g c = counts_of c.args.plan.now c.requires.0 c.args.covered.now c.in-Accepted.is c.requires.1

pub returns-then-list-clause-written : goal.returns-then-list-clause-written
returns-then-list-clause-written g c =
    let plan = c.args.plan.now in
    let line : string_bytes c.in-Ok.line ≡ line_of c.args.plan.now.program (verdict_in c.args.covered.now) = c.in-Ok.ensures ∙ ap (λ (p : Parts). line_of p c.verdict.result) c.program.ensures.value ∙ ap (λ (v : Verdict). line_of plan.program v) c.verdict.ensures in
    written_as _ _ c.write_listed.result c.write_listed.ensures.written (λ text e. listed_text c.args.list plan c.args.covered.now c.as_str.result.now text (c.as_str.ensures.value ∙ line) c.if-list.true c.in-Accepted.is e)

pub returns-then-list-clause-refused : goal.returns-then-list-clause-refused
returns-then-list-clause-refused g c =
    let plan = c.args.plan.now in
    let line : string_bytes c.in-Ok.line ≡ line_of c.args.plan.now.program (verdict_in c.args.covered.now) = c.in-Ok.ensures ∙ ap (λ (p : Parts). line_of p c.verdict.result) c.program.ensures.value ∙ ap (λ (v : Verdict). line_of plan.program v) c.verdict.ensures in
    refused_as _ _ c.write_listed.result c.write_listed.ensures.refused (λ text e. listed_text c.args.list plan c.args.covered.now c.as_str.result.now text (c.as_str.ensures.value ∙ line) c.if-list.true c.in-Accepted.is e)

pub returns-else-list-clause-written : goal.returns-else-list-clause-written
returns-else-list-clause-written g c =
    let plan = c.args.plan.now in
    let line : string_bytes c.in-Ok.line ≡ line_of c.args.plan.now.program (verdict_in c.args.covered.now) = c.in-Ok.ensures ∙ ap (λ (p : Parts). line_of p c.verdict.result) c.program.ensures.value ∙ ap (λ (v : Verdict). line_of plan.program v) c.verdict.ensures in
    written_as _ _ c.write_told.result c.write_told.ensures.written (λ text x. people_text c.args.list plan c.args.covered.now (string_bytes c.in-Ok.line) text line c.if-list.false c.in-Accepted.is x)

pub returns-else-list-clause-refused : goal.returns-else-list-clause-refused
returns-else-list-clause-refused g c =
    let plan = c.args.plan.now in
    let line : string_bytes c.in-Ok.line ≡ line_of c.args.plan.now.program (verdict_in c.args.covered.now) = c.in-Ok.ensures ∙ ap (λ (p : Parts). line_of p c.verdict.result) c.program.ensures.value ∙ ap (λ (v : Verdict). line_of plan.program v) c.verdict.ensures in
    refused_as _ _ c.write_told.result c.write_told.ensures.refused (λ text x. people_text c.args.list plan c.args.covered.now (string_bytes c.in-Ok.line) text line c.if-list.false c.in-Accepted.is x)

pub returns-in-Broken-clause-written : goal.returns-in-Broken-clause-written
returns-in-Broken-clause-written g c =
    let plan = c.args.plan.now in
    let line : string_bytes c.in-Ok.line ≡ line_of c.args.plan.now.program (verdict_in c.args.covered.now) = c.in-Ok.ensures ∙ ap (λ (p : Parts). line_of p c.verdict.result) c.program.ensures.value ∙ ap (λ (v : Verdict). line_of plan.program v) c.verdict.ensures in
    text_written (IsCoverText c.args.list plan c.args.covered.now) c.as_bytes.result.now (broken_text c.args.list plan c.args.covered.now (string_bytes c.in-Ok.line) c.as_bytes.result.now line c.in-Broken.is c.as_bytes.ensures.value) _ _ c.write_text.result c.write_text.ensures.whole

pub returns-in-Broken-clause-refused : goal.returns-in-Broken-clause-refused
returns-in-Broken-clause-refused g c =
    let plan = c.args.plan.now in
    let line : string_bytes c.in-Ok.line ≡ line_of c.args.plan.now.program (verdict_in c.args.covered.now) = c.in-Ok.ensures ∙ ap (λ (p : Parts). line_of p c.verdict.result) c.program.ensures.value ∙ ap (λ (v : Verdict). line_of plan.program v) c.verdict.ensures in
    text_refused (IsCoverText c.args.list plan c.args.covered.now) c.as_bytes.result.now (broken_text c.args.list plan c.args.covered.now (string_bytes c.in-Ok.line) c.as_bytes.result.now line c.in-Broken.is c.as_bytes.ensures.value) _ _ c.write_text.result c.write_text.ensures.front c.write_text.ensures.part c.write_text.ensures.number
