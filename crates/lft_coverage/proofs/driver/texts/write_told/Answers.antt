use Rattle.std.proofs.Common.{◌≡◌, ◌∙◌, ◌++◌, List, ℕ, string_bytes}
use Rattle.lft_coverage.specs.Sums.{TellsSums}
use Rattle.lft_driver.proofs.Behind.{no_text, text_refused, text_written}
use Rattle.lft_coverage.proofs.driver.texts.write_told.Goals as goal

pub returns-in-Ok-clause-written : goal.returns-in-Ok-clause-written
returns-in-Ok-clause-written g c =
    let x = c.in-Ok.ensures in
    text_written (λ text. (told : List ℕ) × (text ≡ string_bytes c.args.line ++ told) × TellsSums c.args.plan.now.program c.args.cover.now told) c.as_bytes.result.now (x.0, c.as_bytes.ensures.value ∙ x.1, x.2) _ _ c.write_text.result c.write_text.ensures.whole

pub returns-in-Ok-clause-refused : goal.returns-in-Ok-clause-refused
returns-in-Ok-clause-refused g c =
    let x = c.in-Ok.ensures in
    text_refused (λ text. (told : List ℕ) × (text ≡ string_bytes c.args.line ++ told) × TellsSums c.args.plan.now.program c.args.cover.now told) c.as_bytes.result.now (x.0, c.as_bytes.ensures.value ∙ x.1, x.2) _ _ c.write_text.result c.write_text.ensures.front c.write_text.ensures.part c.write_text.ensures.number

pub returns-in-Err-clause-refused : goal.returns-in-Err-clause-refused
returns-in-Err-clause-refused g c = no_text (λ text. (told : List ℕ) × (text ≡ string_bytes c.args.line ++ told) × TellsSums c.args.plan.now.program c.args.cover.now told) _ c.no_memory.result c.no_memory.ensures.part c.no_memory.ensures.number
