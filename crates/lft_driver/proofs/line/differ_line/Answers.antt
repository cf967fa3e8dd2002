use Rattle.std.specs.Prelude.{codes}
use Rattle.std.proofs.Common.{◌++◌, ap, ◌∙◌}
use Rattle.lft_load.specs.Words.{field}
use Rattle.lft_ir.specs.Words.Words.{reaction_words}
use Rattle.lft_driver.proofs.line.differ_line.Goals as goal

pub returns : goal.returns
returns c =
    let name = reaction_words c.args.program.now c.args.reaction in
    let start = field (codes "differ time=") c.args.tag.time in
    let time = c.in_ok-push_field.ensures ∙ ap (λ s. s ++ start) c.new-line.ensures.bytes in
    let tag = c.in_ok-push_field-2.ensures ∙ ap (λ s. s ++ field (codes " microstep=") c.from.result) time ∙ ap (λ n. start ++ field (codes " microstep=") n) c.from.ensures in
    let word = c.in_ok-push_str.ensures.bytes ∙ ap (λ s. s ++ codes " reaction=") tag in
    c.in_ok-push_str-2.ensures.bytes ∙ ap (λ s. s ++ codes "\n") (c.in_ok-push_reaction.ensures ∙ ap (λ s. s ++ name) word)
