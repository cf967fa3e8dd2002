use Rattle.std.specs.Prelude.{codes, string_bytes}
use Rattle.std.proofs.Common.{◌++◌, ap, ◌∙◌, append_assoc}
use Rattle.lft_load.specs.Words.{field}
use Rattle.lft_ir.specs.Words.Words.{reaction_words}
use Rattle.lft_log.proofs.explain.listed.push_run.Goals as goal

pub returns : goal.returns
returns c =
    let old = string_bytes c.args.text.now in
    let start = codes "open at the end: " in
    let name = reaction_words c.args.program.now c.args.run.reaction in
    let worker = field (codes ", worker ") c.args.run.worker in
    let line = field (codes ", since line ") c.args.run.line in
    let named = c.in_ok-push_reaction.ensures ∙ ap (λ s. s ++ name) c.in_ok-push_str.ensures.bytes in
    let by = c.in_ok-push_field.ensures ∙ ap (λ s. s ++ field (codes ", worker ") c.from.result) named ∙ ap (λ n. ((old ++ start) ++ name) ++ field (codes ", worker ") n) c.from.ensures in
    let since = c.in_ok-push_field-2.ensures ∙ ap (λ s. s ++ line) by in
    c.in_ok-push_str-2.ensures.bytes
    ∙ ap (λ s. s ++ codes "\n") since
    ∙ ap (λ s. ((s ++ worker) ++ line) ++ codes "\n") (append_assoc old start name)
    ∙ ap (λ s. (s ++ line) ++ codes "\n") (append_assoc old (start ++ name) worker)
    ∙ ap (λ s. s ++ codes "\n") (append_assoc old ((start ++ name) ++ worker) line)
    ∙ append_assoc old (((start ++ name) ++ worker) ++ line) (codes "\n")
