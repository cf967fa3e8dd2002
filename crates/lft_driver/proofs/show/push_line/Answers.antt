use Rattle.std.proofs.Common.{[], ◌++◌, get_or, string_bytes, sym, ap, ◌∙◌}
use Rattle.std.proofs.lemmas.{Option.get_or_from_slice_get, Result.on_ok_weaker}
use Rattle.lft_driver.specs.Shown.{shown_reaction_words}
use Rattle.lft_driver.proofs.show.push_line.Goals as goal

pub returns : goal.returns
returns c =
    let program = c.args.program.now in
    let graph = c.args.graph.now in
    let n = c.args.number in
    let start = string_bytes c.args.text.now in
    let level = sym (get_or_from_slice_get graph.levels n c.level.result 0 c.level.ensures) in
    let before = sym (get_or_from_slice_get graph.before n c.before-2.result.now [] c.before-2.ensures) in
    on_ok_weaker c.push_reaction_line.result (λ e x. e ∙ ap (λ l. start ++ shown_reaction_words program n l c.before-2.result.now) level ∙ ap (λ b. start ++ shown_reaction_words program n (get_or graph.levels n 0) b) before) c.push_reaction_line.ensures
