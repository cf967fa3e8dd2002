use Rattle.std.proofs.Common.{◌≡◌, ◌++◌, flat_map, string_bytes, sym, ap, ◌∙◌}
use Rattle.std.proofs.lemmas.Result.{on_ok_weaker}
use Rattle.lft_ir.proofs.WordsLemmas.Steps.{also}
use Rattle.lft_driver.specs.Shown.{effect_line, reaction_line, reaction_lines, trigger_line, use_line}
use Rattle.lft_driver.proofs.listing.push_reaction_lines.Goals as goal

pub returns : goal.returns
returns c =
    let program = c.args.program.now in
    let graph = c.args.graph.now in
    let number = c.args.number in
    let reaction = c.reaction-reaction.result.now in
    let start = string_bytes c.args.text.now in
    let led = string_bytes c.push_line.new.text in
    let triggered = string_bytes c.push_triggers.new.text in
    let used = string_bytes c.push_uses.new.text in
    let all = string_bytes c.push_effects.new.text in
    let line = reaction_line program graph (number, reaction) in
    let triggers = flat_map (trigger_line program number) reaction.triggers in
    let uses = flat_map (use_line program number) reaction.uses in
    let effects = flat_map (effect_line program number) reaction.effects in
    let by_triggers = also start led triggered line triggers (c.in_ok-push_line.ensures reaction) (c.in_ok-push_triggers.ensures ∙ ap (λ ts. led ++ flat_map (trigger_line program number) ts) c.as_slice.ensures) in
    let by_uses = also start triggered used (line ++ triggers) uses by_triggers (c.in_ok-push_uses.ensures ∙ ap (λ ns. triggered ++ flat_map (use_line program number) ns) c.as_slice-2.ensures) in
    on_ok_weaker c.push_effects.result (λ told x at. also start used all (line ++ triggers ++ uses) effects by_uses (told ∙ ap (λ ns. used ++ flat_map (effect_line program number) ns) c.as_slice-3.ensures) ∙ ap (λ r. start ++ reaction_lines program graph (number, r)) (let both = sym c.reaction-reaction.ensures.value ∙ at in let same : reaction ≡ x = cc in same)) c.push_effects.ensures
