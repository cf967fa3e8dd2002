use Rattle.std.proofs.Common.{flat_map, ap, ◌∙◌, sym}
use Rattle.std.{specs.Char.encode_utf8, proofs.lemmas.{Iterator.{YieldsList-from_chars, Consumers.YieldsList-end}, List.map-id}}
use Rattle.lft_load.specs.Words.{in_line}
use Rattle.lft_load.proofs.fault.one_line.Goals as goal

pub returns : goal.returns
returns c =
    let all = YieldsList-end (YieldsList-from_chars c.args.path.now c.utf8.path cc) c.loop-letter.yielded _ c.loop-letter.yielded_by _ _ c.in-None.is c.next.ensures.steps in
    c.loop-letter.invariant ∙ ap (λ z. flat_map (λ x. flat_map encode_utf8 (in_line x)) z) (sym (map-id c.loop-letter.yielded) ∙ all.0)
