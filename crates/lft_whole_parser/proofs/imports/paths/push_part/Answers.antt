use Rattle.std.proofs.Common.{[], ◌∷◌, map, sym, ap, ◌∙◌}
use Rattle.std.proofs.lemmas.{List.map-append, Result.on_ok_weaker}
use Rattle.lft_whole_parser.proofs.ImportsLemmas.Walks.{step_stays, step_back, step_on}
use Rattle.lft_whole_parser.proofs.imports.paths.push_part.Goals as goal

pub returns-then-stays : goal.returns-then-stays
returns-then-stays c = sym (step_stays c.args.from_root _ c.args.part.now (sym c.stays.ensures ∙ c.if-stays.true))

pub returns-then-is_back : goal.returns-then-is_back
returns-then-is_back c = on_ok_weaker c.push_back.result (λ is. is ∙ sym (step_back c.args.from_root _ c.args.part.now (sym c.stays.ensures ∙ c.if-stays.false) (sym c.is_back.ensures ∙ c.if-is_back.true))) c.push_back.ensures

pub returns : goal.returns
returns c =
    let old = c.args.folders.now.items in
    ap (map (λ x. x.now)) c.in_ok-push.ensures.items
    ∙ map-append (λ x. x.now) old (c.args.part ∷ [])
    ∙ sym (step_on c.args.from_root (map (λ x. x.now) old) c.args.part.now (sym c.if-stays.ensures) (sym c.if-is_back.ensures))
