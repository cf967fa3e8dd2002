use Rattle.std.proofs.Common.{[], ◌∷◌, map, sym, ap, ◌∙◌, lit<}
use Rattle.std.{specs.List.fold, proofs.lemmas.{List.{map-append, Sums.fold-append}, Iterator.{Consumers.YieldsList-end, Splits.YieldsList-from_str_split}}}
use Rattle.lft_whole_parser.specs.Imports.Paths.{step}
use Rattle.lft_whole_parser.proofs.imports.paths.push_parts.Goals as goal

pub loop-part-preserved : goal.loop-part-preserved
loop-part-preserved c =
    let entry = map (λ x. x.now) c.args.folders.now.items in
    let part = c.in-Some.part in
    c.in_ok-push_part.ensures
    ∙ ap (λ z. step c.args.from_root z part.now) c.loop-part.invariant
    ∙ sym (ap (fold (step c.args.from_root) entry) (map-append (λ x. x.now) c.loop-part.yielded (part ∷ [])) ∙ fold-append (step c.args.from_root) entry (map (λ x. x.now) c.loop-part.yielded) (part.now ∷ []))

pub returns : goal.returns
returns c =
    let all = YieldsList-end (YieldsList-from_str_split {s = c.into_iter-part-iterator.result} 47 c.args.path.now (lit< tt) (cc) (cc) (cc)) c.loop-part.yielded _ c.loop-part.yielded_by _ _ c.in-None.is c.next.ensures.steps in
    c.loop-part.invariant ∙ ap (λ z. fold (step c.args.from_root) (map (λ x. x.now) c.args.folders.now.items) z) all.0
