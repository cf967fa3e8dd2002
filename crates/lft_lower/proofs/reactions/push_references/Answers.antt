use Rattle.std.proofs.Common.{[], ◌∷◌, ◌++◌, map, sym, ap, ◌∙◌, rules}
use Rattle.std.proofs.lemmas.{Iterator.{Adapters.YieldsList-from_vec, Consumers.YieldsList-end}, List.{append-nil, append_assoc, map-append, map-id}}
use Rattle.std.proofs.lemmas.Grind.{flat_map-append}
use Rattle.std.specs.List.{flat_map}
use Rattle.lft_tree.specs.{declared.tree.Reference.Reference, Tree.OnRef, View.{ref_view, ref_views, trigger_view}}
use Rattle.lft_lower.specs.inner.{Meanings.Standing.ref_tokens, Standing.token_of_trigger}
use Rattle.lft_lower.proofs.reactions.push_references.Goals as goal

pub loop-reference-init : goal.loop-reference-init
loop-reference-init c = (sym (append-nil (map trigger_view c.args.list.now.items)), sym (append-nil (flat_map token_of_trigger c.args.list.now.items)))

pub loop-reference-preserved : goal.loop-reference-preserved
loop-reference-preserved c =
    let start = map trigger_view c.args.list.now.items in
    let one = ref_view c.in-Some.reference in
    let yielded = c.loop-reference.yielded in
    let r = c.in-Some.reference in
    let before = flat_map token_of_trigger c.args.list.now.items in (
      ap (map trigger_view) c.in_ok-push.ensures.items
          ∙ map-append trigger_view c.loop-reference.list.items _
          ∙ ap (λ ts. ts ++ OnRef one ∷ []) c.loop-reference.invariant.0
          ∙ append_assoc start (map OnRef (ref_views yielded)) (OnRef one ∷ [])
          ∙ ap (λ ts. start ++ ts) (sym (ap (map OnRef) (map-append ref_view yielded (r ∷ [])) ∙ map-append OnRef (ref_views yielded) (one ∷ []))),
      ap (flat_map token_of_trigger) c.in_ok-push.ensures.items
          ∙ flat_map-append token_of_trigger c.loop-reference.list.items _
          ∙ ap (λ ts. ts ++ r.at ∷ []) c.loop-reference.invariant.1
          ∙ append_assoc before (ref_tokens yielded) (r.at ∷ [])
          ∙ ap (λ ts. before ++ ts) (sym (map-append (λ (x : Reference). x.at) yielded (r ∷ []))),
    )

pub returns-clause-places : goal.returns-clause-places
returns-clause-places c =
    let all = YieldsList-end (YieldsList-from_vec {s = c.into_iter-reference-iterator.result} c.args.references.items (search rules) (search rules)) c.loop-reference.yielded c.loop-reference.reference-iterator c.loop-reference.yielded_by c.next.result c.next.new.self c.in-None.is c.next.ensures.steps in
    c.loop-reference.invariant.0 ∙ ap (λ rs. map trigger_view c.args.list.now.items ++ map OnRef (ref_views rs)) (sym (map-id c.loop-reference.yielded) ∙ all.0)

pub returns-clause-at : goal.returns-clause-at
returns-clause-at c =
    let all = YieldsList-end (YieldsList-from_vec {s = c.into_iter-reference-iterator.result} c.args.references.items (search rules) (search rules)) c.loop-reference.yielded c.loop-reference.reference-iterator c.loop-reference.yielded_by c.next.result c.next.new.self c.in-None.is c.next.ensures.steps in
    c.loop-reference.invariant.1 ∙ ap (λ rs. flat_map token_of_trigger c.args.list.now.items ++ ref_tokens rs) (sym (map-id c.loop-reference.yielded) ∙ all.0)
