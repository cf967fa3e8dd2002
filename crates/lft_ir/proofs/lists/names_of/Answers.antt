use Rattle.std.proofs.Common.{◌≡◌, ◌∷◌, [], ◌++◌, append-nil, List, Some, None, filter_map, get_or, slice_get, take, refl, sym, ap, ◌∙◌, arith}
use Rattle.std.proofs.lemmas.Option.{slice_get-get_or}
use Rattle.lft_ir.proofs.{Naming.named_none, lists.names_of.Goals.{in-On+in_ok-push, in_default}}
use Rattle.lft_ir.specs.{Naming.named, declared.parts.{Name.Name, Trigger.TheVariants.{Startup, On}}}
use Rattle.lft_lists.proofs.Picked.{kept_more}
use Rattle.lft_ir.proofs.lists.names_of.Goals as goal

pub loop-place-preserved : goal.loop-place-preserved
loop-place-preserved c =
    let xs = c.args.triggers.now in
    let i = c.loop-place.place in
    let here : slice_get xs i ≡ Some (get_or xs i Startup) = slice_get-get_or xs i Startup (omega arith) in
    elim c.match-triggers-place.branch [
      | in-On+in_ok-push w ↦ ap (λ v. v.items) w.names-is ∙ w.in_ok-push.ensures.items ∙ ap (λ (ns : List Name). ns ++ w.in-On.name ∷ []) c.loop-place.invariant ∙ sym (kept_more named xs i (On w.in-On.name) (Some w.in-On.name) (here ∙ ap (λ x. Some x) w.in-On.is) refl)
      | in_default w ↦ ap (λ v. v.items) w.names-is ∙ c.loop-place.invariant ∙ sym (kept_more named xs i (get_or xs i Startup) None here (sym (named_none (get_or xs i Startup) w.in_default.not-On)) ∙ append-nil (filter_map named (take i xs)))
    ]
