use Rattle.std.proofs.Common.{◌++◌, ◌∷◌, [], ℕ, List, Option, sym, ap, ◌∙◌, slice_get, slice_set, unwrap_or}
use Rattle.std.proofs.lemmas.{List.map-set, Option.get_or_from_slice_get}
use Rattle.lft_lists.proofs.{Mapped.mapped_from, Places.get_there}
use Rattle.lft_queue.proofs.coming.number_lists.NumberLists.push.Goals as goal

pub returns : goal.returns
returns c =
    let lists = c.self.inside.lists.items in
    let n = c.args.number in
    let list = get_there c.args.self.now n c.requires in
    let x = mapped_from (λ row. row.items) lists n list.0 (ap (λ xs. slice_get xs n) c.self.view_is ∙ list.1) in
    let same = ap (λ row. row.items) (c.index_mut.ensures.value ∙ get_or_from_slice_get lists n x.0 c.index_mut.result.now x.1) ∙ x.2 ∙ sym (ap (λ (o : Option (List ℕ)). unwrap_or o []) list.1) in
    map-set (λ row. row.items) lists n c.push.new.self ∙ ap (λ xs. slice_set xs n c.push.new.self.items) c.self.view_is ∙ ap (λ z. slice_set c.args.self.now n z) (c.in_ok-push.ensures.items ∙ ap (λ z. z ++ c.args.item ∷ []) same)
