use Rattle.std.proofs.Common.{◌≡◌, map, length, Some, None, sym, ap, ◌∙◌, arith, slice_get}
use Rattle.std.proofs.lemmas.{Option.{slice_get-get_or, slice_get_past}, List.length-map}
use Rattle.lft_lists.proofs.Mapped.{mapped}
use Rattle.lft_queue.proofs.coming.number_lists.NumberLists.get.Goals as goal

pub returns-then-place-len : goal.returns-then-place-len
returns-then-place-len c =
    let rows = c.self.inside.lists.items in
    let own = c.index.result.now in
    let there : slice_get rows c.args.number ≡ Some own = slice_get-get_or rows c.args.number own (let l = c.if-place-len.true in let e = c.len.ensures in omega arith) ∙ ap Some (sym c.index.ensures) in
    record { some = ap (λ xs. slice_get xs c.args.number) (sym c.self.view_is) ∙ mapped (λ v. v.items) rows c.args.number own there ∙ ap Some (sym c.as_slice.ensures.value); none = tt }

pub returns-else-place-len : goal.returns-else-place-len
returns-else-place-len c =
    let rows = c.self.inside.lists.items in
    let long : length (map (λ v. v.items) rows) ≡ length rows = length-map rows (λ v. v.items) in
    let past : slice_get (map (λ v. v.items) rows) c.args.number ≡ None = slice_get_past (map (λ v. v.items) rows) c.args.number (let l = c.if-place-len.false in let e = c.len.ensures in omega arith) in
    record { some = tt; none = ap (λ xs. slice_get xs c.args.number) (sym c.self.view_is) ∙ past }
