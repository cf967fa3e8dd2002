use Rattle.std.proofs.Common.{◌≡◌, ℕ, ◌<◌, ◌≤◌, ◌++◌, List, [], ◌∷◌, length, map, Some, sym, ap, ◌∙◌, arith, slice_get, length-append}
use Rattle.std.proofs.lemmas.{Option.slice_get-get_or, List.{map_push, length-map}}
use Rattle.lft_lists.proofs.Mapped.{mapped}
use Rattle.lft_resolve.proofs.ExpansionLemmas.Siblings.{filled_more, filled_end, parent_before, map_set}
use Rattle.lft_resolve.proofs.expansion.nesting.Children.of.Goals.{After-item_at-parent}
use Rattle.lft_resolve.proofs.expansion.nesting.Children.of.Goals as goal

-- the parent has a row
has_row : (c : goal.After-item_at-parent) → c.item_at-parent.result.parent < length c.push-in-instances.new.self.items
has_row c =
    let w = c.requires.walked in
    let before = parent_before w.0 w.1 c.args.instances.now w.2 c.instances.number c.item_at-parent.result c.item_at-parent.ensures (omega arith) in
    let rows = length-map c.instances.rows.items (λ row. row.items) in
    let long = c.instances.invariant.as_long in
    let pushed = ap length c.in_ok-push-2.ensures.items ∙ length-append c.instances.rows.items (c.new-in-instances.result ∷ []) in
    omega arith

pub index_mut-requires : goal.index_mut-requires
index_mut-requires c = let l = has_row ((goal.at.index_mut-requires c).After-item_at-parent) in let all = c.push-in-instances.new.self.ok.0 in omega arith

pub instances-preserved : goal.instances-preserved
instances-preserved c =
    let w = c.requires.walked in
    let parent = c.item_at-parent.result.parent in
    let row = c.index_mut.result.now in
    let rows : List (List ℕ) = map (λ r. r.items) c.instances.rows.items in
    let within = has_row ((goal.at.instances-preserved c).After-item_at-parent) in
    let pushed : map (λ r. r.items) c.push-in-instances.new.self.items ≡ rows ++ [] ∷ [] = ap (map (λ r. r.items)) c.in_ok-push-2.ensures.items ∙ map_push (λ r. r.items) c.instances.rows.items c.new-in-instances.result ∙ ap (λ r. rows ++ r ∷ []) c.new-in-instances.ensures.items in
    let here : slice_get c.push-in-instances.new.self.items parent ≡ Some row = slice_get-get_or c.push-in-instances.new.self.items parent row within ∙ ap Some (sym c.index_mut.ensures.value) in
    let there : slice_get (rows ++ [] ∷ []) parent ≡ Some row.items = ap (λ l. slice_get l parent) (sym pushed) ∙ mapped (λ r. r.items) c.push-in-instances.new.self.items parent row here in
    rw (map_set (λ r. r.items) c.push-in-instances.new.self.items parent c.push-in-instances-2.new.self, pushed, c.in_ok-push-3.ensures.items) (filled_more w.0 w.1 c.args.instances.now w.2 rows c.instances.number c.item_at-parent.result row.items c.instances.invariant c.item_at-parent.ensures (omega arith) there)

pub returns : goal.returns
returns c =
    let low : length c.args.instances.now ≤ c.instances.number = c.instances-test.false in
    filled_end c.args.instances.now _ c.instances.number c.instances.invariant low
