use Rattle.std.proofs.Common.{◌≡◌, List, IfOk, map, sym, ap, subst, ◌∙◌}
use Rattle.lft_tree.specs.{Tree.{ReactorTree, reactors_of}, View.reactor_view, declared.tree.Reactor.Reactor}
use Rattle.lft_resolve.specs.inner.Tables.{IsFile}
use Rattle.lft_validate.{specs.{Members.reactors_among, inner.{Members.behind, Witnesses.{IsFirstShown, causes_in_order}}}, proofs.Listing.trees_among}
use Rattle.lft_validate.proofs.checks.first_in_tree.Goals as goal

pub first_of-requires : goal.first_of-requires
first_of-requires c =
    let items = c.args.ast.now.items.items in
    let same : behind c.deref-2.result.now ≡ reactors_among items = ap behind c.deref-2.ensures.value ∙ c.in_ok-reactors.ensures ∙ ap reactors_among c.deref.ensures.value in
    let trees : reactors_of c.args.scopes.now ≡ map reactor_view (behind c.deref-2.result.now) = ap reactors_of c.requires ∙ trees_among c.args.ast.now.target items ∙ ap (map reactor_view) (sym same) in
    subst (λ ts. IsFile ts c.file.result.now) trees c.file.ensures

pub returns : goal.returns
returns c =
    let items = c.args.ast.now.items.items in
    let causes = c.args.causes.now in
    let same : behind c.deref-2.result.now ≡ reactors_among items = ap behind c.deref-2.ensures.value ∙ c.in_ok-reactors.ensures ∙ ap reactors_among c.deref.ensures.value in
    let trees : map reactor_view (reactors_among items) ≡ reactors_of c.args.scopes.now = sym (trees_among c.args.ast.now.target items) ∙ ap reactors_of (sym c.requires) in
    subst (λ (ts : List ReactorTree). IfOk c.first_of.result (IsFirstShown (reactors_among items) (causes_in_order ts causes))) trees (subst (λ (rs : List Reactor). IfOk c.first_of.result (IsFirstShown rs (causes_in_order (map reactor_view rs) causes))) same c.first_of.ensures)
