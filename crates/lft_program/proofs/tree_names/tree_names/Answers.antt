use Rattle.std.proofs.Common.{◌≡◌, filter_map, ap, ◌∙◌}
use Rattle.lft_tree.specs.{Tree.{reactor_in, reactors_of}, View.{item_views, tree_view}}
use Rattle.lft_resolve.specs.inner.References.{reactor_trees}
use Rattle.lft_program.proofs.TreeNames.{of_program, few, full_tree, named_as}
use Rattle.lft_program.proofs.tree_names.tree_names.Goals as goal

pub full_names-requires-clause-things : goal.full_names-requires-clause-things
full_names-requires-clause-things c =
    let tree = tree_view c.args.ast.now in
    let reactors : reactor_trees c.deref-2.result.now ≡ reactors_of tree = ap reactor_trees c.deref-2.ensures.value ∙ c.in_ok-all.ensures ∙ ap (λ l. filter_map reactor_in (item_views l)) c.deref.ensures.value in
    let are = c.in_ok-lists.ensures tree c.args.tables.now c.requires.nest reactors in
    rw (c.deref-3.ensures.value, c.deref-4.ensures.value, c.deref-5.ensures.value, c.deref-6.ensures.value, c.deref-7.ensures.value)
    (of_program tree c.args.tables.now c.args.nest.now c.requires.nest c.in_ok-lists.lists are c.requires.identifiers c.requires.lawful)

pub full_names-requires-clause-few : goal.full_names-requires-clause-few
full_names-requires-clause-few c =
    let tree = tree_view c.args.ast.now in
    let reactors : reactor_trees c.deref-2.result.now ≡ reactors_of tree = ap reactor_trees c.deref-2.ensures.value ∙ c.in_ok-all.ensures ∙ ap (λ l. filter_map reactor_in (item_views l)) c.deref.ensures.value in
    let are = c.in_ok-lists.ensures tree c.args.tables.now c.requires.nest reactors in
    rw (c.deref-3.ensures.value, c.deref-4.ensures.value, c.deref-5.ensures.value, c.deref-6.ensures.value, c.deref-7.ensures.value)
    (few tree c.args.tables.now c.args.nest.now c.requires.nest c.in_ok-lists.lists are)

pub returns-clause-names : goal.returns-clause-names
returns-clause-names c =
    let tree = tree_view c.args.ast.now in
    let reactors : reactor_trees c.deref-2.result.now ≡ reactors_of tree = ap reactor_trees c.deref-2.ensures.value ∙ c.in_ok-all.ensures ∙ ap (λ l. filter_map reactor_in (item_views l)) c.deref.ensures.value in
    named_as tree c.args.tables.now c.args.nest.now c.deref-3.result.now c.deref-4.result.now c.deref-5.result.now c.deref-6.result.now c.deref-7.result.now c.full_names.result
    (λ is.
    let are = c.in_ok-lists.ensures tree c.args.tables.now is reactors in
    rw (c.deref-3.ensures.value, c.deref-4.ensures.value, c.deref-5.ensures.value, c.deref-6.ensures.value, c.deref-7.ensures.value)
    (full_tree tree c.args.tables.now c.args.nest.now is c.in_ok-lists.lists are))
    c.full_names.ensures.one
