use Rattle.std.proofs.Common.{◌<◌, length, refl, arith}
use Rattle.lft_classes.{specs.inner.Built.core, proofs.{Goings.{sets_but, sets_children, sets_one}, Rows.map_set}}
use Rattle.lft_classes.proofs.making.set_children.Goals as goal

pub returns-then-shape-len-clause-cores : goal.returns-then-shape-len-clause-cores
returns-then-shape-len-clause-cores c =
    let within : c.args.shape < length c.args.shapes.now.items = omega arith in
    map_set core c.args.shapes.now.items c.args.shape c.index_mut.result.now _ within c.index_mut.ensures.value refl

pub returns-then-shape-len-clause-tables : goal.returns-then-shape-len-clause-tables
returns-then-shape-len-clause-tables c =
    let within : c.args.shape < length c.args.shapes.now.items = omega arith in
    sets_one c.args.shapes.now.items c.args.shape _ c.args.children.items within refl

pub returns-then-shape-len-clause-others : goal.returns-then-shape-len-clause-others
returns-then-shape-len-clause-others c = sets_but c.args.shapes.now.items c.args.shape _

pub returns-then-shape-len-clause-noted : goal.returns-then-shape-len-clause-noted
returns-then-shape-len-clause-noted c within = sets_children c.args.shapes.now.items c.args.shape _ c.args.children.items within refl
