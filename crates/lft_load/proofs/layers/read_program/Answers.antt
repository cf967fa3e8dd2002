use Rattle.lft_tree.specs.View.{tree_view}
use Rattle.lft_load.{specs.Refusals.ProgramRefusal.{by_tree, by_flat}, proofs.Loading.{flat_of, only_program, program_none, told_at}}
use Rattle.lft_resolve.specs.Causes.{number_of as program_number}
use Rattle.lft_load.specs.declared.fault.Part.TheVariants as part
use Rattle.lft_load.proofs.layers.read_program.Goals as goal

pub returns-in-Err-clause-refused : goal.returns-in-Err-clause-refused
returns-in-Err-clause-refused c = by_tree c.in-Err.ensures.refused

pub returns-in-Err-clause-none : goal.returns-in-Err-clause-none
returns-in-Err-clause-none c = λ t parts x. c.in-Err.ensures.none t x.tree x.is_tree

pub returns-in-Ok-flatten-clause-program : goal.returns-in-Ok-flatten-clause-program
returns-in-Ok-flatten-clause-program c = only_program c.args.text.now (tree_view c.in-Ok.ast) c.in-Ok.ensures.tree c.in-Ok-flatten.program c.in-Ok-flatten.ensures.flat c.in-Ok-flatten.ensures.one

pub returns-clause-refused : goal.returns-clause-refused
returns-clause-refused c = by_flat c.in-Err-flatten.fault (tree_view c.in-Ok.ast) c.program.ensures.part c.program.ensures.number c.in-Ok.ensures.tree.is c.in-Err-flatten.ensures.first

pub returns-clause-none : goal.returns-clause-none
returns-clause-none c = λ t parts x.
    program_none (tree_view c.in-Ok.ast) c.in-Err-flatten.fault c.in-Err-flatten.ensures.first
    (told_at c.program.result.part part.Program c.program.result.number (program_number c.in-Err-flatten.fault) c.program.ensures.part c.program.ensures.number t)
    parts (flat_of c.args.text.now (tree_view c.in-Ok.ast) c.in-Ok.ensures.tree parts x)
