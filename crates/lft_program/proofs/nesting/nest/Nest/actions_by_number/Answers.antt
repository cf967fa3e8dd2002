use Rattle.lft_tree.specs.Tree.{actions_of}
use Rattle.lft_program.proofs.Listing.{listed_ok}
use Rattle.lft_program.proofs.nesting.nest.Nest.actions_by_number.Goals as goal

pub returns : goal.returns
returns c = listed_ok (λ v. v.items) actions_of 100000 c.args.self.now c.args.self.now.actions c.deref.result.now c.deref-2.result.now c.list_things.result (λ tree tables n. n.actions) c.deref.ensures.value c.deref-2.ensures.value c.list_things.ensures
