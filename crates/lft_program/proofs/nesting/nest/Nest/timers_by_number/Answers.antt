use Rattle.lft_tree.specs.Tree.{timers_of}
use Rattle.lft_program.proofs.Listing.{listed_ok}
use Rattle.lft_program.proofs.nesting.nest.Nest.timers_by_number.Goals as goal

pub returns : goal.returns
returns c = listed_ok (λ v. v.items) timers_of 100000 c.args.self.now c.args.self.now.timers c.deref.result.now c.deref-2.result.now c.list_things.result (λ tree tables n. n.timers) c.deref.ensures.value c.deref-2.ensures.value c.list_things.ensures
