use Rattle.lft_tree.specs.Tree.{ports_of}
use Rattle.lft_program.proofs.Listing.{listed_ok}
use Rattle.lft_program.proofs.nesting.nest.Nest.ports_by_number.Goals as goal

pub returns : goal.returns
returns c = listed_ok (λ v. v.items) ports_of 100000 c.args.self.now c.args.self.now.ports c.deref.result.now c.deref-2.result.now c.list_things.result (λ tree tables n. n.ports) c.deref.ensures.value c.deref-2.ensures.value c.list_things.ensures
