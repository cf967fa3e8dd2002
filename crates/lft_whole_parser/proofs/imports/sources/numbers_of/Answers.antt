use Rattle.std.proofs.Common.{IfErr, IfOk, OnOk, subst}
use Rattle.lft_whole_parser.specs.{inner.Imports.Files.{Adds, IsAskedBy, IsUnreadPath, paths_of}, Imports.Files.AreNumbered}
use Rattle.lft_whole_parser.proofs.ImportsLemmas.Telling.{unread_is_refusal}
use Rattle.lft_whole_parser.proofs.imports.sources.numbers_of.Goals as goal

pub returns-in-None-clause-numbers : goal.returns-in-None-clause-numbers
returns-in-None-clause-numbers c = subst (λ xs. IfOk c.numbers.result (λ ns. AreNumbered (paths_of c.numbers.new.self) c.args.path.now xs ns.items)) c.as_slice.ensures.value c.numbers.ensures.numbers

pub returns-in-None-clause-added : goal.returns-in-None-clause-added
returns-in-None-clause-added c = subst (λ xs. OnOk c.numbers.result (Adds c.args.asked.now.paths.items (IsAskedBy c.args.number c.args.path.now xs) c.numbers.new.self.paths.items)) c.as_slice.ensures.value c.numbers.ensures.added

pub returns-in-None-clause-refused : goal.returns-in-None-clause-refused
returns-in-None-clause-refused c = unread_is_refusal c.numbers.result c.args.number c.args.read.now c.in-None.is (subst (λ xs. IfErr c.numbers.result (IsUnreadPath c.args.number xs)) c.as_slice.ensures.value c.numbers.ensures.refused)
