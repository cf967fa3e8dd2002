use Rattle.std.proofs.Common.{sym, subst}
use Rattle.std.specs.BTreeMap.{get_by_text}
use Rattle.lft_whole_parser.specs.{inner.Imports.Files.{AreTokensApart, AreCounted, paths_of}, Imports.Files.{EachOnce, IsWhole, paths_of_files}}
use Rattle.lft_whole_parser.proofs.ImportsLemmas.{Counting.are_apart, Known.{all_whole, each_once}}
use Rattle.lft_whole_parser.proofs.imports.sources.Sources.files.Goals as goal

pub returns-clause-once : goal.returns-clause-once
returns-clause-once c = λ h. subst (λ fs. EachOnce (paths_of_files fs)) (sym c.as_slice.ensures.value) (each_once (get_by_text c.args.self.now.asked.known) (paths_of c.args.self.now.asked) c.args.self.now.files.items h.known h.read)

pub returns-clause-whole : goal.returns-clause-whole
returns-clause-whole c = λ h none. subst IsWhole (sym c.as_slice.ensures.value) (all_whole (paths_of c.args.self.now.asked) c.args.self.now.files.items h.read h.numbered none)

pub returns-clause-counted : goal.returns-clause-counted
returns-clause-counted c = λ h. subst AreCounted (sym c.as_slice.ensures.value) h.counted

pub returns-clause-apart : goal.returns-clause-apart
returns-clause-apart c = λ h. subst AreTokensApart (sym c.as_slice.ensures.value) (are_apart c.args.self.now.files.items h.counted)
