use Rattle.std.proofs.Common.{◌-◌, Ok, map}
use Rattle.lft_whole.specs.{Parts.{Language.{sign, symbol, one_more, ◌>>◌}, View.imported_view}, inner.Parts.Parsing.{count, Further, source}}
use Rattle.lft_whole.proofs.PartsLemmas.Loop.{Loop}
use Rattle.lft_whole_parser.specs.Files as Files
use Rattle.lft_whole_parser.proofs.files.imported_names.Given as goal

abbrev pub invariant-list : goal.invariant-list
invariant-list l = record {
  within : Further l.input l.fn.at l.next;
  read : Loop (λ _. sign 44) (one_more (symbol 44 >> Files.imported)) (source l.input) (λ a. Ok (a.0, a.1)) (map imported_view l.names.items) l.next (Files.imported_names (source l.input) l.fn.at);
}

abbrev pub decreases-list : goal.decreases-list
decreases-list l = count l.input - l.next
