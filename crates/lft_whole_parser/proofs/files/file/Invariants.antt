use Rattle.std.proofs.Common.{◌-◌, Ok}
use Rattle.lft_syntax.specs.Lexeme.{is_there}
use Rattle.lft_whole.{specs.{Parts.{Language.on, View.file_view}, inner.Parts.Parsing.{count, Within, source}}, proofs.PartsLemmas.Loop.Loop}
use Rattle.lft_whole_parser.specs.Files as Files
use Rattle.lft_whole_parser.proofs.files.file.Given as goal

abbrev pub invariant-items : goal.invariant-items
invariant-items l = record {
  within : Within l.input l.next;
  read : Loop (λ _. on is_there) Files.next_top (source l.input) (λ a. Ok a.0) (file_view l.file) l.next (Files.whole_file (source l.input));
}

abbrev pub decreases-items : goal.decreases-items
decreases-items l = count l.input - l.next
