use Rattle.std.proofs.Common.{◌≡◌, length}
use Rattle.std.specs.List.{All}
use Rattle.lft_record.specs.Scripts.{blank}
use Rattle.lft_record.proofs.cards.Cards.new.Given as goal

abbrev pub invariant-loop : goal.invariant-loop
invariant-loop l = record {
  long : length l.scripts.items ≡ l.counter;
  blank : All (λ script. script ≡ blank) l.scripts.items;
}
