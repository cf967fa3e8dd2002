use Rattle.std.proofs.Common.{rules, string_bytes}
use Rattle.lft_log.proofs.explain.reasons.reasons.Goals as goal

pub returns : goal.returns
returns c = record {
  why = c.in_ok-why.why.items;
  guess = string_bytes c.in_ok-guess.guess;
  explains = c.in_ok-why.ensures;
  is_guess = c.in_ok-guess.ensures;
  is_text = search rules;
}
