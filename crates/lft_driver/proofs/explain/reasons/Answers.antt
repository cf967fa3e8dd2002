use Rattle.std.proofs.Common.{rules, ◌++◌, refl, string_bytes}
use Rattle.lft_driver.proofs.explain.reasons.Goals as goal

pub returns : goal.returns
returns c = (c.in_ok-why.why.items ++ string_bytes c.in_ok-guess.guess, record { why = c.in_ok-why.why.items; guess = string_bytes c.in_ok-guess.guess; explains = c.in_ok-why.ensures; is_guess = c.in_ok-guess.ensures; is_text = refl }, search rules)
