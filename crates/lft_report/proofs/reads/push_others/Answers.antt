use Rattle.std.proofs.Common.{◌≡◌, ℕ, zero, suc, ◌<◌, ◌++◌, ◌∙◌, codes, decimal, string_bytes, ap, refl, arith}
use Rattle.lft_ir.proofs.WordsLemmas.Steps.{also}
use Rattle.lft_report.specs.Reads.{others_words}
use Rattle.lft_report.proofs.reads.push_others.Goals as goal

-- what is said of some inputs
some : (n : ℕ) → 0 < n → codes "  Other inputs, read as they are: " ++ (decimal n ++ codes "\n") ≡ others_words n
some zero positive = absurd (omega arith)
some (suc n) positive = refl

pub returns-in_ok-push_str-2 : goal.returns-in_ok-push_str-2
returns-in_ok-push_str-2 c = also _ _ _ (codes "  Other inputs, read as they are: " ++ decimal c.args.count) (codes "\n") (also _ _ _ (codes "  Other inputs, read as they are: ") (decimal c.args.count) c.in_ok-push_str.ensures.bytes c.in_ok-push_number.ensures) c.in_ok-push_str-2.ensures.bytes ∙ ap (λ words. string_bytes c.args.text.now ++ words) (some c.args.count (let other = c.if-count-ne0.true in omega arith))
