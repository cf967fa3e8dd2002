use Rattle.std.proofs.Common.{◌≤◌, ◌∙◌, ℕ, ap, min, arith}
use Rattle.std.proofs.Math.Nat.{min-le_left, min-le_right}
use Rattle.lft_log.proofs.{Odd.{begins_odd, first_odd}, Plain.{front_of, front_up, plain_front}}
use Rattle.lft_log.proofs.lines.plain_lines.Goals as goal

pub returns-clause-lines : goal.returns-clause-lines
returns-clause-lines c = front_of c.args.lines.now c.whole_lines.result c.min-odd.result c.whole_lines.ensures.within c.whole_lines.ensures.lines

pub returns-clause-plain : goal.returns-clause-plain
returns-clause-plain c =
    let lines = c.args.lines.now in
    let n = c.whole_lines.result in
    let odd = c.min-odd.result in
    let quote = c.first_quote.result in
    let alone = c.lone_return.result in
    let words = c.first_words.result in
    let a = c.min.ensures in
    let a1 = min-le_left quote alone in
    let a2 = min-le_right quote alone in
    let b = c.min-odd.ensures in
    let b1 = min-le_left c.min.result words in
    let b2 = min-le_right c.min.result words in
    let up : n ≤ odd = front_up lines n odd c.whole_lines.ensures.within in
    let q = c.first_quote.ensures.within in
    plain_front lines n quote alone words (omega (arith, up, a, a1, b, b1, q)) (omega (arith, up, a, a1, b, b1)) (omega (arith, up, a, a2, b, b1)) (omega (arith, up, b, b2)) c.first_quote.ensures.none c.lone_return.ensures.returns c.first_words.ensures.none (front_of lines n odd c.whole_lines.ensures.within c.whole_lines.ensures.lines)

pub returns-clause-odd : goal.returns-clause-odd
returns-clause-odd c =
    let lines = c.args.lines.now in
    let odd = c.min-odd.result in
    let up : c.whole_lines.result ≤ odd = front_up lines c.whole_lines.result odd c.whole_lines.ensures.within in
    begins_odd lines c.whole_lines.result odd up c.whole_lines.ensures.rest (λ l. first_odd lines c.first_quote.result c.lone_return.result c.first_words.result odd (c.min-odd.ensures ∙ ap (λ (n : ℕ). min n c.first_words.result) c.min.ensures) l c.first_quote.ensures.quote c.lone_return.ensures.lone c.first_words.ensures.words)
