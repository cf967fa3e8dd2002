use Rattle.std.proofs.Common.{◌≡◌, ℕ, ◌+◌, Bool, true, false, refl, ap, ◌∙◌, arith}
use Rattle.std.specs.Prelude.{slice_get, if◌then◌else◌}
use Rattle.lft_syntax.specs.{Lexeme.{Symbol, is}, Placed.unit_tokens, inner.Parsing.words}
use Rattle.lft_syntax.proofs.parser.reactors.parameter.Goals as goal

ends : (i n : ℕ) (b : Bool) → i + 3 + (if b then n + 1 else n + 2) ≡ i + (if b then n + 4 else n + 5)
ends i n true = omega arith
ends i n false = omega arith

pub returns-clause-stands : goal.returns-clause-stands
returns-clause-stands c =
    let ws = words c.args.input.now in
    let unit = unit_tokens c.in_ok-default.default.unit in
    let at_equals : c.in_ok-equals.equals ≡ c.args.at + 3 = omega (arith, c.in_ok-name.ensures.stands.1, c.in_ok-word.ensures.next.0, c.in_ok-equals.ensures.next) in
    let behind : c.in_ok-default.end ≡ c.args.at + 3 + (if is (Symbol 61) (slice_get ws (c.args.at + 3)) then unit + 1 else unit + 2) =
    c.in_ok-default.ensures.next ∙ ap (λ (k : ℕ). k + (if is (Symbol 61) (slice_get ws k) then unit + 1 else unit + 2)) at_equals in
    ((refl, c.in_ok-name.ensures.stands.0), behind ∙ ends c.args.at unit (is (Symbol 61) (slice_get ws (c.args.at + 3))))
