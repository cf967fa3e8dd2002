use Rattle.std.proofs.Common.{◌≡◌, ℕ, ◌+◌, Bool, true, false, refl, ap, ◌∙◌, arith}
use Rattle.std.specs.Prelude.{slice_get, if◌then◌else◌}
use Rattle.lft_syntax.specs.{Lexeme.{Symbol, is}, Placed.time_tokens, inner.Parsing.words}
use Rattle.lft_syntax.proofs.parser.instances.assignment.Goals as goal

ends : (i n : ℕ) (b : Bool) → i + 1 + (if b then n + 1 else n + 2) ≡ i + (if b then n + 2 else n + 3)
ends i n true = omega arith
ends i n false = omega arith

pub returns-clause-stands : goal.returns-clause-stands
returns-clause-stands c =
    let ws = words c.args.input.now in
    let value = c.in_ok-value.value in
    let at_equals : c.in_ok-name.equals ≡ c.args.at + 1 = c.in_ok-name.ensures.stands.1 in
    let behind : c.in_ok-value.end ≡ c.args.at + 1 + (if is (Symbol 61) (slice_get ws (c.args.at + 1)) then time_tokens value + 1 else time_tokens value + 2) =
    c.in_ok-value.ensures.stands.1 ∙ ap (λ (k : ℕ). k + (if is (Symbol 61) (slice_get ws k) then time_tokens value + 1 else time_tokens value + 2)) at_equals in
    (((refl, c.in_ok-name.ensures.stands.0), omega (arith, c.in_ok-value.ensures.stands.0, at_equals)), behind ∙ ends c.args.at (time_tokens value) (is (Symbol 61) (slice_get ws (c.args.at + 1))))
