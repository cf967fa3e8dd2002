use Rattle.std.proofs.Common.{◌≡◌, ℕ, ◌+◌, Bool, true, false, subst, ◌∙◌, arith}
use Rattle.std.specs.Prelude.{codes, slice_get, string_bytes, if◌then◌else◌}
use Rattle.lft_syntax.specs.{Lexeme.{Letters, is}, Placed.{IsWord, port_token}, inner.Parsing.words}
use Rattle.lft_syntax.proofs.parser.declarations.input_port.Goals as goal

one_more : (i j : ℕ) (b : Bool) → j ≡ (if b then i + 1 else i) → j + 1 ≡ (if b then i + 2 else i + 1)
one_more i j true e = omega (arith, e)
one_more i j false e = omega (arith, e)

pub returns-clause-stands : goal.returns-clause-stands
returns-clause-stands c =
    let ws = words c.args.input.now in
    let at_name : c.in_ok-at.at ≡ port_token ws c.args.at true = c.in_ok-at.ensures.next ∙ one_more c.args.at c.in_ok-word.word (is (Letters (codes "mutable")) (slice_get ws c.args.at)) c.in_ok-word.ensures.next in
    (at_name, subst (λ (k : ℕ). IsWord ws k (string_bytes c.in_ok-name.name)) at_name c.in_ok-name.ensures.stands.0)
