use Rattle.std.proofs.Common.{ℕ, subst}
use Rattle.std.specs.Prelude.{string_bytes}
use Rattle.lft_syntax.specs.{Placed.IsWord, inner.Parsing.words}
use Rattle.lft_syntax.proofs.parser.declarations.output_port.Goals as goal

pub returns-clause-stands : goal.returns-clause-stands
returns-clause-stands c = (c.in_ok-at.ensures.next, subst (λ (k : ℕ). IsWord (words c.args.input.now) k (string_bytes c.in_ok-name.name)) c.in_ok-at.ensures.next c.in_ok-name.ensures.stands.0)
