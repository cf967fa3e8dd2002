use Rattle.std.proofs.Common.{ℕ, ◌-◌, Bool, [], ◌∷◌, Option, sym, ap, ◌∙◌, arith}
use Rattle.std.specs.Prelude.{is_some}
use Rattle.lft_whole.{specs.Pieces.stands, proofs.Searches.{first_found, first_none}}
use Rattle.lft_whole.proofs.piece.has_quote.Goals as goal

abbrev found : Option ℕ → Bool
found o = is_some o

pub returns-then-stands : goal.returns-then-stands
returns-then-stands c = sym (ap found (first_found (stands (39 ∷ []) c.args.text.now) (c.args.end - c.args.from) c.args.from c.loop-at.at (omega arith) (omega arith) (sym c.stands.ensures.is ∙ c.if-stands.true) c.loop-at.invariant))

pub returns : goal.returns
returns c = sym (ap found (first_none (stands (39 ∷ []) c.args.text.now) (c.args.end - c.args.from) c.args.from (λ k a b. c.loop-at.invariant k a (omega arith))))
