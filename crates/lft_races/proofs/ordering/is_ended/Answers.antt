use Rattle.std.proofs.Common.{◌≡◌, Bool, false, true, slice_get, sym, ap, ◌∙◌, arith}
use native.Mathlib.Decide.{ℕ_discrete}
use Rattle.std.proofs.lemmas.Bool.{false≢true}
use Rattle.lft_races.proofs.ordering.is_ended.Goals as goal

pub loop-other-preserved : goal.loop-other-preserved
loop-other-preserved c k l m e = go (ℕ_discrete k c.loop-other.other)
  where
    go : Dec (k ≡ c.loop-other.other) → ⊥
    go (no n) = c.loop-other.invariant k l (omega arith) e
    go (yes q) = let z : ◌≡◌ {A = Bool} false true = sym c.if-is_end_at.false ∙ c.is_end_at.ensures.1 (ap (λ i. slice_get c.args.rows.now i) (sym q) ∙ e) in absurd (cc)

pub returns : goal.returns
returns c = (λ e. absurd (false≢true e), λ x. let n = c.loop-other-test.false in let l = x.2 in absurd (c.loop-other.invariant x.0 x.1 (omega arith) x.3))
