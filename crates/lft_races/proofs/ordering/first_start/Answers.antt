use Rattle.std.proofs.Common.{◌≡◌, Bool, false, true, sym, ◌∙◌, arith, below_more}
use Rattle.lft_races.specs.Runs.{StartsAt}
use Rattle.lft_races.proofs.ordering.first_start.Goals as goal

pub loop-other-preserved : goal.loop-other-preserved
loop-other-preserved c = below_more (λ k. ¬ StartsAt c.args.rows.now c.args.tag c.args.reaction k) c.loop-other.other c.loop-other.invariant (λ s. let z : ◌≡◌ {A = Bool} false true = sym c.if-is_start_at.false ∙ c.is_start_at.ensures.1 s in absurd (cc))

pub returns-clause-none : goal.returns-clause-none
returns-clause-none c x = let n = c.loop-other-test.false in let l = x.2 in c.loop-other.invariant x.0 (omega arith) (x.1, x.3)
