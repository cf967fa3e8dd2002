use Rattle.std.proofs.Common.{◌≡◌, Bool, false, true, sym, ◌∙◌, arith, below_more}
use Rattle.lft_races.specs.inner.Across.{OpensRun}
use Rattle.lft_races.proofs.ordering.own_start.Goals as goal

pub loop-start-preserved : goal.loop-start-preserved
loop-start-preserved c = below_more (λ k. ¬ OpensRun c.args.rows.now c.args.place k) c.loop-start.start c.loop-start.invariant (λ s. let z : ◌≡◌ {A = Bool} false true = sym c.if-is_own_start.false ∙ c.is_own_start.ensures.1 s in absurd (cc))

pub returns-clause-none : goal.returns-clause-none
returns-clause-none c m l = let n = c.loop-start-test.false in c.loop-start.invariant m (omega arith)
