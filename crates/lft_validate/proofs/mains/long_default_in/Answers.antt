use Rattle.std.proofs.Common.{◌≡◌, ◌<◌, ◌≤◌, ℕ, Any, Option, Some, None, IsSome, map, sym, subst, arith}
use Rattle.std.specs.Option.{MatchOption}
use Rattle.lft_tree.specs.{Tree.nanoseconds, View.parameter_view, declared.tree.Time.Time}
use Rattle.lft_resolve.{specs.Causes.longest, proofs.Somes.{none_more, none_done}}
use Rattle.lft_validate.proofs.mains.long_default_in.Goals as goal

-- a time of that many nanoseconds isn't too long
short : (o : Option ℕ) (t : Time) → MatchOption o (longest < nanoseconds t) (λ n. (n ≡ nanoseconds t) × (n ≤ longest)) → IsSome o → longest < nanoseconds t → ⊥
short None t is some long = absurd (cc)
short (Some n) t is some long = let same = is.0 in let low = is.1 in absurd (omega (arith, same, low, long))

pub loop-parameter-preserved : goal.loop-parameter-preserved
loop-parameter-preserved c = none_more parameter_view (λ p. longest < nanoseconds p.default) c.deref-parameter-items.result.now c.loop-parameter.parameter-index c.parameter-item.result c.loop-parameter-test.true (sym c.parameter-item.is) c.loop-parameter.invariant (short c.nanoseconds.result c.parameter-item.result.default c.nanoseconds.ensures c.if-is_none.ensures)

pub returns-clause-none : goal.returns-clause-none
returns-clause-none c = subst (λ l. Any (λ p. longest < nanoseconds p.default) (map parameter_view l) → ⊥) c.deref-parameter-items.ensures.value (none_done parameter_view (λ p. longest < nanoseconds p.default) c.deref-parameter-items.result.now c.loop-parameter.parameter-index c.loop-parameter-test.false c.loop-parameter.invariant)
