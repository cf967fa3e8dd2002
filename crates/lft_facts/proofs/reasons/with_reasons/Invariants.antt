use Rattle.lft_model.specs.declared.breach.Breach.{Breach}
use Rattle.lft_facts.{specs.{inner.Enough.Extends, Enough.AreOwn}, proofs.Added.ExtendsTo}
use Rattle.lft_facts.proofs.reasons.with_reasons.Given as goal

abbrev pub invariant-loop-place : goal.invariant-loop-place
invariant-loop-place l = (b : Breach) → AreOwn b l.facts.items → ExtendsTo b l.plan l.rows l.facts.items l.place l.all.items

abbrev pub invariant-loop-place-2 : goal.invariant-loop-place-2
invariant-loop-place-2 l = (b : Breach) → AreOwn b l.facts.items → Extends b l.plan l.rows l.facts.items l.all.items
