use Rattle.std.proofs.Common.{ℕ, inl, inr, subst, Option}
use Rattle.lft_facts.{specs.inner.Ways.IsLeastOfAll, proofs.Running.{all_some, all_none, all_least, all_marked}}
use Rattle.lft_facts.proofs.early.late_end.Goals as goal

pub unreachable-requires : goal.unreachable-requires
unreachable-requires c = all_some c.args.rows.now c.args.tag c.args.next.now c.args.start c.requires.some (subst (λ (o : Option (ℕ × ℕ)). IsLeastOfAll c.args.rows.now c.args.tag c.args.next.now c.args.start o) c.in_default-least_end.is c.least_end-2.ensures)

pub returns-in-Some-clause-nearest : goal.returns-in-Some-clause-nearest
returns-in-Some-clause-nearest c = all_least c.args.rows.now c.args.tag c.args.near.now c.args.start c.in-Some.end (subst (λ (o : Option (ℕ × ℕ)). IsLeastOfAll c.args.rows.now c.args.tag c.args.near.now c.args.start o) c.in-Some.is c.least_end.ensures)

pub returns-clause-nearest : goal.returns-clause-nearest
returns-clause-nearest c i a l e m = absurd (all_none c.args.rows.now c.args.tag c.args.near.now c.args.start (subst (λ (o : Option (ℕ × ℕ)). IsLeastOfAll c.args.rows.now c.args.tag c.args.near.now c.args.start o) c.in_default.is c.least_end.ensures) i a l e m)

pub returns-in-Some-clause-least : goal.returns-in-Some-clause-least
returns-in-Some-clause-least c i a l e m = inl (all_marked c.args.rows.now c.args.tag c.args.near.now c.args.start c.in-Some.end (subst (λ (o : Option (ℕ × ℕ)). IsLeastOfAll c.args.rows.now c.args.tag c.args.near.now c.args.start o) c.in-Some.is c.least_end.ensures))

pub returns-clause-least : goal.returns-clause-least
returns-clause-least c i a l e m = inr (all_least c.args.rows.now c.args.tag c.args.next.now c.args.start c.in-Some-least_end.end (subst (λ (o : Option (ℕ × ℕ)). IsLeastOfAll c.args.rows.now c.args.tag c.args.next.now c.args.start o) c.in-Some-least_end.is c.least_end-2.ensures) i a l e m).1
