use Rattle.std.proofs.Common.{ℕ, sym, ◌∙◌, subst, arith, Option}
use Rattle.lft_rows.proofs.PresenceLemmas.Lists.{not_true}
use Rattle.lft_facts.{specs.inner.Ways.IsLeastEnd, proofs.Running.{least_stays, least_kept, least_first, least_here}}
use Rattle.lft_facts.proofs.early.lesser.Goals as goal

pub returns-then-not-ends_marked : goal.returns-then-not-ends_marked
returns-then-not-ends_marked c = least_stays c.args.rows.now c.args.tag c.args.next.now c.args.start c.args.place c.args.so_far (λ m. not_true (sym c.if-not-ends_marked.true ∙ c.ends_marked.ensures.1 m)) c.requires.so_far

pub returns-then-reaction-end : goal.returns-then-reaction-end
returns-then-reaction-end c = let l = c.if-reaction-end.true in least_here c.args.rows.now c.args.tag c.args.next.now c.args.start c.args.place c.row_at-reaction.result c.row_at-reaction.ensures c.requires.after (c.ends_marked.ensures.0 c.if-not-ends_marked.false) c.in-Some.end (omega arith) (subst (λ (o : Option (ℕ × ℕ)). IsLeastEnd c.args.rows.now c.args.tag c.args.next.now c.args.start c.args.place o) c.in-Some.is c.requires.so_far)

pub returns-else-reaction-end : goal.returns-else-reaction-end
returns-else-reaction-end c = let l = c.if-reaction-end.false in least_kept c.args.rows.now c.args.tag c.args.next.now c.args.start c.args.place c.row_at-reaction.result c.row_at-reaction.ensures c.in-Some.end (omega arith) (subst (λ (o : Option (ℕ × ℕ)). IsLeastEnd c.args.rows.now c.args.tag c.args.next.now c.args.start c.args.place o) c.in-Some.is c.requires.so_far)

pub returns-in-None : goal.returns-in-None
returns-in-None c = least_first c.args.rows.now c.args.tag c.args.next.now c.args.start c.args.place c.row_at-reaction.result c.row_at-reaction.ensures c.requires.after (c.ends_marked.ensures.0 c.if-not-ends_marked.false) (subst (λ (o : Option (ℕ × ℕ)). IsLeastEnd c.args.rows.now c.args.tag c.args.next.now c.args.start c.args.place o) c.in-None.is c.requires.so_far)
