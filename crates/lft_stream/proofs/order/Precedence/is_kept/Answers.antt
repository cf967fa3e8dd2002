use Rattle.std.proofs.Common.{◌≡◌, true, false, sym, ◌∙◌, refl}
use Rattle.lft_stream.{specs.inner.Ordered.IsOrdered, proofs.{Ordering.ordered_law, order.Precedence.is_kept.Goals.{in-Some, in-None}}}
use Rattle.lft_stream.proofs.order.Precedence.is_kept.Goals as goal

pub returns-then-is_ranked-clause-kept : goal.returns-then-is_ranked-clause-kept
returns-then-is_ranked-clause-kept c = λ z last kept g r o. ordered_law c.args.plan.now last c.args.rows.now kept (c.if-is_ranked.ensures refl) g r o

pub returns-clause-kept : goal.returns-clause-kept
returns-clause-kept c = λ z last kept g r o. ordered_law c.args.plan.now last c.args.rows.now kept (ordered z) g r o
  where
    ordered : c.match-self.result ≡ true → IsOrdered c.args.plan.now.program c.args.rows.now
    ordered z = elim c.match-self.branch [
      | in-Some w ↦ w.is_ordered.ensures (sym w.result-is ∙ z)
      | in-None w ↦ let e : false ≡ true = sym w.result-is ∙ z in absurd (cc e)
    ]
