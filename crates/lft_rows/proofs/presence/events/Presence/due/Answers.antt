use Rattle.std.proofs.Common.{◌≡◌, ◌+◌, ℕ, List, length, refl, sym, ap, ◌∙◌, subst, arith}
use Rattle.lft_rows.proofs.PresenceLemmas.{Dues.{AreDueTo, due_stays, due_more, due_ends}, Lists.not_true}
use Rattle.lft_rows.proofs.presence.events.Presence.due.Goals.{then-triggered+in_ok-push, else-triggered}
use Rattle.lft_rows.proofs.presence.events.Presence.due.Goals as goal

pub loop-reaction-preserved : goal.loop-reaction-preserved
loop-reaction-preserved c = elim c.if-triggered.branch [
  | then-triggered+in_ok-push w ↦ subst (λ (xs : List ℕ). AreDueTo c.args.self.now c.args.tag (c.loop-reaction.reaction + 1) xs) (sym (ap (λ v. v.items) w.due-is ∙ w.in_ok-push.ensures.items)) (due_more c.args.self.now c.args.tag c.loop-reaction.reaction c.loop-reaction.due.items c.loop-reaction.invariant (w.if-triggered.ensures.0 refl))
  | else-triggered w ↦ subst (λ (xs : List ℕ). AreDueTo c.args.self.now c.args.tag (c.loop-reaction.reaction + 1) xs) (sym (ap (λ v. v.items) w.due-is)) (due_stays c.args.self.now c.args.tag c.loop-reaction.reaction c.loop-reaction.due.items c.loop-reaction.invariant (λ t. not_true (w.if-triggered.ensures.1 t)))
]

pub returns : goal.returns
returns c = let count : c.reactions-reaction-end.result ≡ length c.args.self.now.plan.program.reactions = c.reactions-reaction-end.ensures.count in due_ends c.args.self.now c.args.tag c.loop-reaction.reaction c.loop-reaction.due.items (omega arith) c.loop-reaction.invariant
