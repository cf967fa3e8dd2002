use Rattle.std.proofs.Common.{◌++◌, [], ◌∷◌, List, ℕ, sym, ap, ◌∙◌, append_assoc}
use Rattle.lft_counts.proofs.workers.Workers.list.Goals as goal

pub loop-worker-preserved : goal.loop-worker-preserved
loop-worker-preserved c =
    let all = c.loop-worker.all.items in
    let one : ℕ × ℕ = (c.in-Some.worker.now, c.in-Some.runs.now) in
    let left = c.next.new.self in
    c.loop-worker.invariant ∙ ap (λ (es : List (ℕ × ℕ)). all ++ es) c.in-Some.ensures.steps ∙ sym (append_assoc all (one ∷ []) left) ∙ ap (λ (es : List (ℕ × ℕ)). es ++ left) (sym c.in_ok-push.ensures.items)
