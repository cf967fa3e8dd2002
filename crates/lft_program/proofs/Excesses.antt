-- A limit that is passed is the cause.
use Rattle.std.proofs.Common.{◌≡◌, ℕ, ◌-◌, ◌≤◌, inl, inr, arith}
use Rattle.lft_tree.specs.Tree.{FileTree}
use Rattle.lft_resolve.specs.{Expansion.Paths.IsMoreThan, Causes.TooMany}
use Rattle.lft_program.specs.inner.Limits.{HasMoreThan, IsExcess, limit_of}
use Rattle.lft_program.specs.declared.nesting.limits.Excess.{Excess}
use Rattle.lft_program.specs.declared.nesting.limits.LimitedKind.{LimitedKind, TheVariants.{Instances, Reactions, Ports, Connections, Actions, Timers}}

-- more than a number is more than a smaller one
fewer : {X : Type 0} {P : X → Type 0} (n m : ℕ) → m ≤ n → IsMoreThan P n → IsMoreThan P m
fewer n m l w = record { some = w.some; more = (let o = w.more in omega arith); each = w.each; distinct = w.distinct }

past_limit : (tree : FileTree) (kind : LimitedKind) (n : ℕ) → limit_of kind ≤ n → HasMoreThan tree kind n → TooMany tree
unfolding TooMany
past_limit tree Instances n l w = inl (fewer n 10000 l w)
past_limit tree Reactions n l w = inr (inl (fewer n 10000 l w))
past_limit tree Ports n l w = inr (inr (inl (fewer n 100000 l w)))
past_limit tree Connections n l w = inr (inr (inr (inl (fewer n 100000 l w))))
past_limit tree Actions n l w = inr (inr (inr (inr (inl (fewer n 100000 l w)))))
past_limit tree Timers n l w = inr (inr (inr (inr (inr (fewer n 100000 l w)))))

pub limit_small : (kind : LimitedKind) → limit_of kind ≤ 100000
limit_small Instances = omega arith
limit_small Reactions = omega arith
limit_small Ports = omega arith
limit_small Connections = omega arith
limit_small Actions = omega arith
limit_small Timers = omega arith

pub excess_is_cause : (tree : FileTree) (e : Excess) → IsExcess tree e → TooMany tree
excess_is_cause tree e w = past_limit tree e.kind (e.count - 1) (let p = w.passed in omega arith) w.has
