use Rattle.std.proofs.Common.{◌≡◌, ℕ, ◌-◌, List, ◌∷◌, [], length}
use Rattle.std.specs.Prelude.{map}
use Rattle.lft_syntax.specs.{Lexeme.{Symbol, is}, inner.{Reading.{repeated, after_comma, trigger_at, with_front}, Parsing.words, Placed.{Takes, TakeRow}}}
use Rattle.lft_syntax.specs.Placed.{TriggerStands, trigger_tokens}
use Rattle.lft_syntax.proofs.Loop.{SoFar}
use Rattle.lft_tree.specs.{declared.tree.Trigger.Trigger, View.trigger_view}
use Rattle.lft_syntax.proofs.parser.reactions.more_triggers.Given as goal

abbrev pub invariant-list : goal.invariant-list
invariant-list l =
    SoFar (is (Symbol 44)) (after_comma trigger_at) (words l.input) (map trigger_view l.triggers.items) l.next (with_front (trigger_view l.fn.first ∷ []) (repeated (is (Symbol 44)) (after_comma trigger_at) (words l.input) l.fn.at))
    × (rest : List Trigger) × (l.triggers.items ≡ l.fn.first ∷ rest) × ((start : ℕ) → Takes (TriggerStands (words l.input)) trigger_tokens start l.fn.first l.fn.at → TakeRow (TriggerStands (words l.input)) trigger_tokens start (l.fn.first ∷ rest) l.next)

abbrev pub decreases-list : goal.decreases-list
decreases-list l = length (words l.input) - l.next
