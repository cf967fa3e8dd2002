use Rattle.std.proofs.Common.{◌≡◌, ◌-◌, List, ◌∷◌, [], length}
use Rattle.std.specs.Prelude.{map}
use Rattle.lft_syntax.specs.{Lexeme.{Symbol, is}, inner.{Reading.{repeated, after_comma, param_at, with_front}, Parsing.words, Placed.TakeRow}}
use Rattle.lft_syntax.specs.Placed.{ParameterStands, parameter_tokens}
use Rattle.lft_syntax.proofs.Loop.{SoFar}
use Rattle.lft_tree.specs.{declared.tree.Parameter.Parameter, View.parameter_view}
use Rattle.lft_syntax.proofs.parser.reactors.more_parameters.Given as goal

abbrev pub invariant-list : goal.invariant-list
invariant-list l =
    SoFar (is (Symbol 44)) (after_comma param_at) (words l.input) (map parameter_view l.parameters.items) l.next (with_front (parameter_view l.fn.first ∷ []) (repeated (is (Symbol 44)) (after_comma param_at) (words l.input) l.fn.at))
    × (rest : List Parameter) × (l.parameters.items ≡ l.fn.first ∷ rest) × TakeRow (ParameterStands (words l.input)) (parameter_tokens (words l.input)) l.fn.first.at (l.fn.first ∷ rest) l.next

abbrev pub decreases-list : goal.decreases-list
decreases-list l = length (words l.input) - l.next
