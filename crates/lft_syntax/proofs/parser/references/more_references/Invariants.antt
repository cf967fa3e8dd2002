use Rattle.std.proofs.Common.{◌≡◌, ◌-◌, List, ◌∷◌, [], length}
use Rattle.lft_syntax.specs.{Lexeme.{Symbol, is}, inner.{Reading.{repeated, after_comma, ref_at, with_front}, Parsing.words, Placed.TakeRow}}
use Rattle.lft_syntax.specs.Placed.{ReferenceStands, reference_tokens}
use Rattle.lft_syntax.proofs.Loop.{SoFar}
use Rattle.lft_tree.specs.{declared.tree.Reference.Reference, View.{ref_view, ref_views}}
use Rattle.lft_syntax.proofs.parser.references.more_references.Given as goal

abbrev pub invariant-list : goal.invariant-list
invariant-list l =
    SoFar (is (Symbol 44)) (after_comma ref_at) (words l.input) (ref_views l.references.items) l.next (with_front (ref_view l.fn.first ∷ []) (repeated (is (Symbol 44)) (after_comma ref_at) (words l.input) l.fn.at))
    × (rest : List Reference) × (l.references.items ≡ l.fn.first ∷ rest) × TakeRow (ReferenceStands (words l.input)) reference_tokens l.fn.first.at (l.fn.first ∷ rest) l.next

abbrev pub decreases-list : goal.decreases-list
decreases-list l = length (words l.input) - l.next
