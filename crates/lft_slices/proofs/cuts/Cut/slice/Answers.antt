use Rattle.std.proofs.Common.{subst}
use Rattle.lft_rows.specs.Presence.Traces.{TraceParts}
use Rattle.lft_slices.{specs.inner.Pieces.ArePieces, proofs.{Piecing.{tag_there, range_there, runs_there}, cuts.Cut.slice.Goals.After-self}}
use Rattle.lft_slices.proofs.cuts.Cut.slice.Goals as goal

pieced : (c : After-self) → ArePieces c.args.self.now.rows c.self.inside.pieces
pieced c = subst (λ (z : TraceParts). ArePieces z.rows c.self.inside.pieces) c.self.view_is c.self.invariant

pub at-requires-clause-place : goal.at-requires-clause-place
at-requires-clause-place c = tag_there c.args.self.now.rows c.self.inside.pieces (pieced ((goal.at.at-requires-clause-place c).After-self)) c.args.k c.requires.0 c.requires.1 c.requires.2

pub at-requires-clause-range : goal.at-requires-clause-range
at-requires-clause-range c a b p q =
    let are = pieced ((goal.at.at-requires-clause-range c).After-self) in
    range_there c.args.self.now.rows c.self.inside.pieces are c.args.k a b (tag_there c.args.self.now.rows c.self.inside.pieces are c.args.k c.requires.0 c.requires.1 c.requires.2) p q

pub returns : goal.returns
returns c g x = runs_there c.args.self.now.rows c.self.inside.pieces (pieced ((goal.at.returns c).After-self)) c.args.k g c.at.result.now c.at.ensures x
