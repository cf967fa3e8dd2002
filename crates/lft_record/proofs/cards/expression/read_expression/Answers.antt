use Rattle.std.proofs.Common.{rules, ◌≡◌, ◌==◌, ◌++◌, ◌∷◌, [], ℕ, List, length, map, subst}
use Rattle.std.specs.List.{AllZip}
use Rattle.std.proofs.lemmas.{Iterator.{Consumers.{YieldsList-turn, YieldsList-end}, Splits.YieldsList-from_slice_split}, List.map-append}
use Rattle.std.proofs.lemmas.Slice.Zip.{all_zipped_more}
use Rattle.lft_record.{specs.Expressions.IsTerm, proofs.TermsDiffer.no_term}
use Rattle.lft_record.proofs.cards.expression.read_expression.Goals as goal

pub loop-piece-preserved : goal.loop-piece-preserved
loop-piece-preserved c =
    let is : IsTerm c.args.program.now c.args.reaction c.in-Some.piece.now c.in-Some-read_term.term = c.in-Some-read_term.ensures.some in
    let items : c.push.new.self.items ≡ c.loop-piece.terms.items ++ (c.in-Some-read_term.term ∷ []) = search rules in
    rw (items, map-append (λ piece. piece.now) c.loop-piece.yielded (c.in-Some.piece ∷ [])) (all_zipped_more (IsTerm c.args.program.now c.args.reaction) (map (λ piece. piece.now) c.loop-piece.yielded) c.loop-piece.terms.items c.in-Some.piece.now c.in-Some-read_term.term c.loop-piece.invariant is)

pub returns-in-None-read_term-clause-none : goal.returns-in-None-read_term-clause-none
returns-in-None-read_term-clause-none c =
    let turn = YieldsList-turn (YieldsList-from_slice_split _ (λ b. b == 43) c.args.text.now (search rules) (search rules) (search rules) (λ x b q h. search rules)) c.loop-piece.yielded _ c.loop-piece.yielded_by _ _ c.in-Some.piece c.in-Some.is c.next.ensures.steps in
    no_term c.args.program.now c.args.reaction _ (length c.loop-piece.yielded) c.in-Some.piece.now turn c.in-None-read_term.ensures.none

pub returns-clause-some : goal.returns-clause-some
returns-clause-some c =
    let end = YieldsList-end (YieldsList-from_slice_split _ (λ b. b == 43) c.args.text.now (search rules) (search rules) (search rules) (λ x b q h. search rules)) c.loop-piece.yielded _ c.loop-piece.yielded_by _ _ c.in-None.is c.next.ensures.steps in
    rw c.from_vec.ensures (subst (λ (pieces : List (List ℕ)). AllZip (IsTerm c.args.program.now c.args.reaction) pieces c.loop-piece.terms.items) end.0 c.loop-piece.invariant)
