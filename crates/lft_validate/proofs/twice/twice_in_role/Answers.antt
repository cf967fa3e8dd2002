use Rattle.std.proofs.Common.{◌≡◌, map, sym, ap, subst, ◌∙◌}
use Rattle.lft_tree.specs.View.{ref_view}
use Rattle.lft_resolve.specs.{Causes.IsTwice, inner.References.ref_trees}
use Rattle.lft_validate.{specs.{Findings.StandsTwice, Members.names_of, inner.Members.{IsTwiceAt, behind}}, proofs.Listing.{stand_twice, trees_of}}
use Rattle.lft_lists.proofs.Options.{found, lacking}
use Rattle.lft_validate.proofs.twice.twice_in_role.Goals as goal

pub returns-in-Some-clause-some : goal.returns-in-Some-clause-some
returns-in-Some-clause-some c rs r =
    let names = c.in_ok-names.names.items in
    let i = c.in-Some.first in
    let j = c.in-Some.second in
    let a = c.index.result.now in
    let b = c.index-in-Some.result.now in
    let two = found (λ p. IsTwiceAt (ref_trees c.deref.result.now) p.0 p.1) c.in_ok-first.field-0 (i, j) c.in_ok-first.ensures.some c.in-Some.is in
    let stand = stand_twice (λ x. x.now) ref_view names i j a b (subst (λ l. IsTwiceAt (ref_trees l) i j) c.deref.ensures.value two) (sym c.index.ensures) (sym c.index-in-Some.ensures) in
    (c.requires.0, c.requires.1, subst (λ l. StandsTwice ref_view l a.now b.now) c.in_ok-names.ensures stand)

pub returns-clause-none : goal.returns-clause-none
returns-clause-none c two =
    let names = names_of c.args.role c.args.member.now in
    let all : ref_trees c.deref.result.now ≡ map ref_view names = trees_of c.deref.result.now ∙ ap (map ref_view) (ap behind c.deref.ensures.value ∙ c.in_ok-names.ensures) in
    lacking (IsTwice (ref_trees c.deref.result.now) → ⊥) c.in_ok-first.field-0 c.in_ok-first.ensures.none c.in-None.is (subst IsTwice (sym all) two)
