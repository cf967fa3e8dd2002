use Rattle.std.proofs.Common.{◌≡◌, ℕ, List, map, sym, ap, subst, ◌∙◌}
use Rattle.lft_resolve.{specs.{Causes.IsTwice, inner.Tests.texts}, proofs.Twice.get_or-itself}
use Rattle.lft_validate.specs.{Findings.name_at, inner.Members.IsTwiceAt, declared.placed.NameAt.NameAt}
use Rattle.lft_validate.proofs.{Listing.{stand_twice, take_all, within_twice}, twice.two_named.Goals.In-Some}
use Rattle.lft_lists.proofs.Options.{found, lacking}
use Rattle.lft_validate.proofs.twice.two_named.Goals as goal

abbrev named : List NameAt → List (List ℕ)
named = map (λ (n : NameAt). n.name.now)

all : (c : goal.In-Some) → texts c.deref.result.now ≡ named c.args.names.now
all c = ap texts c.deref.ensures.value ∙ c.loop-name.invariant ∙ ap named (take_all c.args.names.now c.loop-name.name-index c.loop-name-test.false)

two : (c : goal.In-Some) → IsTwiceAt (named c.args.names.now) c.in-Some.first c.in-Some.second
two c = subst (λ l. IsTwiceAt l c.in-Some.first c.in-Some.second) (all c) (found (λ p. IsTwiceAt (texts c.deref.result.now) p.0 p.1) c.in_ok-first.field-0 (c.in-Some.first, c.in-Some.second) c.in_ok-first.ensures.some c.in-Some.is)

pub bounds-names-first : goal.bounds-names-first
bounds-names-first c = (within_twice (λ n. n.name.now) c.args.names.now c.in-Some.first c.in-Some.second (two ((goal.at.bounds-names-first c).In-Some))).0

pub bounds-names-second : goal.bounds-names-second
bounds-names-second c = (within_twice (λ n. n.name.now) c.args.names.now c.in-Some.first c.in-Some.second (two ((goal.at.bounds-names-second c).In-Some))).1

pub returns-in-Some-clause-some : goal.returns-in-Some-clause-some
returns-in-Some-clause-some c =
    let names = c.args.names.now in
    let i = c.in-Some.first in
    let j = c.in-Some.second in
    let h = two ((goal.at.returns-in-Some-clause-some c).In-Some) in
    let within = within_twice (λ n. n.name.now) names i j h in
    stand_twice name_at (λ (q : List ℕ × ℕ). q.0) names i j _ _ h (get_or-itself names i _ within.0) (get_or-itself names j _ within.1)

pub returns-clause-none : goal.returns-clause-none
returns-clause-none c two =
    let all : texts c.deref.result.now ≡ named c.args.names.now = ap texts c.deref.ensures.value ∙ c.loop-name.invariant ∙ ap named (take_all c.args.names.now c.loop-name.name-index c.loop-name-test.false) in
    lacking (IsTwice (texts c.deref.result.now) → ⊥) c.in_ok-first.field-0 c.in_ok-first.ensures.none c.in-None.is (subst IsTwice (sym all) two)
