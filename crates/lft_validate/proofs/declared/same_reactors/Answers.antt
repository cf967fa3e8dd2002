use Rattle.std.proofs.Common.{◌≡◌, ℕ, List, filter_map, map, sym, ap, subst, ◌∙◌}
use Rattle.std.proofs.lemmas.Simd.{map-map}
use Rattle.lft_resolve.specs.Causes.{IsTwice}
use Rattle.lft_validate.specs.{Findings.{StandsTwice, name_at}, Members.own_name, inner.Members.behind, declared.placed.NameAt.NameAt}
use Rattle.lft_lists.proofs.Options.{found, lacking}
use Rattle.lft_validate.proofs.declared.same_reactors.Goals as goal

pub returns-in-Some-clause-shows : goal.returns-in-Some-clause-shows
returns-in-Some-clause-shows c =
    let all : map name_at c.deref.result.now ≡ filter_map own_name (behind c.args.reactors.now) = ap (map name_at) c.deref.ensures.value ∙ c.in_ok-names.ensures in
    subst (λ l. StandsTwice (λ p. p.0) l (name_at c.in-Some.first) (name_at c.in-Some.second)) all (found (λ p. StandsTwice (λ q. q.0) (map name_at c.deref.result.now) (name_at p.0) (name_at p.1)) c.in_ok-first.field-0 (c.in-Some.first, c.in-Some.second) c.in_ok-first.ensures.some c.in-Some.is)

pub returns-clause-none : goal.returns-clause-none
returns-clause-none c two =
    let all : map name_at c.deref.result.now ≡ filter_map own_name (behind c.args.reactors.now) = ap (map name_at) c.deref.ensures.value ∙ c.in_ok-names.ensures in
    let named : map (λ (n : NameAt). n.name.now) c.deref.result.now ≡ map (λ p. p.0) (filter_map own_name (behind c.args.reactors.now)) = sym (map-map (λ (p : List ℕ × ℕ). p.0) name_at c.deref.result.now) ∙ ap (map (λ p. p.0)) all in
    lacking (IsTwice (map (λ (n : NameAt). n.name.now) c.deref.result.now) → ⊥) c.in_ok-first.field-0 c.in_ok-first.ensures.none c.in-None.is (subst IsTwice (sym named) two)
