use Rattle.std.proofs.Common.{◌≡◌, ℕ, List, map, string_bytes, refl, sym, ap, subst, ◌∙◌}
use Rattle.std.proofs.lemmas.Simd.{map-map}
use Rattle.lft_tree.specs.{View.instance_view, declared.tree.Assignment.Assignment}
use Rattle.lft_resolve.specs.Causes.{IsTwice}
use Rattle.lft_validate.{specs.{Findings.{StandsTwice, name_at}, declared.placed.NameAt.NameAt}, proofs.Causes.given_names}
use Rattle.lft_lists.proofs.Options.{found, lacking}
use Rattle.lft_validate.proofs.twice.instance_gives_twice.Goals as goal

abbrev placed : List Assignment → List (List ℕ × ℕ)
placed = map (λ (a : Assignment). (string_bytes a.name, a.at))

pub returns-in-Some-clause-some : goal.returns-in-Some-clause-some
returns-in-Some-clause-some c rs r =
    let all : map name_at c.deref-2.result.now ≡ placed c.args.instance.now.given.items = ap (map name_at) c.deref-2.ensures.value ∙ c.in_ok-names.ensures ∙ ap placed c.deref.ensures.value in
    (refl, subst (λ l. StandsTwice (λ p. p.0) l (name_at c.in-Some.first) (name_at c.in-Some.second)) all (found (λ p. StandsTwice (λ q. q.0) (map name_at c.deref-2.result.now) (name_at p.0) (name_at p.1)) c.in_ok-first.field-0 (c.in-Some.first, c.in-Some.second) c.in_ok-first.ensures.some c.in-Some.is))

pub returns-clause-none : goal.returns-clause-none
returns-clause-none c two =
    let given = c.args.instance.now.given.items in
    let all : map name_at c.deref-2.result.now ≡ placed given = ap (map name_at) c.deref-2.ensures.value ∙ c.in_ok-names.ensures ∙ ap placed c.deref.ensures.value in
    let named : map (λ (n : NameAt). n.name.now) c.deref-2.result.now ≡ map (λ a. a.name) (instance_view c.args.instance.now).given = sym (map-map (λ (p : List ℕ × ℕ). p.0) name_at c.deref-2.result.now) ∙ ap (map (λ p. p.0)) all ∙ given_names given in
    lacking (IsTwice (map (λ (n : NameAt). n.name.now) c.deref-2.result.now) → ⊥) c.in_ok-first.field-0 c.in_ok-first.ensures.none c.in-None.is (subst IsTwice (sym named) two)
