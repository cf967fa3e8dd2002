use Rattle.std.proofs.Common.{List, ◌∷◌, inl, inr, refl, sym, subst}
use Rattle.lft_tree.specs.Tree.{ReactorTree, reactors_of}
use Rattle.lft_resolve.specs.{Causes.{RecursiveReactor, first_causes, later_causes}, inner.Numbers.AreContents}
use Rattle.lft_validate.{specs.{Members.reactors_among, inner.Witnesses.IsCircle}, proofs.Sound.{first_shown, none_shown}}
use Rattle.lft_lists.proofs.Options.{found, lacking}
use Rattle.lft_program.proofs.Firsts.{IsFirst-left, IsFirst-right, NoneHolds-both}
use Rattle.lft_program.proofs.flattening.checked_contents.Goals as goal

pub returns-in-Some-clause-first : goal.returns-in-Some-clause-first
returns-in-Some-clause-first c _ =
    let rs = reactors_of c.args.scopes.now in
    IsFirst-left (first_causes rs) ((5, RecursiveReactor rs) ∷ later_causes rs) _ (first_shown (reactors_among c.args.ast.now.items.items) (first_causes rs) c.in_ok-witness.field-0 c.in-Some.witness c.in_ok-witness.ensures c.in-Some.is).1

pub returns-in-Some-clause-tells : goal.returns-in-Some-clause-tells
returns-in-Some-clause-tells c =
    let rs = reactors_of c.args.scopes.now in
    (first_shown (reactors_among c.args.ast.now.items.items) (first_causes rs) c.in_ok-witness.field-0 c.in-Some.witness c.in_ok-witness.ensures c.in-Some.is).0

pub known_contents-requires : goal.known_contents-requires
known_contents-requires c =
    let rs = reactors_of c.args.scopes.now in
    none_shown (reactors_among c.args.ast.now.items.items) (first_causes rs) c.in_ok-witness.field-0 c.in_ok-witness.ensures c.in_default.is

pub returns-in-Some-2-clause-first : goal.returns-in-Some-2-clause-first
returns-in-Some-2-clause-first c _ =
    let rs = reactors_of c.args.scopes.now in
    let none = none_shown (reactors_among c.args.ast.now.items.items) (first_causes rs) c.in_ok-witness.field-0 c.in_ok-witness.ensures c.in_default.is in
    let are = subst (AreContents rs) (sym c.deref.ensures.value) c.in_ok-contents.ensures in
    let recursive = found (λ _. (rs : List ReactorTree) → AreContents rs c.deref.result.now → RecursiveReactor rs) c.in_ok-circle.field-0 c.in-Some-2.circle c.in_ok-circle.ensures.some c.in-Some-2.is in
    IsFirst-right (first_causes rs) ((5, RecursiveReactor rs) ∷ later_causes rs) 5 none (inl (refl, recursive rs are))

pub returns-in-Some-2-clause-tells : goal.returns-in-Some-2-clause-tells
returns-in-Some-2-clause-tells c =
    let rs = reactors_of c.args.scopes.now in
    let are = subst (AreContents rs) (sym c.deref.ensures.value) c.in_ok-contents.ensures in
    subst (λ t. IsCircle (reactors_of t) c.in-Some-2.circle.items) c.requires (found (λ v. (rs : List ReactorTree) → AreContents rs c.deref.result.now → IsCircle rs v.items) c.in_ok-circle.field-0 c.in-Some-2.circle c.in_ok-circle.ensures.circle c.in-Some-2.is rs are)

pub returns-in-Some-3-clause-first : goal.returns-in-Some-3-clause-first
returns-in-Some-3-clause-first c _ =
    let rs = reactors_of c.args.scopes.now in
    let none = none_shown (reactors_among c.args.ast.now.items.items) (first_causes rs) c.in_ok-witness.field-0 c.in_ok-witness.ensures c.in_default.is in
    let are = subst (AreContents rs) (sym c.deref.ensures.value) c.in_ok-contents.ensures in
    let not_recursive = lacking ((rs : List ReactorTree) → AreContents rs c.deref.result.now → RecursiveReactor rs → ⊥) c.in_ok-circle.field-0 c.in_ok-circle.ensures.none c.in_default-2.is in
    let later = first_shown (reactors_among c.args.ast.now.items.items) (later_causes rs) c.in_ok-witness-2.field-0 c.in-Some-3.witness c.in_ok-witness-2.ensures c.in-Some-3.is in
    IsFirst-right (first_causes rs) ((5, RecursiveReactor rs) ∷ later_causes rs) _ none (inr (not_recursive rs are, later.1))

pub returns-in-Some-3-clause-tells : goal.returns-in-Some-3-clause-tells
returns-in-Some-3-clause-tells c =
    let rs = reactors_of c.args.scopes.now in
    (first_shown (reactors_among c.args.ast.now.items.items) (later_causes rs) c.in_ok-witness-2.field-0 c.in-Some-3.witness c.in_ok-witness-2.ensures c.in-Some-3.is).0

pub returns-clause-none : goal.returns-clause-none
returns-clause-none c =
    let rs = reactors_of c.args.scopes.now in
    let none = none_shown (reactors_among c.args.ast.now.items.items) (first_causes rs) c.in_ok-witness.field-0 c.in_ok-witness.ensures c.in_default.is in
    let are = subst (AreContents rs) (sym c.deref.ensures.value) c.in_ok-contents.ensures in
    let not_recursive = lacking ((rs : List ReactorTree) → AreContents rs c.deref.result.now → RecursiveReactor rs → ⊥) c.in_ok-circle.field-0 c.in_ok-circle.ensures.none c.in_default-2.is in
    let later = none_shown (reactors_among c.args.ast.now.items.items) (later_causes rs) c.in_ok-witness-2.field-0 c.in_ok-witness-2.ensures c.in_default-3.is in
    NoneHolds-both (first_causes rs) ((5, RecursiveReactor rs) ∷ later_causes rs) none (not_recursive rs are, later)
