use Rattle.std.proofs.Common.{◌≡◌, ◌+◌, ◌≤◌, ◌<◌, length, List, [], ◌∷◌, ◌++◌, refl, sym, ap, ◌∙◌, subst, arith, Some, length-append}
use Rattle.lft_resolve.specs.{declared.expansion.walk.{Instance.Instance, Frame.Frame}, inner.Expansion.Contents.contained}
use Rattle.lft_resolve.proofs.ExpansionLemmas.Walks.{Walking, walking_start, walking_pop, walking_make, walking_end, walking_more, root_instance, root_frame}
use Rattle.lft_resolve.proofs.ExpansionLemmas.Limits.{walk_not_more}
use Rattle.lft_resolve.proofs.expansion.walk.all_instances.Goals as goal

nil_of : {X : Type 0} (xs : List X) → length xs ≡ 0 → xs ≡ []
nil_of [] e = refl
nil_of (x ∷ xs) e = absurd (omega arith)

pub walk-init : goal.walk-init
walk-init c =
    let a : c.push.new.self.items ≡ root_instance c.args.main ∷ [] = c.in_ok-push.ensures.items ∙ ap (λ l. l ++ root_instance c.args.main ∷ []) c.new-made.ensures.items in
    let b : c.push-2.new.self.items ≡ root_frame c.args.main ∷ [] = c.in_ok-push-2.ensures.items ∙ ap (λ l. l ++ root_frame c.args.main ∷ []) c.new-open.ensures.items in
    let n : length c.push.new.self.items ≡ 1 = ap length a in
    rw (a, b) (walking_start c.args.reactors.now c.args.main, omega arith)

pub returns-then-len-ge-MAX_INSTANCES-clause-too_many : goal.returns-then-len-ge-MAX_INSTANCES-clause-too_many
returns-then-len-ge-MAX_INSTANCES-clause-too_many c _ =
    let top : Frame = c.in-Some.top in
    let w : Walking c.args.reactors.now c.args.main c.walk.made.items (c.pop.new.self.items ++ top ∷ []) = subst (λ l. Walking c.args.reactors.now c.args.main c.walk.made.items l) c.in-Some.ensures.items c.walk.invariant.0 in
    let e : contained c.args.reactors.now top.reactor top.next ≡ Some c.in-Some-child.reactor = sym c.child.ensures.value ∙ c.in-Some-child.is in
    let m : Instance = record { reactor = c.in-Some-child.reactor; parent = top.number; place = top.next } in
    let z : c.len.result ≡ length c.walk.made.items = c.len.ensures ∙ c.walk.made.ok.0 in
    let y : 10000 ≤ c.len.result = c.if-len-ge-MAX_INSTANCES.true in
    let full : 10000 ≤ length c.walk.made.items = omega arith in
    let n : length (c.walk.made.items ++ m ∷ []) ≡ length c.walk.made.items + 1 = length-append c.walk.made.items (m ∷ []) in
    walking_more c.args.reactors.now c.args.main (c.walk.made.items ++ m ∷ []) _ 10000
    (walking_make c.args.reactors.now c.args.main c.walk.made.items c.pop.new.self.items top _ _ m w e refl refl refl refl) (omega arith)

pub walk-preserved-in-Continue-branch-5 : goal.walk-preserved-in-Continue-branch-5
walk-preserved-in-Continue-branch-5 c =
    let top : Frame = c.in-Some.top in
    let w : Walking c.args.reactors.now c.args.main c.walk.made.items (c.pop.new.self.items ++ top ∷ []) = subst (λ l. Walking c.args.reactors.now c.args.main c.walk.made.items l) c.in-Some.ensures.items c.walk.invariant.0 in
    let e : contained c.args.reactors.now top.reactor top.next ≡ Some c.in-Some-child.reactor = sym c.child.ensures.value ∙ c.in-Some-child.is in
    let m : Instance = record { reactor = c.in-Some-child.reactor; parent = top.number; place = top.next } in
    let again : Frame = record { number = top.number; reactor = top.reactor; next = top.next + 1 } in
    let inner : Frame = record { number = c.len-number.result; reactor = c.in-Some-child.reactor; next = 0 } in
    let a : c.push-in-Some-child.new.self.items ≡ c.walk.made.items ++ m ∷ [] = c.in_ok-push-3.ensures.items in
    let b : c.push-in-Some-child-3.new.self.items ≡ (c.pop.new.self.items ++ again ∷ []) ++ inner ∷ [] = c.in_ok-push-5.ensures.items ∙ ap (λ l. l ++ inner ∷ []) c.in_ok-push-4.ensures.items in
    let f : c.len-number.result ≡ length c.walk.made.items = c.len-number.ensures ∙ c.walk.made.ok.0 in
    let z : c.len.result ≡ length c.walk.made.items = c.len.ensures ∙ c.walk.made.ok.0 in
    let y : c.len.result < 10000 = c.if-len-ge-MAX_INSTANCES.false in
    let few : length c.walk.made.items < 10000 = omega arith in
    let n : length (c.walk.made.items ++ m ∷ []) ≡ length c.walk.made.items + 1 = length-append c.walk.made.items (m ∷ []) in
    rw (a, b) (walking_make c.args.reactors.now c.args.main c.walk.made.items c.pop.new.self.items top again inner m w e refl refl refl (ap (λ k. record { number = k; reactor = c.in-Some-child.reactor; next = 0 }) f), omega arith)

pub walk-preserved : goal.walk-preserved
walk-preserved c =
    let top : Frame = c.in-Some.top in
    let w : Walking c.args.reactors.now c.args.main c.walk.made.items (c.pop.new.self.items ++ top ∷ []) = subst (λ l. Walking c.args.reactors.now c.args.main c.walk.made.items l) c.in-Some.ensures.items c.walk.invariant.0 in
    (walking_pop c.args.reactors.now c.args.main c.walk.made.items c.pop.new.self.items top w (sym c.child.ensures.value ∙ c.in_default-child.is), c.walk.invariant.1)

pub returns-clause-made : goal.returns-clause-made
returns-clause-made c =
    let e : c.walk.open.items ≡ [] = nil_of c.walk.open.items (sym c.walk.open.ok.0 ∙ c.in_default.ensures.cases.0) in
    (walking_end c.args.reactors.now c.args.main c.walk.made.items (subst (λ l. Walking c.args.reactors.now c.args.main c.walk.made.items l) e c.walk.invariant.0), c.walk.invariant.1)

pub returns-clause-within : goal.returns-clause-within
returns-clause-within c =
    let e : c.walk.open.items ≡ [] = nil_of c.walk.open.items (sym c.walk.open.ok.0 ∙ c.in_default.ensures.cases.0) in
    walk_not_more c.args.reactors.now c.args.main c.walk.made.items (walking_end c.args.reactors.now c.args.main c.walk.made.items (subst (λ l. Walking c.args.reactors.now c.args.main c.walk.made.items l) e c.walk.invariant.0)) c.walk.invariant.1
