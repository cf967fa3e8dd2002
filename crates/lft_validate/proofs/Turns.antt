-- What an answer says that found something, or found none.
use Rattle.std.proofs.Common.{◌≡◌, ℕ, zero, suc, ◌<◌, ◌≤◌, List, [], ◌∷◌, Option, Some, None, Result, Ok, Err, IfOk, IfNone, IfSome, IsSomeAnd, Any, length, map, get_or, slice_get, sym, ap, subst, ◌∙◌, arith}
use Rattle.lft_lists.proofs.Mapped.{mapped_at}
use Rattle.std.{specs.List.AllZip, proofs.lemmas.Option.slice_get-get_or}
use Rattle.lft_tree.specs.Tree.{ReactorTree}
use Rattle.lft_resolve.{specs.{inner.Tables.IsOwn, declared.own.Own.Own}, proofs.{Directed.AllZip-to, Twice.at-Any}}

-- what is so at a place is so of the item there
pub so_at : {A C : Type 0} (v : C → A) (P : A → Type 0) (xs : List C) (i : ℕ) (x : C) → i < length xs → get_or xs i x ≡ x → IsSomeAnd (slice_get (map v xs) i) P → P (v x)
so_at v P xs i x within is so = subst (λ o. IsSomeAnd o P) (mapped_at v xs i x within is) so

-- nothing is so past the end
pub none_past : {A C : Type 0} (v : C → A) (P : A → Type 0) (xs : List C) (i : ℕ) → length xs ≤ i → IsSomeAnd (slice_get (map v xs) i) P → ⊥
none_past v P [] i past so = so
none_past v P (x ∷ xs) zero past so = absurd (omega arith)
none_past v P (x ∷ xs) (suc i) past so = none_past v P xs i (omega arith) so

-- what some element has, the one at some place has
pub some_place : {A : Type 0} (P : A → Type 0) (xs : List A) → Any P xs → (i : ℕ) × IsSomeAnd (slice_get xs i) P
some_place P xs a = let at = at-Any P xs a in (at.0, subst (λ o. IsSomeAnd o P) (sym at.2) at.3)

-- what follows from what an answer says is said of it too
pub weaker : {X E : Type 0} (P Q : X → Type 0) (r : Result X E) → ((x : X) → P x → Q x) → IfOk r P → IfOk r Q
weaker P Q (Ok x) follows p = follows x p
weaker P Q (Err e) follows p = p

pub some_weaker : {X : Type 0} (P Q : X → Type 0) (o : Option X) → ((x : X) → P x → Q x) → IfSome o P → IfSome o Q
some_weaker P Q None follows p = p
some_weaker P Q (Some x) follows p = follows x p

-- two things that an answer says
pub both : {X E : Type 0} (P Q : X → Type 0) (r : Result X E) → IfOk r P → IfOk r Q → IfOk r (λ x. P x × Q x)
both P Q (Ok x) p q = (p, q)
both P Q (Err e) p q = p

pub none_both : {X : Type 0} (P Q : Type 0) (o : Option X) → IfNone o P → IfNone o Q → IfNone o (P × Q)
none_both P Q None p q = (p, q)
none_both P Q (Some x) p q = p

-- the table of the reactor at a place
pub own_at : (rs : List ReactorTree) (owns : List Own) (k : ℕ) (r : ReactorTree) (own : Own) → AllZip IsOwn rs owns → slice_get rs k ≡ Some r → k < length owns → get_or owns k own ≡ own → IsOwn r own
own_at rs owns k r own all at within is =
    let there = AllZip-to IsOwn rs owns all k r at in
    let same : there.0 ≡ own = (let e : Some there.0 ≡ Some own = sym there.1 ∙ slice_get-get_or owns k own within ∙ ap Some is in cc) in
    subst (IsOwn r) same there.2
