-- Lists of parts of a tree, and what is so of the trees of the parts.
use Rattle.std.proofs.Common.{◌≡◌, ℕ, ◌+◌, ◌<◌, ◌≤◌, List, [], ◌∷◌, map, filter_map, take, length, get_or, Option, Some, None, Bor, Any, Contains, IsSome, IsSomeAnd, ⊎_elim, refl, sym, ap, subst, ◌∙◌, arith}
use Rattle.std.proofs.lemmas.{Grind.common_steps, Option.{get_or_from_slice_get, slice_get_within}, Simd.map-map}
use Rattle.lft_tree.specs.{Tree.{MemberTree, reactors_of}, View.{file_view, member_view, reactor_view, ref_view}}
use Rattle.lft_tree.specs.declared.tree.{Item.Item, Member.Member, Reference.Reference, TokenRange.TokenRange}
use Rattle.lft_lists.proofs.{Mapped.{mapped, mapped_at, mapped_from}, Picked.take_one_more}
use Rattle.lft_resolve.specs.{Causes.IsTwice, inner.References.ref_trees}
use Rattle.lft_resolve.proofs.{Somes.{Any-nil, Any-head, Any-tail, Any-cases, Any-append_cases, picked, unpicked}, Lacking.Any-map}
use Rattle.lft_validate.specs.{Findings.StandsTwice, Members.reactors_among, inner.Members.{IsTwiceAt, behind}}
use Rattle.lft_tree.specs.declared.tree.Item.TheVariants as items

pub unmapped : {X Y : Type 0} (P : Y → Type 0) (f : X → Y) (xs : List X) → Any P (map f xs) → Any (λ x. P (f x)) xs
unmapped P f [] a = absurd (Any-nil P a)
unmapped P f (x ∷ xs) a = ⊎_elim (λ p. Any-head (λ y. P (f y)) x xs p) (λ r. Any-tail (λ y. P (f y)) x xs (unmapped P f xs r)) (Any-cases P (f x) (map f xs) a)

-- the item at an index stands in the list
pub stands_at : {X Y : Type 0} (f : X → Y) (xs : List X) (i : ℕ) (x : X) → i < length xs → get_or xs i x ≡ x → Contains (map f xs) (f x)
stands_at f xs i x within is = let at = mapped_at f xs i x within is in (i, slice_get_within (map f xs) i (f x) at, get_or_from_slice_get (map f xs) i (f x) (f x) at)

-- what is so of an item that stands in the list is so of some
pub some_in : {X : Type 0} (P : X → Type 0) (xs : List X) (x : X) → Contains xs x → P x → Any P xs
some_in P xs x (k, within, is) p = (k, x, within, is, p)

-- what stands twice
pub twice_of : {X Y : Type 0} (called : X → Y) (xs : List X) (a b : X) → StandsTwice called xs a b → IsTwice (map called xs)
twice_of called xs a b ((i, j, lt, first, second), same) = (i, j, called b, lt, mapped called xs i a first ∙ ap Some same, mapped called xs j b second)

pub stand_twice : {X Y Z : Type 0} (v : X → Y) (called : Y → Z) (xs : List X) (i j : ℕ) (a b : X) → IsTwiceAt (map (λ x. called (v x)) xs) i j → get_or xs i a ≡ a → get_or xs j b ≡ b → StandsTwice called (map v xs) (v a) (v b)
stand_twice v called xs i j a b (y, lt, first, second) is_a is_b =
    let one = mapped_from (λ x. called (v x)) xs i y first in
    let other = mapped_from (λ x. called (v x)) xs j y second in
    let at_a = mapped_at v xs i a (slice_get_within xs i one.0 one.1) is_a in
    let at_b = mapped_at v xs j b (slice_get_within xs j other.0 other.1) is_b in
    let first_is : one.0 ≡ a = sym (get_or_from_slice_get xs i one.0 a one.1) ∙ is_a in
    let second_is : other.0 ≡ b = sym (get_or_from_slice_get xs j other.0 b other.1) ∙ is_b in
    ((i, j, lt, at_a, at_b), ap (λ x. called (v x)) (sym first_is) ∙ one.2 ∙ sym other.2 ∙ ap (λ x. called (v x)) second_is)

-- the places of two that stand twice are in the list
pub within_twice : {X Y : Type 0} (f : X → Y) (xs : List X) (i j : ℕ) → IsTwiceAt (map f xs) i j → (i < length xs) × (j < length xs)
within_twice f xs i j (y, lt, first, second) = let one = mapped_from f xs i y first in let other = mapped_from f xs j y second in (slice_get_within xs i one.0 one.1, slice_get_within xs j other.0 other.1)

-- the trees of the names behind references
pub trees_of : (xs : List (Bor Reference)) → ref_trees xs ≡ map ref_view (behind xs)
trees_of xs = sym (map-map ref_view (λ (r : Bor Reference). r.now) xs)

-- the members whose trees are of one kind
module _ {Y : Type 0} (h : MemberTree → Option Y) (P : Y → Type 0) (ms : List Member) where
  pub of_kind : Any P (filter_map h (map member_view ms)) → Any (λ m. IsSomeAnd (h (member_view m)) P) ms
  of_kind a = unmapped (λ t. IsSomeAnd (h t) P) member_view ms (unpicked h P (map member_view ms) a)

  pub to_kind : Any (λ m. IsSomeAnd (h (member_view m)) P) ms → Any P (filter_map h (map member_view ms))
  to_kind a = picked h P (map member_view ms) (Any-map (λ t. IsSomeAnd (h t) P) member_view ms a)

-- what is so of the item at an index is so of some
pub some_at : {X : Type 0} (P : X → Type 0) (xs : List X) (i : ℕ) (x : X) → i < length xs → get_or xs i x ≡ x → P x → Any P xs
some_at P xs i x within is p = (i, x, within, is, p)

-- all of a list
pub take_all : {X : Type 0} (xs : List X) (i : ℕ) → length xs ≤ i → take i xs ≡ xs
take_all xs i past = grind (arith, common_steps)

-- one turn of a loop that looks for an item, and its end
module _ {X : Type 0} (P : X → Type 0) (xs : List X) (i : ℕ) where
  pub none_next : (x : X) → i < length xs → get_or xs i x ≡ x → (Any P (take i xs) → ⊥) → (P x → ⊥) → Any P (take (i + 1) xs) → ⊥
  none_next x within is none here a = ⊎_elim none (λ b. ⊎_elim here (Any-nil P) (Any-cases P x [] b)) (Any-append_cases P (take i xs) (x ∷ []) (subst (Any P) (take_one_more xs i x within is) a))

  pub none_all : length xs ≤ i → (Any P (take i xs) → ⊥) → Any P xs → ⊥
  none_all past none a = none (subst (Any P) (sym (take_all xs i past)) a)

-- the trees of the reactors of a file
pub trees_among : (target : Option TokenRange) (parts : List Item) → reactors_of (file_view target parts) ≡ map reactor_view (reactors_among parts)
trees_among target [] = refl
trees_among target (items.Reactor r ∷ parts) = ap (λ ts. reactor_view r ∷ ts) (trees_among target parts)
trees_among target (items.Preamble r ∷ parts) = trees_among target parts

-- what is there isn't none
pub there : {X : Type 0} (o : Option X) → IsSome o → o ≡ None → ⊥
there None some none = absurd (cc)
there (Some x) some none = absurd (cc)
