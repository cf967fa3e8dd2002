-- The connections that a core program has in place of one are those of its pairs, in order.
use Rattle.std.proofs.Common.{◌≡◌, ℕ, zero, suc, ◌+◌, ◌*◌, ◌/◌, ◌%◌, ◌<◌, ◌≤◌, min, Bool, true, false, List, [], ◌∷◌, ◌++◌, map, Option, Some, slice_get, length, length-append, refl, sym, ap, ◌∙◌, arith}
use Rattle.std.specs.List.{flat_map, zip}
use Rattle.std.proofs.lemmas.{Nat.{div_below, div-add-mod'}, List.{length-map, map-append}, Option.slice_get_within, Slice.Zip.length-zip}
use Rattle.lft_lists.proofs.{Places.{get_left, get_right, same_items}, Mapped.{mapped, pair_at}}
use Rattle.lft_tree.specs.Tree.{RefTree, TimeTree, ConnectionTree}
use Rattle.lft_elaborate.specs.inner.Channels.{Channels.{joined, left_channel}, Lowered.{AreJoinedPlaces, single}}
use Rattle.lft_same.specs.Expanded.Whole.{pairs}

-- a list over and over
pub over_length : {A X : Type 0} (xs : List X) (rs : List A) → length (flat_map (λ r. xs) rs) ≡ length rs * length xs
over_length xs [] = omega arith
over_length xs (r ∷ rs) = let h : length (flat_map (λ r. xs) rs) ≡ length rs * length xs = over_length xs rs in let s = length-append xs (flat_map (λ r. xs) rs) in grind (arith, h, s)

pub over_at : {A X : Type 0} (xs : List X) (rs : List A) (q j k : ℕ) (x : X) → q < length rs → slice_get xs j ≡ Some x → k ≡ q * length xs + j → slice_get (flat_map (λ r. xs) rs) k ≡ Some x
over_at xs [] q j k x l a e = absurd (omega arith)
over_at xs (r ∷ rs) zero j k x l a e =
    let here : k ≡ j = omega arith in
    ap (slice_get (xs ++ flat_map (λ r. xs) rs)) here ∙ get_left xs (flat_map (λ r. xs) rs) j x a
over_at xs (r ∷ rs) (suc q) j k x l a e =
    let there : k ≡ length xs + (q * length xs + j) = grind (arith, e) in
    ap (slice_get (xs ++ flat_map (λ r. xs) rs)) there ∙ get_right xs (flat_map (λ r. xs) rs) (q * length xs + j) ∙ over_at xs rs q j (q * length xs + j) x (omega arith) a refl

-- what stands at a place of a list, in the list over and over
pub over_mod : {A X : Type 0} (xs : List X) (rs : List A) (k : ℕ) (x : X) → k < length rs → slice_get xs (k % length xs) ≡ Some x → slice_get (flat_map (λ r. xs) rs) k ≡ Some x
over_mod [] rs k x l a = absurd (cc)
over_mod {A} {X} (y ∷ xs) rs k x l a =
    let some : 0 < length (y ∷ xs) = omega arith in
    let most : length rs ≤ length rs * length (y ∷ xs) = more (length rs) (length xs) in
    over_at (y ∷ xs) rs (k / length (y ∷ xs)) (k % length (y ∷ xs)) k x (div_below k (length (y ∷ xs)) (length rs) some (omega arith)) a (sym (div-add-mod' k (length (y ∷ xs))))
  where
    more : (m n : ℕ) → m ≤ m * suc n
    more m n = grind arith

-- as many pairs as are joined
pub pairs_length : {X : Type 0} (broadcast : Bool) (left right : List X) → length (pairs broadcast left right) ≡ joined (length left) (length right) broadcast
pairs_length false left right = length-zip left right
pairs_length true [] right = let none : flat_map (λ r. []) right ≡ [] = nothing right in ap (λ l. length (zip l right)) none
  where
    nothing : {A X : Type 0} (rs : List A) → flat_map {A = X} (λ r. []) rs ≡ []
    nothing [] = refl
    nothing (r ∷ rs) = nothing rs
pairs_length {X} true (x ∷ xs) right =
    let n : length (flat_map (λ r. x ∷ xs) right) ≡ length right * length (x ∷ xs) = over_length (x ∷ xs) right in
    let most : length right ≤ length right * length (x ∷ xs) = more (length right) (length xs) in
    let least : min (length (flat_map (λ r. x ∷ xs) right)) (length right) ≡ length right = omega arith in
    length-zip (flat_map (λ r. x ∷ xs) right) right ∙ least ∙ all (length xs) (length right)
  where
    more : (m n : ℕ) → m ≤ m * suc n
    more m n = grind arith

    all : (a n : ℕ) → n ≡ joined (suc a) n true
    all a n = grind arith

-- the pair at a place
pub pairs_at : {X : Type 0} (broadcast : Bool) (left right : List X) (k : ℕ) (from to : X) → slice_get left (left_channel (length left) broadcast k) ≡ Some from → slice_get right k ≡ Some to → slice_get (pairs broadcast left right) k ≡ Some (from, to)
pairs_at false left right k from to a b = pair_at left right k from to a b
pairs_at true left right k from to a b = pair_at (flat_map (λ r. left) right) right k from to (over_mod left right k from (slice_get_within right k to b) a) b

-- connections one by one are those of the pairs, in order
pub joined_pairs : (left right : List RefTree) (broadcast : Bool) (delay : Option TimeTree) (cs : List ConnectionTree) → AreJoinedPlaces left right broadcast delay cs → cs ≡ map (λ p. single delay p.0 p.1) (pairs broadcast left right)
joined_pairs left right broadcast delay cs joins = same_items cs made long same
  where
    made : List ConnectionTree
    made = map (λ p. single delay p.0 p.1) (pairs broadcast left right)

    long : length cs ≡ length made
    long = joins.0 ∙ sym (pairs_length broadcast left right) ∙ sym (length-map (pairs broadcast left right) (λ p. single delay p.0 p.1))

    same : (k : ℕ) (x y : ConnectionTree) → slice_get cs k ≡ Some x → slice_get made k ≡ Some y → x ≡ y
    same k x y a b =
        let j = joins.1 k (slice_get_within cs k x a) in
        let p : slice_get (pairs broadcast left right) k ≡ Some (j.0, j.1) = pairs_at broadcast left right k j.0 j.1 j.2 j.3 in
        let m : slice_get made k ≡ Some (single delay j.0 j.1) = mapped (λ p. single delay p.0 p.1) (pairs broadcast left right) k (j.0, j.1) p in
        let s : slice_get cs k ≡ Some (single delay j.0 j.1) = j.4 in
        cc

-- pairs of other things
zip_map : {X Y : Type 0} (f : X → Y) (xs ys : List X) → zip (map f xs) (map f ys) ≡ map (λ p. (f p.0, f p.1)) (zip xs ys)
zip_map f [] ys = refl
zip_map f (x ∷ xs) [] = refl
zip_map f (x ∷ xs) (y ∷ ys) = ap (λ r. (f x, f y) ∷ r) (zip_map f xs ys)

over_map : {X Y : Type 0} (f : X → Y) (left right : List X) → flat_map (λ (r : Y). map f left) (map f right) ≡ map f (flat_map (λ (r : X). left) right)
over_map f left [] = refl
over_map f left (r ∷ right) = ap (λ rest. map f left ++ rest) (over_map f left right) ∙ sym (map-append f left (flat_map (λ r. left) right))

pub pairs_map : {X Y : Type 0} (f : X → Y) (broadcast : Bool) (left right : List X) → pairs broadcast (map f left) (map f right) ≡ map (λ p. (f p.0, f p.1)) (pairs broadcast left right)
pairs_map f false left right = zip_map f left right
pairs_map f true left right = ap (λ l. zip l (map f right)) (over_map f left right) ∙ zip_map f (flat_map (λ r. left) right) right
