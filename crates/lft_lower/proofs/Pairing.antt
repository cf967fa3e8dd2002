-- Tokens of pairs of places that are joined.
use Rattle.std.proofs.Common.{◌≡◌, ℕ, zero, suc, ◌+◌, ◌%◌, ◌<◌, inl, inr, min, Bool, true, false, List, [], ◌∷◌, ◌++◌, Some, map, take, length, refl, sym, subst, ◌∙◌, ap, arith, zero-add}
use Rattle.std.specs.Prelude.{slice_get, slice_index}
use Rattle.std.specs.List.{range_with_len}
use Rattle.std.proofs.lemmas.{List.{get_or-take, length-take, take_all, FromFn.map-range_with_len_more}, Nat.mod_below, Option.get_or_from_slice_get}
use Rattle.lft_elaborate.specs.{Channels.Channels.below, inner.Channels.Channels.{joined, left_channel}}
use Rattle.lft_lower.{specs.inner.Standing.{AreSidesAt, pair_tokens, pairs_tokens}, proofs.Joining.{same_joined, same_source}}

-- one more pair
pub tokens_next : (left right delay : List ℕ) (parts : List (List ℕ)) (one : List ℕ) (pair place from to : ℕ) → slice_get left place ≡ Some from → place ≡ left_channel (length left) true pair → slice_get right pair ≡ Some to → one ≡ from ∷ to ∷ delay → parts ≡ map (pair_tokens left right true delay) (below pair) → parts ++ one ∷ [] ≡ map (pair_tokens left right true delay) (below (pair + 1))
tokens_next left right delay parts one pair place from to at_left is at_right made so_far =
    let of_left : from ≡ slice_index left (left_channel (length left) true pair) = sym (get_or_from_slice_get left place from 0 at_left) ∙ ap (slice_index left) is in
    let of_right : to ≡ slice_index right pair = sym (get_or_from_slice_get right pair to 0 at_right) in
    let last : one ≡ pair_tokens left right true delay pair = made ∙ ap (λ t. t ∷ to ∷ delay) of_left ∙ ap (λ t. slice_index left (left_channel (length left) true pair) ∷ t ∷ delay) of_right in
    ap (λ ps. ps ++ one ∷ []) so_far
    ∙ ap (λ t. map (pair_tokens left right true delay) (below pair) ++ t ∷ []) last
    ∙ sym (map-range_with_len_more (pair_tokens left right true delay) 0 pair pair (zero-add pair))

-- ---- sides that are cut

-- the same is made of each number
same_of_each : {X : Type 0} (f g : ℕ → X) (a n : ℕ) → ((k : ℕ) → k < n → f (a + k) ≡ g (a + k)) → map f (range_with_len a n) ≡ map g (range_with_len a n)
same_of_each f g a zero same = refl
same_of_each f g a (suc n) same =
    let first : a + 0 ≡ a = omega arith in
    let here : f a ≡ g a = subst (λ i. f i ≡ g i) first (same 0 (omega arith)) in
    let rest = λ (k : ℕ) (less : k < n). let next : a + suc k ≡ a + 1 + k = omega arith in subst (λ i. f i ≡ g i) next (same (suc k) (omega (arith, less))) in
    ap (λ x. x ∷ map f (range_with_len (a + 1) n)) here ∙ ap (λ xs. g a ∷ xs) (same_of_each f g (a + 1) n rest)

low_source : (left right pairs k : ℕ) (b : Bool) → pairs ≡ joined left right b → k < pairs → left_channel left b k < min pairs left
low_source left right pairs k false all less = omega (arith, all)
low_source zero right pairs k true all less = absurd (omega (arith, all))
low_source (suc l) right pairs k true all less =
    let some : 0 < suc l = omega arith in
    let small : k % suc l < suc l = mod_below k (suc l) some in
    omega (arith, small, less)

-- a pair of the cut lists is one of the whole lists
cut_pair : (left right delay : List ℕ) (b : Bool) (pairs k : ℕ) → pairs ≡ joined (length left) (length right) b → k < pairs → pair_tokens (take (min pairs (length left)) left) (take pairs right) true delay k ≡ pair_tokens left right b delay k
cut_pair left right delay b pairs k all less =
    let most = min pairs (length left) in
    let place = left_channel (length left) b k in
    let same : left_channel (length (take most left)) true k ≡ place = ap (λ l. left_channel l true k) (length-take most left) ∙ same_source (length left) (length right) pairs k b all less in
    let low : place < most = low_source (length left) (length right) pairs k b all less in
    ap (λ t. t ∷ slice_index (take pairs right) k ∷ delay) (ap (slice_index (take most left)) same ∙ get_or-take most left place 0 low)
    ∙ ap (λ t. slice_index left place ∷ t ∷ delay) (get_or-take pairs right k 0 less)

pairs_cut : (left right delay : List ℕ) (b : Bool) (pairs : ℕ) → pairs ≡ joined (length left) (length right) b → pairs_tokens (take (min pairs (length left)) left) (take pairs right) true delay ≡ pairs_tokens left right b delay
pairs_cut left right delay b pairs all =
    let most = min pairs (length left) in
    let f = pair_tokens (take most left) (take pairs right) true delay in
    let count : joined (length (take most left)) (length (take pairs right)) true ≡ pairs = ap (λ l. joined l (length (take pairs right)) true) (length-take most left) ∙ ap (λ r. joined (min most (length left)) r true) (length-take pairs right) ∙ same_joined (length left) (length right) pairs b all in
    let each = λ (k : ℕ) (less : k < pairs). subst (λ i. f i ≡ pair_tokens left right b delay i) (sym (zero-add k)) (cut_pair left right delay b pairs k all less) in
    ap (λ n. map f (below n)) count
    ∙ same_of_each f (pair_tokens left right b delay) 0 pairs each
    ∙ ap (λ n. map (pair_tokens left right b delay) (below n)) all

-- the places of two sides, of which as many are made as are joined
pub record AreCut (left right : List ℕ) (b : Bool) (pairs : ℕ) (ls rs : List ℕ) : Type 0 where
  pub all : pairs ≡ joined (length left) (length right) b
  pub lefts : ls ≡ take (min pairs (length left)) left
  pub rights : rs ≡ take pairs right

-- each pair is a connection of its own
pub sides_each : (left right delay : List ℕ) (b : Bool) (pairs : ℕ) (ls rs : List ℕ) (parts : List (List ℕ)) → AreCut left right b pairs ls rs → parts ≡ pairs_tokens ls rs true delay → AreSidesAt left right b delay parts
sides_each left right delay b pairs ls rs parts cut made = inl (made ∙ ap (λ xs. pairs_tokens xs rs true delay) cut.lefts ∙ ap (λ xs. pairs_tokens (take (min pairs (length left)) left) xs true delay) cut.rights ∙ pairs_cut left right delay b pairs cut.all)

-- one joins them all
pub sides_whole : (left right delay : List ℕ) (b : Bool) (pairs : ℕ) (ls rs : List ℕ) → AreCut left right b pairs ls rs → b ≡ false → length left ≡ length right → AreSidesAt left right b delay ((ls ++ (rs ++ delay)) ∷ [])
sides_whole left right delay b pairs ls rs cut plain same =
    let count : pairs ≡ length left = cut.all ∙ ap (joined (length left) (length right)) plain ∙ (omega (arith, same)) in
    let lefts : ls ≡ left = cut.lefts ∙ take_all (min pairs (length left)) left (omega (arith, count)) in
    let rights : rs ≡ right = cut.rights ∙ take_all pairs right (omega (arith, count, same)) in
    inr (ap (λ xs. (xs ++ (rs ++ delay)) ∷ []) lefts ∙ ap (λ xs. (left ++ (xs ++ delay)) ∷ []) rights)
