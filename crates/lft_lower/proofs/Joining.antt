-- Pairs of places that are joined.
use Rattle.std.proofs.Common.{◌≡◌, ℕ, zero, suc, ◌+◌, ◌%◌, ◌<◌, ◌≤◌, inl, inr, min, Bool, true, false, List, [], ◌∷◌, ◌++◌, Option, Some, map, take, length, refl, sym, subst, ◌∙◌, ap, arith, append_assoc}
use Rattle.std.specs.Prelude.{slice_get}
use Rattle.std.proofs.{Math.Nat.{eq-or-lt_of_le, mod-eq_of_lt}, lemmas.List.{length_push, length-take, map-append, take_all}}
use Rattle.lft_lower.{specs.inner.Lowered.{AreConnected, AreEach, each_pair, whole}, proofs.MeaningsLemmas.Growing.either}
use Rattle.lft_lists.proofs.Places.{get_last, get_push}
use Rattle.lft_tree.specs.Tree.{TimeTree, RefTree, ConnectionTree, ConnectionMember, MemberTree}
use Rattle.lft_elaborate.specs.inner.Channels.{Channels.{joined, left_channel}, Lowered.{AreJoinedPlaces, single}}

-- this connection joins the place of this number on the right
abbrev pub Joins : List RefTree → List RefTree → Bool → Option TimeTree → List ConnectionTree → ℕ → Type 0
Joins left right b delay cs k = (from : RefTree) × (to : RefTree) × (slice_get left (left_channel (length left) b k) ≡ Some from) × (slice_get right k ≡ Some to) × (slice_get cs k ≡ Some (single delay from to))

-- the first of them are
pub record ArePairs (left right : List RefTree) (b : Bool) (delay : Option TimeTree) (n : ℕ) (cs : List ConnectionTree) : Type 0 where
  pub many : length cs ≡ n
  pub each : (k : ℕ) → k < n → Joins left right b delay cs k

pub pairs_none : (left right : List RefTree) (b : Bool) (delay : Option TimeTree) → ArePairs left right b delay 0 []
pairs_none left right b delay = record { many = refl; each = λ k less. absurd (omega arith) }

still : (left right : List RefTree) (b : Bool) (delay : Option TimeTree) (cs : List ConnectionTree) (c : ConnectionTree) (k : ℕ) → Joins left right b delay cs k → Joins left right b delay (cs ++ c ∷ []) k
still left right b delay cs c k (from, to, at_left, at_right, at) = (from, to, at_left, at_right, get_push cs c k (single delay from to) at)

-- one more
pub pairs_more : (left right : List RefTree) (b : Bool) (delay : Option TimeTree) (n : ℕ) (cs : List ConnectionTree) (from to : RefTree) → ArePairs left right b delay n cs → slice_get left (left_channel (length left) b n) ≡ Some from → slice_get right n ≡ Some to → ArePairs left right b delay (n + 1) (cs ++ single delay from to ∷ [])
pairs_more left right b delay n cs from to pairs at_left at_right = record {
  many = length_push cs (single delay from to) ∙ (omega (arith, pairs.many));
  each = λ k less. let low : k ≤ n = omega arith in elim (eq-or-lt_of_le low) [
    | inl same ↦ subst (Joins left right b delay (cs ++ single delay from to ∷ [])) (sym same) (from, to, at_left, at_right, subst (λ m. slice_get (cs ++ single delay from to ∷ []) m ≡ Some (single delay from to)) pairs.many (get_last cs (single delay from to)))
    | inr before ↦ still left right b delay cs (single delay from to) k (pairs.each k before)
  ];
}

-- all of them
pub pairs_all : (left right : List RefTree) (b : Bool) (delay : Option TimeTree) (n : ℕ) (cs : List ConnectionTree) → n ≡ joined (length left) (length right) b → ArePairs left right b delay n cs → AreJoinedPlaces left right b delay cs
pairs_all left right b delay n cs all pairs = (pairs.many ∙ all, λ k less. pairs.each k (subst (λ m. k < m) pairs.many less))

-- ---- sides that are cut

take_at : {X : Type 0} (xs : List X) (n k : ℕ) (x : X) → slice_get (take n xs) k ≡ Some x → slice_get xs k ≡ Some x
take_at [] zero k x at = at
take_at [] (suc n) k x at = at
take_at (y ∷ ys) zero k x at = absurd (cc)
take_at (y ∷ ys) (suc n) zero x at = at
take_at (y ∷ ys) (suc n) (suc k) x at = take_at ys n k x at

-- of one of the cut lists of places, the pair is one of the whole lists
uncut : (left right : List RefTree) (delay : Option TimeTree) (cs : List ConnectionTree) (most pairs i k : ℕ) (b : Bool) → left_channel (length (take most left)) true k ≡ i → left_channel (length left) b k ≡ i → Joins (take most left) (take pairs right) true delay cs k → Joins left right b delay cs k
uncut left right delay cs most pairs i k b short long (from, to, at_left, at_right, at) = (
  from,
  to,
  ap (slice_get left) long ∙ take_at left most i from (sym (ap (slice_get (take most left)) short) ∙ at_left),
  take_at right pairs k to at_right,
  at,
)

joined_wide : (l right : ℕ) → joined (suc l) right true ≡ right
joined_wide l right = grind arith

-- each pair has a place on the right
pub joined_low : (l right k : ℕ) → k < joined l right true → k < right
joined_low zero right k less = absurd (omega (arith, less))
joined_low (suc l) right k less = subst (λ n. k < n) (joined_wide l right) less

-- which place on the left stands for a pair
pub same_source : (left right pairs k : ℕ) (b : Bool) → pairs ≡ joined left right b → k < pairs → left_channel (min (min pairs left) left) true k ≡ left_channel left b k
same_source left right pairs k false all less =
    let few : min (min pairs left) left ≡ pairs = omega (arith, all) in
    ap (λ m. k % m) few ∙ mod-eq_of_lt less
same_source zero right pairs k true all less = absurd (omega (arith, all))
same_source (suc l) right pairs k true all less =
    let wide : pairs ≡ right = all ∙ joined_wide l right in
    elim (either right (suc l)) [
      | inl few ↦
          let short : min (min pairs (suc l)) (suc l) ≡ pairs = omega (arith, wide) in
          let low : k < suc l = omega (arith, wide) in
          ap (λ m. k % m) short ∙ mod-eq_of_lt less ∙ sym (mod-eq_of_lt low)
      | inr many ↦
          let full : min (min pairs (suc l)) (suc l) ≡ suc l = omega (arith, wide) in
          ap (λ m. k % m) full
    ]

-- so many are joined of the cut lists
pub same_joined : (left right pairs : ℕ) (b : Bool) → pairs ≡ joined left right b → joined (min (min pairs left) left) (min pairs right) true ≡ pairs
same_joined left right zero b all = ap (λ l. joined l (min 0 right) true) (let empty : min (min 0 left) left ≡ 0 = omega arith in empty)
same_joined zero right (suc p) false all = absurd (omega (arith, all))
same_joined zero right (suc p) true all = absurd (omega (arith, all))
same_joined (suc l) right (suc p) false all =
    let some : min (min (suc p) (suc l)) (suc l) ≡ suc (min p l) = omega arith in
    let far : min (suc p) right ≡ suc p = omega (arith, all) in
    ap (λ l. joined l (min (suc p) right) true) some ∙ joined_wide (min p l) (min (suc p) right) ∙ far
same_joined (suc l) right (suc p) true all =
    let wide : suc p ≡ right = all ∙ joined_wide l right in
    let some : min (min (suc p) (suc l)) (suc l) ≡ suc (min p l) = omega arith in
    let far : min (suc p) right ≡ suc p = omega (arith, wide) in
    ap (λ l. joined l (min (suc p) right) true) some ∙ joined_wide (min p l) (min (suc p) right) ∙ far

-- the pairs of the cut lists are those of the whole ones
pub whole_pairs : (left right : List RefTree) (b : Bool) (delay : Option TimeTree) (pairs : ℕ) (cs : List ConnectionTree) → pairs ≡ joined (length left) (length right) b → AreJoinedPlaces (take (min pairs (length left)) left) (take pairs right) true delay cs → AreJoinedPlaces left right b delay cs
whole_pairs left right b delay pairs cs all (many, each) =
    let most = min pairs (length left) in
    let short : length (take most left) ≡ min most (length left) = length-take most left in
    let far : length (take pairs right) ≡ min pairs (length right) = length-take pairs right in
    let count : length cs ≡ pairs = many ∙ ap (λ l. joined l (length (take pairs right)) true) short ∙ ap (λ r. joined (min most (length left)) r true) far ∙ same_joined (length left) (length right) pairs b all in (
      count ∙ all,
      λ k less.
          let low : k < pairs = subst (λ m. k < m) count less in
          uncut left right delay cs most pairs (left_channel (length left) b k) k b (ap (λ l. left_channel l true k) short ∙ same_source (length left) (length right) pairs k b all low) refl (each k less),
    )

-- connections of the cut lists, each of one pair, are those of the whole ones
pub connected_pairs : (left right : List RefTree) (b : Bool) (delay : Option TimeTree) (l r pairs most : ℕ) (ls rs : List RefTree) (ms : List MemberTree) → l ≡ length left → r ≡ length right → pairs ≡ joined l r b → most ≡ min pairs l → ls ≡ take most left → rs ≡ take pairs right → AreEach ls rs true delay ms → AreConnected left right b delay ms
connected_pairs left right b delay l r pairs most ls rs ms many far all cut lefts rights (cs, pairs_are, made) =
    let all_joined : pairs ≡ joined (length left) (length right) b = all ∙ ap (λ n. joined n r b) many ∙ ap (λ n. joined (length left) n b) far in
    let lefts_are : ls ≡ take (min pairs (length left)) left = lefts ∙ ap (λ n. take n left) (cut ∙ ap (min pairs) many) in
    let short : AreJoinedPlaces (take (min pairs (length left)) left) (take pairs right) true delay cs = subst (λ xs. AreJoinedPlaces xs (take pairs right) true delay cs) lefts_are (subst (λ xs. AreJoinedPlaces ls xs true delay cs) rights pairs_are) in
    each_pair ms (cs, whole_pairs left right b delay pairs cs all_joined short, made)

-- one connection of all places, where there are as many on each side
pub connected_whole : (left right : List RefTree) (b : Bool) (delay : Option TimeTree) (l r pairs most : ℕ) (ls rs : List RefTree) → l ≡ length left → r ≡ length right → pairs ≡ joined l r b → most ≡ min pairs l → ls ≡ take most left → rs ≡ take pairs right → b ≡ false → l ≡ r → AreConnected left right b delay (ConnectionMember (record { sources = ls; destinations = rs; delay = delay }) ∷ [])
connected_whole left right b delay l r pairs most ls rs many far all cut lefts rights plain same =
    let count : pairs ≡ l = all ∙ ap (joined l r) plain ∙ (omega (arith, same)) in
    let lefts_are : ls ≡ left = lefts ∙ take_all most left (omega (arith, many, cut, count)) in
    let rights_are : rs ≡ right = rights ∙ take_all pairs right (omega (arith, far, count, same)) in
    subst (λ xs. AreConnected left right b delay (ConnectionMember (record { sources = xs; destinations = rs; delay = delay }) ∷ [])) (sym lefts_are) (subst (λ ys. AreConnected left right b delay (ConnectionMember (record { sources = left; destinations = ys; delay = delay }) ∷ [])) (sym rights_are) (whole plain (sym many ∙ same ∙ far)))

-- one more connection stands behind the others
pub added_next : {X : Type 0} (view : X → MemberTree) (items now : List X) (x : X) (start : List MemberTree) (cs : List ConnectionTree) (c : ConnectionTree) → now ≡ items ++ x ∷ [] → view x ≡ ConnectionMember c → map view items ≡ start ++ map ConnectionMember cs → map view now ≡ start ++ map ConnectionMember (cs ++ c ∷ [])
added_next view items now x start cs c one is so_far =
    ap (map view) one ∙ map-append view items (x ∷ []) ∙ ap (λ m. map view items ++ m ∷ []) is ∙ ap (λ ms. ms ++ ConnectionMember c ∷ []) so_far ∙ append_assoc start (map ConnectionMember cs) (ConnectionMember c ∷ []) ∙ ap (λ ms. start ++ ms) (sym (map-append ConnectionMember cs (c ∷ [])))
