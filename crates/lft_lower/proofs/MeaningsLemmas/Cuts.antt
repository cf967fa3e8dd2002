-- Lists that go on until they have so many.
use Rattle.std.proofs.Common.{◌≡◌, ℕ, zero, suc, ◌+◌, ◌*◌, ◌≤◌, inl, inr, min, max, Bool, true, false, List, [], ◌∷◌, ◌++◌, Some, map, take, length, sym, ◌∙◌, ap, arith, append_assoc, length-append}
use Rattle.std.specs.Prelude.{slice_get}
use Rattle.std.specs.List.{flat_map, range_with_len}
use Rattle.std.proofs.Math.{Nat.eq-or-lt_of_le, Seq.{take-append-add, take-suc}}
use Rattle.std.proofs.lemmas.{List.{length-map, take_all, FromFn.length-map-range_with_len}, Option.{slice_get_within, get_or_from_slice_get}}
use Rattle.lft_elaborate.specs.inner.Channels.{Channels.{Place, places}, Lowered.{inner, own}}
use Rattle.lft_lower.specs.inner.Meanings.Places.{Several, count_of, inner_places, name_at, own_places}

-- one more
pub cut_more : {X : Type 0} (old more : List X) (k : ℕ) (x : X) → slice_get more k ≡ Some x → (old ++ take k more) ++ x ∷ [] ≡ old ++ take (k + 1) more
cut_more old more k x at =
    let within = slice_get_within more k x at in
    let next : k + 1 ≡ suc k = omega arith in
    let last : take (k + 1) more ≡ take k more ++ x ∷ [] = ap (λ n. take n more) next ∙ take-suc more k x within ∙ ap (λ y. take k more ++ y ∷ []) (get_or_from_slice_get more k x x at) in
    append_assoc old (take k more) (x ∷ []) ∙ ap (λ ys. old ++ ys) (sym last)

-- as many as there may be
pub cut_full : {X : Type 0} (old more : List X) (k most : ℕ) → length old + k ≤ max most (length old) → most ≤ length old + k → old ++ take k more ≡ take (max most (length old)) (old ++ more)
cut_full old more k most low full =
    let same : length old + k ≡ max most (length old) = omega arith in
    sym (take-append-add old more k) ∙ ap (λ n. take n (old ++ more)) same

-- all of them
pub cut_all : {X : Type 0} (old more : List X) (k most : ℕ) → length old + k ≤ max most (length old) → length more ≤ k → old ++ take k more ≡ take (max most (length old)) (old ++ more)
cut_all old more k most low all =
    let long : length (old ++ more) ≤ max most (length old) = omega (arith, length-append old more) in
    ap (λ ys. old ++ ys) (take_all k more all) ∙ sym (take_all (max most (length old)) (old ++ more) long)

-- all of them, or so many that there may be no more
pub cut_end : {X : Type 0} (old more : List X) (k most large : ℕ) → length old + k ≤ max most (length old) → min (length more) large ≤ k → most ≤ large → old ++ take k more ≡ take (max most (length old)) (old ++ more)
cut_end old more k most large low far small =
    elim (eq-or-lt_of_le low) [
      | inl same ↦ sym (take-append-add old more k) ∙ ap (λ n. take n (old ++ more)) same
      | inr less ↦ let all : length more ≤ k = omega arith in cut_all old more k most low all
    ]

-- a row for each number
pub grid_length : {X : Type 0} (f : ℕ → ℕ → X) (a m n : ℕ) → length (flat_map (λ x. map (f x) (range_with_len 0 n)) (range_with_len a m)) ≡ m * n
grid_length f a zero n = omega arith
grid_length f a (suc m) n =
    let row = length-map-range_with_len (f a) 0 n in
    let rest = grid_length f (a + 1) m n in
    let both = length-append (map (f a) (range_with_len 0 n)) (flat_map (λ x. map (f x) (range_with_len 0 n)) (range_with_len (a + 1) m)) in
    both ∙ (omega (arith, row, rest))

-- so many channels there are
pub length_places : (members channels : ℕ) (interleaved : Bool) → length (places members channels interleaved) ≡ members * channels
length_places members channels false = grid_length (λ m c. (m, c)) 0 members channels
length_places members channels true = let turned : channels * members ≡ members * channels = grind arith in grid_length (λ c m. (m, c)) 0 channels members ∙ turned

-- so many places a thing of the reactor has
pub length_own : (thing : Several) → length (own_places thing) ≡ count_of thing
length_own thing = length-map-range_with_len (λ k. own (name_at thing k)) 0 (count_of thing)

-- so many places a port of a bank has
pub length_inner : (members ports : Several) (interleaved : Bool) → length (inner_places members ports interleaved) ≡ count_of members * count_of ports
length_inner members ports interleaved = length-map (places (count_of members) (count_of ports) interleaved) (λ (p : Place). inner (name_at members p.0) (name_at ports p.1)) ∙ length_places (count_of members) (count_of ports) interleaved
