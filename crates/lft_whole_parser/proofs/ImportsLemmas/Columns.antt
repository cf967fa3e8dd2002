-- Lines and columns, byte by byte, and the spots of tokens.
use Rattle.std.proofs.Common.{◌≡◌, ℕ, zero, suc, ◌+◌, ◌-◌, ◌<◌, ◌≤◌, ◌⊎◌, inl, inr, Bool, true, false, List, [], ◌∷◌, ◌++◌, length, take, drop, get_or, Some, refl, sym, subst, ap, ◌∙◌, arith, length-take, length-drop, add-one}
use Rattle.std.specs.Prelude.{IsSomeAnd, count_by, slice_get, slice_index, slice_range}
use Rattle.std.proofs.lemmas.Bool.{cases_lt, Decides.nat_tests}
use Rattle.std.proofs.lemmas.{List.{get_or-drop, length_push, Sums.{count_by-le-length, count_by_more_yes, count_by_more_no}}, Option.slice_get_within}
use Rattle.lft_lists.{specs.Bytes.is_in_line, proofs.Places.{get_last, same_some}}
use Rattle.lft_text_diagnostics.specs.Places.{BeginsLine, begins_letter, is_feed}
use Rattle.lft_syntax.specs.declared.token.Token.{Token}
use Rattle.lft_whole.specs.{declared.sources.source.Spot.Spot, inner.Tokens.{IsToken, StandBetween}}
use Rattle.lft_whole_parser.{specs.Imports.Places.{AreSpots, IsSpotOfByte}, proofs.ImportsLemmas.Known.{kept, some_and}}

not_feed : (b : ℕ) → (b ≡ 10 → ⊥) → is_in_line b ≡ true
not_feed b n = grind (arith, nat_tests)

no_feed : (b : ℕ) → (b ≡ 10 → ⊥) → is_feed b ≡ false
no_feed b n = grind (arith, nat_tests)

-- ---- counts in a part of a text

longer : (s at : ℕ) → s ≤ at → (at + 1) - s ≡ (at - s) + 1
longer s at o = omega arith

inside_drop : (t : List ℕ) (s at : ℕ) → s ≤ at → at < length t → at - s < length (drop s t)
inside_drop t s at o l = omega (arith, length-drop s t)

byte_in : (t : List ℕ) (s at : ℕ) → s ≤ at → get_or (drop s t) (at - s) 0 ≡ get_or t at 0
byte_in t s at o = let back : s + (at - s) ≡ at = omega (arith, o) in get_or-drop s t (at - s) 0 ∙ ap (λ (z : ℕ). get_or t z 0) back

range_yes : (p : ℕ → Bool) (t : List ℕ) (s at : ℕ) → s ≤ at → at < length t → p (get_or t at 0) ≡ true → count_by p (slice_range t s (at + 1)) ≡ count_by p (slice_range t s at) + 1
range_yes p t s at o l e =
    ap (λ (z : ℕ). count_by p (take z (drop s t))) (longer s at o)
    ∙ count_by_more_yes p (drop s t) (at - s) 0 (inside_drop t s at o l) (ap p (byte_in t s at o) ∙ e)

range_no : (p : ℕ → Bool) (t : List ℕ) (s at : ℕ) → s ≤ at → at < length t → p (get_or t at 0) ≡ false → count_by p (slice_range t s (at + 1)) ≡ count_by p (slice_range t s at)
range_no p t s at o l e =
    ap (λ (z : ℕ). count_by p (take z (drop s t))) (longer s at o)
    ∙ count_by_more_no p (drop s t) (at - s) 0 (inside_drop t s at o l) (ap p (byte_in t s at o) ∙ e)

none_minus : (i : ℕ) → i - i ≡ 0
none_minus i = omega arith

range_none : (p : ℕ → Bool) (t : List ℕ) (i : ℕ) → count_by p (slice_range t i i) ≡ 0
range_none p t i = ap (λ (z : ℕ). count_by p (take z (drop i t))) (none_minus i)

-- ---- a byte further

pub spot_first : (t : List ℕ) → IsSpotOfByte t 0 (record { line = 1; column = 1 })
spot_first t = record {
  start = 0;
  begins = record { order = omega arith; whole = λ k a b. absurd (omega (arith, b)); first = inl refl };
  line = refl;
  column = refl;
}

in_line : (t : List ℕ) (s at : ℕ) → BeginsLine t s at → (get_or t at 0 ≡ 10 → ⊥) → (k : ℕ) → s ≤ k → k < at + 1 → is_in_line (slice_index t k) ≡ true
in_line t s at h n k a b = of (cases_lt k at)
  where
    of : (k < at) ⊎ (at ≤ k) → is_in_line (slice_index t k) ≡ true
    of (inl lt) = h.whole k a lt
    of (inr ge) =
        let same : k ≡ at = omega (arith, b, ge) in
        subst (λ (z : ℕ). is_in_line (slice_index t z) ≡ true) (sym same) (not_feed (slice_index t at) n)

further : (t : List ℕ) (s at : ℕ) → BeginsLine t s at → (get_or t at 0 ≡ 10 → ⊥) → BeginsLine t s (at + 1)
further t s at h n = record { order = omega (arith, h.order); whole = in_line t s at h n; first = h.first }

pub spot_feed : (t : List ℕ) (at : ℕ) (spot : Spot) → at < length t → get_or t at 0 ≡ 10 → IsSpotOfByte t at spot → IsSpotOfByte t (at + 1) (record { line = spot.line + 1; column = 1 })
spot_feed t at spot l e h = record {
  start = at + 1;
  begins = record { order = omega arith; whole = λ k a b. absurd (omega (arith, a, b)); first = inr (at, refl, e) };
  line = ap (λ (z : ℕ). z + 1) (h.line ∙ sym (count_by_more_yes is_feed t at 0 l (ap is_feed e)));
  column = sym (ap (λ (z : ℕ). z + 1) (range_none begins_letter t (at + 1)));
}

line_on : (t : List ℕ) (at : ℕ) (spot : Spot) → at < length t → (get_or t at 0 ≡ 10 → ⊥) → IsSpotOfByte t at spot → spot.line ≡ count_by is_feed (take (at + 1) t) + 1
line_on t at spot l n h = h.line ∙ ap (λ (z : ℕ). z + 1) (sym (count_by_more_no is_feed t at 0 l (no_feed (get_or t at 0) n)))

pub spot_letter : (t : List ℕ) (at : ℕ) (spot : Spot) → at < length t → (get_or t at 0 ≡ 10 → ⊥) → begins_letter (get_or t at 0) ≡ true → IsSpotOfByte t at spot → IsSpotOfByte t (at + 1) (record { line = spot.line; column = spot.column + 1 })
spot_letter t at spot l n b h = record {
  start = h.start;
  begins = further t h.start at h.begins n;
  line = line_on t at spot l n h;
  column = ap (λ (z : ℕ). z + 1) (h.column ∙ sym (range_yes begins_letter t h.start at h.begins.order l b));
}

pub spot_same : (t : List ℕ) (at : ℕ) (spot : Spot) → at < length t → (get_or t at 0 ≡ 10 → ⊥) → begins_letter (get_or t at 0) ≡ false → IsSpotOfByte t at spot → IsSpotOfByte t (at + 1) spot
spot_same t at spot l n b h = record {
  start = h.start;
  begins = further t h.start at h.begins n;
  line = line_on t at spot l n h;
  column = h.column ∙ ap (λ (z : ℕ). z + 1) (sym (range_no begins_letter t h.start at h.begins.order l b));
}

-- both numbers are small
pub line_bound : (t : List ℕ) (at : ℕ) (spot : Spot) → at ≤ length t → IsSpotOfByte t at spot → spot.line ≤ length t + 1
line_bound t at spot l h = omega (arith, h.line, count_by-le-length is_feed (take at t), length-take at t)

pub column_bound : (t : List ℕ) (at : ℕ) (spot : Spot) → at ≤ length t → IsSpotOfByte t at spot → spot.column ≤ length t + 1
column_bound t at spot l h = omega (arith, h.column, count_by-le-length begins_letter (slice_range t h.start at), length-take (at - h.start) (drop h.start t), length-drop h.start t)

-- ---- tokens

-- tokens that stand behind a place stand behind one before it
lower : (text : List ℕ) (a b : ℕ) (ts : List Token) (to : ℕ) → a ≤ b → StandBetween text b ts to → StandBetween text a ts to
lower text a b [] to l h = omega (arith, h)
lower text a b (t ∷ ts) to l h = (omega (arith, h.0), h.1, h.2)

-- the next token
stand : (text : List ℕ) (ts : List Token) (i : ℕ) (t : Token) (from to : ℕ) → slice_get ts i ≡ Some t → StandBetween text from (drop i ts) to → (from ≤ t.start) × IsToken text t × StandBetween text t.end (drop (suc i) ts) to
stand text [] i t from to e h = absurd (cc)
stand text (x ∷ xs) zero t from to e h = let same : x ≡ t = cc in subst (λ (z : Token). (from ≤ z.start) × IsToken text z × StandBetween text z.end xs to) same h
stand text (x ∷ xs) (suc i) t from to e h = stand text xs i t from to e h

-- what stands behind a token stands behind its begin
pub record Next (text : List ℕ) (ts : List Token) (i from start : ℕ) : Type 0 where
  pub order : from ≤ start
  pub inside : start ≤ length text
  pub rest : StandBetween text start (drop (i + 1) ts) (length text)

pub next : (text : List ℕ) (ts : List Token) (i : ℕ) (t : Token) (from : ℕ) → slice_get ts i ≡ Some t → StandBetween text from (drop i ts) (length text) → Next text ts i from t.start
next text ts i t from e h =
    let found = stand text ts i t from (length text) e h in
    record {
      order = found.0;
      inside = omega (arith, found.1.0, found.1.1);
      rest = subst (λ (n : ℕ). StandBetween text t.start (drop n ts) (length text)) (sym (add-one i)) (lower text t.start t.end (drop (suc i) ts) (length text) (omega (arith, found.1.0)) found.2);
    }

-- the spots of the first tokens
abbrev pub SoFar : List ℕ → List Token → ℕ → List Spot → Type 0
SoFar text ts i spots = (k : ℕ) (t : Token) → k < i → slice_get ts k ≡ Some t → IsSomeAnd (slice_get spots k) (IsSpotOfByte text t.start)

-- one more
pub more : (text : List ℕ) (ts : List Token) (i : ℕ) (t : Token) (spots : List Spot) (spot : Spot) → slice_get ts i ≡ Some t → length spots ≡ i → IsSpotOfByte text t.start spot → SoFar text ts i spots → SoFar text ts (i + 1) (spots ++ spot ∷ [])
more text ts i t spots spot e n h so k u l at = of (cases_lt k i)
  where
    of : (k < i) ⊎ (i ≤ k) → IsSomeAnd (slice_get (spots ++ spot ∷ []) k) (IsSpotOfByte text u.start)
    of (inl lt) = kept (IsSpotOfByte text u.start) spots spot k (so k u lt at)
    of (inr ge) =
        let same : length spots ≡ k = omega (arith, l, ge, n) in
        let there : i ≡ k = omega (arith, l, ge) in
        let token : t ≡ u = same_some (slice_get ts i) t u e (ap (slice_get ts) there ∙ at) in
        some_and (IsSpotOfByte text u.start) (slice_get (spots ++ spot ∷ []) k) spot (ap (slice_get (spots ++ spot ∷ [])) (sym same) ∙ get_last spots spot) (subst (λ (z : Token). IsSpotOfByte text z.start spot) token h)

-- all of them, and the end
pub spots_all : (text : List ℕ) (ts : List Token) (i : ℕ) (spots : List Spot) (spot : Spot) → length ts ≤ i → i ≤ length ts → length spots ≡ i → IsSpotOfByte text (length text) spot → SoFar text ts i spots → AreSpots text ts (spots ++ spot ∷ [])
spots_all text ts i spots spot a b n h so =
    let same : length spots ≡ length ts = omega (arith, a, b, n) in
    record {
      many = omega (arith, length_push spots spot, same);
      begin = λ k t at. kept (IsSpotOfByte text t.start) spots spot k (so k t (omega (arith, slice_get_within ts k t at, a)) at);
      end = some_and (IsSpotOfByte text (length text)) (slice_get (spots ++ spot ∷ []) (length ts)) spot (ap (slice_get (spots ++ spot ∷ [])) (sym same) ∙ get_last spots spot) h;
    }
