-- The rows of a tag, and the first race among them.
use Rattle.std.proofs.Common.{◌≡◌, ℕ, ◌+◌, ◌<◌, ◌≤◌, List, length, sym, ap, ◌∙◌, subst, arith, Option, Some, None, slice_get}
use native.Mathlib.Decide.{ℕ_discrete, dec_lt}
use Rattle.lft_lists.proofs.Places.{Some_same}
use Rattle.lft_tag.specs.declared.Tag.{Tag}
use Rattle.lft_ir.specs.{Parts.Parts, declared.steps.row.{Row.Row, Step.TheVariants.Start}}
use Rattle.lft_graph.specs.{Precedence.Precedes, Sets.Has, inner.Sets.AreAncestors}
use Rattle.lft_model.proofs.Places.{slice_get_within}
use Rattle.lft_races.specs.{Races.{IsUnfinished, IsRace, IsFirstRace}, inner.Noted.{HasUnfinished, IsFirstIn}}

-- the rows between two places are at the tag
abbrev pub AtTag : List Row → Tag → ℕ → ℕ → Type 0
AtTag t g first n = (i : ℕ) (row : Row) → first ≤ i → i < n → slice_get t i ≡ Some row → row.tag ≡ g

-- a start is a race just where what precedes it meets what hasn't ended
module _ (program : Parts) (t : List Row) (i : ℕ) (row : Row) (is_row : slice_get t i ≡ Some row) where
  pub no_race : ¬ (row.step ≡ Start) → ¬ IsRace program t i
  no_race n r = n (ap (λ (y : Row). y.step) (Some_same row r.row (sym is_row ∙ r.is_row)) ∙ r.starts)

  pub to_race : (g : Tag) → row.tag ≡ g → row.step ≡ Start → (sets : List (List ℕ)) (own set : List ℕ) → AreAncestors program sets → slice_get sets row.reaction ≡ Some own → HasUnfinished t g i set → (a : ℕ) × Has own a × Has set a → IsRace program t i
  to_race g e st sets own set are q so_far x = record { row = row; earlier = x.0; is_row = is_row; starts = st; precedes = (are.right row.reaction own q x.0).0 x.1; unfinished = subst (λ (h : Tag). IsUnfinished t h x.0 i) (sym e) ((so_far x.0).0 x.2) }

  pub from_race : (g : Tag) → row.tag ≡ g → (sets : List (List ℕ)) (own set : List ℕ) → AreAncestors program sets → slice_get sets row.reaction ≡ Some own → HasUnfinished t g i set → IsRace program t i → (a : ℕ) × Has own a × Has set a
  from_race g e sets own set are q so_far r =
      let s : r.row ≡ row = Some_same r.row row (sym r.is_row ∙ is_row) in
      (r.earlier, (are.right row.reaction own q r.earlier).1 (subst (λ (y : Row). Precedes program r.earlier y.reaction) s r.precedes), (so_far r.earlier).1 (subst (λ (h : Tag). IsUnfinished t h r.earlier i) (ap (λ (y : Row). y.tag) s ∙ e) r.unfinished))

-- one more row, before the others
module _ (program : Parts) (t : List Row) (i high : ℕ) where
  pub first_here : i < high → IsRace program t i → IsFirstIn program t i high (Some i)
  first_here b r = (r, (let l : i ≤ i = omega arith in l), b, λ j l c q. l)

  pub first_later : (o : Option ℕ) → ¬ IsRace program t i → IsFirstIn program t (i + 1) high o → IsFirstIn program t i high o
  first_later None n none = go
    where
      by : (j : ℕ) → i ≤ j → j < high → IsRace program t j → Dec (j ≡ i) → ⊥
      by j l b r (yes z) = n (subst (λ k. IsRace program t k) z r)
      by j l b r (no d) = none j (omega arith) b r

      go : (j : ℕ) → i ≤ j → j < high → ¬ IsRace program t j
      go j l b r = by j l b r (ℕ_discrete j i)
  first_later (Some k) n x = (x.0, (let l : i + 1 ≤ k = x.1 in let m : i ≤ k = omega arith in m), x.2, go)
    where
      by : (j : ℕ) → i ≤ j → j < high → IsRace program t j → Dec (j ≡ i) → k ≤ j
      by j l b r (yes z) = absurd (n (subst (λ m. IsRace program t m) z r))
      by j l b r (no d) = x.3 j (omega arith) b r

      go : (j : ℕ) → i ≤ j → j < high → IsRace program t j → k ≤ j
      go j l b r = by j l b r (ℕ_discrete j i)

-- no row before a place is a race
abbrev pub NoneBefore : Parts → List Row → ℕ → Type 0
NoneBefore program t n = (i : ℕ) → i < n → ¬ IsRace program t i

-- the rows of one more tag
module _ (program : Parts) (t : List Row) (low high : ℕ) (none : NoneBefore program t low) where
  pub none_more : IsFirstIn program t low high None → NoneBefore program t high
  none_more found i b r = go (dec_lt i low)
    where
      go : Dec (i < low) → ⊥
      go (yes l) = none i l r
      go (no d) = found i (omega arith) b r

  pub first_of_all : (k : ℕ) → IsFirstIn program t low high (Some k) → IsFirstRace program t (Some k)
  first_of_all k f = (f.0, least)
    where
      least : (j : ℕ) → IsRace program t j → k ≤ j
      least j r = go (dec_lt j low) (dec_lt j high)
        where
          go : Dec (j < low) → Dec (j < high) → k ≤ j
          go (yes l) d = absurd (none j l r)
          go (no n) (yes b) = f.3 j (omega arith) b r
          go (no n) (no m) = let b : k < high = f.2 in omega arith

pub none_at_all : (program : Parts) (t : List Row) (n : ℕ) → length t ≤ n → NoneBefore program t n → IsFirstRace program t None
none_at_all program t n all none i r = let l : i < length t = slice_get_within t i r.row r.is_row in none i (omega arith) r
