-- Levels, given in an order of the lists, and a loop of them.
use Rattle.std.proofs.Common.{◌≡◌, ◌≢◌, ℕ, zero, suc, ◌+◌, ◌<◌, ◌≤◌, inl, inr, List, [], ◌∷◌, length, get_or, replicate, refl, sym, ap, ◌∙◌, subst, arith, Some, slice_get, slice_set}
use Rattle.std.proofs.lemmas.{Bool.cases_lt, Option.{get_or_from_slice_get, slice_get-get_or, slice_get_within}}
use Rattle.lft_lists.specs.{Walks.IsCircle, inner.Walking.{IsOrder, Leads}}
use Rattle.lft_lists.proofs.Places.{at_contains, contains_at, get_there, get_unwritten, get_write_cases, length_same, length_written, same_some}
use Rattle.lft_lists.proofs.Walking.{circle_along, circle_leads}
use Rattle.lft_graph.{specs.{Graph.AreLevels, Loops.IsLoopOf, inner.Walks.{AreInside, IsStep, IsLevelOf, IsTurned, members_in}}, proofs.Turning.turned_loop}

module _ (before : List (List ℕ)) where
  abbrev members : ℕ → List ℕ
  members = members_in before

  is_list : (r : ℕ) (list : List ℕ) → slice_get before r ≡ Some list → members r ≡ list
  is_list r list at = get_or_from_slice_get before r list [] at

  -- what leads to a number has it in its list
  is_step : (a b : ℕ) → Leads members a b → IsStep before b a
  is_step a b (k, is) = elim (cases_lt a (length before)) [
    | inl l ↦ (members a, k, slice_get-get_or before a [] l, is)
    | inr g ↦ absurd (let e : members a ≡ [] = past before a g in let f : slice_get [] k ≡ Some b = subst (λ l. slice_get l k ≡ Some b) e is in cc)
  ]
    where
      past : (xs : List (List ℕ)) (i : ℕ) → length xs ≤ i → get_or xs i [] ≡ []
      past [] i g = refl
      past (x ∷ xs) zero g = absurd (omega arith)
      past (x ∷ xs) (suc i) g = past xs i (omega arith)

  -- what stands on a circle is the number of a list
  pub on_circle : (circle : List ℕ) → IsCircle (Leads members) circle → (i a : ℕ) → slice_get circle i ≡ Some a → a < length before
  on_circle circle is i a at = let b = circle_leads (Leads members) circle is i a at in let s = is_step a b.0 b.1 in slice_get_within before a s.0 s.2

  -- turned back, it is a loop
  pub loop_back : (circle loop : List ℕ) → IsCircle (Leads members) circle → IsTurned circle loop → IsLoopOf (IsStep before) loop
  loop_back circle loop is turned = turned_loop (IsStep before) circle loop (circle_along (Leads members) (λ a b. IsStep before b a) circle is_step is) turned

  -- the first reactions of the order have their levels, which are no greater than their places
  pub record Levelled (order levels : List ℕ) (place : ℕ) : Type 0 where
    pub as_long : length levels ≡ length before
    pub right : (j r l : ℕ) → j < place → slice_get order j ≡ Some r → slice_get levels r ≡ Some l → IsLevelOf levels (members r) (length (members r)) l
    pub small : (j r l : ℕ) → j < place → slice_get order j ≡ Some r → slice_get levels r ≡ Some l → l ≤ j

  pub levelled_start : (order : List ℕ) → Levelled order (replicate (length before) 0) 0
  levelled_start order = record { as_long = length_same (length before) 0; right = λ j r l lt. absurd (omega arith); small = λ j r l lt. absurd (omega arith) }

  module _ (order : List ℕ) (is_order : IsOrder (Leads members) (length before) order) (inside : AreInside before) where
    -- a member stands before
    earlier : (j r i a : ℕ) → slice_get order j ≡ Some r → slice_get (members r) i ≡ Some a → (h : ℕ) × (h < j) × (slice_get order h ≡ Some a)
    earlier j r i a at is =
        let s = is_step r a (i, is) in
        is_order.behind j r a at (i, is) (inside r s.1 a s.0 s.2 s.3)

    module _ (levels : List ℕ) (place : ℕ) (w : Levelled order levels place) (r : ℕ) (at : slice_get order place ≡ Some r) where
      pub member_small : (i a : ℕ) → slice_get (members r) i ≡ Some a → (k : ℕ) × (slice_get levels a ≡ Some k) × (k < place)
      member_small i a is =
          let h = earlier place r i a at is in
          let k = get_there levels a (let l = is_order.within h.0 a h.2 in let s = w.as_long in omega arith) in
          let small = w.small h.0 a k.0 h.1 h.2 k.1 in
          let before_it = h.1 in
          (k.0, k.1, omega arith)

      -- one more reaction has its level
      pub levelled_more : (level : ℕ) → IsLevelOf levels (members r) (length (members r)) level → Levelled order (slice_set levels r level) (place + 1)
      levelled_more level is = record {
        as_long = length_written levels r level ∙ w.as_long;
        right = λ j q l lt there mark. elim (get_write_cases levels r q level l within mark) [
          | inl here ↦ subst (IsLevelOf (slice_set levels r level) (members q) (length (members q))) here.1 (subst (λ t. IsLevelOf (slice_set levels r level) (members t) (length (members t)) level) (sym here.0) (kept r level place (omega arith) at is))
          | inr other ↦ (let l = other_place j q lt there other.0 in kept q _ j (omega arith) there (w.right j q _ l there other.1))
        ];
        small = λ j q l lt there mark. elim (get_write_cases levels r q level l within mark) [
          | inl here ↦ (let e = here.1 in let s : j ≡ place = is_order.once j place r (there ∙ ap Some here.0) at in let b = below in omega arith)
          | inr other ↦ w.small j q l (other_place j q lt there other.0) there other.1
        ];
      }
        where
          within : r < length levels
          within = let l = is_order.within place r at in let s = w.as_long in omega arith

          other_place : (j q : ℕ) → j < place + 1 → slice_get order j ≡ Some q → q ≢ r → j < place
          other_place j q lt there n = elim (cases_lt j place) [ inl l ↦ l | inr g ↦ absurd (n (same_some (slice_get order place) q r (let e : j ≡ place = omega arith in subst (λ k. slice_get order k ≡ Some q) e there) at)) ]

          below : level ≤ place
          below = elim (cases_lt 0 level) [
            | inl l ↦ (let m = is.least l in let k = member_small m.0 m.1 m.3 in let e : k.0 ≡ m.2 = same_some (slice_get levels m.1) k.0 m.2 k.1 m.4 in let s = k.2 in let t = m.5 in omega arith)
            | inr g ↦ omega arith
          ]

          -- the level is written of none that stands before
          apart : (j q i a : ℕ) → j ≤ place → slice_get order j ≡ Some q → slice_get (members q) i ≡ Some a → a ≢ r
          apart j q i a le there is e =
              let h = earlier j q i a there is in
              let s : h.0 ≡ place = is_order.once h.0 place r (h.2 ∙ ap Some e) at in
              let l = h.1 in
              omega arith

          kept : (q l j : ℕ) → j ≤ place → slice_get order j ≡ Some q → IsLevelOf levels (members q) (length (members q)) l → IsLevelOf (slice_set levels r level) (members q) (length (members q)) l
          kept q l j le there is = record {
            above = λ i a lt m. (let u = is.above i a lt m in (u.0, get_unwritten levels r a level (apart j q i a le there m) ∙ u.1, u.2));
            least = λ some. (let u = is.least some in (u.0, u.1, u.2, u.3, get_unwritten levels r u.1 level (apart j q u.0 u.1 le there u.3) ∙ u.4, u.5));
          }

    pub are_levels : (levels : List ℕ) (place : ℕ) → Levelled order levels place → length order ≤ place → AreLevels before levels
    are_levels levels place w end = record {
      as_long = w.as_long;
      above = λ a r k l list f c g h. (
          let i = at_contains list a c in
          let u = (right r l list h f).above i.0 a (slice_get_within list i.0 a i.1) i.1 in
          let e : u.0 ≡ k = same_some (slice_get levels a) u.0 k u.1 g in
          let s = u.2 in
          omega arith
          );
      least = λ r l list f g some. (let u = (right r l list g f).least some in (u.1, u.2, contains_at list u.0 u.1 u.3, u.4, u.5));
    }
      where
        right : (r l : ℕ) (list : List ℕ) → slice_get levels r ≡ Some l → slice_get before r ≡ Some list → IsLevelOf levels list (length list) l
        right r l list at is =
            let j = is_order.all r (slice_get_within before r list is) in
            let m = slice_get_within order j.0 r j.1 in
            subst (λ t. IsLevelOf levels t (length t) l) (is_list r list is) (w.right j.0 r l (omega arith) j.1 at)
