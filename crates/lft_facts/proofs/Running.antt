-- Which marked reaction that ends at a tag is the least.
use Rattle.std.proofs.Common.{◌≡◌, ℕ, ◌+◌, ◌<◌, ◌≤◌, List, length, sym, ap, ◌∙◌, subst, arith, Option, Some, None, slice_get}
use native.Mathlib.Decide.{ℕ_discrete}
use Rattle.lft_lists.proofs.Places.{Some_same}
use Rattle.lft_tag.specs.declared.Tag.{Tag}
use Rattle.lft_ir.specs.declared.steps.row.Row.{Row}
use Rattle.lft_model.{specs.Runs.end_row, proofs.Places.slice_get_within}
use Rattle.lft_races.specs.Runs.{EndsAt}
use Rattle.lft_facts.specs.inner.Ways.{IsMarked, EndsMarked, IsLeastEnd, IsLeastOfAll}

-- one more row that ends no marked reaction
module _ (t : List Row) (g : Tag) (next : List (Option ℕ)) (start i : ℕ) where
  pub least_stays : (o : Option (ℕ × ℕ)) → ¬ EndsMarked t g next i → IsLeastEnd t g next start i o → IsLeastEnd t g next start (i + 1) o
  least_stays None none so_far = λ j a b l s m. go j a b l s m (ℕ_discrete j i)
    where
      go : (j a : ℕ) → start < j → j < i + 1 → EndsAt t g a j → IsMarked next a → Dec (j ≡ i) → ⊥
      go j a b l s m (yes e) = none (a, subst (λ k. EndsAt t g a k) e s, m)
      go j a b l s m (no n) = so_far j a b (omega arith) s m
  least_stays (Some end) none so_far = (so_far.0, so_far.1, so_far.2, λ j a b l s m. go j a b l s m (ℕ_discrete j i))
    where
      go : (j a : ℕ) → start < j → j < i + 1 → EndsAt t g a j → IsMarked next a → Dec (j ≡ i) → end.0 ≤ a
      go j a b l s m (yes e) = absurd (none (a, subst (λ k. EndsAt t g a k) e s, m))
      go j a b l s m (no n) = so_far.3 j a b (omega arith) s m

-- one more row: of the marked reactions that end at g the least
module _ (t : List Row) (g : Tag) (next : List (Option ℕ)) (start i : ℕ) (row : Row) (is : slice_get t i ≡ Some row) where
  of_end : (a : ℕ) → EndsAt t g a i → a ≡ row.reaction
  of_end a s = ap (λ (x : Row). x.reaction) (Some_same (end_row s.0 g a) row (sym s.1 ∙ is))

  pub end_here : EndsMarked t g next i → EndsAt t g row.reaction i × IsMarked next row.reaction
  end_here m = subst (λ a. EndsAt t g a i × IsMarked next a) (of_end m.0 m.1) (m.1, m.2)

  pub least_kept : (end : ℕ × ℕ) → end.0 ≤ row.reaction → IsLeastEnd t g next start i (Some end) → IsLeastEnd t g next start (i + 1) (Some end)
  least_kept end up so_far = (so_far.0, so_far.1, so_far.2, λ j a b l s m. go j a b l s m (ℕ_discrete j i))
    where
      go : (j a : ℕ) → start < j → j < i + 1 → EndsAt t g a j → IsMarked next a → Dec (j ≡ i) → end.0 ≤ a
      go j a b l s m (yes e) = let q : a ≡ row.reaction = of_end a (subst (λ k. EndsAt t g a k) e s) in omega arith
      go j a b l s m (no n) = so_far.3 j a b (omega arith) s m

  pub least_first : start < i → EndsMarked t g next i → IsLeastEnd t g next start i None → IsLeastEnd t g next start (i + 1) (Some (row.reaction, i))
  least_first after m so_far = ((end_here m).0, (end_here m).1, after, λ j a b l s k. go j a b l s k (ℕ_discrete j i))
    where
      go : (j a : ℕ) → start < j → j < i + 1 → EndsAt t g a j → IsMarked next a → Dec (j ≡ i) → row.reaction ≤ a
      go j a b l s k (yes e) = let q : a ≡ row.reaction = of_end a (subst (λ x. EndsAt t g a x) e s) in omega arith
      go j a b l s k (no n) = absurd (so_far j a b (omega arith) s k)

  pub least_here : start < i → EndsMarked t g next i → (end : ℕ × ℕ) → row.reaction ≤ end.0 → IsLeastEnd t g next start i (Some end) → IsLeastEnd t g next start (i + 1) (Some (row.reaction, i))
  least_here after m end up so_far = ((end_here m).0, (end_here m).1, after, λ j a b l s k. go j a b l s k (ℕ_discrete j i))
    where
      go : (j a : ℕ) → start < j → j < i + 1 → EndsAt t g a j → IsMarked next a → Dec (j ≡ i) → row.reaction ≤ a
      go j a b l s k (yes e) = let q : a ≡ row.reaction = of_end a (subst (λ x. EndsAt t g a x) e s) in omega arith
      go j a b l s k (no n) = let x : end.0 ≤ a = so_far.3 j a b (omega arith) s k in omega arith

-- past all rows
pub least_none : (t : List Row) (g : Tag) (next : List (Option ℕ)) (start i : ℕ) → i ≤ start + 1 → IsLeastEnd t g next start i None
least_none t g next start i e j a b l s m = absurd (omega arith)

module _ (t : List Row) (g : Tag) (next : List (Option ℕ)) (start i : ℕ) (all : length t ≤ i) where
  within : (j a : ℕ) → EndsAt t g a j → j < i
  within j a s = let l : j < length t = slice_get_within t j (end_row s.0 g a) s.1 in omega arith

  pub least_some : ((j : ℕ) × (start < j) × EndsMarked t g next j) → ¬ IsLeastEnd t g next start i None
  least_some x so_far = so_far x.0 x.2.0 x.1 (within x.0 x.2.0 x.2.1) x.2.1 x.2.2

  pub least_all : (end : ℕ × ℕ) → IsLeastEnd t g next start i (Some end) → (j a : ℕ) → start < j → EndsAt t g a j → IsMarked next a → end.0 ≤ a
  least_all end so_far j a b s m = so_far.3 j a b (within j a s) s m

module _ (t : List Row) (g : Tag) (next : List (Option ℕ)) (start : ℕ) where
  pub all_some : ((j : ℕ) × (start < j) × EndsMarked t g next j) → ¬ IsLeastOfAll t g next start None
  all_some x least = least_some t g next start least.0 least.1 x least.2

  pub all_none : IsLeastOfAll t g next start None → (j a : ℕ) → start < j → EndsAt t g a j → ¬ IsMarked next a
  all_none least j a b s m = all_some (j, b, (a, s, m)) least

  pub all_marked : (end : ℕ × ℕ) → IsLeastOfAll t g next start (Some end) → IsMarked next end.0
  all_marked end least = least.2.1

  pub all_least : (end : ℕ × ℕ) → IsLeastOfAll t g next start (Some end) → (j a : ℕ) → start < j → EndsAt t g a j → IsMarked next a → IsMarked next end.0 × (end.0 ≤ a)
  all_least end least j a b s m = (least.2.1, least_all t g next start least.0 least.1 end least.2 j a b s m)

  pub all_end : (end : ℕ × ℕ) → IsLeastOfAll t g next start (Some end) → (i : ℕ) × (start < i) × EndsMarked t g next i
  all_end end least = (end.1, least.2.2, (end.0, least.2.0, least.2.1))
