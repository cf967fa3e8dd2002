-- The first row that breaks one of the rules 1 to 4.
use Rattle.std.proofs.Common.{◌≡◌, ℕ, ◌+◌, ◌<◌, ◌≤◌, inl, inr, List, length, refl, sym, ap, ◌∙◌, subst, arith, Option, Some, None, slice_get}
use Rattle.std.specs.Prelude.{◌↔◌}
use native.Mathlib.Decide.{ℕ_discrete, dec_lt}
use Rattle.lft_lists.proofs.Places.{same_at, Some_same}
use Rattle.lft_tag.specs.declared.Tag.{Tag}
use Rattle.lft_ir.specs.declared.steps.row.Row.{Row}
use Rattle.lft_model.specs.{declared.breach.Breach.Breach, Plans.PlanParts, Presence.stop, inner.Breaches.{BreaksRow, BreaksAt}}
use Rattle.lft_model.specs.Breaches.{RowBreach, RowOrder, First}
use Rattle.lft_model.proofs.Places.{slice_get_within}
use Rattle.lft_rows.specs.inner.Passes.{KeepsEarly, EarlyRule}
use Rattle.lft_check.{specs.{declared.verdict.Verdict.{Verdict, TheVariants.Broken}, Verdicts.IsExact}, proofs.Exact.{breach_by, same_row_order}}
use Rattle.lft_races.specs.Races.{FirstEarly, FirstSoFar}

-- the breach of a rule by the row at a place
abbrev pub breach_at : ℕ → Row → ℕ → Breach
breach_at i row k = record { rule = k; tag = row.tag; reaction = Some row.reaction; row = i + 2 }

module _ (plan : PlanParts) (t : List Row) where
  -- where all rows keep them no breach is of one of these rules
  pub early_none : KeepsEarly (stop plan t) plan t (length t) → (b : Breach) → RowBreach plan t b → ¬ (b.rule ≤ 4)
  early_none kept b x l = kept x.place x.row b.rule (slice_get_within t x.place x.row x.is_row) x.is_row (omega arith) x.breaks

  -- the first row that breaks one, with the least of them
  pub early_some : (i k : ℕ) (row : Row) → slice_get t i ≡ Some row → KeepsEarly (stop plan t) plan t i → EarlyRule (stop plan t) plan t i row (Some k) → FirstEarly plan t (breach_at i row k)
  early_some i k row is kept rule = (low, breaks, least)
    where
      low : k ≤ 4
      low = let l : k < 5 = rule.1 in omega arith

      breaks : RowBreach plan t (breach_at i row k)
      breaks = record { place = i; row = row; is_row = is; breaks = rule.0; tag_is = refl; reaction_is = refl; row_is = refl }

      least : (c : Breach) → RowBreach plan t c → c.rule ≤ 4 → RowOrder (breach_at i row k) c
      least c x l = go (dec_lt x.place i) (ℕ_discrete x.place i) (dec_lt c.rule k)
        where
          line : c.row ≡ x.place + 2
          line = x.row_is

          go : Dec (x.place < i) → Dec (x.place ≡ i) → Dec (c.rule < k) → RowOrder (breach_at i row k) c
          go (yes m) d e = absurd (kept x.place x.row c.rule m x.is_row (omega arith) x.breaks)
          go (no n) (yes z) (yes m) = absurd (rule.2 c.rule m (subst (λ (y : Row). BreaksRow plan t i y c.rule) (sym (same_at t i x.place row x.row is x.is_row (sym z))) (subst (λ j. BreaksRow plan t j x.row c.rule) z x.breaks)))
          go (no n) (yes z) (no m) = inr (omega arith, omega arith)
          go (no n) (no m) e = inl (omega arith)

-- there is one first row of these rules
one_early : (plan : PlanParts) (t : List Row) (b c : Breach) → FirstEarly plan t b → FirstEarly plan t c → b ≡ c
one_early plan t b c p q = breach_by same.1 (x.tag_is ∙ ap (λ (r : Row). r.tag) row ∙ sym y.tag_is) (x.reaction_is ∙ ap (λ (r : Row). Some r.reaction) row ∙ sym y.reaction_is) same.0
  where
    x : RowBreach plan t b
    x = p.1

    y : RowBreach plan t c
    y = q.1

    same : (b.row ≡ c.row) × (b.rule ≡ c.rule)
    same = same_row_order b c (p.2 c y q.0) (q.2 b x p.0)

    place : x.place ≡ y.place
    place = let e : b.row ≡ c.row = same.0 in let f : b.row ≡ x.place + 2 = x.row_is in let h : c.row ≡ y.place + 2 = y.row_is in omega arith

    row : x.row ≡ y.row
    row = Some_same x.row y.row (sym x.is_row ∙ ap (λ k. slice_get t k) place ∙ y.is_row)

-- no rule of a tag is one of 1 to 4
no_tag_rule : (plan : PlanParts) (t : List Row) (g : Tag) (o : Option ℕ) (k : ℕ) → BreaksAt plan t g o k → ¬ (k < 5)
no_tag_rule plan t g None k x l = let e : k ≡ 6 = x.0 in absurd (omega arith)
no_tag_rule plan t g (Some r) k (inl x) l = let e : k ≡ 7 = x.0 in absurd (omega arith)
no_tag_rule plan t g (Some r) k (inr (inl x)) l = let e : k ≡ 8 = x.0 in absurd (omega arith)
no_tag_rule plan t g (Some r) k (inr (inr (inl x))) l = let e : k ≡ 9 = x.0 in absurd (omega arith)
no_tag_rule plan t g (Some r) k (inr (inr (inr x))) l = let e : k ≡ 10 = x.0 in absurd (omega arith)

-- of these rules what is first so far is the first row of them
early_of : (plan : PlanParts) (t : List Row) (b : Breach) → b.rule < 5 → FirstSoFar plan t b → FirstEarly plan t b
early_of plan t b l (inl (inl x)) = (omega arith, x.0, λ c y m. x.1 c y)
early_of plan t b l (inl (inr x)) = absurd (no_tag_rule plan t b.tag b.reaction b.rule x.1.breaks l)
early_of plan t b l (inr x) = x

pub early_exact : (plan : PlanParts) (t : List Row) (b first : Breach) → b.rule < 5 → FirstEarly plan t first → (first ≡ b) ↔ FirstSoFar plan t b
early_exact plan t b first l x = (λ e. inr (subst (λ (c : Breach). FirstEarly plan t c) e x), λ y. one_early plan t first b x (early_of plan t b l y))

pub early_not : (plan : PlanParts) (t : List Row) (b : Breach) → b.rule < 5 → ((c : Breach) → RowBreach plan t c → ¬ (c.rule ≤ 4)) → ¬ FirstSoFar plan t b
early_not plan t b l none y = let x = early_of plan t b l y in none b x.1 x.0

-- of the other rules it is the first of all
pub later_of : (plan : PlanParts) (t : List Row) (b : Breach) → 5 ≤ b.rule → FirstSoFar plan t b → First plan t b
later_of plan t b n (inl x) = x
later_of plan t b n (inr x) = let l : b.rule ≤ 4 = x.0 in absurd (omega arith)

same_broken : (b c : Breach) → Broken b ≡ Broken c → b ≡ c
same_broken b c e = cc

-- of these the verdict tells it
pub by_verdict : (plan : PlanParts) (t : List Row) (b first : Breach) (v : Verdict) → 5 ≤ b.rule → v ≡ Broken first → IsExact plan t v → (first ≡ b) ↔ FirstSoFar plan t b
by_verdict plan t b first v n e exact = (λ q. inl ((exact.broken b).0 (e ∙ ap Broken q)), λ x. same_broken first b (sym e ∙ (exact.broken b).1 (later_of plan t b n x)))
