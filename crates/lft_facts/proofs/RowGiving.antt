-- Facts about rows give the breaches of the rules 1 to 5.
use Rattle.std.proofs.Common.{◌≡◌, ℕ, ◌+◌, inl, inr, List, [], ◌∷◌, refl, sym, ap, ◌∙◌, subst, arith, Some, slice_get}
use Rattle.std.proofs.lemmas.List.Elements.{All-head, All-tail, All-cons, All-nil}
use Rattle.lft_lists.proofs.Places.{same_at}
use Rattle.lft_tag.specs.declared.Tag.{Tag}
use Rattle.lft_ir.specs.declared.steps.row.Row.{Row}
use Rattle.lft_model.specs.{declared.breach.Breach.Breach, Plans.PlanParts, Breaches.{IsUndeclared, RowBreach}, inner.Breaches.BreaksRow}
use Rattle.lft_facts.specs.{declared.facts.{Fact.Fact, RowFact.RowFact}, Facts.{IsFact, IsShown, IsRowFact, AreFacts, AreShown, IsRowOf}, inner.Enough.GivesRow}
use Rattle.lft_facts.specs.Enough.{ProvesRow, IsOwn, AreOwn, wrong_row}
use Rattle.lft_facts.specs.declared.facts.Fact.TheVariants as fact

pub breaks_4 : (plan : PlanParts) (t : List Row) (i : ℕ) (row : Row) → BreaksRow plan t i row 4 → IsUndeclared plan.program t i row row.step
breaks_4 plan t i row (inl x) = let e = x.0 in absurd (omega arith)
breaks_4 plan t i row (inr (inl x)) = let e = x.0 in absurd (omega arith)
breaks_4 plan t i row (inr (inr (inl x))) = let e = x.0 in absurd (omega arith)
breaks_4 plan t i row (inr (inr (inr (inl x)))) = x.1
breaks_4 plan t i row (inr (inr (inr (inr x)))) = let e = x.0 in absurd (omega arith)

-- the row of a breach, and a fact that gives its rule
pub row_proves : (b : Breach) (g : Tag) (r i : ℕ) (f : RowFact) (facts : List Fact) → facts ≡ fact.RowIs g r i ∷ fact.Row f ∷ [] → b.tag ≡ g → b.reaction ≡ Some r → b.row ≡ i + 2 → GivesRow f i b.rule → ProvesRow facts b
row_proves b g r i f facts is tag reaction line gives plan t all =
    let each : AreShown plan t (fact.RowIs g r i ∷ fact.Row f ∷ []) = subst (λ (fs : List Fact). AreShown plan t fs) is all in
    let of : IsRowOf t g r i = All-head (IsShown plan t) (fact.RowIs g r i) (fact.Row f ∷ []) each in
    let x = gives plan t (All-head (IsShown plan t) (fact.Row f) [] (All-tail (IsShown plan t) (fact.RowIs g r i) (fact.Row f ∷ []) each)) in
    let same : of.row ≡ x.0 = same_at t i i of.row x.0 of.is_row x.1 refl in
    record { place = i; row = x.0; is_row = x.1; breaks = x.2; tag_is = tag ∙ sym of.tag_is ∙ ap (λ (y : Row). y.tag) same; reaction_is = reaction ∙ ap Some (sym of.reaction_is ∙ ap (λ (y : Row). y.reaction) same); row_is = line }

pub row_holds : (plan : PlanParts) (t : List Row) (g : Tag) (r i : ℕ) (f : RowFact) (facts : List Fact) → facts ≡ fact.RowIs g r i ∷ fact.Row f ∷ [] → IsRowOf t g r i → IsRowFact plan t f → AreFacts plan t facts
row_holds plan t g r i f facts is of holds = subst (λ (fs : List Fact). AreFacts plan t fs) (sym is) (All-cons (IsFact plan t) (fact.RowIs g r i) (fact.Row f ∷ []) of (All-cons (IsFact plan t) (fact.Row f) [] holds (All-nil (IsFact plan t))))

pub row_own : (b : Breach) (g : Tag) (r i : ℕ) (f : RowFact) (facts : List Fact) → facts ≡ fact.RowIs g r i ∷ fact.Row f ∷ [] → b.row ≡ i + 2 → wrong_row f ≡ i → AreOwn b facts
row_own b g r i f facts is line same = subst (λ (fs : List Fact). AreOwn b fs) (sym is) (All-cons (IsOwn b) (fact.RowIs g r i) (fact.Row f ∷ []) line (All-cons (IsOwn b) (fact.Row f) [] (omega arith) (All-nil (IsOwn b))))

-- the row of a breach is the one that its line names
module _ (plan : PlanParts) (t : List Row) (b : Breach) (x : RowBreach plan t b) (i : ℕ) (line : b.row ≡ i + 2) (row : Row) (is_row : slice_get t i ≡ Some row) where
  same_place : x.place ≡ i
  same_place = let e : b.row ≡ x.place + 2 = x.row_is in omega arith

  same_row : x.row ≡ row
  same_row = same_at t x.place i x.row row x.is_row is_row same_place

  pub own_breaks : BreaksRow plan t i row b.rule
  own_breaks = subst (λ (y : Row). BreaksRow plan t i y b.rule) same_row (subst (λ (k : ℕ). BreaksRow plan t k x.row b.rule) same_place x.breaks)

  pub own_tag : b.tag ≡ row.tag
  own_tag = x.tag_is ∙ ap (λ (y : Row). y.tag) same_row

  pub own_reaction : b.reaction ≡ Some row.reaction
  own_reaction = x.reaction_is ∙ ap (λ (y : Row). Some y.reaction) same_row
