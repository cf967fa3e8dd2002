-- Facts of a race hold, and stand behind the others.
use Rattle.std.proofs.Common.{◌≡◌, ◌⊎◌, inl, inr, ℕ, ◌+◌, ◌<◌, ◌≤◌, Bool, true, List, [], ◌∷◌, ◌++◌, append_assoc, length, length-append, take, refl, sym, ap, ◌∙◌, subst, arith, Option, Some, slice_get}
use Rattle.std.specs.Prelude.{◌↔◌}
use Rattle.std.proofs.lemmas.List.Elements.{All-cons}
use native.Mathlib.Decide.{ℕ_discrete}
use Rattle.lft_lists.proofs.Places.{get_push, get_last, get_push_cases, Some_same}
use Rattle.lft_tag.specs.declared.Tag.{Tag}
use Rattle.lft_ir.specs.{declared.steps.row.Row.Row, Parts.Parts}
use Rattle.lft_model.{specs.{declared.breach.Breach.Breach, Plans.PlanParts}, proofs.Places.{slice_get_within, slice_get_take}}
use Rattle.lft_graph.specs.Precedence.{Precedes}
use Rattle.lft_races.{specs.{Runs.{StartsAt, EndsAt}, Races.{IsUnfinished, IsRace, StandBefore, EndLater}}, proofs.{Ending.starts_here, Standing.end_behind}}
use Rattle.lft_facts.specs.{declared.facts.Fact.Fact, Facts.{IsChosen, IsFact, AreFacts, AreShown, IsShown}, inner.{Enough.Adds, Ways.{IsMarked, EndsMarked}}}
use Rattle.lft_facts.specs.Enough.{AreOwn, IsOwn, StartsBeforeBreach, GivesChain, EndWithRace, Proves, ProvesTag}
use Rattle.lft_facts.proofs.{Lists.all_left, Giving.all_shown, Added.adds_row}
use Rattle.lft_facts.specs.declared.facts.Fact.TheVariants as fact

-- the marks of some reactions alone, up to a place
pub record AreOnly (marks : List (Option ℕ)) (these : List Bool) (i : ℕ) (left : List (Option ℕ)) : Type 0 where
  pub as_long : length left ≡ i
  pub right : (a b : ℕ) → (slice_get left a ≡ Some (Some b)) ↔ ((a < i) × (slice_get marks a ≡ Some (Some b)) × (slice_get these a ≡ Some true))

pub only_none : (marks : List (Option ℕ)) (these : List Bool) (left : List (Option ℕ)) → left ≡ [] → AreOnly marks these 0 left
only_none marks these left e = record { as_long = ap length e; right = λ a b. (λ q. absurd (none a b q), λ x. absurd (low a x.0)) }
  where
    none : (a b : ℕ) → ¬ (slice_get left a ≡ Some (Some b))
    none a b q = let l : a < length left = slice_get_within left a (Some b) q in let z : length left ≡ 0 = ap length e in absurd (omega arith)

    low : (a : ℕ) → ¬ (a < 0)
    low a l = absurd (omega arith)

pub only_more : (marks : List (Option ℕ)) (these : List Bool) (i : ℕ) (left new : List (Option ℕ)) (mark kept : Option ℕ) (is_kept : Bool) → AreOnly marks these i left → slice_get marks i ≡ Some mark → slice_get these i ≡ Some is_kept → ((b : ℕ) → (kept ≡ Some b) ↔ ((mark ≡ Some b) × (is_kept ≡ true))) → new ≡ left ++ kept ∷ [] → AreOnly marks these (i + 1) new
only_more marks these i left new mark kept is_kept so_far at here right e = record { as_long = ap length e ∙ as_long; right = λ a b. (λ q. fore a b (get_push_cases left kept a (Some b) (ap (λ os. slice_get os a) (sym e) ∙ q)), λ x. ap (λ os. slice_get os a) e ∙ back a b x.0 x.1 x.2 (ℕ_discrete a i)) }
  where
    as_long : length (left ++ kept ∷ []) ≡ i + 1
    as_long = length-append left (kept ∷ []) ∙ ap (λ n. n + 1) so_far.as_long

    fore : (a b : ℕ) → (slice_get left a ≡ Some (Some b)) ⊎ ((a ≡ length left) × (kept ≡ Some b)) → (a < i + 1) × (slice_get marks a ≡ Some (Some b)) × (slice_get these a ≡ Some true)
    fore a b (inl q) = let x = (so_far.right a b).0 q in let l : a < i = x.0 in (omega arith, x.1, x.2)
    fore a b (inr q) =
        let z : a ≡ i = q.0 ∙ so_far.as_long in
        let x = (right b).0 q.1 in
        (omega arith, ap (slice_get marks) z ∙ at ∙ ap Some x.0, ap (slice_get these) z ∙ here ∙ ap Some x.1)

    back : (a b : ℕ) → a < i + 1 → slice_get marks a ≡ Some (Some b) → slice_get these a ≡ Some true → Dec (a ≡ i) → slice_get (left ++ kept ∷ []) a ≡ Some (Some b)
    back a b l p q (yes z) =
        let m : mark ≡ Some b = Some_same mark (Some b) (sym at ∙ ap (slice_get marks) (sym z) ∙ p) in
        let k : is_kept ≡ true = Some_same is_kept true (sym here ∙ ap (slice_get these) (sym z) ∙ q) in
        let w : a ≡ length left = z ∙ sym so_far.as_long in
        ap (slice_get (left ++ kept ∷ [])) w ∙ get_last left kept ∙ ap Some ((right b).1 (m, k))
    back a b l p q (no n) = get_push left kept a (Some b) ((so_far.right a b).1 (omega arith, p, q))

pub only_all : (marks : List (Option ℕ)) (these : List Bool) (i : ℕ) (left : List (Option ℕ)) → length marks ≤ i → AreOnly marks these i left → (a : ℕ) → IsMarked left a ↔ (IsMarked marks a × (slice_get these a ≡ Some true))
only_all marks these i left all are a = (λ m. let x = (are.right a m.0).0 m.1 in ((m.0, x.1), x.2), λ x. (x.0.0, (are.right a x.0.0).1 (below x.0.0 x.0.1, x.0.1, x.1)))
  where
    below : (b : ℕ) → slice_get marks a ≡ Some (Some b) → a < i
    below b e = let l : a < length marks = slice_get_within marks a (Some b) e in omega arith

-- the facts of a race
module _ (g : Tag) (a r start end : ℕ) (steps facts : List Fact) (is : facts ≡ (fact.Race g a r start end ∷ []) ++ steps) where
  pub race_holds : (plan : PlanParts) (t : List Row) → StartsAt t g r start → EndsAt t g a end → start < end → IsUnfinished t g a start → AreFacts plan t steps → GivesChain steps a r → AreFacts plan t facts
  race_holds plan t starts ends l u each chain = subst (λ (fs : List Fact). AreFacts plan t fs) (sym is) (All-cons (IsFact plan t) (fact.Race g a r start end) steps (record { precedes = chain plan t (all_shown plan t steps each); race = record { rows = record { starts = starts; ends = ends; before = l }; unfinished = u } }) each)

  pub race_own : (b : Breach) → StartsBeforeBreach b g start → AreOwn b steps → AreOwn b facts
  race_own b before own = subst (λ (fs : List Fact). AreOwn b fs) (sym is) (All-cons (IsOwn b) (fact.Race g a r start end) steps before own)

  pub race_ends : (program : Parts) (rows : List Row) → IsChosen program rows g a r start → GivesChain steps a r → EndWithRace program rows facts start
  race_ends program rows chosen chain = record { tag = g; earlier = a; later = r; end = end; before = []; steps = steps; are = is; chain = chain; chosen = chosen }

-- a row before the breach is so
pub is_before : (t : List Row) (b : Breach) (n start : ℕ) (row : Row) → StandBefore t b n → start < n → slice_get t start ≡ Some row → StartsBeforeBreach b row.tag start
is_before t b n start row stand l e = record { of_row = by; of_tag = λ z. (stand.of_tag z start row e).0 l }
  where
    by : 0 < b.row → start + 2 < b.row
    by z = let q : n + 2 ≡ b.row = stand.of_row z in omega arith

-- facts that end with a race do so behind others
pub ends_behind : (program : Parts) (rows : List Row) (old more new : List Fact) (i : ℕ) → new ≡ old ++ more → EndWithRace program rows more i → EndWithRace program rows new i
ends_behind program rows old more new i is x = record { tag = x.tag; earlier = x.earlier; later = x.later; end = x.end; before = old ++ x.before; steps = x.steps; are = is ∙ ap (λ fs. old ++ fs) x.are ∙ sym (append_assoc old x.before (fact.Race x.tag x.earlier x.later i x.end ∷ x.steps)); chain = x.chain; chosen = x.chosen }

-- more facts give the same breach
adds_tag : (plan : PlanParts) (t : List Row) (old new : List Fact) (b : Breach) → Adds b plan t old new → ProvesTag old b → ProvesTag new b
adds_tag plan t old new b a gives other s all = gives other s (all_left (IsShown other s) old a.more (subst (λ (fs : List Fact). AreShown other s fs) a.is all))

pub adds_proves : (plan : PlanParts) (t : List Row) (old new : List Fact) (b : Breach) → Adds b plan t old new → Proves old b → Proves new b
adds_proves plan t old new b a p = record { row = λ z. adds_row plan t old new b a (p.row z); tag = λ z. adds_tag plan t old new b a (p.tag z) }

-- of the marked reactions those that are kept
abbrev pub IsOnly : List (Option ℕ) → List Bool → List (Option ℕ) → Type 0
IsOnly marks these left = (a : ℕ) → IsMarked left a ↔ (IsMarked marks a × (slice_get these a ≡ Some true))

pub only_of : (marks others left : List (Option ℕ)) (these those : List Bool) → marks ≡ others → these ≡ those → IsOnly marks these left → IsOnly others those left
only_of marks others left these those e q is = subst (λ (bs : List Bool). IsOnly others bs left) q (subst (λ (ms : List (Option ℕ)). IsOnly ms these left) e is)

pub only_leads : (near next late_near late : List (Option ℕ)) (these : List Bool) → IsOnly near these late_near → IsOnly next these late → ((a : ℕ) → IsMarked near a → IsMarked next a) → (a : ℕ) → IsMarked late_near a → IsMarked late a
only_leads near next late_near late these first second leads a m = let x = (first a).0 m in (second a).1 (leads a x.0, x.1)

-- the row of a race, and what hasn't ended there
module _ (program : Parts) (t : List Row) (n start : ℕ) (race : IsRace program (take n t) start) (row : Row) (is_row : slice_get t start ≡ Some row) where
  same : race.row ≡ row
  same = Some_same race.row row (sym (slice_get_take n t start race.row race.is_row).1 ∙ is_row)

  pub row_starts : StartsAt t row.tag row.reaction start
  row_starts = starts_here t start row is_row row.tag (ap (λ (r : Row). r.step) (sym same) ∙ race.starts) refl

  pub late_some : EndLater t n → (late : List (Option ℕ)) → ((a : ℕ) → Precedes program a row.reaction → IsUnfinished (take n t) row.tag a start → IsMarked late a) → (i : ℕ) × (start < i) × EndsMarked t row.tag late i
  late_some later late marked =
      let e = end_behind program t n start race later in
      (e.0, e.1, (race.earlier, subst (λ (r : Row). EndsAt t r.tag race.earlier e.0) same e.2, marked race.earlier (subst (λ (r : Row). Precedes program race.earlier r.reaction) same race.precedes) (subst (λ (r : Row). IsUnfinished (take n t) r.tag race.earlier start) same race.unfinished)))
