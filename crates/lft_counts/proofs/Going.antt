-- The orders of a reaction that starts, one after another.
use Rattle.std.proofs.Common.{◌≡◌, ◌≢◌, ℕ, zero, suc, ◌+◌, ◌<◌, ◌≤◌, ◌⊎◌, inl, inr, List, [], ◌∷◌, length, length-set, Option, Some, None, refl, sym, ap, ◌∙◌, subst, arith, slice_get, slice_set, map}
use Rattle.std.proofs.lemmas.List.{map-set}
use native.Mathlib.Decide.{ℕ_discrete, dec_lt}
use Rattle.lft_lists.proofs.Places.{get_write_cases}
use Rattle.lft_tag.specs.declared.Tag.{Tag}
use Rattle.lft_ir.specs.declared.steps.row.{Row.Row, Step.TheVariants.{Start, End}}
use Rattle.lft_model.{specs.Runs.{start_row, end_row}, proofs.{Places.slice_get_within, Ended.row_is}}
use Rattle.lft_counts.specs.{declared.orders.{Last.Last, Order.Order, Orders.Orders}, Orders.{NoStart, IsLast, IsCounted, IsLaidOut, Stands, cleared}}
use Rattle.lft_graph.{specs.Counts.same, proofs.Counting.count_within}

-- those from place b to a place are counted behind the start, the others before it
pub record Going (t : List Row) (n i b place : ℕ) (entry now : Orders) : Type 0 where
  pub laid : IsLaidOut n now.all.items entry.begins.items
  pub begins : now.begins.items ≡ entry.begins.items
  pub lasts : now.lasts.items ≡ entry.lasts.items
  pub all : map cleared now.all.items ≡ map cleared entry.all.items
  pub done : (k : ℕ) (x : Order) → slice_get now.all.items k ≡ Some x → b ≤ k → k < place → IsCounted t (i + 1) x
  pub rest : (k : ℕ) (x : Order) → slice_get now.all.items k ≡ Some x → (k < b) ⊎ (place ≤ k) → IsCounted t i x

-- a member with the same reactions
laid_so : (n : ℕ) (all : List Order) (begins : List ℕ) (k : ℕ) (x y : Order) → slice_get all k ≡ Some x → y.first ≡ x.first → y.then ≡ x.then → IsLaidOut n all begins → IsLaidOut n (slice_set all k y) begins
laid_so n all begins k x y e p q laid = record { as_long = laid.as_long; first = first; ends = ends; there = there; back = back }
  where
    l : k < length all
    l = slice_get_within all k x e

    old : (j : ℕ) (z : Order) → slice_get (slice_set all k y) j ≡ Some z → (v : Order) × (slice_get all j ≡ Some v) × (z.first ≡ v.first) × (z.then ≡ v.then)
    old j z f = go (get_write_cases all k j y z l f)
      where
        go : ((j ≡ k) × (y ≡ z)) ⊎ ((j ≢ k) × (slice_get all j ≡ Some z)) → (v : Order) × (slice_get all j ≡ Some v) × (z.first ≡ v.first) × (z.then ≡ v.then)
        go (inl s) = (x, subst (λ m. slice_get all m ≡ Some x) (sym s.0) e, ap (λ (w : Order). w.first) (sym s.1) ∙ p, ap (λ (w : Order). w.then) (sym s.1) ∙ q)
        go (inr s) = (z, s.1, refl, refl)

    first : (j : ℕ) (z : Order) → slice_get (slice_set all k y) j ≡ Some z → z.first < n
    first j z f = let v = old j z f in subst (λ m. m < n) (sym v.2) (laid.first j v.0 v.1)

    ends : (r b : ℕ) → slice_get begins r ≡ Some b → b ≤ length (slice_set all k y)
    ends r b f = let g = laid.ends r b f in let s = length-set all k y in omega (arith, g, s)

    there : (j r b e : ℕ) (z : Order) → slice_get (slice_set all k y) j ≡ Some z → slice_get begins r ≡ Some b → slice_get begins (r + 1) ≡ Some e → b ≤ j → j < e → z.then ≡ r
    there j r b e z f g h o u = let v = old j z f in v.3 ∙ laid.there j r b e v.0 v.1 g h o u

    back : (j r b e : ℕ) (z : Order) → slice_get (slice_set all k y) j ≡ Some z → slice_get begins r ≡ Some b → slice_get begins (r + 1) ≡ Some e → z.then ≡ r → (b ≤ j) × (j < e)
    back j r b e z f g h s = let v = old j z f in laid.back j r b e v.0 v.1 g h (sym v.3 ∙ s)

-- before the first of them
pub set_out : (t : List Row) (n i b : ℕ) (entry : Orders) → Stands t n i entry → Going t n i b b entry entry
set_out t n i b entry s = record { laid = s.laid; begins = refl; lasts = refl; all = refl; done = λ k x e l m. absurd (omega arith); rest = λ k x e l. s.counted k x e }

-- a member with the same reactions is the same before it is met
set_same : (all : List Order) (k : ℕ) (x y : Order) → slice_get all k ≡ Some x → y.first ≡ x.first → y.then ≡ x.then → slice_set (map cleared all) k (cleared y) ≡ map cleared all
set_same [] k x y e p q = refl
set_same (z ∷ zs) zero x y e p q = let s : z ≡ x = cc in ap (λ (c : Order). c ∷ map cleared zs) (clear_same p q ∙ ap cleared (sym s))
  where
    clear_same : y.first ≡ x.first → y.then ≡ x.then → cleared y ≡ cleared x
    clear_same f g = cc
set_same (z ∷ zs) (suc k) x y e p q = ap (λ (cs : List Order). cleared z ∷ cs) (set_same zs k x y e p q)

-- one more
pub go_on : (t : List Row) (n i b place : ℕ) (entry now : Orders) (x y : Order) → b ≤ place → slice_get now.all.items place ≡ Some x → y.first ≡ x.first → y.then ≡ x.then → IsCounted t (i + 1) y → Going t n i b place entry now → (next : Orders) → next.all.items ≡ slice_set now.all.items place y → next.begins.items ≡ now.begins.items → next.lasts.items ≡ now.lasts.items → Going t n i b (place + 1) entry next
go_on t n i b place entry now x y low e p q its so next all begins lasts = record {
  laid = subst (λ (z : List Order). IsLaidOut n z entry.begins.items) (sym all) (laid_so n now.all.items entry.begins.items place x y e p q so.laid);
  begins = begins ∙ so.begins;
  lasts = lasts ∙ so.lasts;
  all = ap (map cleared) all ∙ map-set cleared now.all.items place y ∙ unchanged ∙ so.all;
  done = done;
  rest = rest;
}
  where
    unchanged : slice_set (map cleared now.all.items) place (cleared y) ≡ map cleared now.all.items
    unchanged = set_same now.all.items place x y e p q

    cases : (k : ℕ) (z : Order) → slice_get next.all.items k ≡ Some z → ((k ≡ place) × (y ≡ z)) ⊎ ((k ≢ place) × (slice_get now.all.items k ≡ Some z))
    cases k z f = get_write_cases now.all.items place k y z (slice_get_within now.all.items place x e) (subst (λ (v : List Order). slice_get v k ≡ Some z) all f)

    done : (k : ℕ) (z : Order) → slice_get next.all.items k ≡ Some z → b ≤ k → k < place + 1 → IsCounted t (i + 1) z
    done k z f l m = go (cases k z f)
      where
        go : ((k ≡ place) × (y ≡ z)) ⊎ ((k ≢ place) × (slice_get now.all.items k ≡ Some z)) → IsCounted t (i + 1) z
        go (inl s) = subst (IsCounted t (i + 1)) s.1 its
        go (inr s) = so.done k z s.1 l (let n = s.0 in omega (arith, n))

    rest : (k : ℕ) (z : Order) → slice_get next.all.items k ≡ Some z → (k < b) ⊎ (place + 1 ≤ k) → IsCounted t i z
    rest k z f l = go (cases k z f) l
      where
        go : ((k ≡ place) × (y ≡ z)) ⊎ ((k ≢ place) × (slice_get now.all.items k ≡ Some z)) → (k < b) ⊎ (place + 1 ≤ k) → IsCounted t i z
        go (inl s) (inl m) = let n = s.0 in absurd (omega (arith, n))
        go (inl s) (inr m) = let n = s.0 in absurd (omega (arith, n))
        go (inr s) (inl m) = so.rest k z s.1 (inl m)
        go (inr s) (inr m) = so.rest k z s.1 (inr (omega arith))

-- behind the last of them
module _ (t : List Row) (n i w r : ℕ) (g : Tag) (entry now : Orders) (here : slice_get t i ≡ Some (start_row w g r)) (was : Stands t n i entry) where
  row_reaction : (v a : ℕ) (h : Tag) → slice_get t i ≡ Some (start_row v h a) → a ≡ r
  row_reaction v a h e = let z : Some (start_row v h a) ≡ Some (start_row w g r) = sym e ∙ here in let y : start_row v h a ≡ start_row w g r = cc in ap (λ (x : Row). x.reaction) y

  passed : (x : Order) → x.then ≢ r → IsCounted t i x → IsCounted t (i + 1) x
  passed x m c = record { both = same (λ y. m (row_reaction y.worker x.then y.tag y.starts)) c.both; apart = same (λ y. m (row_reaction y.worker x.then y.tag y.starts)) c.apart }

  still : (a from : ℕ) → a ≢ r → NoStart t from i a → NoStart t from (i + 1) a
  still a from n none k v h l m e = go (ℕ_discrete k i)
    where
      go : Dec (k ≡ i) → ⊥
      go (yes s) = n (row_reaction v a h (subst (λ j. slice_get t j ≡ Some (start_row v h a)) s e))
      go (no s) = none k v h l (omega arith) e

  last_still : (a : ℕ) (o : Option Last) → a ≢ r → IsLast t i a o → IsLast t (i + 1) a o
  last_still a None n is = still a 0 n is
  last_still a (Some l) n is = let m = is.1 in (is.0, omega arith, is.2, still a (is.0 + 1) n is.3)

  pub arrive : (b e : ℕ) → slice_get entry.begins.items r ≡ Some b → slice_get entry.begins.items (r + 1) ≡ Some e → r < n → (place : ℕ) → e ≤ place → Going t n i b place entry now → (next : Orders) → next.all.items ≡ now.all.items → next.begins.items ≡ now.begins.items → next.lasts.items ≡ slice_set now.lasts.items r (Some (record { tag = g; worker = w })) → Stands t n (i + 1) next
  arrive b e f h known place far so next all begins lasts = record {
    as_long = long ∙ was.as_long;
    laid = subst (λ (z : List Order). IsLaidOut n z next.begins.items) (sym all) (subst (λ (z : List ℕ). IsLaidOut n now.all.items z) (sym (begins ∙ so.begins)) so.laid);
    kept = λ a o x. kept a o (get_write_cases entry.lasts.items r a (Some start) o (let l = was.as_long in omega (arith, l, known)) (subst (λ (z : List (Option Last)). slice_get z a ≡ Some o) written x));
    counted = λ k x y. counted k x (subst (λ (z : List Order). slice_get z k ≡ Some x) all y) (dec_lt k b) (dec_lt k place);
  }
    where
      start : Last
      start = record { tag = g; worker = w }

      written : next.lasts.items ≡ slice_set entry.lasts.items r (Some (record { tag = g; worker = w }))
      written = lasts ∙ ap (λ (z : List (Option Last)). slice_set z r (Some (record { tag = g; worker = w }))) so.lasts

      long : length next.lasts.items ≡ length entry.lasts.items
      long = ap (λ (z : List (Option Last)). length z) written ∙ length-set entry.lasts.items r (Some (record { tag = g; worker = w }))

      kept : (a : ℕ) (o : Option Last) → ((a ≡ r) × (Some (record { tag = g; worker = w }) ≡ o)) ⊎ ((a ≢ r) × (slice_get entry.lasts.items a ≡ Some o)) → IsLast t (i + 1) a o
      kept a o (inl s) = subst (λ j. IsLast t (i + 1) j o) (sym s.0) (subst (IsLast t (i + 1) r) s.1 (i, omega arith, here, λ k v h l m e. absurd (omega arith)))
      kept a o (inr s) = last_still a o s.0 (was.kept a o s.1)

      counted : (k : ℕ) (x : Order) → slice_get now.all.items k ≡ Some x → Dec (k < b) → Dec (k < place) → IsCounted t (i + 1) x
      counted k x y (yes l) q = passed x (λ s. let u = (so.laid.back k r b e x y f h s).0 in absurd (omega (arith, u))) (so.rest k x y (inl l))
      counted k x y (no l) (yes m) = so.done k x y (omega arith) m
      counted k x y (no l) (no m) = passed x (λ s. let u = (so.laid.back k r b e x y f h s).1 in absurd (omega (arith, u))) (so.rest k x y (inr (omega arith)))

-- a row that starts no run
pub skipped : (t : List Row) (n i : ℕ) (row : Row) (orders : Orders) → slice_get t i ≡ Some row → ¬ (row.step ≡ Start) → Stands t n i orders → Stands t n (i + 1) orders
skipped t n i row orders here not so = record {
  as_long = so.as_long;
  laid = so.laid;
  kept = λ a o x. last_still a o (so.kept a o x);
  counted = λ k x y. counted x (so.counted k x y);
}
  where
    no_start : (v a : ℕ) (h : Tag) → slice_get t i ≡ Some (start_row v h a) → ⊥
    no_start v a h e = let z : Some row ≡ Some (start_row v h a) = sym here ∙ e in let y : row ≡ start_row v h a = cc in not (ap (λ (x : Row). x.step) y)

    still : (a from : ℕ) → NoStart t from i a → NoStart t from (i + 1) a
    still a from none k v h l m e = go (ℕ_discrete k i)
      where
        go : Dec (k ≡ i) → ⊥
        go (yes s) = no_start v a h (subst (λ j. slice_get t j ≡ Some (start_row v h a)) s e)
        go (no s) = none k v h l (omega arith) e

    last_still : (a : ℕ) (o : Option Last) → IsLast t i a o → IsLast t (i + 1) a o
    last_still a None is = still a 0 is
    last_still a (Some l) is = let m = is.1 in (is.0, omega arith, is.2, still a (is.0 + 1) is.3)

    counted : (x : Order) → IsCounted t i x → IsCounted t (i + 1) x
    counted x c = record { both = same (λ m. no_start m.worker x.then m.tag m.starts) c.both; apart = same (λ m. no_start m.worker x.then m.tag m.starts) c.apart }

-- counts are less than a bound of the rows
pub few : (t : List Row) (i n : ℕ) (x : Order) → i < n → IsCounted t i x → (x.both < n) × (x.apart < n)
few t i n x l c = let p = count_within c.both in let q = count_within c.apart in (omega (arith, p), omega (arith, q))

-- a row that starts a run
pub started : (t : List Row) (i : ℕ) (row : Row) → row.step ≡ Start → slice_get t i ≡ Some row → slice_get t i ≡ Some (start_row row.worker row.tag row.reaction)
started t i row s e = e ∙ ap Some (row_is row row.worker row.tag row.reaction Start refl refl refl s)

-- a row that ends a run
pub ended : (t : List Row) (i : ℕ) (row : Row) → row.step ≡ End → slice_get t i ≡ Some row → slice_get t i ≡ Some (end_row row.worker row.tag row.reaction)
ended t i row s e = e ∙ ap Some (row_is row row.worker row.tag row.reaction End refl refl refl s)
