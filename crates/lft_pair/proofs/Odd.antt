-- The first run that isn't in both traces with an equal answer.
use Rattle.std.proofs.Common.{◌≡◌, ℕ, ◌+◌, ◌<◌, ◌≤◌, ◌⊎◌, inl, inr, List, length, refl, sym, ap, ◌∙◌, subst, arith, Option, Some, None, MatchOption, IsSomeAnd, slice_get, Bool}
use Rattle.std.specs.Bool.{Decides}
use native.Mathlib.Decide.{dec_lt, ℕ_discrete}
use Rattle.lft_tag.specs.{declared.Tag.Tag, Tags.{Before, UpTo}}
use Rattle.lft_tag.proofs.Order.{Before-irrefl, Before-trans, Before-weaken, Before-UpTo, order_cases, UpTo-refl, UpTo-trans, UpTo-not, UpTo_antisym}
use Rattle.lft_ir.specs.{declared.steps.row.{Row.Row, Step.{Step, TheVariants.Start}}, Steps.Fits.RowsFit}
use Rattle.lft_graph.specs.Graph.{GraphParts, IsGraphOf}
use Rattle.lft_lists.proofs.Places.{get_there}
use Rattle.lft_model.specs.{Plans.{PlanParts, IsSoundPlan}, Breaches.Legal, Runs.{Ran, start_row, steps_of, effects_of}}
use Rattle.lft_model.proofs.{Legality.{four, rising}, Places.slice_get_within, Ended.row_is}
use Rattle.lft_pair.specs.{inner.{Answering.SameAnswers, Places.{AreLastStarts, AreRowsUpTo}, Pairs.{Agrees, FirstOdd}}, Pairs.ComesFirst}
use Rattle.lft_pair.proofs.{Kept.start_is, Answering.{same_effects, same_from_effects}}
use Rattle.lft_races.specs.Runs.{StartsAt}

-- the order of runs
module _ (levels : List ℕ) where
  level_same : (a k l : ℕ) → slice_get levels a ≡ Some k → slice_get levels a ≡ Some l → k ≡ l
  level_same a k l e q = let z : Some k ≡ Some l = sym e ∙ q in cc

  pub first_trans : (f g h : Tag) (a b c : ℕ) → ComesFirst levels f a g b → ComesFirst levels g b h c → ComesFirst levels f a h c
  first_trans f g h a b c (inl x) (inl y) = inl (Before-trans f g h x y)
  first_trans f g h a b c (inl x) (inr y) = inl (subst (λ (z : Tag). Before f z) y.0 x)
  first_trans f g h a b c (inr x) (inl y) = inl (subst (λ (z : Tag). Before z h) (sym x.0) y)
  first_trans f g h a b c (inr x) (inr y) = inr (x.0 ∙ y.0, (x.1.0, y.1.1, x.1.2, y.1.3, go (level_same b x.1.1 y.1.0 x.1.3 y.1.2) x.1.4 y.1.4))
    where
      go : {k l m n : ℕ} → l ≡ m → (k < l) ⊎ ((k ≡ l) × (a < b)) → (m < n) ⊎ ((m ≡ n) × (b < c)) → (k < n) ⊎ ((k ≡ n) × (a < c))
      go e (inl p) (inl q) = inl (omega arith)
      go e (inl p) (inr q) = let s = q.0 in inl (omega arith)
      go e (inr p) (inl q) = let s = p.0 in inl (omega arith)
      go e (inr p) (inr q) = let s = p.0 in let u = q.0 in let v = p.1 in let w = q.1 in inr (omega arith, omega arith)

  pub first_irrefl : (g : Tag) (a : ℕ) → ¬ ComesFirst levels g a g a
  first_irrefl g a (inl x) = Before-irrefl g x
  first_irrefl g a (inr x) = go (level_same a x.1.0 x.1.1 x.1.2 x.1.3) x.1.4
    where
      go : {k l : ℕ} → k ≡ l → (k < l) ⊎ ((k ≡ l) × (a < a)) → ⊥
      go e (inl p) = absurd (omega arith)
      go e (inr p) = let v = p.1 in absurd (omega arith)

  pub first_cases : (g h : Tag) (a b : ℕ) → a < length levels → b < length levels → ¬ ComesFirst levels g a h b → ComesFirst levels h b g a ⊎ ((g ≡ h) × (a ≡ b))
  first_cases g h a b la lb n = by_tag (order_cases h g) (order_cases g h)
    where
      k : (x : ℕ) × (slice_get levels a ≡ Some x)
      k = get_there levels a la

      l : (x : ℕ) × (slice_get levels b ≡ Some x)
      l = get_there levels b lb

      at_tag : g ≡ h → Dec (k.0 < l.0) → Dec (l.0 < k.0) → Dec (a < b) → Dec (b < a) → ComesFirst levels h b g a ⊎ ((g ≡ h) × (a ≡ b))
      at_tag e (yes p) d f j = absurd (n (inr (e, (k.0, l.0, k.1, l.1, inl p))))
      at_tag e (no p) (yes q) f j = inl (inr (sym e, (l.0, k.0, l.1, k.1, inl q)))
      at_tag e (no p) (no q) (yes f) j = absurd (n (inr (e, (k.0, l.0, k.1, l.1, inr (omega arith, f)))))
      at_tag e (no p) (no q) (no f) (yes j) = inl (inr (sym e, (l.0, k.0, l.1, k.1, inr (omega arith, j))))
      at_tag e (no p) (no q) (no f) (no j) = inr (e, omega arith)

      by_tag : Before h g ⊎ UpTo g h → Before g h ⊎ UpTo h g → ComesFirst levels h b g a ⊎ ((g ≡ h) × (a ≡ b))
      by_tag (inl x) y = inl (inl x)
      by_tag (inr x) (inl y) = absurd (n (inl y))
      by_tag (inr x) (inr y) = at_tag (UpTo_antisym g h x y) (dec_lt k.0 l.0) (dec_lt l.0 k.0) (dec_lt a b) (dec_lt b a)

-- what the comparison of two runs' steps tells
module _ (plan : PlanParts) (t s : List Row) (g : Tag) (r p : ℕ) (other : Row) (at : StartsAt s g r p) (is_other : slice_get s p ≡ Some other) where
  same_row : other ≡ start_row at.0 g r
  same_row = let z : Some other ≡ Some (start_row at.0 g r) = sym is_other ∙ at.1 in cc

  pub agrees_by : IsSoundPlan plan → Legal plan t → Legal plan s → (mine theirs : List Step) (b : Bool) → mine ≡ steps_of t g r → theirs ≡ steps_of s other.tag other.reaction → Decides b (SameAnswers mine theirs) → Decides b (Agrees plan t s g r)
  agrees_by good first second mine theirs b m h d = (λ q. (record { place = p; worker = at.0; starts = at.1 }, same_effects (effects_of plan.program r) (steps_of t g r) (steps_of s g r) (all.0 q)), λ a. all.1 (same_from_effects plan good t s first second g r a.1))
    where
      last : theirs ≡ steps_of s g r
      last = h ∙ ap (λ (x : Row). steps_of s x.tag x.reaction) same_row

      all : Decides b (SameAnswers (steps_of t g r) (steps_of s g r))
      all = subst (λ (zs : List Step). Decides b (SameAnswers (steps_of t g r) zs)) last (subst (λ (ys : List Step). Decides b (SameAnswers ys theirs)) m d)

-- a start row of r at g stands before place i
abbrev pub StartedTo : List Row → ℕ → Tag → ℕ → Type 0
StartedTo t i g r = (p w : ℕ) × (p < i) × (slice_get t p ≡ Some (start_row w g r))

-- a start before the next place is one before this place, or is this row
started_last : (t : List Row) (i : ℕ) (row : Row) → slice_get t i ≡ Some row → (g : Tag) (r : ℕ) → StartedTo t (i + 1) g r → StartedTo t i g r ⊎ ((row.step ≡ Start) × (row.tag ≡ g) × (row.reaction ≡ r))
started_last t i row is_row g r x = go (ℕ_discrete x.0 i)
  where
    go : Dec (x.0 ≡ i) → StartedTo t i g r ⊎ ((row.step ≡ Start) × (row.tag ≡ g) × (row.reaction ≡ r))
    go (yes e) = inr (start_is t i row is_row g r (subst (λ k. StartsAt t g r k) e (x.1, x.3)))
    go (no n) = let l : x.0 < i + 1 = x.2 in inl (x.0, x.1, omega arith, x.3)

-- of the runs that start before place i
pub record IsFirstOddTo (plan : PlanParts) (levels : List ℕ) (t s : List Row) (i : ℕ) (x : Tag × ℕ) : Type 0 where
  pub ran : Ran t x.0 x.1
  pub known : x.1 < length levels
  pub odd : ¬ Agrees plan t s x.0 x.1
  pub before : (h : Tag) (a : ℕ) → StartedTo t i h a → ComesFirst levels h a x.0 x.1 → Agrees plan t s h a

abbrev pub FirstOddTo : PlanParts → List ℕ → List Row → List Row → ℕ → Option (Tag × ℕ) → Type 0
FirstOddTo plan levels t s i o = MatchOption o ((h : Tag) (a : ℕ) → StartedTo t i h a → Agrees plan t s h a) (IsFirstOddTo plan levels t s i)

pub odd_begin : (plan : PlanParts) (levels : List ℕ) (t s : List Row) → FirstOddTo plan levels t s 0 None
odd_begin plan levels t s h a x = let k : x.0 < 0 = x.2 in absurd (omega arith)

module _ (plan : PlanParts) (levels : List ℕ) (t s : List Row) (i : ℕ) (row : Row) (is_row : slice_get t i ≡ Some row) where
  abbrev IsHere : Tag → ℕ → Type 0
  IsHere h a = (row.step ≡ Start) × (row.tag ≡ h) × (row.reaction ≡ a)

  -- a row that starts no run, or one that agrees
  extend : (o : Option (Tag × ℕ)) → ((h : Tag) (a : ℕ) → IsHere h a → Agrees plan t s h a) → FirstOddTo plan levels t s i o → FirstOddTo plan levels t s (i + 1) o
  extend None here so_far = λ h a x. go h a (started_last t i row is_row h a x)
    where
      go : (h : Tag) (a : ℕ) → StartedTo t i h a ⊎ IsHere h a → Agrees plan t s h a
      go h a (inl y) = so_far h a y
      go h a (inr y) = here h a y
  extend (Some x) here so_far = record { ran = so_far.ran; known = so_far.known; odd = so_far.odd; before = λ h a y l. go h a l (started_last t i row is_row h a y) }
    where
      go : (h : Tag) (a : ℕ) → ComesFirst levels h a x.0 x.1 → StartedTo t i h a ⊎ IsHere h a → Agrees plan t s h a
      go h a l (inl y) = so_far.before h a y l
      go h a l (inr y) = here h a y

  pub odd_stays : (o : Option (Tag × ℕ)) → ¬ (row.step ≡ Start) → FirstOddTo plan levels t s i o → FirstOddTo plan levels t s (i + 1) o
  odd_stays o n so_far = extend o (λ h a y. absurd (n y.0)) so_far

  pub odd_agrees : (o : Option (Tag × ℕ)) → Agrees plan t s row.tag row.reaction → FirstOddTo plan levels t s i o → FirstOddTo plan levels t s (i + 1) o
  odd_agrees o q so_far = extend o (λ h a y. subst (λ (c : ℕ). Agrees plan t s h c) y.2 (subst (λ (z : Tag). Agrees plan t s z row.reaction) y.1 q)) so_far

  -- a run that doesn't agree
  module _ (starts : row.step ≡ Start) (within : row.reaction < length levels) (odd : ¬ Agrees plan t s row.tag row.reaction) where
    here_ran : Ran t row.tag row.reaction
    here_ran = record { place = i; worker = row.worker; starts = is_row ∙ ap Some (row_is row row.worker row.tag row.reaction Start refl refl refl starts) }

    not_here : (h : Tag) (a : ℕ) → IsHere h a → ¬ ComesFirst levels h a row.tag row.reaction
    not_here h a y l = first_irrefl levels row.tag row.reaction (subst (λ (c : ℕ). ComesFirst levels row.tag c row.tag row.reaction) (sym y.2) (subst (λ (z : Tag). ComesFirst levels z a row.tag row.reaction) (sym y.1) l))

    alone : ((h : Tag) (a : ℕ) → StartedTo t i h a → ComesFirst levels h a row.tag row.reaction → Agrees plan t s h a) → IsFirstOddTo plan levels t s (i + 1) (row.tag, row.reaction)
    alone f = record { ran = here_ran; known = within; odd = odd; before = λ h a y l. go h a l (started_last t i row is_row h a y) }
      where
        go : (h : Tag) (a : ℕ) → ComesFirst levels h a row.tag row.reaction → StartedTo t i h a ⊎ IsHere h a → Agrees plan t s h a
        go h a l (inl y) = f h a y l
        go h a l (inr y) = absurd (not_here h a y l)

    pub odd_more : (o : Option (Tag × ℕ)) (x : Tag × ℕ) → MatchOption o (x ≡ (row.tag, row.reaction)) (λ y. ((x ≡ y) × ComesFirst levels y.0 y.1 row.tag row.reaction) ⊎ ((x ≡ (row.tag, row.reaction)) × (ComesFirst levels y.0 y.1 row.tag row.reaction → ⊥))) → FirstOddTo plan levels t s i o → IsFirstOddTo plan levels t s (i + 1) x
    odd_more None x e so_far = subst (λ (z : Tag × ℕ). IsFirstOddTo plan levels t s (i + 1) z) (sym e) (alone (λ h a y l. so_far h a y))
    odd_more (Some y) x (inl e) so_far = subst (λ (z : Tag × ℕ). IsFirstOddTo plan levels t s (i + 1) z) (sym e.0) (record { ran = so_far.ran; known = so_far.known; odd = so_far.odd; before = λ h a q l. go h a l (started_last t i row is_row h a q) })
      where
        go : (h : Tag) (a : ℕ) → ComesFirst levels h a y.0 y.1 → StartedTo t i h a ⊎ IsHere h a → Agrees plan t s h a
        go h a l (inl q) = so_far.before h a q l
        go h a l (inr q) = absurd (not_here h a q (first_trans levels h y.0 row.tag a y.1 row.reaction l e.1))
    odd_more (Some y) x (inr e) so_far = subst (λ (z : Tag × ℕ). IsFirstOddTo plan levels t s (i + 1) z) (sym e.0) (alone (λ h a q l. so_far.before h a q (go h a l (first_cases levels y.0 row.tag y.1 row.reaction so_far.known within e.1))))
      where
        go : (h : Tag) (a : ℕ) → ComesFirst levels h a row.tag row.reaction → ComesFirst levels row.tag row.reaction y.0 y.1 ⊎ ((y.0 ≡ row.tag) × (y.1 ≡ row.reaction)) → ComesFirst levels h a y.0 y.1
        go h a l (inl c) = first_trans levels h row.tag y.0 a row.reaction y.1 l c
        go h a l (inr c) = subst (λ (b : ℕ). ComesFirst levels h a y.0 b) (sym c.1) (subst (λ (z : Tag). ComesFirst levels h a z row.reaction) (sym c.0) l)

pub odd_end : (plan : PlanParts) (levels : List ℕ) (t s : List Row) (i : ℕ) (o : Option (Tag × ℕ)) → length t ≤ i → FirstOddTo plan levels t s i o → FirstOdd plan levels t s o
odd_end plan levels t s i o l = go o
  where
    all : (h : Tag) (a : ℕ) → Ran t h a → StartedTo t i h a
    all h a x = let k : x.place < length t = slice_get_within t x.place (start_row x.worker h a) x.starts in (x.place, x.worker, omega arith, x.starts)

    go : (o : Option (Tag × ℕ)) → FirstOddTo plan levels t s i o → FirstOdd plan levels t s o
    go None m = λ h a x. m h a (all h a x)
    go (Some x) m = record { ran = m.ran; odd = m.odd; before = λ h a y l. m.before h a (all h a y) l }

pub known_level : (plan : PlanParts) (graph : GraphParts) (t : List Row) (i : ℕ) (row : Row) → IsGraphOf plan.program graph → RowsFit plan.program t → slice_get t i ≡ Some row → row.reaction < length graph.levels
known_level plan graph t i row g fit e =
    let l : row.reaction < length plan.program.reactions = (fit.each i row e).reaction in
    let a : length graph.levels ≡ length graph.before = g.levels.as_long in
    let b : length graph.before ≡ length plan.program.reactions = g.as_long in
    omega arith

-- where the first odd run is at an earlier tag than the next row, no later run comes before it
pub odd_over : (plan : PlanParts) (levels : List ℕ) (t s : List Row) → Legal plan t → (i : ℕ) (row : Row) → slice_get t i ≡ Some row → (o : Option (Tag × ℕ)) → IsSomeAnd o (λ x. Before x.0 row.tag) → FirstOddTo plan levels t s i o → FirstOdd plan levels t s o
odd_over plan levels t s legal i row is_row None b m = absurd b
odd_over plan levels t s legal i row is_row (Some x) b m = record { ran = m.ran; odd = m.odd; before = λ h a y l. m.before h a (early h a y l (dec_lt y.place i)) l }
  where
    at_most : (h : Tag) (a : ℕ) → ComesFirst levels h a x.0 x.1 → UpTo h x.0
    at_most h a (inl l) = Before-weaken h x.0 l
    at_most h a (inr l) = subst (λ (g : Tag). UpTo h g) l.0 (UpTo-refl h)

    same_or_later : (h : Tag) (a : ℕ) (y : Ran t h a) → ¬ (y.place < i) → Dec (y.place ≡ i) → UpTo row.tag h
    same_or_later h a y n (yes e) = subst (λ (g : Tag). UpTo row.tag g) (start_is t i row is_row h a (subst (λ k. StartsAt t h a k) e (y.worker, y.starts))).1 (UpTo-refl row.tag)
    same_or_later h a y n (no e) = rising plan t (four plan t legal.rows) i y.place row (start_row y.worker h a) (omega arith) is_row y.starts

    early : (h : Tag) (a : ℕ) (y : Ran t h a) → ComesFirst levels h a x.0 x.1 → Dec (y.place < i) → StartedTo t i h a
    early h a y l (yes p) = (y.place, y.worker, p, y.starts)
    early h a y l (no n) = absurd (UpTo-not h x.0 (at_most h a l) (Before-UpTo x.0 row.tag h b (same_or_later h a y n (ℕ_discrete y.place i))))

-- what holds before the row at place i: the first odd run so far, and of the second trace the rows that were read
pub record Compared (plan : PlanParts) (levels : List ℕ) (t s : List Row) (i : ℕ) (read : ℕ) (places : List ℕ) (o : Option (Tag × ℕ)) : Type 0 where
  pub odd : FirstOddTo plan levels t s i o
  pub as_long : length places ≡ length plan.program.reactions
  pub kept : AreLastStarts s read places
  pub up_to : (j : ℕ) (x : Row) → i ≤ j → slice_get t j ≡ Some x → AreRowsUpTo s read x.tag

-- what was read up to a row's tag is up to the tag of each later row
pub read_on : (plan : PlanParts) (t s : List Row) → Legal plan t → (i : ℕ) (row : Row) → slice_get t i ≡ Some row → (read : ℕ) → AreRowsUpTo s read row.tag → (j : ℕ) (x : Row) → i + 1 ≤ j → slice_get t j ≡ Some x → AreRowsUpTo s read x.tag
read_on plan t s legal i row is_row read u j x l e k y m q = UpTo-trans y.tag row.tag x.tag (u k y m q) (rising plan t (four plan t legal.rows) i j row x (omega arith) is_row e)

pub compared_begin : (plan : PlanParts) (levels : List ℕ) (t s : List Row) (read : ℕ) (places : List ℕ) → read ≡ 0 → length places ≡ length plan.program.reactions → AreLastStarts s read places → Compared plan levels t s 0 read places None
compared_begin plan levels t s read places none long kept = record { odd = odd_begin plan levels t s; as_long = long; kept = kept; up_to = λ j x l e k y m q. absurd (omega arith) }

module _ (plan : PlanParts) (levels : List ℕ) (t s : List Row) (i read : ℕ) (places : List ℕ) (o : Option (Tag × ℕ)) (odd : FirstOddTo plan levels t s (i + 1) o) where
  -- after a row that starts no run
  pub compared_on : (before : Option (Tag × ℕ)) → Compared plan levels t s i read places before → Compared plan levels t s (i + 1) read places o
  compared_on before m = record { odd = odd; as_long = m.as_long; kept = m.kept; up_to = λ j x l e. m.up_to j x (omega arith) e }

  -- after a row that starts a run
  pub compared_run : (row : Row) → Legal plan t → slice_get t i ≡ Some row → length places ≡ length plan.program.reactions → AreLastStarts s read places → AreRowsUpTo s read row.tag → Compared plan levels t s (i + 1) read places o
  compared_run row legal is_row long kept up_to = record { odd = odd; as_long = long; kept = kept; up_to = read_on plan t s legal i row is_row read up_to }
