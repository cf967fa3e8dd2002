-- The rows before a first breach break none of the rules 1 to 5.
use Rattle.std.proofs.Common.{◌≡◌, ℕ, ◌+◌, ◌<◌, ◌≤◌, ◌⊎◌, inl, inr, List, length, take, refl, sym, ap, ◌∙◌, subst, arith, Option, Some, None, slice_get}
use native.Mathlib.Decide.{ℕ_discrete, dec_lt}
use Rattle.lft_lists.proofs.Places.{same_at, get_there, Some_same}
use Rattle.lft_tag.{specs.{declared.Tag.Tag, Tags.{Before, UpTo}}, proofs.Order.{order_cases, UpTo-not, Before-UpTo}}
use Rattle.lft_ir.specs.{Parts.Parts, declared.steps.row.{Row.Row, Step.TheVariants.{Start, End}}}
use Rattle.lft_model.specs.{declared.breach.Breach.Breach, Plans.PlanParts, Runs.{start_row, end_row}, Breaches.{IsOpen, RowBreach, First}}
use Rattle.lft_model.specs.inner.Breaches.{BreaksRow, BreaksAt}
use Rattle.lft_model.proofs.Places.{stable, dec_both, dec_below, dec_end_at, slice_get_within, slice_get_take, slice_get_taken}
use Rattle.lft_model.proofs.Legality.{KeepsRows, four, rising, dec_open}
use Rattle.lft_rows.specs.inner.Slices.{Rises}
use Rattle.lft_races.specs.{Runs.EndsAt, Races.{FirstSoFar, NotEnded, IsUnfinished, IsRace, StandBefore, IsRaceBefore, EndLater}, inner.Noted.EndRuns}

-- a breach of no row is the first of all
pub first_of_tag : (plan : PlanParts) (t : List Row) (b : Breach) → FirstSoFar plan t b → b.row ≡ 0 → First plan t b
first_of_tag plan t b (inl x) z = x
first_of_tag plan t b (inr x) z = let e : b.row ≡ x.1.place + 2 = x.1.row_is in absurd (omega arith)

-- a first breach of no row leaves all rows right
pub kept_rows : (plan : PlanParts) (t : List Row) (b : Breach) → First plan t b → b.row ≡ 0 → KeepsRows plan t
kept_rows plan t b (inl x) z = let e : b.row ≡ x.0.place + 2 = x.0.row_is in absurd (omega arith)
kept_rows plan t b (inr x) z = x.0

-- one with a row is of that row
pub first_of_row : (plan : PlanParts) (t : List Row) (b : Breach) → FirstSoFar plan t b → ¬ (b.row ≡ 0) → RowBreach plan t b
first_of_row plan t b (inl (inl x)) n = x.0
first_of_row plan t b (inl (inr x)) n = absurd (n x.1.row_is)
first_of_row plan t b (inr x) n = x.1

-- the rows before a place are at tags up to one
abbrev pub AreUpToTag : List Row → Tag → ℕ → Type 0
AreUpToTag t g n = (i : ℕ) (row : Row) → i < n → slice_get t i ≡ Some row → UpTo row.tag g

pub stand_tag : (plan : PlanParts) (t : List Row) (b : Breach) (n : ℕ) (x : Row) → FirstSoFar plan t b → b.row ≡ 0 → slice_get t n ≡ Some x → Before b.tag x.tag → AreUpToTag t b.tag n → StandBefore t b n
stand_tag plan t b n x first none is_x after so_far = let l : n < length t = slice_get_within t n x is_x in record { within = omega arith; of_row = λ z. absurd (omega arith); of_tag = λ z i row e. (λ m. so_far i row m e, λ u. below i row e u (dec_lt i n)) }
  where
    below : (i : ℕ) (row : Row) → slice_get t i ≡ Some row → UpTo row.tag b.tag → Dec (i < n) → i < n
    below i row e u (yes l) = l
    below i row e u (no d) = absurd (UpTo-not row.tag b.tag u (past (ℕ_discrete i n)))
      where
        past : Dec (i ≡ n) → Before b.tag row.tag
        past (yes z) = subst (λ (y : Row). Before b.tag y.tag) (same_at t n i x row is_x e (sym z)) after
        past (no m) = Before-UpTo b.tag x.tag row.tag after (rising plan t (four plan t (kept_rows plan t b (first_of_tag plan t b first none) none)) n i x row (omega arith) is_x e)

pub stand_all : (t : List Row) (b : Breach) (n : ℕ) → b.row ≡ 0 → length t ≤ n → AreUpToTag t b.tag n → StandBefore t b (length t)
stand_all t b n none all so_far = record { within = within; of_row = λ z. absurd (omega arith); of_tag = λ z i row e. (λ m. up i row e, λ u. slice_get_within t i row e) }
  where
    within : length t ≤ length t
    within = omega arith

    up : (i : ℕ) (row : Row) → slice_get t i ≡ Some row → UpTo row.tag b.tag
    up i row e = let l : i < length t = slice_get_within t i row e in so_far i row (omega arith) e

-- a row before a breach of a row is in a lesser line
by_line : (t : List Row) (b : Breach) (n i k : ℕ) → StandBefore t b n → i < n → 0 < b.row → ¬ ((b.row < i + 2) ⊎ ((b.row ≡ i + 2) × (b.rule ≤ k)))
by_line t b n i k stand l some (inl m) = let q : n + 2 ≡ b.row = stand.of_row some in absurd (omega arith)
by_line t b n i k stand l some (inr m) = let q : n + 2 ≡ b.row = stand.of_row some in let z : b.row ≡ i + 2 = m.0 in absurd (omega arith)

-- a row before a first breach breaks no rule
keeps_before : (plan : PlanParts) (t : List Row) (b : Breach) (n i : ℕ) (c : Breach) → First plan t b → StandBefore t b n → i < n → c.row ≡ i + 2 → ¬ RowBreach plan t c
keeps_before plan t b n i c (inl x) stand l line is = by_line t b n i c.rule stand l (let q : b.row ≡ x.0.place + 2 = x.0.row_is in omega arith) (subst (λ m. (b.row < m) ⊎ ((b.row ≡ m) × (b.rule ≤ c.rule))) line (x.1 c is))
keeps_before plan t b n i c (inr x) stand l line is = x.0 c is

-- where runs may end yet it breaks none of the rules 1 to 4
keeps_early : (plan : PlanParts) (t : List Row) (b : Breach) (n i : ℕ) (c : Breach) → FirstSoFar plan t b → StandBefore t b n → i < n → c.row ≡ i + 2 → c.rule ≤ 4 → ¬ RowBreach plan t c
keeps_early plan t b n i c (inl x) stand l line low is = keeps_before plan t b n i c x stand l line is
keeps_early plan t b n i c (inr x) stand l line low is = by_line t b n i c.rule stand l (let q : b.row ≡ x.1.place + 2 = x.1.row_is in omega arith) (subst (λ m. (b.row < m) ⊎ ((b.row ≡ m) × (b.rule ≤ c.rule))) line (x.2 c is low))

-- the breach of a rule by the row at a place
row_breach : (plan : PlanParts) (t : List Row) (i : ℕ) (row : Row) (k : ℕ) → slice_get t i ≡ Some row → BreaksRow plan t i row k → RowBreach plan t (record { rule = k; tag = row.tag; reaction = Some row.reaction; row = i + 2 })
row_breach plan t i row k e breaks = record { place = i; row = row; is_row = e; breaks = breaks; tag_is = refl; reaction_is = refl; row_is = refl }

-- each run that starts before a first breach ends
pub ends_later : (plan : PlanParts) (t : List Row) (b : Breach) → First plan t b → (n : ℕ) → StandBefore t b n → EndLater t n
ends_later plan t b first n stand k a g l s = go (dec_below Later (λ j. dec_both (dec_lt k j) (dec_end_at t j s.0 g a)) (length t))
  where
    Later : ℕ → Type 0
    Later j = (k < j) × (slice_get t j ≡ Some (end_row s.0 g a))

    unended : ¬ ((j : ℕ) × (j < length t) × Later j) → BreaksRow plan t k (start_row s.0 g a) 5
    unended m = inr (inr (inr (inr (refl, (refl, λ j d e. m (j, slice_get_within t j (end_row s.0 g a) e, (d, e)))))))

    go : Dec ((j : ℕ) × (j < length t) × Later j) → (e : ℕ) × (k < e) × EndsAt t g a e
    go (yes q) = (q.0, q.2.0, (s.0, q.2.1))
    go (no m) = absurd (keeps_before plan t b n k (record { rule = 5; tag = g; reaction = Some a; row = k + 2 }) first stand l refl (row_breach plan t k (start_row s.0 g a) 5 s.1 (unended m)))

-- the rows before a first breach
module _ (plan : PlanParts) (t : List Row) (b : Breach) (first : FirstSoFar plan t b) (n : ℕ) (stand : StandBefore t b n) where
  keeps : (i : ℕ) (row : Row) (k : ℕ) → i < n → slice_get t i ≡ Some row → k ≤ 4 → ¬ BreaksRow plan t i row k
  keeps i row k l e low breaks = keeps_early plan t b n i (record { rule = k; tag = row.tag; reaction = Some row.reaction; row = i + 2 }) first stand l refl low (row_breach plan t i row k e breaks)

  -- their tags never fall
  pub rises_before : Rises (take n t)
  rises_before i j x y l p q = go (order_cases y.tag x.tag)
    where
      first_there : (i < n) × (slice_get t i ≡ Some x)
      first_there = slice_get_take n t i x p

      second_there : (j < n) × (slice_get t j ≡ Some y)
      second_there = slice_get_take n t j y q

      go : Before y.tag x.tag ⊎ UpTo x.tag y.tag → UpTo x.tag y.tag
      go (inl z) = absurd (keeps j y 1 second_there.0 second_there.1 (omega arith) (inl (refl, (i, x, l, first_there.1, z))))
      go (inr u) = u

  -- each end is of a run that starts
  pub runs_before : EndRuns (take n t)
  runs_before j a g e = record { place = o.start; worker = e.0; starts = slice_get_taken n t o.start (start_row e.0 g a) (let l : o.start < j = o.before in let m : j < n = there.0 in let k : o.start < n = omega arith in k) o.starts }
    where
      there : (j < n) × (slice_get t j ≡ Some (end_row e.0 g a))
      there = slice_get_take n t j (end_row e.0 g a) e.1

      o : IsOpen t j e.0 g a
      o = stable (dec_open t j e.0 g a) (λ m. keeps j (end_row e.0 g a) 3 there.0 there.1 (omega arith) (inr (inr (inl (refl, m)))))

-- one number of rows alone stands before a breach
pub stand_same : (t : List Row) (b : Breach) (n m : ℕ) → StandBefore t b n → StandBefore t b m → n ≡ m
stand_same t b n m x y = go (ℕ_discrete b.row 0)
  where
    apart : (k l : ℕ) → StandBefore t b k → StandBefore t b l → b.row ≡ 0 → ¬ (k < l)
    apart k l p q none less =
        let w : l ≤ length t = q.within in
        let row = get_there t k (omega arith) in
        let z : k < k = (p.of_tag none k row.0 row.1).1 ((q.of_tag none k row.0 row.1).0 less) in
        absurd (omega arith)

    by : b.row ≡ 0 → Dec (n < m) → Dec (m < n) → n ≡ m
    by none (yes l) d = absurd (apart n m x y none l)
    by none (no k) (yes l) = absurd (apart m n y x none l)
    by none (no k) (no l) = omega arith

    go : Dec (b.row ≡ 0) → n ≡ m
    go (yes none) = by none (dec_lt n m) (dec_lt m n)
    go (no some) = let p : n + 2 ≡ b.row = x.of_row (omega arith) in let q : m + 2 ≡ b.row = y.of_row (omega arith) in omega arith

-- what hasn't ended among the first rows hasn't among all
pub unfinished_whole : (t : List Row) (n start : ℕ) → start < n → (g : Tag) (a : ℕ) → IsUnfinished (take n t) g a start → IsUnfinished t g a start
unfinished_whole t n start l g a u = record { ran = record { place = u.ran.place; worker = u.ran.worker; starts = (slice_get_take n t u.ran.place (start_row u.ran.worker g a) u.ran.starts).1 }; not_ended = none }
  where
    none : NotEnded t g a start
    none j m e = u.not_ended j m (e.0, slice_get_taken n t j (end_row e.0 g a) (omega arith) e.1)

-- a race among the first rows starts in a row of all
pub start_there : (program : Parts) (t : List Row) (n start : ℕ) (race : IsRace program (take n t) start) → (start < n) × (slice_get t start ≡ Some race.row)
start_there program t n start race = slice_get_take n t start race.row race.is_row

-- the run that hasn't ended at a race does so behind it
module _ (program : Parts) (t : List Row) (n start : ℕ) (race : IsRace program (take n t) start) (later : EndLater t n) where
  pub end_behind : (i : ℕ) × (start < i) × EndsAt t race.row.tag race.earlier i
  end_behind = (e.0, go (dec_lt e.0 start) (ℕ_discrete e.0 start), e.2)
    where
      ran : (race.unfinished.ran.place < n) × (slice_get t race.unfinished.ran.place ≡ Some (start_row race.unfinished.ran.worker race.row.tag race.earlier))
      ran = slice_get_take n t race.unfinished.ran.place (start_row race.unfinished.ran.worker race.row.tag race.earlier) race.unfinished.ran.starts

      e : (k : ℕ) × (race.unfinished.ran.place < k) × EndsAt t race.row.tag race.earlier k
      e = later race.unfinished.ran.place race.earlier race.row.tag ran.0 (race.unfinished.ran.worker, ran.1)

      go : Dec (e.0 < start) → Dec (e.0 ≡ start) → start < e.0
      go (yes l) d = absurd (race.unfinished.not_ended e.0 l (e.2.0, slice_get_taken n t e.0 (end_row e.2.0 race.row.tag race.earlier) (let s : start < n = (start_there program t n start race).0 in let m : e.0 < n = omega arith in m) e.2.1))
      go (no k) (yes q) =
          let z : end_row e.2.0 race.row.tag race.earlier ≡ race.row = Some_same (end_row e.2.0 race.row.tag race.earlier) race.row (sym e.2.1 ∙ ap (slice_get t) q ∙ (start_there program t n start race).1) in
          let s : Start ≡ End = sym race.starts ∙ ap (λ (x : Row). x.step) (sym z) in
          absurd (cc)
      go (no k) (no m) = omega arith

-- a rule from 1 to 5 is one of a row
no_tag_rule : (plan : PlanParts) (t : List Row) (g : Tag) (o : Option ℕ) (k : ℕ) → BreaksAt plan t g o k → ¬ (k < 6)
no_tag_rule plan t g None k x l = let e : k ≡ 6 = x.0 in absurd (omega arith)
no_tag_rule plan t g (Some r) k (inl x) l = let e : k ≡ 7 = x.0 in absurd (omega arith)
no_tag_rule plan t g (Some r) k (inr (inl x)) l = let e : k ≡ 8 = x.0 in absurd (omega arith)
no_tag_rule plan t g (Some r) k (inr (inr (inl x))) l = let e : k ≡ 9 = x.0 in absurd (omega arith)
no_tag_rule plan t g (Some r) k (inr (inr (inr x))) l = let e : k ≡ 10 = x.0 in absurd (omega arith)

pub row_of_rule : (plan : PlanParts) (t : List Row) (b : Breach) → FirstSoFar plan t b → b.rule < 6 → (i : ℕ) × (b.row ≡ i + 2) × (i < length t)
row_of_rule plan t b (inl (inl x)) l = (x.0.place, x.0.row_is, slice_get_within t x.0.place x.0.row x.0.is_row)
row_of_rule plan t b (inl (inr x)) l = absurd (no_tag_rule plan t b.tag b.reaction b.rule x.1.breaks l)
row_of_rule plan t b (inr x) l = (x.1.place, x.1.row_is, slice_get_within t x.1.place x.1.row x.1.is_row)

-- where no row before a breach is a race none is the first
pub no_race_before : (plan : PlanParts) (t : List Row) (b : Breach) → IsRaceBefore plan t b None → (i : ℕ) → ¬ IsRaceBefore plan t b (Some i)
no_race_before plan t b x i y = x.2 i (subst (λ n. IsRace plan.program (take n t) i) (stand_same t b y.0 x.0 y.1 x.1) y.2.0)
