-- Places in lists, and what can be decided of a list of rows.
use Rattle.std.proofs.Common.{◌≡◌, ℕ, zero, suc, ◌<◌, List, [], ◌∷◌, length, take, refl, ap, ◌∙◌, subst, arith, Option, Some, None, slice_get, filter_map}
use Rattle.std.specs.List.{cons_option}
use native.Mathlib.Decide.{ℕ_discrete}
use Rattle.lft_tag.{specs.declared.Tag.Tag, proofs.Chains.tag_of}
use Rattle.lft_ir.specs.declared.steps.row.{Row.Row, Step.{Step, TheVariants.{Start, Read, Write, Schedule, Stop, End}}}
use Rattle.lft_model.specs.Runs.{start_row, end_row}

pub stable : {A : Type 0} → Dec A → ¬ ¬ A → A
stable (yes a) h = a
stable (no n) h = absurd (h n)

pub dec_map : {A B : Type 0} → (A → B) → (B → A) → Dec A → Dec B
dec_map f g (yes a) = yes (f a)
dec_map f g (no n) = no (λ b. n (g b))

pub dec_both : {A B : Type 0} → Dec A → Dec B → Dec (A × B)
dec_both (yes a) (yes b) = yes (a, b)
dec_both (yes a) (no n) = no (λ p. n p.1)
dec_both (no n) d = no (λ p. n p.0)

pub dec_not : {A : Type 0} → Dec A → Dec (¬ A)
dec_not (yes a) = no (λ n. n a)
dec_not (no n) = yes n

-- a search below a bound
pub dec_below : (P : ℕ → Type 0) → ((k : ℕ) → Dec (P k)) → (n : ℕ) → Dec ((k : ℕ) × (k < n) × P k)
dec_below P d zero = no (λ s. absurd (none_below s.0 s.1))
  where
    none_below : (k : ℕ) → k < 0 → ⊥
    none_below k h = omega arith
dec_below P d (suc n) = go (d n) (dec_below P d n)
  where
    up : ((k : ℕ) × (k < n) × P k) → (k : ℕ) × (k < suc n) × P k
    up s = let h : s.0 < n = s.1 in let k : s.0 < suc n = omega arith in (s.0, k, s.2)

    down : ¬ P n → ((k : ℕ) × (k < suc n) × P k) → (k : ℕ) × (k < n) × P k
    down m s = below s.0 s.1 s.2 (ℕ_discrete s.0 n)
      where
        below : (k : ℕ) → k < suc n → P k → Dec (k ≡ n) → (k : ℕ) × (k < n) × P k
        below k l p (yes e) = absurd (m (subst P e p))
        below k l p (no e) = (k, omega arith, p)

    go : Dec (P n) → Dec ((k : ℕ) × (k < n) × P k) → Dec ((k : ℕ) × (k < suc n) × P k)
    go (yes p) r = yes (n, omega arith, p)
    go (no m) (yes s) = yes (up s)
    go (no m) (no z) = no (λ s. z (down m s))

-- an element stands within its list
pub slice_get_within : {X : Type 0} (xs : List X) (i : ℕ) (x : X) → slice_get xs i ≡ Some x → i < length xs
slice_get_within [] i x e = absurd (cc)
slice_get_within (y ∷ ys) zero x e = omega arith
slice_get_within (y ∷ ys) (suc i) x e = let h : i < length ys = slice_get_within ys i x e in omega arith

pub slice_get_take : {X : Type 0} (n : ℕ) (xs : List X) (i : ℕ) (x : X) → slice_get (take n xs) i ≡ Some x → (i < n) × (slice_get xs i ≡ Some x)
slice_get_take zero xs i x e = absurd (cc)
slice_get_take (suc n) [] i x e = absurd (cc)
slice_get_take (suc n) (y ∷ ys) zero x e = (omega arith, e)
slice_get_take (suc n) (y ∷ ys) (suc i) x e = let h : (i < n) × (slice_get ys i ≡ Some x) = slice_get_take n ys i x e in (omega arith, h.1)

pub slice_get_taken : {X : Type 0} (n : ℕ) (xs : List X) (i : ℕ) (x : X) → i < n → slice_get xs i ≡ Some x → slice_get (take n xs) i ≡ Some x
slice_get_taken zero xs i x l e = absurd (omega arith)
slice_get_taken (suc n) [] i x l e = e
slice_get_taken (suc n) (y ∷ ys) zero x l e = e
slice_get_taken (suc n) (y ∷ ys) (suc i) x l e = let m : i < n = omega arith in slice_get_taken n ys i x m e

-- what an item of a filtered list comes from
pub record From {X Y : Type 0} (h : X → Option Y) (xs : List X) (k : ℕ) (y : Y) : Type 0 where
  pub place : ℕ
  pub item : X
  pub is_item : slice_get xs place ≡ Some item
  pub gives : h item ≡ Some y
  pub before : take k (filter_map h xs) ≡ filter_map h (take place xs)

later : {X Y : Type 0} (h : X → Option Y) (x : X) (xs : List X) (k : ℕ) (y : Y) → h x ≡ None → From h xs k y → From h (x ∷ xs) k y
later h x xs k y e f = record { place = suc f.place; item = f.item; is_item = f.is_item; gives = f.gives; before = rw e f.before }

further : {X Y : Type 0} (h : X → Option Y) (x : X) (xs : List X) (k : ℕ) (y z : Y) → h x ≡ Some z → From h xs k y → From h (x ∷ xs) (suc k) y
further h x xs k y z e f = record { place = suc f.place; item = f.item; is_item = f.is_item; gives = f.gives; before = rw e (ap (λ ys. z ∷ ys) f.before) }

pub filter_map_get : {X Y : Type 0} (h : X → Option Y) (xs : List X) (k : ℕ) (y : Y) → slice_get (filter_map h xs) k ≡ Some y → From h xs k y
filter_map_get h [] k y e = absurd (cc)
filter_map_get {X} {Y} h (x ∷ xs) k y e = go (h x) refl k e (λ j q. filter_map_get h xs j y q)
  where
    go : (o : Option Y) → h x ≡ o → (k : ℕ) → slice_get (cons_option o (filter_map h xs)) k ≡ Some y → ((j : ℕ) → slice_get (filter_map h xs) j ≡ Some y → From h xs j y) → From h (x ∷ xs) k y
    go None q k e rest = later h x xs k y q (rest k e)
    go (Some z) q zero e rest = record { place = 0; item = x; is_item = refl; gives = q ∙ e; before = refl }
    go (Some z) q (suc k) e rest = further h x xs k y z q (rest k e)

-- equal tags and rows
pub tag_discrete : (g h : Tag) → Dec (g ≡ h)
tag_discrete g h = go (ℕ_discrete g.time h.time) (ℕ_discrete g.micro h.micro)
  where
    go : Dec (g.time ≡ h.time) → Dec (g.micro ≡ h.micro) → Dec (g ≡ h)
    go (yes a) (yes b) = yes (tag_of a b)
    go (no n) d = no (λ e. n (ap (λ x. x.time) e))
    go (yes a) (no n) = no (λ e. n (ap (λ x. x.micro) e))

pub dec_start : (s : Step) → Dec (s ≡ Start)
dec_start Start = yes refl
dec_start (Read n v) = no (λ e. cc)
dec_start (Write n v) = no (λ e. cc)
dec_start (Schedule n v d) = no (λ e. cc)
dec_start Stop = no (λ e. cc)
dec_start End = no (λ e. cc)

pub dec_end : (s : Step) → Dec (s ≡ End)
dec_end Start = no (λ e. cc)
dec_end (Read n v) = no (λ e. cc)
dec_end (Write n v) = no (λ e. cc)
dec_end (Schedule n v d) = no (λ e. cc)
dec_end Stop = no (λ e. cc)
dec_end End = yes refl

row_of : {w v : ℕ} {g h : Tag} {r a : ℕ} {s z : Step} → w ≡ v → g ≡ h → r ≡ a → s ≡ z → (let x : Row = record { worker = w; tag = g; reaction = r; step = s } in let y : Row = record { worker = v; tag = h; reaction = a; step = z } in x ≡ y)
row_of p q l m = cc

pub dec_row : (x : Row) (w : ℕ) (g : Tag) (r : ℕ) (s : Step) → Dec (x.step ≡ s) → Dec (x ≡ record { worker = w; tag = g; reaction = r; step = s })
dec_row x w g r s d = dec_map to from (dec_both (ℕ_discrete x.worker w) (dec_both (tag_discrete x.tag g) (dec_both (ℕ_discrete x.reaction r) d)))
  where
    y : Row
    y = record { worker = w; tag = g; reaction = r; step = s }

    to : (x.worker ≡ w) × ((x.tag ≡ g) × ((x.reaction ≡ r) × (x.step ≡ s))) → x ≡ record { worker = w; tag = g; reaction = r; step = s }
    to p = row_of p.0 p.1.0 p.1.1.0 p.1.1.1

    from : x ≡ record { worker = w; tag = g; reaction = r; step = s } → (x.worker ≡ w) × ((x.tag ≡ g) × ((x.reaction ≡ r) × (x.step ≡ s)))
    from e = (ap (λ x. x.worker) e, (ap (λ x. x.tag) e, (ap (λ x. x.reaction) e, ap (λ x. x.step) e)))

-- whether a list has a given row at a place
pub dec_at : (t : List Row) (i : ℕ) (y : Row) → ((x : Row) → Dec (x ≡ y)) → Dec (slice_get t i ≡ Some y)
dec_at [] i y d = no (λ e. cc)
dec_at (x ∷ xs) zero y d = dec_map (λ e. ap Some e) (λ e. cc) (d x)
dec_at (x ∷ xs) (suc i) y d = dec_at xs i y d

pub dec_start_at : (t : List Row) (i w : ℕ) (g : Tag) (r : ℕ) → Dec (slice_get t i ≡ Some (start_row w g r))
dec_start_at t i w g r = dec_at t i (start_row w g r) (λ x. dec_row x w g r Start (dec_start x.step))

pub dec_end_at : (t : List Row) (i w : ℕ) (g : Tag) (r : ℕ) → Dec (slice_get t i ≡ Some (end_row w g r))
dec_end_at t i w g r = dec_at t i (end_row w g r) (λ x. dec_row x w g r End (dec_end x.step))
