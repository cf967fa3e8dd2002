-- Rows up to the end of what is asked for.
use Rattle.std.proofs.Common.{◌≡◌, ◌+◌, ◌++◌, ◌∙◌, ◌<◌, ⊎_elim, ℕ, List, [], ◌∷◌, Option, None, Some, take, length, slice_get, refl, sym, ap, subst, add-one, arith}
use Rattle.std.specs.Prelude.{MatchOption}
use Rattle.std.proofs.lemmas.List.{append_assoc}
use native.Mathlib.Decide.{dec_lt}
use Rattle.lft_tag.{specs.{declared.Tag.Tag, Tags.{Before, UpTo}}, proofs.Order.{Before-UpTo, Before-weaken, UpTo-not, UpTo-refl, order_cases}}
use Rattle.lft_lists.proofs.{Picked.take_next, Places.{get_last, get_left, get_push_cases, same_at}}
use Rattle.lft_ir.specs.declared.steps.row.Row.{Row}
use Rattle.lft_model.proofs.Places.{slice_get_within}
use Rattle.lft_log.specs.{inner.Told.{ComeTo, IsAskedOf}, Told.{IsFirstFrom, IsPastEnd, KeepTo}, declared.asked.Asked.Asked}

-- each row is before the tag
abbrev pub AreBefore : List Row → Tag → Type 0
AreBefore t asked = (i : ℕ) (x : Row) → slice_get t i ≡ Some x → Before x.tag asked

-- rows with one more
pub next_row : (t rows : List Row) (i : ℕ) (x : Row) → slice_get rows i ≡ Some x → (t ++ take i rows) ++ x ∷ [] ≡ t ++ take (i + 1) rows
next_row t rows i x e = append_assoc t (take i rows) (x ∷ []) ∙ ap (λ (y : List Row). t ++ y) (sym (ap (λ (n : ℕ). take n rows) (add-one i) ∙ take_next rows i x e))

-- the first row at or past the tag is so with more rows behind
first_more : (asked : Tag) (t : List Row) (y : Row) (place : ℕ) (row : Row) → IsFirstFrom asked t place row → IsFirstFrom asked (t ++ y ∷ []) place row
first_more asked t y place row is = record {
  there = get_left t (y ∷ []) place row is.there;
  from = is.from;
  first = λ i x l e. ⊎_elim (λ p. is.first i x l p) (λ p. let in_it : place < length t = slice_get_within t place row is.there in let at = p.0 in absurd (omega (arith, in_it, l, at))) (get_push_cases t y i x e);
}

-- there is one first row
first_one : (asked : Tag) (t : List Row) (a b : ℕ) (x y : Row) → IsFirstFrom asked t a x → IsFirstFrom asked t b y → x ≡ y
first_one asked t a b x y p q = go (dec_lt a b) (dec_lt b a)
  where
    go : Dec (a < b) → Dec (b < a) → x ≡ y
    go (yes l) d = absurd (UpTo-not asked x.tag p.from (q.first a x l p.there))
    go (no m) (yes l) = absurd (UpTo-not asked y.tag q.from (p.first b y l q.there))
    go (no m) (no n) = same_at t a b x y p.there q.there (omega (arith, m, n))

-- ---- what is kept of it

-- no row is past the end of what is asked for
pub asked_within : (t : List Row) (a : Asked) → IsAskedOf t a → KeepTo a.until t
asked_within t a is = go a.until a.last is
  where
    go : (until last : Option Tag) → MatchOption until (Unit {0}) (λ asked. MatchOption last (AreBefore t asked) (ComeTo asked t)) → KeepTo until t
    go None last is i x e = tt
    go (Some asked) None is i x e = λ place row first. absurd (UpTo-not asked row.tag first.from (is place row first.there))
    go (Some asked) (Some last) is i x e = λ place row first. subst (λ (g : Tag). UpTo x.tag g) (sym is.same ∙ ap (λ (r : Row). r.tag) (first_one asked t is.place place is.row row is.first first)) (is.up i x e)

-- no row came to it
pub asked_before : (t : List Row) (a : Asked) (asked : Tag) → a.until ≡ Some asked → a.last ≡ None → AreBefore t asked → IsAskedOf t a
asked_before t a asked e f before = subst (λ (o : Option Tag). MatchOption o (Unit {0}) (λ asked. MatchOption a.last (AreBefore t asked) (ComeTo asked t))) (sym e) (subst (λ (o : Option Tag). MatchOption o (AreBefore t asked) (ComeTo asked t)) (sym f) before)

pub before_asked : (t : List Row) (a : Asked) (asked : Tag) → a.until ≡ Some asked → a.last ≡ None → IsAskedOf t a → AreBefore t asked
before_asked t a asked e f is = subst (λ (o : Option Tag). MatchOption o (AreBefore t asked) (ComeTo asked t)) f (subst (λ (o : Option Tag). MatchOption o (Unit {0}) (λ asked. MatchOption a.last (AreBefore t asked) (ComeTo asked t))) e is)

-- a row did
pub asked_come : (t : List Row) (a : Asked) (asked last : Tag) → a.until ≡ Some asked → a.last ≡ Some last → ComeTo asked t last → IsAskedOf t a
asked_come t a asked last e f come = subst (λ (o : Option Tag). MatchOption o (Unit {0}) (λ asked. MatchOption a.last (AreBefore t asked) (ComeTo asked t))) (sym e) (subst (λ (o : Option Tag). MatchOption o (AreBefore t asked) (ComeTo asked t)) (sym f) come)

pub come_asked : (t : List Row) (a : Asked) (asked last : Tag) → a.until ≡ Some asked → a.last ≡ Some last → IsAskedOf t a → ComeTo asked t last
come_asked t a asked last e f is = subst (λ (o : Option Tag). MatchOption o (AreBefore t asked) (ComeTo asked t)) f (subst (λ (o : Option Tag). MatchOption o (Unit {0}) (λ asked. MatchOption a.last (AreBefore t asked) (ComeTo asked t))) e is)

-- ---- one row more

-- it is past the end
pub row_past : (t : List Row) (until : Option Tag) (asked last g : Tag) → until ≡ Some asked → ComeTo asked t last → Before last g → IsPastEnd until t g
row_past t until asked last g e is before = subst (λ (o : Option Tag). IsPastEnd o t g) (sym e) (is.place, is.row, is.first, subst (λ (h : Tag). Before h g) (sym is.same) before)

-- it isn't
pub row_within : (t : List Row) (asked last : Tag) (y : Row) → ComeTo asked t last → ¬ Before last y.tag → ComeTo asked (t ++ y ∷ []) last
row_within t asked last y is past = record {
  place = is.place;
  row = is.row;
  first = first_more asked t y is.place is.row is.first;
  same = is.same;
  up = λ i x e. ⊎_elim (λ p. is.up i x p) (λ p. subst (λ (r : Row). UpTo r.tag last) p.1 (⊎_elim (λ b. absurd (past b)) (λ u. u) (order_cases last y.tag))) (get_push_cases t y i x e);
}

-- it is the first at or past the tag
pub row_first : (t : List Row) (asked : Tag) (y : Row) → AreBefore t asked → ¬ Before y.tag asked → ComeTo asked (t ++ y ∷ []) y.tag
row_first t asked y before past = record {
  place = length t;
  row = y;
  first = record {
    there = get_last t y;
    from = from;
    first = λ i x l e. ⊎_elim (λ p. before i x p) (λ p. let at = p.0 in absurd (omega (arith, l, at))) (get_push_cases t y i x e);
  };
  same = refl;
  up = λ i x e. ⊎_elim (λ p. Before-weaken x.tag y.tag (Before-UpTo x.tag asked y.tag (before i x p) from)) (λ p. subst (λ (r : Row). UpTo r.tag y.tag) p.1 (UpTo-refl y.tag)) (get_push_cases t y i x e);
}
  where
    from : UpTo asked y.tag
    from = ⊎_elim (λ b. absurd (past b)) (λ u. u) (order_cases y.tag asked)

-- it is before the tag
pub row_before : (t : List Row) (asked : Tag) (y : Row) → AreBefore t asked → Before y.tag asked → AreBefore (t ++ y ∷ []) asked
row_before t asked y before under i x e = ⊎_elim (λ p. before i x p) (λ p. subst (λ (r : Row). Before r.tag asked) p.1 under) (get_push_cases t y i x e)

-- before the first row
pub asked_first : (a : Asked) → a.last ≡ None → IsAskedOf [] a
asked_first a none = go a.until
  where
    go : (until : Option Tag) → MatchOption until (Unit {0}) (λ asked. MatchOption a.last (AreBefore [] asked) (ComeTo asked []))
    go None = tt
    go (Some asked) = subst (λ (o : Option Tag). MatchOption o (AreBefore [] asked) (ComeTo asked [])) (sym none) (λ i x e. absurd (cc e))
