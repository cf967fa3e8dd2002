-- The steps through code.
use Rattle.std.proofs.Common.{◌≡◌, ℕ, zero, suc, ◌+◌, ◌-◌, ◌<◌, ◌≤◌, true, false, List, length, Some, None, refl, sym, ap, ◌∙◌, arith}
use Rattle.std.specs.Prelude.{codes}
use Rattle.std.proofs.lemmas.Option.{slice_get_past}
use Rattle.lft_whole.specs.Pieces.{stands, code_next, code_within, past_code}

-- the steps that are left give the whole
pub record CodeLeft (t : List ℕ) (from i : ℕ) : Type 0 where
  pub left : ℕ
  pub enough : length t ≤ i + left
  pub rest : code_within left t i ≡ past_code t from

pub code_starts : (t : List ℕ) (i : ℕ) → CodeLeft t i i
code_starts t i = record { left = length t; enough = omega arith; rest = refl }

ends : (t : List ℕ) (i n : ℕ) → i < length t → length t ≤ i + n → stands (codes "=}") t i ≡ true → code_within n t i ≡ Some (i + 2)
unfolding code_within
ends t i zero lt enough there = absurd (omega arith)
ends t i (suc n) lt enough there = rw there refl

pub code_ends : (t : List ℕ) (from i : ℕ) → CodeLeft t from i → i < length t → stands (codes "=}") t i ≡ true → past_code t from ≡ Some (i + 2)
code_ends t from i l lt there = sym l.rest ∙ ends t i l.left lt l.enough there

goes : (t : List ℕ) (from i j n : ℕ) → i < length t → length t ≤ i + n → code_within n t i ≡ past_code t from → stands (codes "=}") t i ≡ false → j ≡ code_next t i → i < j → CodeLeft t from j
unfolding code_within
goes t from i j zero lt enough rest there next further = absurd (omega arith)
goes t from i j (suc n) lt enough rest there next further =
    let here : code_within (suc n) t i ≡ code_within n t (code_next t i) = rw there refl in
    record { left = n; enough = omega arith; rest = ap (code_within n t) next ∙ sym here ∙ rest }

pub code_goes : (t : List ℕ) (from i j : ℕ) → CodeLeft t from i → i < length t → stands (codes "=}") t i ≡ false → j ≡ code_next t i → i < j → CodeLeft t from j
code_goes t from i j l lt there next further = goes t from i j l.left lt l.enough l.rest there next further

-- past the end no step finds anything
past_end : (t : List ℕ) (i : ℕ) → length t ≤ i → (stands (codes "=}") t i ≡ false) × (code_next t i ≡ i + 1)
past_end t i le = (rw (slice_get_past t i le) refl, rw (slice_get_past t i le) refl)

none : (t : List ℕ) (n i : ℕ) → length t ≤ i → code_within n t i ≡ None
unfolding code_within
none t zero i le = refl
none t (suc n) i le =
    let past = past_end t i le in
    rw (past.0) (ap (code_within n t) past.1 ∙ none t n (i + 1) (omega arith))

pub code_open : (t : List ℕ) (from i : ℕ) → CodeLeft t from i → length t ≤ i → past_code t from ≡ None
code_open t from i l le = sym l.rest ∙ none t l.left i le
