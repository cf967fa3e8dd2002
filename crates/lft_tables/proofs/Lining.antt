-- A text that comes some whole lines at a time.
use Rattle.std.proofs.Common.{◌≡◌, ◌≢◌, ◌∙◌, ◌+◌, ◌<◌, inl, inr, ℕ, zero, suc, List, [], ◌∷◌, ◌++◌, Option, None, Some, IfSome, Bool, true, false, length, length-append, refl, sym, ap, subst, take, drop, arith}
use Rattle.std.{specs.Io.KnownBytes.{IsAtEnd, Keeps, prepend_known}, proofs.{Math.Seq.{drop-append_seam, take-append_seam}, lemmas.List.append_assoc}}
use Rattle.lft_tables.specs.{Parts.EndsLine, inner.Parts.IsCut}

-- before anything is read, all is left
pub none_read : (read : List ℕ) (left : Option (List ℕ)) → read ≡ [] → IfSome left (λ text. prepend_known read left ≡ Some text)
none_read read None none = tt
none_read read (Some text) none = ap (λ (t : List ℕ). Some (t ++ text)) none

-- a cut of what is read is one of all, where what stands behind it isn't empty before the end
pub cut_on : (read lines behind more : List ℕ) → IsCut read lines behind → (length behind ≡ 0 → more ≡ []) → IsCut (read ++ more) lines (behind ++ more)
cut_on read lines [] more (is, how) over = (ap (λ (t : List ℕ). t ++ more) is ∙ append_assoc lines [] more, inl (over refl))
cut_on read lines (x ∷ xs) more (is, inl none) over = absurd (cc none)
cut_on read lines (x ∷ xs) more (is, inr ends) over = (ap (λ (t : List ℕ). t ++ more) is ∙ append_assoc lines (x ∷ xs) more, inr ends)

-- where there are no lines, nothing was read
pub no_lines : (read lines behind : List ℕ) → IsCut read lines behind → (0 < length read → length behind < length read) → length lines ≡ 0 → length read ≡ 0
no_lines read lines behind cut shorter none =
    let long : length read ≡ length lines + length behind = ap (λ (t : List ℕ). length t) cut.0 ∙ length-append lines behind in
    go (length read) refl long
  where
    go : (n : ℕ) → length read ≡ n → length read ≡ length lines + length behind → length read ≡ 0
    go zero is long = is
    go (suc n) is long = let less : length behind < length read = shorter (omega (arith, is)) in absurd (omega (arith, less, long, none))

some_line : (lines : List ℕ) → EndsLine lines → length lines ≢ 0
some_line lines (line, is) none = let long : length lines ≡ length line + 1 = ap (λ (t : List ℕ). length t) is ∙ length-append line (10 ∷ []) in absurd (omega (arith, long, none))

module _ (read lines behind : List ℕ) (cut : IsCut read lines behind) (shorter : 0 < length read → length behind < length read) where
  -- the text is what was read and what the reader has left
  pub next_lines : (text left : Option (List ℕ)) (more : Bool) → Keeps text (prepend_known read left) → (more ≡ false → IsAtEnd left) → (more ≡ true → length behind ≢ 0) → IfSome text (λ whole. (rest : List ℕ) × IsCut whole lines rest × (prepend_known behind left ≡ Some rest) × (length lines ≡ 0 → whole ≡ []))
  next_lines None left more kept end within = tt
  next_lines (Some whole) None more kept end within = absurd kept
  next_lines (Some whole) (Some y) true kept end within =
      (behind ++ y, subst (λ (t : List ℕ). IsCut t lines (behind ++ y)) kept (cut_on read lines behind y cut (λ none. absurd (within refl none))), refl, λ none. absurd (some cut none))
    where
      some : IsCut read lines behind → length lines ≢ 0
      some (is, inl empty) none = within refl (ap (λ (t : List ℕ). length t) empty)
      some (is, inr ends) none = some_line lines ends.0 none
  next_lines (Some whole) (Some y) false kept end within =
      (behind ++ y, subst (λ (t : List ℕ). IsCut t lines (behind ++ y)) kept (cut_on read lines behind y cut (λ none. end refl)), refl, λ none. sym kept ∙ nothing read (no_lines read lines behind cut shorter none))
    where
      nothing : (r : List ℕ) → length r ≡ 0 → r ++ y ≡ []
      nothing [] none = end refl
      nothing (x ∷ xs) none = absurd (omega (arith, none))

-- what is split where the lines end are the lines, and what stands behind them
pub split : (read lines behind first rest : List ℕ) → IsCut read lines behind → first ≡ take (length lines) read → rest ≡ drop (length lines) read → (first ≡ lines) × (rest ≡ behind)
split read lines behind first rest cut front back = (front ∙ ap (λ (t : List ℕ). take (length lines) t) cut.0 ∙ take-append_seam lines behind, back ∙ ap (λ (t : List ℕ). drop (length lines) t) cut.0 ∙ drop-append_seam lines behind)
