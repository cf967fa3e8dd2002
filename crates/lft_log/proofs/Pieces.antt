-- A piece of a table: whole lines, and a rest.
use Rattle.std.proofs.Common.{◌≡◌, ◌∙◌, ℕ, List, [], ◌++◌, Option, length, drop, take, slice_range, sym, ap, subst}
use Rattle.std.specs.Prelude.{MatchOption}
use Rattle.lft_tag.specs.declared.Tag.{Tag}
use Rattle.lft_model.specs.Plans.{PlanParts}
use Rattle.lft_log.specs.{declared.{log.Log.Log, told.Told.Told}, Logs.HasNoEnd, inner.Told.{IsLog, IsLogOf}}
use Rattle.lft_log.proofs.{Ends.range_take, Fronts.rest_from, Keeping.{none_told, piece_parts}}

pub whole_piece : (bytes piece : List ℕ) (n : ℕ) → (bytes ++ slice_range piece 0 n) ++ slice_range piece n (length piece) ≡ bytes ++ piece
whole_piece bytes piece n =
    ap (λ (x : List ℕ). (bytes ++ x) ++ slice_range piece n (length piece)) (range_take piece n)
    ∙ ap (λ (x : List ℕ). (bytes ++ take n piece) ++ x) (rest_from piece n)
    ∙ piece_parts bytes piece n

-- all lines are rows, and nothing is left of them
pub log_again : (base plan : PlanParts) (until : Option Tag) (bytes : List ℕ) (log : Log) → IsLogOf base plan until bytes [] log × (log.rest.items ≡ []) → IsLog base plan until bytes log
log_again base plan until bytes log (is, none) = record {
  kept = subst (λ (x : List ℕ). IsLogOf base plan until bytes x log) (sym none) is;
  open_line = subst HasNoEnd (sym none) (λ i e. absurd (cc e));
}

-- the rest of a piece behind its lines is kept
pub kept_behind : (base plan : PlanParts) (until : Option Tag) (bytes piece : List ℕ) (n : ℕ) (log new : Log) (o : Option Told) (Q : Told → Type 0) → IsLogOf base plan until (bytes ++ slice_range piece 0 n) [] log × (log.rest.items ≡ []) → HasNoEnd (drop n piece) → (IsLogOf base plan until (bytes ++ slice_range piece 0 n) log.rest.items log → HasNoEnd (log.rest.items ++ slice_range piece n (length piece)) → MatchOption o (IsLog base plan until ((bytes ++ slice_range piece 0 n) ++ slice_range piece n (length piece)) new) (λ (told : Told). ⊥)) → MatchOption o (IsLog base plan until (bytes ++ piece) new) Q
kept_behind base plan until bytes piece n log new o Q (is, none) open_line told =
    let behind : HasNoEnd (slice_range piece n (length piece)) = subst HasNoEnd (sym (rest_from piece n)) open_line in
    let kept = subst (λ (x : List ℕ). IsLogOf base plan until (bytes ++ slice_range piece 0 n) x log) (sym none) is in
    none_told _ Q o (subst (λ (x : List ℕ). MatchOption o (IsLog base plan until x new) (λ (told : Told). ⊥)) (whole_piece bytes piece n) (told kept (subst (λ (x : List ℕ). HasNoEnd (x ++ slice_range piece n (length piece))) (sym none) behind)))
