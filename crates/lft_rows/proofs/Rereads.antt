-- Whether a name was read before in a run, by its mark.
use Rattle.std.proofs.Common.{◌≡◌, ℕ, ◌+◌, ◌<◌, ◌≤◌, ◌⊎◌, inl, inr, List, [], refl, sym, ap, ◌∙◌, subst, arith, Option, Some, slice_get, Contains, option_map, unwrap_or}
use Rattle.std.proofs.lemmas.Bool.{cases_lt}
use native.Mathlib.Decide.{ℕ_discrete}
use Rattle.lft_tag.{specs.{declared.Tag.Tag, Tags.{Before, UpTo}}, proofs.Order.{UpTo-trans, UpTo_antisym, order_cases}}
use Rattle.lft_ir.specs.{Parts.{Parts, inputs}, declared.{parts.{Name.Name, Reaction.Reaction}, steps.row.{Row.Row, Step.TheVariants.Read}}}
use Rattle.lft_model.{specs.{Plans.PlanParts, Runs.inputs_of, Breaches.WasRead}, proofs.Ended.row_is}
use Rattle.lft_rows.specs.inner.{Marks.{HasSeat, ReadsFor, IsMark}, Passes.{KeepsEarly, IsLatest, RisesTo, IsBadRead}}
use Rattle.lft_rows.proofs.Marked.{seat_input, input_seat, same_here}

-- the rows before a place at which no rule is broken rise, also to a tag that isn't before the latest
pub rises_to : (stop : Tag) (plan : PlanParts) (t : List Row) (i : ℕ) (last g : Tag) → KeepsEarly stop plan t i → IsLatest t i last → UpTo last g → RisesTo t i g
rises_to stop plan t i last g kept latest u = record { rows = rows; last = λ j x l e. UpTo-trans x.tag last g (latest.each j x l e) u }
  where
    rows : (j k : ℕ) (x y : Row) → j < k → k < i → slice_get t j ≡ Some x → slice_get t k ≡ Some y → UpTo x.tag y.tag
    rows j k x y l m p q = go (order_cases y.tag x.tag)
      where
        go : Before y.tag x.tag ⊎ UpTo x.tag y.tag → UpTo x.tag y.tag
        go (inl b) = absurd (kept k y 1 m q (omega arith) (inl (refl, (j, x, l, p, b))))
        go (inr v) = v

-- the row of a mark is at the tag
abbrev pub IsAt : List Row → ℕ → Tag → Type 0
IsAt t m g = (j : ℕ) × (row : Row) × (m ≡ j + 1) × (slice_get t j ≡ Some row) × (row.tag ≡ g)

module _ (program : Parts) (t : List Row) (i : ℕ) (row : Row) (rises : RisesTo t i row.tag) (x : Reaction) (is_reaction : slice_get program.reactions row.reaction ≡ Some x) (n : Name) where
  own_inputs : inputs_of program row.reaction ≡ inputs x
  own_inputs = ap (λ (o : Option Reaction). unwrap_or (option_map inputs o) []) is_reaction

  pub no_seat : ((k : ℕ) → ¬ HasSeat x n k) → IsBadRead program t i row n
  no_seat d = inl (λ c. let k = input_seat x n (subst (λ (ns : List Name). Contains ns n) own_inputs c) in d k.0 k.1)

  module _ (m : ℕ) (mark : IsMark t 0 i row.reaction n m) where
    pub read_again : IsAt t m row.tag → IsBadRead program t i row n
    read_again (j, y, q, e, g) = inr (go mark)
      where
        go : IsMark t 0 i row.reaction n m → WasRead t i row.tag row.reaction n
        go (inl z) = let a : m ≤ 0 = z.0 in let b : m ≡ j + 1 = q in absurd (omega arith)
        go (inr (k, p, last)) =
            let a : m ≡ k + 1 = p in
            let b : m ≡ j + 1 = q in
            let c : k ≡ j = omega arith in
            let d : last.row ≡ y = same_here t j last.row y (ap (λ z. slice_get t z) (sym c) ∙ last.is_row) e in
            let tag : last.row.tag ≡ row.tag = ap (λ (z : Row). z.tag) d ∙ g in
            (k, last.row.worker, last.reads.1.0, last.before, last.is_row ∙ ap Some (row_is last.row last.row.worker row.tag row.reaction (Read n last.reads.1.0) refl tag last.reads.0 last.reads.1.1))

    pub was_read : (k : ℕ) → HasSeat x n k → IsBadRead program t i row n → IsAt t m row.tag
    was_read k seat (inl d) = absurd (d (subst (λ (ns : List Name). Contains ns n) (sym own_inputs) (seat_input x n k seat)))
    was_read k seat (inr (j, w, v, l, e)) = go mark
      where
        reads : ReadsFor row.reaction n (record { worker = w; tag = row.tag; reaction = row.reaction; step = Read n v })
        reads = (refl, (v, refl))

        go : IsMark t 0 i row.reaction n m → IsAt t m row.tag
        go (inl z) = absurd (z.1 j (record { worker = w; tag = row.tag; reaction = row.reaction; step = Read n v }) (omega arith) l e reads)
        go (inr (h, p, last)) = (h, last.row, p, last.is_row, by (cases_lt h j) (ℕ_discrete j h))
          where
            by : (h < j) ⊎ (j ≤ h) → Dec (j ≡ h) → last.row.tag ≡ row.tag
            by (inl a) d = absurd (last.none_after j (record { worker = w; tag = row.tag; reaction = row.reaction; step = Read n v }) (omega arith) l e reads)
            by (inr a) (yes d) = ap (λ (z : Row). z.tag) (same_here t h last.row (record { worker = w; tag = row.tag; reaction = row.reaction; step = Read n v }) last.is_row (ap (λ z. slice_get t z) (sym d) ∙ e))
            by (inr a) (no d) = let b : j < h = omega arith in UpTo_antisym last.row.tag row.tag (rises.last h last.row last.before last.is_row) (rises.rows j h (record { worker = w; tag = row.tag; reaction = row.reaction; step = Read n v }) last.row b last.before e last.is_row)
