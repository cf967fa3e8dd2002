-- Pairs of reactions that met, each counted with one of the two.
use Rattle.std.proofs.Common.{◌≡◌, ℕ, ◌<◌, ◌/◌, ◌%◌, ◌⊎◌, inl, inr, List, [], sym, ap, subst, arith}
use Rattle.std.specs.Prelude.{◌↔◌, unwrap_or, slice_index}
use Rattle.std.specs.Int.{bit_at}
use native.Mathlib.Decide.{ℕ_discrete}
use Rattle.lft_lists.proofs.Places.{get_there}
use Rattle.lft_graph.{specs.{Sets.Has, Counts.CountPairs}, proofs.Once.{Rows, once, pairs_same}}
use Rattle.lft_ir.specs.declared.steps.row.Row.{Row}
use Rattle.lft_counts.specs.{declared.overlaps.Overlaps.Overlaps, Counts.MeetsRun, Overlaps.{Overlap, met_by}}
use Rattle.lft_coverage.specs.{Pairs.AreOpenTogether, inner.Pairs.{HaveMet, IsCountedWith}}

module _ (overlaps : Overlaps) where
  -- no reaction is counted with itself
  alone : (a : ℕ) → IsCountedWith overlaps a a → ⊥
  alone a (h, inl l) = absurd (omega arith)
  alone a (h, inr n) = n h

  -- no pair is counted with both
  apart : (a b : ℕ) → IsCountedWith overlaps a b → IsCountedWith overlaps b a → ⊥
  apart a b (h, inl l) (g, inl m) = absurd (omega arith)
  apart a b (h, inl l) (g, inr n) = n h
  apart a b (h, inr n) (g, y) = n g

  out : (a b : ℕ) → IsCountedWith overlaps a b ⊎ IsCountedWith overlaps b a → HaveMet overlaps a b
  out a b (inl x) = inl x.0
  out a b (inr x) = inr x.0

  back : (a b : ℕ) → a < b → HaveMet overlaps a b → IsCountedWith overlaps a b ⊎ IsCountedWith overlaps b a
  back a b l (inl h) = inl (h, inl l)
  back a b l (inr h) = go (ℕ_discrete (bit_at (slice_index (met_by overlaps b) (a / 64)) (a % 64)) 1)
    where
      go : Dec (bit_at (slice_index (met_by overlaps b) (a / 64)) (a % 64) ≡ 1) → IsCountedWith overlaps a b ⊎ IsCountedWith overlaps b a
      go (yes g) = inl (g, inl l)
      go (no n) = inr (h, inr n)

  -- the pairs that are counted with some reaction are those that met
  pub met_once : (n s : ℕ) → Rows (IsCountedWith overlaps) n n s → CountPairs (HaveMet overlaps) n s
  met_once n s rows = pairs_same (λ a b l m. out a b) (λ a b l m. back a b l) (once (IsCountedWith overlaps) alone apart n s rows)

  -- what is kept as met had open runs together
  pub met_together : (t : List Row) (n i s : ℕ) → Overlap t n i overlaps → CountPairs (HaveMet overlaps) n s → CountPairs (AreOpenTogether t i) n s
  met_together t n i s so c = pairs_same (λ a b l m. there a b (omega arith) m) (λ a b l m. here a b (omega arith) m) c
    where
      met : (a b : ℕ) → b < n → Has (met_by overlaps b) a ↔ MeetsRun t i a b
      met a b l =
          let x = get_there overlaps.met.items b (let e = so.met.as_long in omega (arith, e)) in
          subst (λ (set : List ℕ). Has set a ↔ MeetsRun t i a b) (sym (ap (λ o. unwrap_or o []) x.1)) (so.met.right b x.0 x.1 a)

      there : (a b : ℕ) → a < n → b < n → HaveMet overlaps a b → AreOpenTogether t i a b
      there a b l m (inl h) = inl ((met a b m).0 h)
      there a b l m (inr h) = inr ((met b a l).0 h)

      here : (a b : ℕ) → a < n → b < n → AreOpenTogether t i a b → HaveMet overlaps a b
      here a b l m (inl x) = inl ((met a b m).1 x)
      here a b l m (inr x) = inr ((met b a l).1 x)
