-- A batch of rows in parts, which are judged one after another.
use Rattle.std.proofs.Common.{◌≡◌, ◌∙◌, ℕ, ◌+◌, ◌≤◌, List, [], ◌++◌, Vec, inl, inr, length, take, drop, ap, refl, sym, subst, arith, get_or, slice_get, Some}
use Rattle.std.specs.declared.alloc.Global.{Global}
use Rattle.std.proofs.lemmas.{Grind.flat_map-append, List.{append-nil, length-append, take-append-drop}, Option.slice_get-get_or}
use Rattle.lft_ir.specs.{Parts.Parts, Steps.Fits.RowsFit, declared.steps.row.Row.Row}
use Rattle.lft_lists.proofs.Places.{get_left, get_right}
use Rattle.lft_tables.specs.{Parts.HasNoQuote, inner.Parts.{IsCut, items_of}}
use Rattle.lft_tables.proofs.{Beginning.{begins_all, begins_lines, begins_more}, Parts.items_more, Together.holds_both}
use Rattle.lft_trace.specs.{Traces.IsRow, inner.Parts.HoldsRows}
use Rattle.lft_stream.specs.inner.Batches.Parted.{PartsFit}

module _ (parts : List (Vec Row Global)) (n : ℕ) (part : Vec Row Global) (at : slice_get parts n ≡ Some part) where
  split : items_of parts ≡ (items_of (take n parts) ++ part.items) ++ items_of (drop (n + 1) parts)
  split = ap items_of (sym (take-append-drop (n + 1) parts)) ∙ flat_map-append (λ (p : Vec Row Global). p.items) (take (n + 1) parts) (drop (n + 1) parts) ∙ ap (λ (t : List Row). t ++ items_of (drop (n + 1) parts)) (items_more parts n part at)

  -- its rows fit where those of all parts do
  part_fits : (program : Parts) → RowsFit program (items_of parts) → RowsFit program part.items
  part_fits program all =
      let a = items_of (take n parts) in
      let b = part.items in
      let c = items_of (drop (n + 1) parts) in
      let fit : RowsFit program ((a ++ b) ++ c) = subst (RowsFit program) split all in
      let few : length ((a ++ b) ++ c) ≤ 4000000 = fit.few in
      record {
        few = omega (arith, length-append (a ++ b) c, length-append a b, few);
        each = λ i row e. fit.each (length a + i) row (get_left (a ++ b) c (length a + i) row (get_right a b i ∙ e));
      }

-- so do those of each part
pub parts_fit : (program : Parts) (parts : List (Vec Row Global)) → RowsFit program (items_of parts) → PartsFit program parts
parts_fit program parts all k d within = part_fits parts k (get_or parts k d) (slice_get-get_or parts k d within) program all

-- the rows of a text's first lines, and those of what stands behind them, are the text's rows
pub holds_cut : (program : Parts) (text lines behind : List ℕ) (rows more : List Row) → IsCut text lines behind → HoldsRows program lines rows → HoldsRows program behind more → HoldsRows program text (rows ++ more)
holds_cut program text lines behind rows more (is, inr ends) x y = holds_both (IsRow program) text lines behind rows more is ends.0 ends.1 x y
holds_cut program text lines behind rows more (is, inl none) x y =
    let last = begins_lines (IsRow program) behind behind [] more (sym (append-nil behind), inl refl) y in (
      subst HasNoQuote (sym (is ∙ ap (λ (t : List ℕ). lines ++ t) none ∙ append-nil lines)) x.0,
      begins_all (IsRow program) text (rows ++ more) (begins_more (IsRow program) text behind [] rows more (begins_lines (IsRow program) text lines behind rows (is, inl none) x) last),
    )
