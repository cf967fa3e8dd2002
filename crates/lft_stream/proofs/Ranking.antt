-- Runs by the levels of their reactions, and by what precedes them.
use Rattle.std.proofs.Common.{◌≡◌, ℕ, ◌+◌, ◌<◌, ◌≤◌, List, length, refl, arith, get_or, Some, slice_get}
use Rattle.std.proofs.lemmas.Option.{slice_get_within, get_or_from_slice_get}
use Rattle.lft_tag.specs.declared.Tag.{Tag}
use Rattle.lft_ir.specs.{Parts.Parts, declared.steps.row.{Row.Row, Step.TheVariants.{Start, End}}, Steps.Fits.RowsFit}
use Rattle.lft_graph.{specs.{Graph.{GraphParts, IsGraphOf}, Precedence.Precedes, Sets.Has}, proofs.Ancestry.{level_there, lower, precedes_known}}
use Rattle.lft_model.specs.Runs.{start_row, end_row}
use Rattle.lft_stream.specs.inner.Ordered.{IsOrdered}

abbrev pub level_of : List ℕ → ℕ → ℕ
level_of levels r = get_or levels r 0

-- each start before the place is of a reaction up to the level
abbrev pub StartsWithin : List ℕ → List Row → ℕ → ℕ → Type 0
StartsWithin levels t n most = (i : ℕ) (x : Row) → i < n → slice_get t i ≡ Some x → x.step ≡ Start → level_of levels x.reaction ≤ most

-- before the place no run starts before the end of one of a lower level
abbrev pub RankedTo : List ℕ → List Row → ℕ → Type 0
RankedTo levels t n = (i j : ℕ) (x y : Row) → i < j → j < n → slice_get t i ≡ Some x → x.step ≡ Start → slice_get t j ≡ Some y → y.step ≡ End → level_of levels x.reaction ≤ level_of levels y.reaction

-- then none starts before the end of one that precedes it
pub ranked_ordered : (program : Parts) (graph : GraphParts) → IsGraphOf program graph → (t : List Row) → RowsFit program t → RankedTo graph.levels t (length t) → IsOrdered program t
ranked_ordered program graph is t fit ranked i j v w g h r a before starts ends precedes =
    let k = level_there program graph is a (precedes_known program a r precedes) in
    let l = level_there program graph is r (fit.each i (start_row v g r) starts).reaction in
    let m : k.0 < l.0 = lower program graph is (l.0 + 1) a r k.0 l.0 (omega arith) precedes k.1 l.1 in
    let p : level_of graph.levels a ≡ k.0 = get_or_from_slice_get graph.levels a k.0 0 k.1 in
    let q : level_of graph.levels r ≡ l.0 = get_or_from_slice_get graph.levels r l.0 0 l.1 in
    let n : level_of graph.levels r ≤ level_of graph.levels a = ranked i j (start_row v g r) (end_row w h a) before (slice_get_within t j (end_row w h a) ends) starts refl ends refl in
    omega arith

-- from the place on no run starts before the end of one that precedes it
abbrev pub OrderedFrom : Parts → List Row → ℕ → Type 0
OrderedFrom program t n = (i j v w : ℕ) (g h : Tag) (r a : ℕ) → n ≤ i → i < j → slice_get t i ≡ Some (start_row v g r) → slice_get t j ≡ Some (end_row w h a) → ¬ Precedes program a r

-- the set has what ends from the place on
abbrev pub HasEnded : List Row → ℕ → List ℕ → Type 0
HasEnded t n set = (j w : ℕ) (h : Tag) (a : ℕ) → n ≤ j → slice_get t j ≡ Some (end_row w h a) → Has set a
