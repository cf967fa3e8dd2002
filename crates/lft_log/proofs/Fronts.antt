-- What the first of whole lines tell.
use Rattle.std.proofs.Common.{◌≡◌, ◌+◌, ◌-◌, ◌≤◌, ◌∙◌, ℕ, zero, suc, List, [], ◌∷◌, None, Option, IfSome, length, take, drop, slice_range, refl, sym, ap, subst, arith}
use Rattle.std.proofs.lemmas.List.{length-drop, length-take, take-take, take_all}
use Rattle.lft_ir.specs.{Parts.Parts, declared.steps.row.Row.Row, Steps.Fits.RowsFit}
use Rattle.lft_trace.specs.{inner.LogTables.{InputsFit, ReadsLines, StopsAt}, declared.log_table.{LineFault.LineFault, LogLines.LogLines}}
use Rattle.lft_log.specs.{Logs.{AreLines, ArePlain, inputs, records_below, rows}, inner.Logs.{BeginsOdd, IsFaultBehind, IsFront}}
use Rattle.lft_log.specs.declared.{fault.LogFault.LogFault, front.LinesRead.LinesRead}
use Rattle.lft_log.proofs.{Ends.{lines_left, range_take}, Behind.length_inputs}

pub rest_from : (text : List ℕ) (n : ℕ) → slice_range text n (length text) ≡ drop n text
rest_from text n = let l : length (drop n text) ≤ length text - n = omega (arith, length-drop n text) in take_all (length text - n) (drop n text) l

pub all_dropped : {X : Type 0} (xs : List X) (n : ℕ) → n ≡ length xs → drop n xs ≡ []
all_dropped {X} [] n e = none_left n
  where
    none_left : (n : ℕ) → (let ys : List X = [] in drop n ys ≡ [])
    none_left zero = refl
    none_left (suc n) = refl
all_dropped (x ∷ xs) zero e = absurd (omega arith)
all_dropped (x ∷ xs) (suc n) e = all_dropped xs n (omega arith)

-- what is left of whole lines
pub left_lines : (text : List ℕ) (n : ℕ) → AreLines text → AreLines (slice_range text n (length text))
left_lines text n are = subst AreLines (sym (rest_from text n)) (lines_left text n are)

-- whole lines from a place on
pub lines_there : (text : List ℕ) (a n b : ℕ) → n ≤ length (slice_range text a b) → AreLines (take n (slice_range text a b)) → AreLines (slice_range text a (a + n))
lines_there text a n b within are =
    let long = length-take (b - a) (drop a text) in
    let up : n ≤ b - a = omega (arith, long, within) in
    let e : a + n - a ≡ n = omega arith in
    subst (λ (k : ℕ). AreLines (take k (drop a text))) (sym e) (subst AreLines (take-take n (b - a) (drop a text) up) are)

-- a fault of the next record, or one behind the lines that are read
abbrev pub IsNextFault : Option LineFault → List ℕ → ℕ → ℕ → LogFault → Type 0
IsNextFault fault behind row input f = (program : Parts) (records : List (List (List ℕ))) → StopsAt program records fault → BeginsOdd behind → IsFaultBehind program records behind row input f

pub front_is : (program : Parts) (text : List ℕ) (rows_before inputs_before plain : ℕ) (t : List Row) (read : LogLines) (front : LinesRead) (row input : ℕ)
    → plain ≤ length text → AreLines (take plain text) → ArePlain (take plain text) → BeginsOdd (drop plain text)
    → ReadsLines program (records_below (slice_range text 0 plain)) t read → RowsFit program t → InputsFit program read.inputs.items
    → front.inputs ≡ read.inputs
    → (front.fault ≡ None → (read.fault ≡ None) × (length (slice_range text plain (length text)) ≡ 0))
    → IfSome front.fault (IsNextFault read.fault (slice_range text plain (length text)) row input)
    → row ≡ rows_before + length t + 2 → input ≡ inputs_before + length read.inputs.items + 2
    → IsFront program text rows_before inputs_before t front
front_is program text rows_before inputs_before plain t read front row input within are quiet odd reads rows_fit inputs_fit inputs_same all none row_is input_is = record {
  plain = plain;
  within = within;
  are = are;
  quiet = quiet;
  lines = reads.lines;
  first = reads.first;
  others = reads.rest;
  whole = ap records_below (sym (range_take text plain)) ∙ reads.whole;
  each = reads.each;
  rows_are = reads.rows_are;
  inputs_are = ap (λ v. v.items) inputs_same ∙ reads.inputs_are;
  rows_fit = rows_fit;
  inputs_fit = subst (λ v. InputsFit program v.items) (sym inputs_same) inputs_fit;
  all = λ e.
      let a = all e in
      let l : length (slice_range text plain (length text)) ≡ length text - plain = ap (λ (x : List ℕ). length x) (rest_from text plain) ∙ length-drop plain text in
      let whole = a.1 in
      let end : plain ≡ length text = omega (arith, l, whole, within) in
      (subst (λ (o : Option LineFault). StopsAt program reads.rest o) a.0 reads.stops, end);
  none = λ f named.
      let rest = drop plain text in
      let behind = subst (λ (x : List ℕ). IfSome front.fault (IsNextFault read.fault x row input)) (rest_from text plain) none in
      let so = subst (λ (o : Option LogFault). IfSome o (IsNextFault read.fault rest row input)) named behind in
      let counted : input ≡ inputs_before + length (inputs reads.lines) + 2 = (let long = ap (λ xs. length xs) reads.inputs_are ∙ length_inputs 0 reads.lines in omega (arith, long, input_is)) in
      let long_rows = ap (λ xs. length xs) reads.rows_are in
      let numbered : row ≡ rows_before + length (rows reads.lines) + 2 = omega (arith, long_rows, row_is) in
      subst (λ (n : ℕ). IsFaultBehind program reads.rest rest n (inputs_before + length (inputs reads.lines) + 2) f) numbered (subst (λ (n : ℕ). IsFaultBehind program reads.rest rest row n f) counted (so program reads.rest reads.stops odd));
}
