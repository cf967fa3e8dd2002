-- Lines of a log behind lines.
use Rattle.std.proofs.Common.{◌≡◌, ◌+◌, ℕ, List, [], ◌∷◌, ◌++◌, length, refl, sym, ap, subst, arith}
use Rattle.std.{specs.List.AllZip, proofs.lemmas.List.{append_assoc, append-nil, Elements.filter_map-append}}
use Rattle.lft_ir.specs.{Parts.Parts, declared.steps.row.Row.Row as TheRow}
use Rattle.lft_trace.specs.{LogTables.{IsLine, row_of}, inner.LogTables.inputs_behind, Traces.IsRow, declared.log_table.Line.{Line, TheVariants.{Row, Input}}}
use Rattle.lft_log.specs.{Logs.{AreTimely, entry_of_line, inputs, rows}, inner.Logs.row_records}

pub rows_both : (xs ys : List Line) → rows (xs ++ ys) ≡ rows xs ++ rows ys
rows_both xs ys = filter_map-append row_of xs ys

pub inputs_both : (xs ys : List Line) → inputs (xs ++ ys) ≡ inputs xs ++ inputs ys
inputs_both xs ys = filter_map-append entry_of_line xs ys

pub timely_both : (t : List TheRow) (xs ys : List Line) → AreTimely t xs → AreTimely (t ++ rows xs) ys → AreTimely t (xs ++ ys)
timely_both t [] ys are more = subst (λ (u : List TheRow). AreTimely u ys) (append-nil t) more
timely_both t (Row r ∷ xs) ys are more = timely_both (t ++ r ∷ []) xs ys are (subst (λ (u : List TheRow). AreTimely u ys) (sym (append_assoc t (r ∷ []) (rows xs))) more)
timely_both t (Input e ∷ xs) ys are more = (are.0, timely_both t xs ys are.1 more)

-- an external input stands once among those with the number of rows before them
pub length_inputs : (n : ℕ) (lines : List Line) → length (inputs_behind n lines) ≡ length (inputs lines)
length_inputs n [] = refl
length_inputs n (Row r ∷ lines) = length_inputs (n + 1) lines
length_inputs n (Input e ∷ lines) = let l = length_inputs n lines in omega (arith, l)

-- records that tell lines, cut where the lines are
pub zip_cut : {A B : Type 0} (R : A → B → Type 0) (fs : List A) (xs ys : List B) → AllZip R fs (xs ++ ys) → (a : List A) × (b : List A) × (fs ≡ a ++ b) × AllZip R a xs × AllZip R b ys
zip_cut R fs [] ys h = ([], fs, refl, tt, h)
zip_cut R [] (x ∷ xs) ys h = absurd h
zip_cut {A} R (f ∷ fs) (x ∷ xs) ys h = let p = zip_cut R fs xs ys h.1 in (f ∷ p.0, p.1, ap (λ (z : List A). f ∷ z) p.2, (h.0, p.3), p.4)

-- the records of rows among them tell the rows
pub rows_each : (program : Parts) (fs : List (List (List ℕ))) (lines : List Line) → AllZip (IsLine program) fs lines → AllZip (IsRow program) (row_records fs lines) (rows lines)
rows_each program [] [] h = tt
rows_each program [] (x ∷ lines) h = absurd h
rows_each program (f ∷ fs) [] h = absurd h
rows_each program (f ∷ fs) (Row r ∷ lines) h = (h.0, rows_each program fs lines h.1)
rows_each program (f ∷ fs) (Input e ∷ lines) h = rows_each program fs lines h.1
