-- The rows of a run that is begun, as they are pushed.
use Rattle.std.proofs.Common.{◌≡◌, ℕ, zero, suc, ◌+◌, ◌<◌, List, [], ◌∷◌, ◌++◌, add-one, length, take, map, sym, ap, ◌∙◌, arith, Option, Some, slice_get, filter_map, zip, get_or}
use Rattle.std.proofs.lemmas.List.{map-append, Elements.filter_map-append}
use Rattle.lft_tag.specs.declared.Tag.{Tag}
use Rattle.lft_ir.specs.declared.{parts.{Value.Value, Name.Name}, steps.row.Step.TheVariants.Start}
use Rattle.lft_model.specs.{Runs.read_step, Recorded.run_row}

-- one item more on both sides
zip_more : {X Y : Type 0} (xs : List X) (i : ℕ) (x : X) (ys : List Y) (d : Y) → slice_get xs i ≡ Some x → i < length ys → zip (take (suc i) xs) ys ≡ zip (take i xs) ys ++ (x, get_or ys i d) ∷ []
zip_more [] i x ys d e l = absurd (cc)
zip_more (z ∷ xs) zero x [] d e l = absurd (omega arith)
zip_more (z ∷ xs) zero x (y ∷ ys) d e l = let q : z ≡ x = cc in ap (λ k. (k, y) ∷ []) q
zip_more (z ∷ xs) (suc i) x [] d e l = absurd (omega arith)
zip_more (z ∷ xs) (suc i) x (y ∷ ys) d e l = ap (λ ps. (z, y) ∷ ps) (zip_more xs i x ys d e (omega arith))

-- the rows with the read of one name more
pub read_more : (w : ℕ) (g : Tag) (r : ℕ) (names : List Name) (i : ℕ) (n : Name) (shown : List (Option Value)) (d : Option Value) → slice_get names i ≡ Some n → i < length shown → map (run_row w g r) (Start ∷ filter_map read_step (zip (take i names) shown)) ++ map (run_row w g r) (filter_map read_step ((n, get_or shown i d) ∷ [])) ≡ map (run_row w g r) (Start ∷ filter_map read_step (zip (take (i + 1) names) shown))
read_more w g r names i n shown d e l =
    let ps = zip (take i names) shown in
    let a : zip (take (i + 1) names) shown ≡ ps ++ (n, get_or shown i d) ∷ [] = ap (λ k. zip (take k names) shown) (add-one i) ∙ zip_more names i n shown d e l in
    sym (ap (λ qs. map (run_row w g r) (Start ∷ filter_map read_step qs)) a ∙ ap (λ ss. map (run_row w g r) (Start ∷ ss)) (filter_map-append read_step ps ((n, get_or shown i d) ∷ [])) ∙ map-append (run_row w g r) (Start ∷ filter_map read_step ps) (filter_map read_step ((n, get_or shown i d) ∷ [])))
