-- A text that lacks a marker is no bundle.
use Rattle.std.proofs.Common.{◌≡◌, List, ℕ, ◌++◌, length, drop, refl, sym, ap, ◌∙◌, subst, codes}
use Rattle.std.proofs.lemmas.List.{drop_at}
use Rattle.lft_driver.{specs.{Bundles.{IsBundle, IsCut}, Markers.IsMissing, declared.bundle.Marker.Marker}, proofs.Texts.cut_once}
use Rattle.lft_driver.specs.declared.bundle.Marker.TheVariants as markers

-- what follows the first line is one text
after_first : (text rest others : List ℕ) → text ≡ codes "--- program\n" ++ rest → text ≡ codes "--- program\n" ++ others → others ≡ rest
after_first text rest others a b = sym (drop_at (codes "--- program\n") others (length (codes "--- program\n")) refl) ∙ ap (λ x. drop (length (codes "--- program\n")) x) (sym b ∙ a) ∙ drop_at (codes "--- program\n") rest (length (codes "--- program\n")) refl

pub no_bundle : (text : List ℕ) (m : Marker) → IsMissing text m → (program externals trace : List ℕ) → IsBundle text program externals trace → ⊥
no_bundle text markers.Program h program externals trace b = h b.rest b.is_bundle
no_bundle text markers.Externals h program externals trace b =
    let same = after_first text h.0 b.rest h.1 b.is_bundle in
    h.2 program b.others (subst (λ x. IsCut x (codes "--- externals\n") program b.others) same b.first)
no_bundle text markers.Trace h program externals trace b =
    let same = after_first text h.0 b.rest h.3 b.is_bundle in
    let first = subst (λ x. IsCut x (codes "--- externals\n") program b.others) same b.first in
    let once = cut_once h.0 (codes "--- externals\n") program b.others h.1 h.2 first h.4 in
    h.5 externals trace (subst (λ x. IsCut x (codes "--- trace\n") externals trace) once.1 b.second)
