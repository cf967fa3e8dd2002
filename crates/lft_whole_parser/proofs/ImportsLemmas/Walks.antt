-- Paths, part by part.
use Rattle.std.proofs.Common.{◌≡◌, ℕ, ◌<◌, ◌-◌, Bool, true, false, cond, List, [], ◌∷◌, ◌++◌, length, take, sym, ap, ◌∙◌, append_assoc, arith}
use Rattle.std.specs.Prelude.{slice_get}
use Rattle.std.proofs.lemmas.{Bool.{cond-true, cond-false}, List.{append-nil, Concat.flat_map-append}}
use Rattle.lft_whole_parser.specs.Imports.Paths.{back, is_back, is_folder, joined_path, root, slashed, stays, step}

pub step_stays : (r : Bool) (fs : List (List ℕ)) (p : List ℕ) → stays p ≡ true → step r fs p ≡ fs
step_stays r fs p e = cond-true (stays p) fs (cond (is_back p) (back r fs p) (fs ++ p ∷ [])) e

pub step_back : (r : Bool) (fs : List (List ℕ)) (p : List ℕ) → stays p ≡ false → is_back p ≡ true → step r fs p ≡ back r fs p
step_back r fs p s b = cond-false (stays p) fs (cond (is_back p) (back r fs p) (fs ++ p ∷ [])) s ∙ cond-true (is_back p) (back r fs p) (fs ++ p ∷ []) b

pub step_on : (r : Bool) (fs : List (List ℕ)) (p : List ℕ) → stays p ≡ false → is_back p ≡ false → step r fs p ≡ fs ++ p ∷ []
step_on r fs p s b = cond-false (stays p) fs (cond (is_back p) (back r fs p) (fs ++ p ∷ [])) s ∙ cond-false (is_back p) (back r fs p) (fs ++ p ∷ []) b

pub back_off : (r : Bool) (fs : List (List ℕ)) (p : List ℕ) → is_folder (slice_get fs (length fs - 1)) ≡ true → back r fs p ≡ take (length fs - 1) fs
back_off r fs p e = cond-true (is_folder (slice_get fs (length fs - 1))) (take (length fs - 1) fs) (cond r fs (fs ++ p ∷ [])) e

pub back_root : (r : Bool) (fs : List (List ℕ)) (p : List ℕ) → is_folder (slice_get fs (length fs - 1)) ≡ false → r ≡ true → back r fs p ≡ fs
back_root r fs p e t = cond-false (is_folder (slice_get fs (length fs - 1))) (take (length fs - 1) fs) (cond r fs (fs ++ p ∷ [])) e ∙ cond-true r fs (fs ++ p ∷ []) t

pub back_kept : (r : Bool) (fs : List (List ℕ)) (p : List ℕ) → is_folder (slice_get fs (length fs - 1)) ≡ false → r ≡ false → back r fs p ≡ fs ++ p ∷ []
back_kept r fs p e t = cond-false (is_folder (slice_get fs (length fs - 1))) (take (length fs - 1) fs) (cond r fs (fs ++ p ∷ [])) e ∙ cond-false r fs (fs ++ p ∷ []) t

slashed_more : (xs : List (List ℕ)) (f : List ℕ) → slashed (xs ++ f ∷ []) ≡ slashed xs ++ 47 ∷ f
slashed_more xs f = flat_map-append (λ folder. 47 ∷ folder) xs (f ∷ []) ∙ ap (λ z. slashed xs ++ z) (append-nil (47 ∷ f))

-- one folder more behind others
pub joined_more : (r : Bool) (xs : List (List ℕ)) (f : List ℕ) → 0 < length xs → joined_path r (xs ++ f ∷ []) ≡ joined_path r xs ++ 47 ∷ f
joined_more r [] f l = absurd (omega arith)
joined_more r (x ∷ xs) f l = ap (λ z. (root r ++ x) ++ z) (slashed_more xs f) ∙ sym (append_assoc (root r ++ x) (slashed xs) (47 ∷ f))
