-- The text of contrasts, one after another, and how wide their columns are.
use Rattle.std.proofs.Common.{◌≡◌, ℕ, ◌+◌, ◌≤◌, List, [], ◌∷◌, ◌++◌, length, max, take, take_all, add-one, append_assoc, sym, ap, ◌∙◌, refl, Some, slice_get, flat_map}
use Rattle.lft_lists.proofs.Picked.{take_next}
use Rattle.lft_tag.specs.declared.Tag.{Tag}
use Rattle.lft_ir.{specs.Parts.Parts, proofs.WordsLemmas.Steps.flat_next}
use Rattle.lft_pair.specs.{declared.contrasting.contrasts.Contrast.Contrast, Told.{widest, contrast_words, heading_words, told_in}}

-- the greatest length with one contrast more
widest_behind : (words : Contrast → List ℕ) (least : ℕ) (cs : List Contrast) (c : Contrast) → widest words least (cs ++ c ∷ []) ≡ max (widest words least cs) (length (words c))
widest_behind words least [] c = refl
widest_behind words least (x ∷ cs) c = widest_behind words (max least (length (words x))) cs c

pub widest_next : (words : Contrast → List ℕ) (least : ℕ) (cs : List Contrast) (i : ℕ) (c : Contrast) (cell : List ℕ) (old : ℕ) → slice_get cs i ≡ Some c → cell ≡ words c → old ≡ widest words least (take i cs) → max old (length cell) ≡ widest words least (take (i + 1) cs)
widest_next words least cs i c cell old e q so_far = ap (λ w. max w (length cell)) so_far ∙ ap (λ w. max (widest words least (take i cs)) (length w)) q ∙ sym (ap (λ l. widest words least l) (ap (λ k. take k cs) (add-one i) ∙ take_next cs i c e) ∙ widest_behind words least (take i cs) c)

pub widest_end : (words : Contrast → List ℕ) (least : ℕ) (cs : List Contrast) (i width : ℕ) → length cs ≤ i → width ≡ widest words least (take i cs) → width ≡ widest words least cs
widest_end words least cs i width l so_far = so_far ∙ ap (λ l. widest words least l) (take_all i cs l)

-- the text with one contrast more
pub told_next : (program : Parts) (head : List ℕ) (e f : ℕ) (cs : List Contrast) (i : ℕ) (c : Contrast) (old new : List ℕ) → slice_get cs i ≡ Some c → old ≡ head ++ flat_map (contrast_words program e f) (take i cs) → new ≡ old ++ contrast_words program e f c → new ≡ head ++ flat_map (contrast_words program e f) (take (i + 1) cs)
told_next program head e f cs i c old new at so_far is = is ∙ ap (λ s. s ++ contrast_words program e f c) so_far ∙ append_assoc head (flat_map (contrast_words program e f) (take i cs)) (contrast_words program e f c) ∙ ap (λ s. head ++ s) (sym (flat_next (contrast_words program e f) cs i c at) ∙ ap (λ n. flat_map (contrast_words program e f) (take n cs)) (sym (add-one i)))

pub told_end : (program : Parts) (g : Tag) (r e f width other : ℕ) (cs all : List Contrast) (i : ℕ) (text : List ℕ) → cs ≡ all → e ≡ width → f ≡ other → length cs ≤ i → text ≡ heading_words program g r e f ++ flat_map (contrast_words program e f) (take i cs) → text ≡ told_in program g r width other all
told_end program g r e f width other cs all i text q p o l so_far = so_far ∙ ap (λ l. heading_words program g r e f ++ flat_map (contrast_words program e f) l) (take_all i cs l ∙ q) ∙ ap (λ n. told_in program g r n f all) p ∙ ap (λ n. told_in program g r width n all) o

-- three pieces behind a text
pub three : (s0 s1 s2 s3 a b c : List ℕ) → s1 ≡ s0 ++ a → s2 ≡ s1 ++ b → s3 ≡ s2 ++ c → s3 ≡ s0 ++ (a ++ b ++ c)
three s0 s1 s2 s3 a b c p q r = rw (r, q, p) (simp append_assoc)

pub same_width : (words : Contrast → List ℕ) (least : ℕ) (cs all : List Contrast) (width : ℕ) → cs ≡ all → width ≡ widest words least cs → width ≡ widest words least all
same_width words least cs all width q e = e ∙ ap (λ l. widest words least l) q
