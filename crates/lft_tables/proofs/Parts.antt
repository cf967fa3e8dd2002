-- The items of lists, one list after another.
use Rattle.std.proofs.Common.{◌≡◌, ◌∙◌, ℕ, ◌+◌, List, [], ◌∷◌, ◌++◌, Vec, take, add-one, ap, append-nil, slice_get, Some}
use Rattle.std.specs.declared.alloc.Global.{Global}
use Rattle.std.proofs.{lemmas.{Grind.flat_map-append, Option.{get_or_from_slice_get, slice_get_within}}, Math.Seq.take-suc}
use Rattle.lft_tables.specs.inner.Parts.{items_of}

pub items_both : {Item : Type 0} (parts more : List (Vec Item Global)) → items_of (parts ++ more) ≡ items_of parts ++ items_of more
items_both {Item} parts more = flat_map-append (λ (p : Vec Item Global). p.items) parts more

-- those of the lists up to one, and this one's
pub items_more : {Item : Type 0} (parts : List (Vec Item Global)) (n : ℕ) (part : Vec Item Global) → slice_get parts n ≡ Some part → items_of (take (n + 1) parts) ≡ items_of (take n parts) ++ part.items
items_more {Item} parts n part at =
    let before : take (n + 1) parts ≡ take n parts ++ (part ∷ []) = ap (λ k. take k parts) (add-one n) ∙ take-suc parts n part (slice_get_within parts n part at) ∙ ap (λ (p : Vec Item Global). take n parts ++ (p ∷ [])) (get_or_from_slice_get parts n part part at) in
    ap (λ (t : List (Vec Item Global)). items_of t) before ∙ flat_map-append (λ (p : Vec Item Global). p.items) (take n parts) (part ∷ []) ∙ ap (λ (t : List Item). items_of (take n parts) ++ t) (append-nil part.items)
