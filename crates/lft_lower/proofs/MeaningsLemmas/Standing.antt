-- References that stand at a token.
use Rattle.std.proofs.Common.{◌≡◌, ℕ, ◌+◌, ◌-◌, List, [], ◌∷◌, ◌++◌, map, max, take, length, refl, sym, ◌∙◌, ap, arith, append_assoc, length-append}
use Rattle.std.proofs.Math.Seq.{take-append-add}
use Rattle.std.proofs.lemmas.List.{append-nil, append_cancel_left, length-map, map-append, take-map}
use Rattle.std.proofs.lemmas.List.Elements.{All-append, All-cons, All-head, All-nil, All-tail}
use Rattle.std.specs.List.{All}
use Rattle.lft_tree.specs.{Tree.RefTree, View.{ref_view, ref_views}, declared.tree.Reference.Reference as Core}
use Rattle.lft_whole.specs.declared.tree.Reference.{Reference}
use Rattle.lft_lower.specs.inner.Meanings.{Meanings.{Here, all_places, places_in}, Standing.{all_tokens, ref_tokens, tokens_of, AddsAt}, Places.up_to}

abbrev At : ℕ → Core → Type 0
At at r = r.at ≡ at

-- none
pub refs_none : (old : List Core) (at : ℕ) → AddsAt old old at
refs_none old at = ([], All-nil (At at), sym (append-nil old))

-- one more
pub refs_more : (old mid now : List Core) (r : Core) (at : ℕ) → AddsAt old mid at → now ≡ mid ++ r ∷ [] → r.at ≡ at → AddsAt old now at
refs_more old mid now r at (more, all, made) one is = (more ++ r ∷ [], All-append (At at) more (r ∷ []) all (All-cons (At at) r [] is (All-nil (At at))), one ∙ ap (λ rs. rs ++ r ∷ []) made ∙ append_assoc old more (r ∷ []))

all_at : (at : ℕ) (rs : List Core) → All (At at) rs → ref_tokens rs ≡ map (λ place. at) (ref_views rs)
all_at at [] all = refl
all_at at (r ∷ rs) all = ap (λ t. t ∷ ref_tokens rs) (All-head (At at) r rs all) ∙ ap (λ ts. at ∷ ts) (all_at at rs (All-tail (At at) r rs all))

-- each of the places that are put there stands at the token
pub tokens_put : (old now : List Core) (at : ℕ) (more : List RefTree) → AddsAt old now at → ref_views now ≡ ref_views old ++ more → ref_tokens now ≡ ref_tokens old ++ map (λ place. at) more
tokens_put old now at more (new, all, made) viewed =
    let same : ref_views new ≡ more = append_cancel_left (ref_views old) (ref_views new) more (sym (ap ref_views made ∙ map-append ref_view old new) ∙ viewed) in
    ap ref_tokens made ∙ map-append (λ (r : Core). r.at) old new ∙ ap (λ ts. ref_tokens old ++ ts) (all_at at new all ∙ ap (map (λ place. at)) same)

-- a list that goes on until it has so many
up_to_is : {X : Type 0} (most : ℕ) (old more : List X) → up_to most old more ≡ old ++ take (max most (length old) - length old) more
up_to_is most old more =
    let long : max most (length old) ≡ length old + (max most (length old) - length old) = omega arith in
    ap (λ n. take n (old ++ more)) long ∙ take-append-add old more (max most (length old) - length old)

-- the same where there are as many as are wanted
pub tokens_up_to : (old now : List Core) (at most : ℕ) (more : List RefTree) → AddsAt old now at → ref_views now ≡ up_to most (ref_views old) more → ref_tokens now ≡ up_to most (ref_tokens old) (map (λ place. at) more)
tokens_up_to old now at most more adds viewed =
    let same : length (ref_views old) ≡ length (ref_tokens old) = length-map old ref_view ∙ sym (length-map old (λ (r : Core). r.at)) in
    let few = λ (n : ℕ). max most n - n in
    tokens_put old now at (take (few (length (ref_views old))) more) adds (viewed ∙ up_to_is most (ref_views old) more)
    ∙ ap (λ ts. ref_tokens old ++ ts) (sym (take-map (λ (place : RefTree). at) (few (length (ref_views old))) more) ∙ ap (λ n. take (few n) (map (λ place. at) more)) same)
    ∙ sym (up_to_is most (ref_tokens old) (map (λ place. at) more))

-- there are as many tokens as places
pub tokens_long : (number : ℕ → ℕ) (h : Here) (rs : List Reference) → length (all_tokens number h rs) ≡ length (all_places h rs)
tokens_long number h [] = refl
tokens_long number h (r ∷ rs) =
    length-append (tokens_of number h r) (all_tokens number h rs)
    ∙ ap (λ n. n + length (all_tokens number h rs)) (length-map (places_in h r) (λ (place : RefTree). number r.head.at))
    ∙ ap (λ n. length (places_in h r) + n) (tokens_long number h rs)
    ∙ sym (length-append (places_in h r) (all_places h rs))
