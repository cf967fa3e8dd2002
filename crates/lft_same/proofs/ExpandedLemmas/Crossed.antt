-- The places of a bank's multiport, by numbers and by names.
use Rattle.std.proofs.Common.{◌≡◌, ℕ, Bool, true, false, List, [], ◌∷◌, ◌++◌, map, refl, sym, ap, ◌∙◌}
use Rattle.std.proofs.lemmas.List.{map-append}
use Rattle.lft_elaborate.specs.{Channels.Channels.below, inner.Channels.Channels.places}
use Rattle.lft_same.specs.Expanded.Whole.{crossed}

-- of counts they are crossed numbers
pub places_crossed : (members channels : ℕ) (interleaved : Bool) → places members channels interleaved ≡ crossed interleaved (below members) (below channels)
places_crossed members channels false = refl
places_crossed members channels true = refl

row_map : {X Y Z W : Type 0} (f : X → Y) (g : Z → W) (x : X) (zs : List Z) → map {B = Y × W} (λ w. (f x, w)) (map g zs) ≡ map (λ (p : X × Z). (f p.0, g p.1)) (map {B = X × Z} (λ z. (x, z)) zs)
row_map f g x [] = refl
row_map f g x (z ∷ zs) = ap (λ r. (f x, g z) ∷ r) (row_map f g x zs)

column_map : {X Y Z W : Type 0} (f : X → Y) (g : Z → W) (z : Z) (xs : List X) → map {B = Y × W} (λ y. (y, g z)) (map f xs) ≡ map (λ (p : X × Z). (f p.0, g p.1)) (map {B = X × Z} (λ x. (x, z)) xs)
column_map f g z [] = refl
column_map f g z (x ∷ xs) = ap (λ r. (f x, g z) ∷ r) (column_map f g z xs)

-- crossed lists of other things
pub crossed_map : {X Y Z W : Type 0} (f : X → Y) (g : Z → W) (interleaved : Bool) (xs : List X) (zs : List Z) → crossed interleaved (map f xs) (map g zs) ≡ map (λ (p : X × Z). (f p.0, g p.1)) (crossed interleaved xs zs)
crossed_map f g false [] zs = refl
crossed_map {X} {Y} {Z} {W} f g false (x ∷ xs) zs =
    ap (λ r. r ++ crossed false (map f xs) (map g zs)) (row_map f g x zs)
    ∙ ap (λ r. map (λ (p : X × Z). (f p.0, g p.1)) (map {B = X × Z} (λ z. (x, z)) zs) ++ r) (crossed_map f g false xs zs)
    ∙ sym (map-append (λ (p : X × Z). (f p.0, g p.1)) (map {B = X × Z} (λ z. (x, z)) zs) (crossed false xs zs))
crossed_map f g true xs [] = refl
crossed_map {X} {Y} {Z} {W} f g true xs (z ∷ zs) =
    ap (λ r. r ++ crossed true (map f xs) (map g zs)) (column_map f g z xs)
    ∙ ap (λ r. map (λ (p : X × Z). (f p.0, g p.1)) (map {B = X × Z} (λ x. (x, z)) xs) ++ r) (crossed_map f g true xs zs)
    ∙ sym (map-append (λ (p : X × Z). (f p.0, g p.1)) (map {B = X × Z} (λ x. (x, z)) xs) (crossed true xs zs))

-- where the first list has nothing, there are none
pub crossed_nil : {X Y : Type 0} (interleaved : Bool) (ys : List Y) → crossed {X = X} interleaved [] ys ≡ []
crossed_nil false ys = refl
crossed_nil true [] = refl
crossed_nil {X} true (y ∷ ys) = crossed_nil {X = X} true ys
