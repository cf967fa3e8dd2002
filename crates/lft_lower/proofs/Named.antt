-- Lists of what is made of names, which grow in a loop.
use Rattle.std.proofs.Common.{◌≡◌, ℕ, ◌+◌, ◌<◌, ◌≤◌, List, [], ◌∷◌, ◌++◌, Some, map, take, length, sym, ◌∙◌, ap, arith, zero-add}
use Rattle.std.specs.Prelude.{slice_get}
use Rattle.std.proofs.lemmas.List.{length-map, map-append, take_all, FromFn.length-map-range_with_len}
use Rattle.lft_lists.proofs.Mapped.{mapped}
use Rattle.lft_elaborate.{proofs.ChannelsLemmas.Grids.row_at, specs.Channels.Channels.below}
use Rattle.lft_lower.proofs.MeaningsLemmas.Cuts.{cut_more}

-- what is made of the name of this number
named_at : {X : Type 0} (f : List ℕ → X) (name : ℕ → List ℕ) (n k : ℕ) → k < n → slice_get (map f (map name (below n))) k ≡ Some (f (name k))
named_at f name n k less = mapped f (map name (below n)) k (name k) (row_at name 0 n k less ∙ ap (λ i. Some (name i)) (zero-add k))

-- a list of what is made of names goes on
pub named_grown : {X Y : Type 0} (view : X → Y) (f : List ℕ → Y) (name : ℕ → List ℕ) (n k : ℕ) (items now : List X) (x : X) (start : List Y) → k < n → now ≡ items ++ x ∷ [] → view x ≡ f (name k) → map view items ≡ start ++ take k (map f (map name (below n))) → map view now ≡ start ++ take (k + 1) (map f (map name (below n)))
named_grown view f name n k items now x start less one is so_far =
    ap (map view) one ∙ map-append view items (x ∷ []) ∙ ap (λ ys. ys ++ view x ∷ []) so_far ∙ cut_more start (map f (map name (below n))) k (view x) (named_at f name n k less ∙ ap Some (sym is))

-- at the end it is that of all names
pub named_all : {Y : Type 0} (f : List ℕ → Y) (name : ℕ → List ℕ) (n k : ℕ) (list start : List Y) → n ≤ k → list ≡ start ++ take k (map f (map name (below n))) → list ≡ start ++ map f (map name (below n))
named_all f name n k list start all so_far =
    let many : length (map f (map name (below n))) ≡ n = length-map (map name (below n)) f ∙ length-map-range_with_len name 0 n in
    so_far ∙ ap (λ ys. start ++ ys) (take_all k (map f (map name (below n))) (omega (arith, many)))
