-- Inside: places of names in lists: the first place at which a name stands. `Sheets.antt` tells by it what a name stands for.
use Rattle.std.specs.Prelude.{ℕ, List, Option, bytes_eq, ◌≡◌, suc, ◌∷◌, Some, None, if◌then◌else◌, option_map, []}
use Rattle.std.specs.HashMap.{get_by}
use Rattle.lft_resolve.specs.declared.index.Index.{Index}

-- the place that the index has for a name
abbrev pub place_in : Index → List ℕ → Option ℕ
place_in index q = get_by (λ k. bytes_eq q k.now) index.places

-- the first place at which the name stands
abbrev pub place : List ℕ → List (List ℕ) → Option ℕ
place q [] = None
place q (t ∷ ts) = if bytes_eq q t then Some 0 else option_map suc (place q ts)

-- the index has the first place of each name of the list
abbrev pub IsIndexOf : Index → List (List ℕ) → Type 0
IsIndexOf index names = (q : List ℕ) → place_in index q ≡ place q names
