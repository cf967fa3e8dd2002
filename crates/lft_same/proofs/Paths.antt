-- Two ways to step along the same paths.
use Rattle.std.proofs.Common.{◌≡◌, ℕ, List, [], ◌∷◌, Option, Some, None, sym, subst}
use Rattle.std.specs.Option.{option_and_then}
use Rattle.lft_resolve.specs.Expansion.Paths.{along}

-- there is nothing on either side, or something on both, that belongs together
pub data Both {X Y : Type 0} (R : X → Y → Type 0) : Option X → Option Y → Type 0 where
  neither : Both R None None
  both : (x : X) (y : Y) → R x y → Both R (Some x) (Some y)

pub both_at : {X Y : Type 0} (R : X → Y → Type 0) (o : Option X) (p : Option Y) (x : X) (y : Y) → o ≡ Some x → p ≡ Some y → R x y → Both R o p
both_at R o p x y e f r = subst (λ o. Both R o p) (sym e) (subst (Both R (Some x)) (sym f) (both x y r))

-- what belongs together leads along each path to what does
pub together : {X Y : Type 0} (R : X → Y → Type 0) (step : X → ℕ → Option X) (walk : Y → ℕ → Option Y) → ((x : X) (y : Y) (k : ℕ) → R x y → Both R (step x k) (walk y k)) → (path : List ℕ) (x : X) (y : Y) → R x y → Both R (along step x path) (along walk y path)
together R step walk keeps [] x y r = both x y r
together {X} {Y} R step walk keeps (k ∷ path) x y r = go (step x k) (walk y k) (keeps x y k r) (together R step walk keeps path)
  where
    go : (o : Option X) (p : Option Y) → Both R o p → ((x : X) (y : Y) → R x y → Both R (along step x path) (along walk y path)) → Both R (option_and_then (λ z. along step z path) o) (option_and_then (λ z. along walk z path) p)
    go _ _ neither rest = neither
    go _ _ (both a b s) rest = rest a b s
