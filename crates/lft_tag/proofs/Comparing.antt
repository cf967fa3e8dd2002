-- What a comparison says of the numbers that it compared.
use Rattle.std.proofs.Common.{◌≡◌, ◌⊎◌, inl, inr, ◌<◌, ℕ, refl, arith, false}
use Rattle.std.specs.{declared.cmp.Ordering.{Ordering, TheVariants.{Less, Equal, Greater}}, Ordering.{is_eq, nat_cmp, ordering_then}}
use Rattle.std.proofs.lemmas.Bool.Decides.{nat_tests}

pub less_nat : (a b : ℕ) → nat_cmp a b ≡ Less → a < b
less_nat a b h = grind (arith, nat_tests)

pub less_then : (o q : Ordering) → ordering_then o q ≡ Less → (o ≡ Less) ⊎ ((o ≡ Equal) × (q ≡ Less))
less_then Less q h = inl refl
less_then Equal q h = inr (refl, h)
less_then Greater q h = cc (h)

pub both_equal : (o q : Ordering) → ordering_then o q ≡ Equal → (o ≡ Equal) × (q ≡ Equal)
both_equal Less q h = cc (h)
both_equal Equal q h = (refl, h)
both_equal Greater q h = cc (h)

pub not_equal : (r : Ordering) → (r ≡ Equal → ⊥) → is_eq r ≡ false
not_equal Less d = refl
not_equal Equal d = absurd (d refl)
not_equal Greater d = refl
