-- What a reader gave, a read further on.
use Rattle.std.proofs.Common.{◌≡◌, ℕ, List, [], Option, append-nil, subst, take}
use Rattle.std.{specs.Io.KnownBytes.Consumes, proofs.KnownBytes.Consumes-trans}
use Rattle.lft_monitor.specs.declared.judged.Ending.{Ending}
use Rattle.lft_log.specs.declared.told.{Told.Told, Final.TheVariants.{Soon, AtEnd}}

-- a read that gives nothing
pub none_more : (a b c : Option (List ℕ)) (bytes chunk : List ℕ) (n : ℕ) → Consumes a b bytes → n ≡ 0 → Consumes b c (take n chunk) → Consumes a c bytes
none_more a b c bytes chunk n given none more =
    let empty = subst (λ (m : ℕ). Consumes b c (take m chunk)) none more in
    subst (λ (x : List ℕ). Consumes a c x) (append-nil bytes) (Consumes-trans a b c bytes [] given empty)

pub soon_is_no_end : (told : Told) (ending : Ending) → Soon told ≡ AtEnd ending → ⊥
soon_is_no_end told ending q = cc
