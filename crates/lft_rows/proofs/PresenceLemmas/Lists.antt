-- A test that fails.
use Rattle.std.proofs.Common.{◌≡◌, Bool, true, false}

pub not_true : {A : Type 0} → ◌≡◌ {A = Bool} false true → A
not_true e = absurd (cc)
