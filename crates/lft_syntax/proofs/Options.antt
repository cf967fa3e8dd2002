-- What is there, in the words of std.
use Rattle.std.proofs.Common.{◌≡◌, Option, Some}

abbrev pub some : {A : Type 0} → A → Option A
some x = Some x

pub some_is : {A : Type 0} (x y : A) → some x ≡ some y → x ≡ y
some_is x y e = cc
