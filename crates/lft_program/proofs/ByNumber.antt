-- What is read from tables by number.
use Rattle.std.proofs.Common.{◌≡◌, ℕ, ◌<◌, List, Option, Some, slice_get, get_or, length, sym, ap, ◌∙◌}
use Rattle.std.{specs.Option.option_and_then, proofs.lemmas.Option.{get_or_from_slice_get, slice_get-get_or, slice_get_within}}

pub then_at : {X Y : Type 0} (f : X → Option Y) (o : Option X) (x : X) (y : Y) → option_and_then f o ≡ Some y → o ≡ Some x → f x ≡ Some y
then_at f o x y e is = sym (ap (option_and_then f) is) ∙ e

-- an item of a table's row is within it
pub row_within : {X Y : Type 0} (row : X → List Y) (o : Option X) (k : ℕ) (x : X) (y : Y) → option_and_then (λ z. slice_get (row z) k) o ≡ Some y → o ≡ Some x → k < length (row x)
row_within row o k x y e is = slice_get_within (row x) k y (then_at (λ z. slice_get (row z) k) o x y e is)

-- what an index read is what stands there
pub item_same : {X : Type 0} (xs : List X) (k : ℕ) (x y : X) → slice_get xs k ≡ Some x → y ≡ get_or xs k y → x ≡ y
item_same xs k x y at is = sym (is ∙ get_or_from_slice_get xs k x y at)

pub item_there : {X : Type 0} (xs : List X) (k : ℕ) (x : X) → k < length xs → x ≡ get_or xs k x → slice_get xs k ≡ Some x
item_there xs k x within is = slice_get-get_or xs k x within ∙ ap Some (sym is)
