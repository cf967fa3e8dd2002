-- A clock read in an instance is the time that it was made of.
use Rattle.std.proofs.Common.{◌≡◌, [], Option, Some, None, option_to_list, Any, ap}
use Rattle.lft_program.{specs.Flattening.time_or_zero, proofs.Delays.clock_is}
use Rattle.lft_tree.specs.Tree.{TimeTree}
use Rattle.lft_resolve.specs.{inner.{Expansion.Values.clock_in, Sheets.IsClockOrZero}, declared.expansion.settings.Clock.Clock, Causes.IsLongTime}
use Rattle.lft_resolve.specs.Instances.{Inside}
use Rattle.lft_resolve.proofs.Somes.{Any-head}

-- the value at the place of a name is the value of the name

-- a time that isn't too long is kept as it is

pub clock_or_zero_is : (x : Inside) (o : Option TimeTree) (clock : Clock) → (Any IsLongTime (option_to_list o) → ⊥) → IsClockOrZero x.reactor o clock → clock_in x.values clock ≡ time_or_zero x o
clock_or_zero_is x None clock short is = ap (clock_in x.values) is
clock_or_zero_is x (Some t) clock short is = clock_is x t clock is (λ long. short (Any-head IsLongTime t [] long))
