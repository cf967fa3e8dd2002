-- Inside: what contracts see of the parts of a tree, and of what a function returned.
use Rattle.std.specs.Prelude.{◌≡◌, ℕ, Result, Ok, Err}
use Rattle.lft_whole.specs.declared.fault.TreeFault.{TreeFault}
use Rattle.lft_whole.specs.declared.fault.TreeFault.TheVariants as faults

-- a fault is that of what was read, unless memory ran out
abbrev pub Fails : {Y : Type 0} → TreeFault → Result Y TreeFault → Type 0
Fails faults.NoMemory read = Unit {0}
Fails e read = read ≡ Err e

-- what a function returned, seen by a view, is what was read, unless memory ran out
abbrev pub Gives : {X Y : Type 0} → (X → Y) → Result X TreeFault → Result Y TreeFault → Type 0
Gives view (Ok x) read = read ≡ Ok (view x)
Gives view (Err e) read = Fails e read

-- the same, where no memory is taken
abbrev pub GivesAlways : {X Y : Type 0} → (X → Y) → Result X TreeFault → Result Y TreeFault → Type 0
GivesAlways view (Ok x) read = read ≡ Ok (view x)
GivesAlways view (Err e) read = read ≡ Err e

-- a place alone: no value is read
abbrev pub at_next : ℕ → Unit {0} × ℕ
at_next j = (tt, j)
