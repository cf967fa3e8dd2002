-- How many things a program may have.
use Rattle.std.specs.Prelude.{ℕ, List, [], ◌∷◌, Option, Some, None, nat_lt, if◌then◌else◌}
use Rattle.lft_whole.specs.declared.sources.why.Why.{Why}
use Rattle.lft_whole.specs.declared.sources.why.Why.TheVariants.{TooManyInstances, TooManyPorts, TooManyConnections, TooManyActions, TooManyTimers, TooManyReactions}
use Rattle.lft_elaborate.specs.declared.counts.Counts.{Counts}

-- of a kind of things there are so many, and may be at most so many; where there are more, this is said
pub record Limit : Type 0 where
  pub count : ℕ
  pub most : ℕ
  pub why : Why

-- the kinds, in the order in which they are looked at
abbrev pub limits : Counts → List Limit
limits c =
    record { count = c.instances; most = 10000; why = TooManyInstances }
    ∷ record { count = c.ports; most = 100000; why = TooManyPorts }
    ∷ record { count = c.connections; most = 100000; why = TooManyConnections }
    ∷ record { count = c.actions; most = 100000; why = TooManyActions }
    ∷ record { count = c.timers; most = 100000; why = TooManyTimers }
    ∷ record { count = c.reactions; most = 10000; why = TooManyReactions }
    ∷ []

-- what is said of the first limit that is passed
abbrev pub first_passed : List Limit → Option Why
first_passed [] = None
first_passed (limit ∷ rest) = if nat_lt limit.most limit.count then Some limit.why else first_passed rest
