-- The times of an instance, and those of its core instance.
use Rattle.std.specs.Prelude.{◌≡◌, ℕ, IsSomeAnd, List, Contains, map}
use Rattle.std.specs.Option.{option_map_or}
use Rattle.lft_tree.specs.Tree.{ParameterTree, TimeTree, Written, Named}
use Rattle.lft_resolve.specs.Instances.{Inside as CoreInside}
use Rattle.lft_whole.specs.declared.sources.source.SourceFile.{SourceFile}
use Rattle.lft_same.specs.Expanded.{Instances.{Inside, time_of, value_named}, Taken.IsTimeValue}

-- the time of the value that the parameter of this name has in an instance, or 0
abbrev pub time_named : List SourceFile → Inside → List ℕ → ℕ
time_named files x q = option_map_or time_of (value_named files x q) 0

-- each parameter of the core instance has the time of the value in the instance
abbrev pub HasParameterTimes : List SourceFile → Inside → CoreInside → Type 0
HasParameterTimes files x core = core.values ≡ map (λ p. time_named files x p.name) core.reactor.parameters

-- each parameter of a core instance is one whose value in the instance is a time
abbrev pub HaveTimeValues : List SourceFile → Inside → List ParameterTree → Type 0
HaveTimeValues files x ps = (p : ParameterTree) → Contains ps p → IsSomeAnd (value_named files x p.name) IsTimeValue

-- the time is written out, or it names one of the parameters
abbrev pub IsKnown : List ParameterTree → TimeTree → Type 0
IsKnown ps (Written t) = Unit {0}
IsKnown ps (Named q) = Contains (map (λ p. p.name) ps) q
