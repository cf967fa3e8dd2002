-- Small facts about the definitions, each by computation.
use Rattle.std.proofs.Common.{◌≡◌, ℕ, List, [], ◌∷◌, Some, None, refl}
use Rattle.lft_resolve.specs.declared.expansion.{walk.Instance.Instance, settings.{Clock.TheVariants.{Fixed, Parameter}, Given.Given}}
use Rattle.lft_resolve.specs.declared.expansion.joins.End.TheVariants.{Own, Inner}
use Rattle.lft_resolve.specs.inner.Expansion.{Numbers.{count_of_things, things}, Children.child_of, Values.{clock_in, values_in}, Joins.{port_of, joins_of}}

abbrev of_reactor : ℕ → Instance
of_reactor r = record { reactor = r; parent = 0; place = 0 }

-- reactor 0 declares four things and reactor 1 ten; reactor 7 isn't in the list
counted : things (4 ∷ 10 ∷ []) (of_reactor 0 ∷ of_reactor 1 ∷ of_reactor 7 ∷ of_reactor 1 ∷ []) ≡ 24
counted = refl

not_counted : count_of_things (4 ∷ 10 ∷ []) 7 ≡ 0
not_counted = refl

abbrev rows : List (List ℕ)
rows = (1 ∷ 4 ∷ []) ∷ (2 ∷ 3 ∷ []) ∷ [] ∷ []

second_of_first : child_of rows 0 1 ≡ Some 4
second_of_first = refl

third_of_first : child_of rows 0 2 ≡ None
third_of_first = refl

of_none : child_of rows 9 0 ≡ None
of_none = refl

-- the first that is given counts; a clock is read outside
abbrev given : List Given
given = record { place = 1; clock = Parameter 0 } ∷ record { place = 0; clock = Fixed 100 } ∷ record { place = 0; clock = Fixed 200 } ∷ []

with_given : values_in (7 ∷ 8 ∷ []) given (1 ∷ 2 ∷ 3 ∷ []) ≡ 100 ∷ 7 ∷ 3 ∷ []
with_given = refl

past_the_end : clock_in (7 ∷ 8 ∷ []) (Parameter 2) ≡ 0
past_the_end = refl

-- instance 0 has ports 0 to 3, instance 1 those from 4 on and instance 4 those from 24 on
abbrev first_ports : List ℕ
first_ports = 0 ∷ 4 ∷ 4 ∷ 14 ∷ 24 ∷ []

own_of_second : port_of first_ports rows 1 (Own 3) ≡ Some 7
own_of_second = refl

inner_of_second : port_of first_ports rows 1 (Inner 1 2) ≡ Some 16
inner_of_second = refl

inner_of_first : port_of first_ports rows 0 (Inner 1 0) ≡ Some 24
inner_of_first = refl

no_such_inner : port_of first_ports rows 4 (Inner 0 0) ≡ None
no_such_inner = refl

no_joins : joins_of [] 3 ≡ []
no_joins = refl
