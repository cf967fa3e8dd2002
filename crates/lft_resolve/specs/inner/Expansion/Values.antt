-- The values of parameters, by instance.
use Rattle.std.specs.Prelude.{◌≡◌, ℕ, ◌<◌, ◌==◌, List, [], Option, Some, slice_get, length, map, find, unwrap_or, option_and_then, option_map}
use Rattle.std.specs.{List.enumerate_from, Option.option_map_or}
use Rattle.lft_resolve.specs.{Expansion.Paths.along, inner.Expansion.Contents.{contained, IsWalk}}
use Rattle.lft_resolve.specs.declared.expansion.walk.{Contents.Contents, Instance.Instance}
use Rattle.lft_resolve.specs.declared.expansion.settings.{Clock.{Clock, TheVariants.{Fixed, Parameter}}, Given.Given, Parameters.Parameters}

-- what a clock is where the parameters have these values
abbrev pub clock_in : List ℕ → Clock → ℕ
clock_in values (Fixed time) = time
clock_in values (Parameter place) = unwrap_or (slice_get values place) 0

-- the value of the parameter at a place: what it is given first, read outside, or else its default
abbrev pub value_in : List ℕ → List Given → ℕ → ℕ → ℕ
value_in outer given place default = option_map_or (λ g. clock_in outer g.clock) (find (λ g. g.place == place) given) default

-- the values of all parameters of an instance, in order
abbrev pub values_in : List ℕ → List Given → List ℕ → List ℕ
values_in outer given defaults = map (λ d. value_in outer given d.0 d.1) (enumerate_from 0 defaults)

-- the defaults of a reactor's parameters
abbrev pub defaults_of : List Parameters → ℕ → List ℕ
defaults_of table r = option_map_or (λ p. p.defaults.items) (slice_get table r) []

-- what a reactor gives to the parameters of its instance at this place
abbrev pub given_by : List Parameters → ℕ → ℕ → List Given
given_by table r place = option_map_or (λ given. given.items) (option_and_then (λ p. slice_get p.given.items place) (slice_get table r)) []

-- the main instance has its defaults, and a later one what the instance that contains it gives it, read with the values there, and else its defaults
pub record HaveValues (table : List Parameters) (instances : List Instance) (values : List (List ℕ)) : Type 0 where
  pub as_long : length values ≡ length instances
  pub main : (i : Instance) (own : List ℕ) → slice_get instances 0 ≡ Some i → slice_get values 0 ≡ Some own → own ≡ defaults_of table i.reactor
  pub later : (n : ℕ) (i above : Instance) (own outer : List ℕ) → 0 < n → slice_get instances n ≡ Some i → slice_get instances i.parent ≡ Some above → slice_get values n ≡ Some own → slice_get values i.parent ≡ Some outer → own ≡ values_in outer (given_by table above.reactor i.place) (defaults_of table i.reactor)

-- a step from a reactor and the values of its parameters, to its instance at a place
abbrev pub entered : List Contents → List Parameters → ℕ × List ℕ → ℕ → Option (ℕ × List ℕ)
entered contents table from place = option_map (λ r. (r, values_in from.1 (given_by table from.0 place) (defaults_of table r))) (contained contents from.0 place)

-- the path of each instance leads from the main one with its defaults to the instance's values
abbrev pub LeadToValues : List Contents → List Parameters → ℕ → List Instance → List (List ℕ) → Type 0
LeadToValues contents table main instances values = (w : IsWalk contents main instances) → (n : ℕ) (i : Instance) (path own : List ℕ) → slice_get instances n ≡ Some i → slice_get w.paths n ≡ Some path → slice_get values n ≡ Some own → along (entered contents table) (main, defaults_of table main) path ≡ Some (i.reactor, own)
