-- What connections join, by the numbers of ports. Ports are numbered by instance and then by place.
use Rattle.std.specs.Prelude.{◌≡◌, ℕ, ◌+◌, ◌<◌, ◌↔◌, List, [], Option, Some, slice_get, length, unwrap_or, option_map}
use Rattle.std.specs.Option.{option_and_then, option_map_or}
use Rattle.lft_resolve.specs.inner.Expansion.{Numbers.{count_of_things, things}, Children.child_of, Values.clock_in}
use Rattle.lft_resolve.specs.declared.expansion.walk.Instance.{Instance}
use Rattle.lft_resolve.specs.declared.expansion.joins.{End.{End, TheVariants.{Own, Inner}}, Join.Join, Connections.Connections, Site.Site}
use Rattle.lft_tag.specs.declared.Source.{Source}

-- the number of the port at this place of instance n, by the numbers of first ports
abbrev pub port_at : List ℕ → ℕ → ℕ → Option ℕ
port_at firsts n port = option_map (λ first. first + port) (slice_get firsts n)

-- the number of the port that an end is in instance n
abbrev pub port_of : List ℕ → List (List ℕ) → ℕ → End → Option ℕ
port_of firsts children n (Own port) = port_at firsts n port
port_of firsts children n (Inner place port) = option_and_then (λ m. port_at firsts m port) (child_of children n place)

-- the reactor of instance n declares a port at this place
abbrev pub Declares : List ℕ → List Instance → ℕ → ℕ → Type 0
Declares counts instances n port = (i : Instance) × (slice_get instances n ≡ Some i) × (port < count_of_things counts i.reactor)

-- in instance n, an end is a port that some reactor declares
abbrev pub IsDeclaredPort : List ℕ → List Instance → List (List ℕ) → ℕ → End → Type 0
IsDeclaredPort counts instances children n (Own port) = Declares counts instances n port
IsDeclaredPort counts instances children n (Inner place port) = (m : ℕ) × (child_of children n place ≡ Some m) × Declares counts instances m port

-- what a reactor joins
abbrev pub joins_of : List Connections → ℕ → List Join
joins_of table r = option_map_or (λ c. c.joins.items) (slice_get table r) []

-- the reactor of instance n has this join at this place
abbrev pub HasJoin : List Connections → List Instance → ℕ → ℕ → Join → Type 0
HasJoin table instances n place join = (i : Instance) × (slice_get instances n ≡ Some i) × (slice_get (joins_of table i.reactor) place ≡ Some join)

-- both ends of each join are ports, in each instance
abbrev pub JoinPorts : List ℕ → List Connections → List Instance → List (List ℕ) → Type 0
JoinPorts counts table instances children = (n place : ℕ) (join : Join) → HasJoin table instances n place join → IsDeclaredPort counts instances children n join.from × IsDeclaredPort counts instances children n join.to

-- the join at this place leads into port b, in instance n
abbrev pub LeadsInto : List Connections → List Instance → List ℕ → List (List ℕ) → ℕ → ℕ → ℕ → Type 0
LeadsInto table instances firsts children n place b = (join : Join) × HasJoin table instances n place join × (port_of firsts children n join.to ≡ Some b)

-- no two joins lead into one port
abbrev pub LeadApart : List Connections → List Instance → List ℕ → List (List ℕ) → Type 0
LeadApart table instances firsts children = (n m k l b : ℕ) → LeadsInto table instances firsts children n k b → LeadsInto table instances firsts children m l b → (n ≡ m) × (k ≡ l)

-- some instance joins port a to port b; the delay, if there is one, is read with the values there
pub record Joins (table : List Connections) (instances : List Instance) (firsts : List ℕ) (children values : List (List ℕ)) (a b : ℕ) (delay : Option ℕ) : Type 0 where
  pub number : ℕ
  pub place : ℕ
  pub join : Join
  pub has_join : HasJoin table instances number place join
  pub from : port_of firsts children number join.from ≡ Some a
  pub to : port_of firsts children number join.to ≡ Some b
  pub is_delay : option_map (clock_in (unwrap_or (slice_get values number) [])) join.delay ≡ delay

-- one entry for each port that the instances have: its source, exactly where a join leads from there into it
pub record AreSources (counts : List ℕ) (table : List Connections) (instances : List Instance) (firsts : List ℕ) (children values : List (List ℕ)) (sources : List (Option Source)) : Type 0 where
  pub as_long : length sources ≡ things counts instances
  pub each : (b : ℕ) (s : Source) → (slice_get sources b ≡ Some (Some s)) ↔ Joins table instances firsts children values s.port b s.delay

-- this join is the one that the site tells
abbrev pub IsJoinAt : Site → (number place : ℕ) → Type 0
IsJoinAt x number place = (x.number ≡ number) × (x.place ≡ place)

-- beside each source the join stands that leads from there into the port
abbrev pub AreSites : List Connections → List Instance → List ℕ → List (List ℕ) → List (List ℕ) → List (Option Source) → List Site → Type 0
AreSites table instances firsts children values sources sites = (b : ℕ) (s : Source) → slice_get sources b ≡ Some (Some s) → (x : Site) × (slice_get sites b ≡ Some x) × ((j : Joins table instances firsts children values s.port b s.delay) × IsJoinAt x j.number j.place)
