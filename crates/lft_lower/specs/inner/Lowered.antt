-- Inside: what the members of a reactor become in a setting.
use Rattle.std.specs.Prelude.{◌≡◌, ◌≢◌, ◌&&◌, ℕ, zero, Bool, true, false, not, is_some, List, ◌∷◌, ◌++◌, Option, Some, None, filter_map, flat_map, if◌then◌else◌, length, map, option_map, slice_get, slice_index_or, string_bytes, unwrap_or, []}
use Rattle.std.specs.{List.All, Option.option_and_then}
use Rattle.lft_tree.specs.Identifiers.{IsName}
use Rattle.lft_tree.specs.Tree.{TimeTree, RefTree, TimerTree, ActionTree, TriggerTree, AtStartup, AtShutdown, OnRef, ReactionTree, AssignmentTree, ConnectionTree, MemberTree, PortMember, TimerMember, ActionMember, ReactionMember, InstanceMember, ConnectionMember}
use Rattle.lft_tree.specs.{View.member_views, declared.tree.Member.Member as Core}
use Rattle.lft_whole.specs.declared.tree.{Action.Action, Connection.Connection, Effect.Effect, Expression.Expression, Member.Member, Reaction.Reaction}
use Rattle.lft_whole.specs.declared.tree.{Timer.Timer, Trigger.Trigger, WrittenValue.WrittenValue}
use Rattle.lft_classes.specs.{declared.shapes.{Child.Child, GivenValue.GivenValue, Inherited.Inherited, Shape.Shape}, inner.Shapes.{child_at, thing_named}}
use Rattle.lft_classes.specs.Shapes.{width_of}
use Rattle.lft_elaborate.specs.inner.{Channels.Lowered.{AreJoinedPlaces, own}, Meanings.shape_inside, Noted.found_inside, Widths.found_width}
use Rattle.lft_elaborate.specs.Values.{is_forever}
use Rattle.lft_lower.specs.inner.Meanings.{Meanings.{Here, Means, all_places, named_in, places_in}, Places.{Several, count_of, names_of}}
use Rattle.lft_lower.specs.inner.{Needed.{GivesNeeded, is_timed}, Times.{IsTime, time_for}}
use Rattle.lft_lower.specs.declared.connections.Sides.{Sides}
use Rattle.lft_whole.specs.declared.tree.Effect.TheVariants as effects
use Rattle.lft_whole.specs.declared.tree.Member.TheVariants as member
use Rattle.lft_whole.specs.declared.tree.Trigger.TheVariants as triggers
use Rattle.lft_whole.specs.declared.tree.WrittenValue.TheVariants as value

-- ---- times, timers and actions
-- what becomes of a time, where one is written
abbrev pub time_at : Option Expression → Option TimeTree
time_at None = None
time_at (Some e) = time_for e.value

-- the time can be read, where one is written
abbrev pub IsRead : Shape → Option Expression → Type 0
IsRead shape None = Unit {0}
IsRead shape (Some e) = IsTime shape e.value

-- a period that is `forever` is none
abbrev pub period_at : Option Expression → Option TimeTree
period_at None = None
period_at (Some e) = if is_forever e.value then None else time_for e.value

-- a period that isn't `forever` can be read, where one is written
abbrev pub IsPeriod : Shape → Option Expression → Type 0
IsPeriod shape None = Unit {0}
IsPeriod shape (Some e) = is_forever e.value ≡ false → IsTime shape e.value

-- a timer has its name, its offset and its period
abbrev pub timer_tree : Timer → TimerTree
timer_tree t = record { name = string_bytes t.name.text; offset = time_at t.offset; period = period_at t.period }

-- an action has its name, its origin and its delay
abbrev pub action_tree : Action → ActionTree
action_tree a = record { name = string_bytes a.name.text; is_physical = a.is_physical; min_delay = time_at a.min_delay }

-- a number that isn't 0, or what is no number
abbrev pub is_some_time : WrittenValue → Bool
is_some_time (value.Number negative zero unit) = false
is_some_time v = true

-- a logical action with a least spacing that isn't 0
abbrev pub is_spaced : Action → Bool
is_spaced a = not a.is_physical && unwrap_or (option_map (λ spacing. is_some_time spacing.value) a.spacing) false

-- ---- ports and instances
-- a port for each name
abbrev pub ports : Several → Bool → List MemberTree
ports thing input = map (λ name. PortMember (record { name = name; is_input = input })) (names_of thing)

-- an instance for each name
abbrev pub instances : Several → List ℕ → List AssignmentTree → List MemberTree
instances thing reactor given = map (λ name. InstanceMember (record { name = name; reactor = reactor; given = given })) (names_of thing)

-- the time that is given to a parameter
abbrev pub assigned : Shape → GivenValue → Option AssignmentTree
assigned shape g = option_and_then (λ p. option_map (λ time. record { name = string_bytes p.parameter.now.name.text; value = time }) (time_for g.value.now.value)) (slice_get shape.parameters.items g.parameter)

-- the same where a time is read from the parameter
abbrev pub time_given : Shape → GivenValue → Option AssignmentTree
time_given shape g = if is_timed shape g.parameter then assigned shape g else None

-- what is given to a parameter from which a time is read can be read as one in the reactor around
abbrev pub IsGiven : Shape → Shape → GivenValue → Type 0
IsGiven outer inner g = is_timed inner g.parameter ≡ true → (is_some (assigned inner g) ≡ true) × IsTime outer g.value.now.value

-- the times that an instance gives to the parameters from which times are read
abbrev pub given_times : Shape → Child → List AssignmentTree
given_times shape child = filter_map (time_given shape) child.given.items

-- the times that the instance of this number gives, which can all be read; none is lacking
abbrev pub AreTimesGiven : Here → ℕ → List AssignmentTree → Type 0
AreTimesGiven h n given = (child : Child) × (shape : Shape) × (child_at h.shape.children.items n ≡ Some child) × (shape_inside h.settings.shapes.items h.shape n ≡ Some shape) × GivesNeeded shape child × All (IsGiven h.shape shape) child.given.items × (given ≡ given_times shape child)

-- the name of the core reactor of the setting that is in the instance of this number
abbrev pub reactor_at : List (Option (List ℕ)) → Here → ℕ → Option (List ℕ)
reactor_at names h n = option_and_then (λ inner. slice_index_or names inner None) (found_inside h.settings h.setting n)

-- an instance of this name becomes one for each of its names, of the reactor of its setting, with the times that it gives
pub data AreInstances (names : List (Option (List ℕ))) (h : Here) (n : ℕ) (name : List ℕ) : List MemberTree → Type 0 where
  no_instances : count_of (named_in h name n) ≡ 0 → AreInstances names h n name []
  some_instances : (reactor : List ℕ) (given : List AssignmentTree) → reactor_at names h n ≡ Some reactor → AreTimesGiven h n given → AreInstances names h n name (instances (named_in h name n) reactor given)

-- ---- connections
-- each pair is a connection of its own
abbrev pub AreEach : List RefTree → List RefTree → Bool → Option TimeTree → List MemberTree → Type 0
AreEach left right broadcast delay ms = (cs : List ConnectionTree) × AreJoinedPlaces left right broadcast delay cs × (ms ≡ map ConnectionMember cs)

-- each pair is a connection of its own; or one joins them all, where there are as many places on each side
pub data AreConnected (left right : List RefTree) (broadcast : Bool) (delay : Option TimeTree) : List MemberTree → Type 0 where
  each_pair : (ms : List MemberTree) → AreEach left right broadcast delay ms → AreConnected left right broadcast delay ms
  whole : broadcast ≡ false → length left ≡ length right → AreConnected left right broadcast delay (ConnectionMember (record { sources = left; destinations = right; delay = delay }) ∷ [])

-- each reference of a connection means something
abbrev pub MeanSides : Here → Connection → Type 0
MeanSides h c = All (Means h) c.sources.items × All (Means h) c.destinations.items

-- ---- reactions
-- the places of a trigger
abbrev pub trigger_places : Here → Trigger → List TriggerTree
trigger_places h triggers.Startup = AtStartup ∷ []
trigger_places h triggers.Shutdown = AtShutdown ∷ []
trigger_places h (triggers.Reset at) = []
trigger_places h (triggers.Reference r) = map OnRef (places_in h r)

-- a trigger means something, and isn't of a mode
abbrev pub MeansTrigger : Here → Trigger → Type 0
MeansTrigger h (triggers.Reset at) = ⊥
MeansTrigger h (triggers.Reference r) = Means h r
MeansTrigger h t = Unit {0}

-- the places of an effect
abbrev pub effect_places : Here → Effect → List RefTree
effect_places h (effects.Mode at) = []
effect_places h (effects.Reference r) = places_in h r

-- an effect means something, and isn't of a mode
abbrev pub MeansEffect : Here → Effect → Type 0
MeansEffect h (effects.Mode at) = ⊥
MeansEffect h (effects.Reference r) = Means h r

-- all that a reaction names means something
pub record MeansAll (h : Here) (r : Reaction) : Type 0 where
  pub triggers : All (MeansTrigger h) r.triggers.items
  pub uses : All (Means h) r.uses.items
  pub effects : All (MeansEffect h) r.effects.items

-- a reaction with its triggers has the places of its uses and of its effects
abbrev pub reaction_tree : Here → Reaction → List TriggerTree → ReactionTree
reaction_tree h r triggers = record { triggers = triggers; uses = all_places h r.uses.items; effects = flat_map (effect_places h) r.effects.items }

-- the places of all triggers of a reaction
abbrev pub all_triggers : Here → Reaction → List TriggerTree
all_triggers h r = flat_map (trigger_places h) r.triggers.items

-- a logical action that nothing schedules
abbrev pub asleep : List ℕ → MemberTree
asleep name = ActionMember (record { name = name; is_physical = false; min_delay = None })

-- the action without events stands already; or it is added, with a name that nothing else has
pub data IsAsleep (h : Here) (name : List ℕ) : Option (List ℕ) → List MemberTree → Type 0 where
  known : IsAsleep h name (Some name) []
  added : thing_named h.shape name ≡ None → IsName name → IsAsleep h name None (asleep name ∷ [])

-- a reaction is triggered by the places of its triggers; where there are some and these have none, by the action without events
pub data AreTriggers (h : Here) (r : Reaction) : Option (List ℕ) → List MemberTree → Option (List ℕ) → List TriggerTree → Type 0 where
  runs : (known : Option (List ℕ)) → all_triggers h r ≢ [] → AreTriggers h r known [] known (all_triggers h r)
  sleeps : (name : List ℕ) (before : Option (List ℕ)) (more : List MemberTree) → r.triggers.items ≢ [] → all_triggers h r ≡ [] → IsAsleep h name before more → AreTriggers h r before more (Some name) (OnRef (own name) ∷ [])

-- a reaction stands behind what its triggers add
abbrev pub IsLoweredReaction : Here → Reaction → Option (List ℕ) → List MemberTree → Option (List ℕ) → Type 0
IsLoweredReaction h r before new after = (triggers : List TriggerTree) × (more : List MemberTree) × AreTriggers h r before more after triggers × (new ≡ more ++ ReactionMember (reaction_tree h r triggers) ∷ [])

-- ---- members
-- what the member of this number becomes; the name of the action without events, if there is one, before and after; a mode, a mutation or a watchdog becomes nothing at all
abbrev pub IsLowered : List (Option (List ℕ)) → Here → ℕ → Option (List ℕ) → List MemberTree → Option (List ℕ) → Member → Type 0
IsLowered names h n before new after (member.Port port) = (after ≡ before) × (new ≡ ports (named_in h (string_bytes port.name.text) n) port.is_input)
IsLowered names h n before new after (member.Timer timer) = (after ≡ before) × IsRead h.shape timer.offset × IsPeriod h.shape timer.period × (new ≡ TimerMember (timer_tree timer) ∷ [])
IsLowered names h n before new after (member.Action action) = (after ≡ before) × IsRead h.shape action.min_delay × (is_spaced action ≡ false) × (new ≡ ActionMember (action_tree action) ∷ [])
IsLowered names h n before new after (member.Reaction reaction) = MeansAll h reaction × IsLoweredReaction h reaction before new after
IsLowered names h n before new after (member.Instance instance) = (after ≡ before) × AreInstances names h n (string_bytes instance.name.text) new
IsLowered names h n before new after (member.Connection c) = (after ≡ before) × (c.is_physical ≡ false) × MeanSides h c × IsRead h.shape c.delay × AreConnected (all_places h c.sources.items) (all_places h c.destinations.items) c.is_broadcast (time_at c.delay) new
IsLowered names h n before new after (member.Foreign what at) = ⊥

-- the width of the member of this number is known where one is written
abbrev pub IsMeasured : Here → ℕ → Member → Type 0
IsMeasured h n m = is_some (width_of m) ≡ true → is_some (found_width h.settings h.setting n) ≡ true

-- what members become, one after another, whose widths are known
pub data AreLowered (names : List (Option (List ℕ))) (h : Here) : List Inherited → List MemberTree → Option (List ℕ) → Type 0 where
  no_members : AreLowered names h [] [] None
  more_members : (front : List Inherited) (m : Inherited) (done new : List MemberTree) (before after : Option (List ℕ)) → AreLowered names h front done before → IsMeasured h (length front) m.member.now → IsLowered names h (length front) before new after m.member.now → AreLowered names h (front ++ m ∷ []) (done ++ new) after

-- so many places the two sides of a connection have
abbrev pub AreSides : Here → Connection → Sides → Type 0
AreSides h c sides = (sides.left ≡ length (all_places h c.sources.items)) × (sides.right ≡ length (all_places h c.destinations.items))

-- such members stand behind those that there were
abbrev pub Adds : List Core → List Core → (List MemberTree → Type 0) → Type 0
Adds old new Are = (more : List MemberTree) × Are more × (member_views new ≡ member_views old ++ more)
