-- The reactors of a file, the names and times of their members, and what they declare, in the order of the text.
use Rattle.std.specs.Prelude.{ℕ, List, ◌++◌, Option, Some, None, map, filter_map, flat_map, option_to_list, option_map, string_bytes, []}
use Rattle.lft_tree.specs.declared.tree.{TimeExpression.TimeExpression, Reference.Reference, Trigger.Trigger, Member.Member, Reactor.Reactor, Item.Item}
use Rattle.lft_resolve.specs.declared.kinds.Role.{Role, TheVariants.{Read, Effect, Source, Destination}}
use Rattle.lft_tree.specs.declared.tree.Trigger.TheVariants as triggers
use Rattle.lft_tree.specs.declared.tree.Member.TheVariants as members
use Rattle.lft_tree.specs.declared.tree.Item.TheVariants as items

-- the reactor that an item is, if it is one
abbrev pub reactor_of : Item → Option Reactor
reactor_of (items.Reactor x) = Some x
reactor_of (items.Preamble x) = None

-- the reactors of a file, in order
abbrev pub reactors_among : List Item → List Reactor
reactors_among = filter_map reactor_of

-- the name of a trigger, if it has one
abbrev pub name_among : Trigger → Option Reference
name_among (triggers.Reference x) = Some x
name_among _ = None

-- the names of a member that have the role, in order
abbrev pub names_of : Role → Member → List Reference
names_of Read (members.Reaction x) = filter_map name_among x.triggers.items ++ x.uses.items
names_of Effect (members.Reaction x) = x.effects.items
names_of Source (members.Connection x) = x.sources.items
names_of Destination (members.Connection x) = x.destinations.items
names_of _ _ = []

-- the names that have the role in the reactor, in order
abbrev pub all_names : Role → Reactor → List Reference
all_names role r = flat_map (names_of role) r.members.items

-- the times of a member, in order
abbrev pub times_of : Member → List TimeExpression
times_of (members.Timer x) = option_to_list x.offset ++ option_to_list x.period
times_of (members.Action x) = option_to_list x.min_delay
times_of (members.Instance x) = map (λ a. a.value) x.given.items
times_of (members.Connection x) = option_to_list x.delay
times_of _ = []

-- the name that the member declares with its token, if it declares one
abbrev pub declared : Member → Option (List ℕ × ℕ)
declared (members.Port x) = Some (string_bytes x.name, x.at)
declared (members.Timer x) = Some (string_bytes x.name, x.at)
declared (members.Action x) = Some (string_bytes x.name, x.at)
declared (members.Instance x) = Some (string_bytes x.name, x.at)
declared _ = None

-- the names that the reactor declares with their tokens, parameters first
abbrev pub declarations : Reactor → List (List ℕ × ℕ)
declarations r = map (λ p. (string_bytes p.name, p.at)) r.parameters.items ++ filter_map declared r.members.items

-- the name of the reactor with its token, if it has one
abbrev pub own_name : Reactor → Option (List ℕ × ℕ)
own_name r = option_map (λ name. (string_bytes name, r.at)) r.name
