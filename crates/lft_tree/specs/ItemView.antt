-- What contracts see of the parts of a tree.
use Rattle.std.specs.Prelude.{List, map, string_bytes, option_map, Option}
use Rattle.lft_tree.specs.declared.tree.{TokenRange.TokenRange, TimeExpression.TimeExpression, Reference.Reference, Parameter.Parameter, Port.Port, Timer.Timer}
use Rattle.lft_tree.specs.declared.tree.{Action.Action, Trigger.Trigger, Reaction.Reaction, Assignment.Assignment, Instance.Instance, Connection.Connection}
use Rattle.lft_tree.specs.declared.tree.{Member.Member, Reactor.Reactor, Item.Item}
use Rattle.lft_tree.specs.Tree.{Range, TimeTree, Written, Named, RefTree, ParameterTree, PortTree, TimerTree, ActionTree, TriggerTree, AtStartup, AtShutdown, OnRef, ReactionTree, AssignmentTree, InstanceTree, ConnectionTree, MemberTree, PortMember, TimerMember, ActionMember, StateMember, PreambleMember, ReactionMember, InstanceMember, ConnectionMember, ReactorTree, ItemTree, PreambleItem, ReactorItem, FileTree}
use Rattle.lft_tree.specs.declared.tree.TimeExpression.TheVariants as times
use Rattle.lft_tree.specs.declared.tree.Trigger.TheVariants as triggers
use Rattle.lft_tree.specs.declared.tree.Member.TheVariants as members
use Rattle.lft_tree.specs.declared.tree.Item.TheVariants as items

abbrev pub range_view : TokenRange → Range
range_view r = (r.start, r.end)

abbrev pub time_view : TimeExpression → TimeTree
time_view (times.Written t at) = Written t
time_view (times.Parameter name at) = Named (string_bytes name)

abbrev pub ref_view : Reference → RefTree
ref_view r = record { head = string_bytes r.head; port = option_map string_bytes r.port }

abbrev pub ref_views : List Reference → List RefTree
ref_views = map ref_view

abbrev pub parameter_view : Parameter → ParameterTree
parameter_view p = record { name = string_bytes p.name; default = p.default }

abbrev pub port_view : Port → PortTree
port_view p = record { name = string_bytes p.name; is_input = p.is_input }

abbrev pub timer_view : Timer → TimerTree
timer_view t = record { name = string_bytes t.name; offset = option_map time_view t.offset; period = option_map time_view t.period }

abbrev pub action_view : Action → ActionTree
action_view a = record { name = string_bytes a.name; is_physical = a.is_physical; min_delay = option_map time_view a.min_delay }

abbrev pub trigger_view : Trigger → TriggerTree
trigger_view triggers.Startup = AtStartup
trigger_view triggers.Shutdown = AtShutdown
trigger_view (triggers.Reference r) = OnRef (ref_view r)

abbrev pub reaction_view : Reaction → ReactionTree
reaction_view r = record { triggers = map trigger_view r.triggers.items; uses = ref_views r.uses.items; effects = ref_views r.effects.items }

abbrev pub assignment_view : Assignment → AssignmentTree
assignment_view a = record { name = string_bytes a.name; value = time_view a.value }

abbrev pub instance_view : Instance → InstanceTree
instance_view i = record { name = string_bytes i.name; reactor = string_bytes i.reactor; given = map assignment_view i.given.items }

abbrev pub connection_view : Connection → ConnectionTree
connection_view c = record { sources = ref_views c.sources.items; destinations = ref_views c.destinations.items; delay = option_map time_view c.delay }

abbrev pub member_view : Member → MemberTree
member_view (members.Port p) = PortMember (port_view p)
member_view (members.Timer t) = TimerMember (timer_view t)
member_view (members.Action a) = ActionMember (action_view a)
member_view (members.State r) = StateMember (range_view r)
member_view (members.Preamble r) = PreambleMember (range_view r)
member_view (members.Reaction r) = ReactionMember (reaction_view r)
member_view (members.Instance i) = InstanceMember (instance_view i)
member_view (members.Connection c) = ConnectionMember (connection_view c)

abbrev pub member_views : List Member → List MemberTree
member_views = map member_view

abbrev pub reactor_view : Reactor → ReactorTree
reactor_view r = record { is_main = r.is_main; name = option_map string_bytes r.name; parameters = map parameter_view r.parameters.items; members = member_views r.members.items }

-- the tree of a preamble or a reactor
abbrev pub item_view : Item → ItemTree
item_view (items.Preamble r) = PreambleItem (range_view r)
item_view (items.Reactor r) = ReactorItem (reactor_view r)

abbrev pub item_views : List Item → List ItemTree
item_views = map item_view

-- the tree of a target and items
abbrev pub file_view : Option TokenRange → List Item → FileTree
file_view target items = record { target = option_map range_view target; items = item_views items }
