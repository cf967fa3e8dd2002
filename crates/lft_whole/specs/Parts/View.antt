-- What contracts see of the parts of a tree, and of what a function returned.
use Rattle.std.specs.Prelude.{List, map, string_bytes, option_map}
use Rattle.lft_whole.specs.declared.tree.{Name.Name, Reference.Reference, WrittenValue.WrittenValue, Expression.Expression, Count.Count, Term.Term, Width.Width}
use Rattle.lft_whole.specs.declared.tree.{Parameter.Parameter, Port.Port, Timer.Timer, Action.Action, Trigger.Trigger, Effect.Effect, Reaction.Reaction}
use Rattle.lft_whole.specs.declared.tree.{Assignment.Assignment, Instance.Instance, Connection.Connection, Member.Member, Reactor.Reactor}
use Rattle.lft_whole.specs.declared.tree.{ImportedName.ImportedName, Import.Import, File.File}
use Rattle.lft_whole.specs.Parts.Tree.{NameTree, ReferenceTree, ValueTree, NumberValue, WordValue, CodeValue, OtherValue, ExpressionTree, CountTree, NumberCount, WordCount, WidthOf, CodeCount, OpenCount, TermTree, ParameterTree, PortTree, TimerTree, ActionTree, TriggerTree, AtStartup, AtShutdown, AtReset, OnReference, EffectTree, ToMode, ToReference, ReactionTree, AssignmentTree, InstanceTree, ConnectionTree, MemberTree, PortMember, TimerMember, ActionMember, ReactionMember, InstanceMember, ConnectionMember, ForeignMember, ReactorTree, ImportedTree, ImportTree, FileTree}
use Rattle.lft_whole.specs.declared.tree.WrittenValue.TheVariants as values
use Rattle.lft_whole.specs.declared.tree.Count.TheVariants as counts
use Rattle.lft_whole.specs.declared.tree.Trigger.TheVariants as triggers
use Rattle.lft_whole.specs.declared.tree.Effect.TheVariants as effects
use Rattle.lft_whole.specs.declared.tree.Member.TheVariants as members

-- a name as its letters and its place
abbrev pub name_view : Name → NameTree
name_view n = record { text = string_bytes n.text; at = n.at }

-- a reference as its names
abbrev pub reference_view : Reference → ReferenceTree
reference_view r = record { head = name_view r.head; port = option_map name_view r.port; is_interleaved = r.is_interleaved }

-- a value as what the tree keeps of it
abbrev pub value_view : WrittenValue → ValueTree
value_view (values.Number negative count unit) = NumberValue negative count unit
value_view (values.Word word) = WordValue (string_bytes word)
value_view values.Code = CodeValue
value_view values.Other = OtherValue

-- an expression as its value and its place
abbrev pub expression_view : Expression → ExpressionTree
expression_view e = record { value = value_view e.value; at = e.at }

-- a count of a width, as contracts see it
abbrev pub count_view : Count → CountTree
count_view (counts.Number n) = NumberCount n
count_view (counts.Word word) = WordCount (string_bytes word)
count_view (counts.WidthOf r) = WidthOf (reference_view r)
count_view counts.Code = CodeCount
count_view counts.Open = OpenCount

-- a term of a width as its count and its place
abbrev pub term_view : Term → TermTree
term_view t = record { count = count_view t.count; at = t.at }

-- a width as the list of its terms
abbrev pub width_view : Width → List TermTree
width_view w = map term_view w.terms.items

-- a parameter, as contracts see it
abbrev pub parameter_view : Parameter → ParameterTree
parameter_view p = record { name = name_view p.name; is_time = p.is_time; default = option_map expression_view p.default }

-- a port, as contracts see it
abbrev pub port_view : Port → PortTree
port_view p = record { name = name_view p.name; is_input = p.is_input; width = option_map width_view p.width }

-- a timer, as contracts see it
abbrev pub timer_view : Timer → TimerTree
timer_view t = record { name = name_view t.name; offset = option_map expression_view t.offset; period = option_map expression_view t.period }

-- an action, as contracts see it
abbrev pub action_view : Action → ActionTree
action_view a = record { name = name_view a.name; is_physical = a.is_physical; min_delay = option_map expression_view a.min_delay; spacing = option_map expression_view a.spacing }

-- a trigger, as contracts see it
abbrev pub trigger_view : Trigger → TriggerTree
trigger_view triggers.Startup = AtStartup
trigger_view triggers.Shutdown = AtShutdown
trigger_view (triggers.Reset at) = AtReset at
trigger_view (triggers.Reference r) = OnReference (reference_view r)

-- an effect, as contracts see it
abbrev pub effect_view : Effect → EffectTree
effect_view (effects.Mode at) = ToMode at
effect_view (effects.Reference r) = ToReference (reference_view r)

-- a reaction, as contracts see it
abbrev pub reaction_view : Reaction → ReactionTree
reaction_view r = record { triggers = map trigger_view r.triggers.items; uses = map reference_view r.uses.items; effects = map effect_view r.effects.items; at = r.at }

-- a value that an instance gives a parameter, as contracts see it
abbrev pub assignment_view : Assignment → AssignmentTree
assignment_view a = record { name = name_view a.name; value = expression_view a.value }

-- an instance, as contracts see it
abbrev pub instance_view : Instance → InstanceTree
instance_view i = record { name = name_view i.name; width = option_map width_view i.width; reactor = name_view i.reactor; given = map assignment_view i.given.items; is_enclave = i.is_enclave }

-- a connection, as contracts see it
abbrev pub connection_view : Connection → ConnectionTree
connection_view c = record { sources = map reference_view c.sources.items; is_broadcast = c.is_broadcast; is_physical = c.is_physical; destinations = map reference_view c.destinations.items; delay = option_map expression_view c.delay; at = c.at; arrow = c.arrow }

-- a member, as contracts see it
abbrev pub member_view : Member → MemberTree
member_view (members.Port p) = PortMember (port_view p)
member_view (members.Timer t) = TimerMember (timer_view t)
member_view (members.Action a) = ActionMember (action_view a)
member_view (members.Reaction r) = ReactionMember (reaction_view r)
member_view (members.Instance i) = InstanceMember (instance_view i)
member_view (members.Connection c) = ConnectionMember (connection_view c)
member_view (members.Foreign what at) = ForeignMember what at

-- a reactor, as contracts see it
abbrev pub reactor_view : Reactor → ReactorTree
reactor_view r = record { is_main = r.is_main; is_federated = r.is_federated; name = option_map name_view r.name; parameters = map parameter_view r.parameters.items; bases = map name_view r.bases.items; members = map member_view r.members.items; at = r.at }

-- a name that is imported, as contracts see it
abbrev pub imported_view : ImportedName → ImportedTree
imported_view i = record { name = name_view i.name; alias = name_view i.alias }

-- an import, as contracts see it
abbrev pub import_view : Import → ImportTree
import_view i = record { names = map imported_view i.names.items; path = i.path.items; at = i.at }

-- the tree of a file, as contracts see it
abbrev pub file_view : File → FileTree
file_view f = record { target = option_map name_view f.target; timeouts = f.timeouts.items; decentralized = f.decentralized; imports = map import_view f.imports.items; reactors = map reactor_view f.reactors.items }
