-- A whole program written out, in the words of the language. What has no meaning here is refused: it has no place, is no number, and so on.
use Rattle.std.specs.Prelude.{◌≡◌, ℕ, Bool, true, false, List, [], ◌∷◌, ◌++◌, Option, Some, None, bytes_eq, filter_map, flat_map, if◌then◌else◌, length, map, option_map, option_to_list, position, slice_get, string_bytes, zip, ◌+◌}
use Rattle.std.specs.{List.enumerate_from, Option.{option_and_then, option_map_or}}
use Rattle.lft_resolve.specs.{Expansion.Paths.along, Instances.{Thing, thing_at}}
use Rattle.lft_elaborate.specs.Places.{natural}
use Rattle.lft_classes.specs.Shapes.{width_of}
use Rattle.lft_whole.specs.declared.sources.source.SourceFile.{SourceFile}
use Rattle.lft_whole.specs.declared.tree.{Connection.Connection, Count.Count, Effect.Effect, Instance.Instance, Member.Member, Name.Name, Reference.Reference}
use Rattle.lft_whole.specs.declared.tree.{Trigger.Trigger as WrittenTrigger, Width.Width}
use Rattle.lft_same.specs.Expanded.Expanded.{Action, Contents, Expanded, Link, Port, Reaction, Timer, Trigger, AtStartup, AtShutdown, OnThing}
use Rattle.lft_same.specs.Expanded.Instances.{Inside, Widths, entered_instance, inners, inside_of, main_class_instance, number_of, numbers, numbers_named, period_in, place_named, time_written_in, value_named, name_with_number}
use Rattle.lft_same.specs.Expanded.Reactors.{Class, main_of, members_of}
use Rattle.lft_whole.specs.declared.tree.Count.TheVariants as count
use Rattle.lft_whole.specs.declared.tree.Effect.TheVariants as effect
use Rattle.lft_whole.specs.declared.tree.Member.TheVariants as member
use Rattle.lft_whole.specs.declared.tree.Trigger.TheVariants as trigger

-- ---- references

-- the `new` of a member that is an instance or a bank
abbrev pub new_in : ℕ × Member → Option (ℕ × Instance)
new_in (file, member.Instance i) = Some (file, i)
new_in m = None

-- what an instance of this name has inside, whatever its number
abbrev pub inside_named : List SourceFile → Inside → List ℕ → Option Inside
inside_named files x b = option_and_then (λ k. option_and_then (λ m. option_and_then (inside_of files x) (new_in m)) (slice_get (members_of files x.class) k)) (place_named files x b)

-- all pairs of two lists: the first list outermost, or in `interleaved` the second
abbrev pub crossed : {X Y : Type 0} → Bool → List X → List Y → List (X × Y)
crossed false xs ys = flat_map (λ x. map (λ y. (x, y)) ys) xs
crossed true xs ys = flat_map (λ y. map (λ x. (x, y)) xs) ys

-- a port of an instance in an instance, both by name and number
abbrev pub inner_thing : List SourceFile → Widths → List ℕ → Inside → List ℕ → List ℕ → Option ℕ × Option ℕ → Option Thing
inner_thing files w path x b p n = option_map (λ k. thing_at (path ++ k ∷ []) (name_with_number p n.1)) (position (λ i. bytes_eq (name_with_number b n.0) i.name) (inners files w x))

-- all that a name stands for, or the name of a port behind that of an instance
abbrev pub things_named : List SourceFile → Widths → List ℕ → Inside → Bool → List ℕ → Option (List ℕ) → List Thing
things_named files w path x interleaved q None = map (λ n. thing_at path (name_with_number q n)) (numbers_named files w x q)
things_named files w path x interleaved b (Some p) = filter_map (inner_thing files w path x b p) (crossed interleaved (numbers_named files w x b) (flat_map (λ y. numbers_named files w y p) (option_to_list (inside_named files x b))))

-- the channels that a reference stands for, in order: all of all members of a bank
abbrev pub channels : List SourceFile → Widths → List ℕ → Inside → Reference → List Thing
channels files w path x r = things_named files w path x r.is_interleaved (string_bytes r.head.text) (option_map (λ p. string_bytes p.text) r.port)

-- ---- widths

-- what a term of a width is: a number, that of a parameter, or how many channels a reference has
abbrev pub term_of_width : List SourceFile → Widths → Inside → Count → Option ℕ
term_of_width files w x (count.Number n) = Some n
term_of_width files w x (count.Word q) = option_and_then natural (option_and_then number_of (value_named files x (string_bytes q)))
term_of_width files w x (count.WidthOf r) = Some (length (channels files w [] x r))
term_of_width files w x c = None

-- the sum, if each is a number
abbrev pub total_width : List (Option ℕ) → Option ℕ
total_width [] = Some 0
total_width (n ∷ ns) = option_and_then (λ a. option_map (λ b. a + b) (total_width ns)) n

-- the path leads to the instance
abbrev pub LeadsToInstance : List SourceFile → Widths → List ℕ → Inside → Type 0
LeadsToInstance files w path x = (main : Class) × (main_of files ≡ Some main) × (along (entered_instance files w) (main_class_instance files main) path ≡ Some x)

-- each width of each instance is the sum of its terms
abbrev pub AreWidths : List SourceFile → Widths → Type 0
AreWidths files w = (path : List ℕ) (x : Inside) (k : ℕ) (m : ℕ × Member) (width : Width) → LeadsToInstance files w path x → slice_get (members_of files x.class) k ≡ Some m → width_of m.1 ≡ Some width → total_width (map (λ t. term_of_width files w x t.count) width.terms.items) ≡ Some (w x k)

-- ---- what an instance has

-- what a trigger stands for
abbrev pub triggers_in : List SourceFile → Widths → List ℕ → Inside → WrittenTrigger → List Trigger
triggers_in files w path x trigger.Startup = AtStartup ∷ []
triggers_in files w path x trigger.Shutdown = AtShutdown ∷ []
triggers_in files w path x (trigger.Reset at) = []
triggers_in files w path x (trigger.Reference r) = map OnThing (channels files w path x r)

-- what an effect stands for
abbrev pub channels_of_effect : List SourceFile → Widths → List ℕ → Inside → Effect → List Thing
channels_of_effect files w path x (effect.Mode at) = []
channels_of_effect files w path x (effect.Reference r) = channels files w path x r

-- the test of a member being a timer
abbrev pub is_timer_member : Member → Bool
is_timer_member (member.Timer t) = true
is_timer_member m = false

-- the test of a reference being to a timer, which is no input
abbrev pub names_timer : List SourceFile → Inside → List ℕ → Option Name → Bool
names_timer files x q None = option_map_or (λ m. is_timer_member m.1) (option_and_then (slice_get (members_of files x.class)) (place_named files x q)) false
names_timer files x q (Some p) = false

-- what a use stands for
abbrev pub uses_in : List SourceFile → Widths → List ℕ → Inside → Reference → List Thing
uses_in files w path x r = if names_timer files x (string_bytes r.head.text) r.port then [] else channels files w path x r

-- the channels of both sides in order, as many as the shorter side has; for `(..)+` the left side over and over
abbrev pub pairs : {X : Type 0} → Bool → List X → List X → List (X × X)
pairs false left right = zip left right
pairs true left right = zip (flat_map (λ r. left) right) right

-- a channel joined to a channel, with the delay of a connection
abbrev pub channel_link : List SourceFile → Inside → Connection → Thing × Thing → Link
channel_link files x c (from, to) = record { from = from; to = to; delay = option_map (λ e. time_written_in files x (Some e)) c.delay }

-- the links of a connection
abbrev pub links_of : List SourceFile → Widths → List ℕ → Inside → Connection → List Link
links_of files w path x c = map (channel_link files x c) (pairs c.is_broadcast (flat_map (channels files w path x) c.sources.items) (flat_map (channels files w path x) c.destinations.items))

-- the ports that the member at a place is
abbrev pub ports_at : Widths → Inside → ℕ × (ℕ × Member) → List Port
ports_at w x (k, (file, member.Port p)) = map (λ n. record { name = name_with_number (string_bytes p.name.text) n; is_input = p.is_input }) (numbers p.width (w x k))
ports_at w x m = []

-- the action that a member is
abbrev pub actions_at : List SourceFile → Inside → ℕ × Member → List Action
actions_at files x (file, member.Action a) = (record { name = string_bytes a.name.text; is_physical = a.is_physical; min_delay = time_written_in files x a.min_delay }) ∷ []
actions_at files x m = []

-- the timer that a member is
abbrev pub timers_at : List SourceFile → Inside → ℕ × Member → List Timer
timers_at files x (file, member.Timer t) = (record { name = string_bytes t.name.text; offset = time_written_in files x t.offset; period = period_in files x t.period }) ∷ []
timers_at files x m = []

-- the reaction that a member is
abbrev pub reactions_at : List SourceFile → Widths → List ℕ → Inside → ℕ × Member → List Reaction
reactions_at files w path x (file, member.Reaction r) = (record { triggers = flat_map (triggers_in files w path x) r.triggers.items; uses = flat_map (uses_in files w path x) r.uses.items; effects = flat_map (channels_of_effect files w path x) r.effects.items }) ∷ []
reactions_at files w path x m = []

-- the links of a member that is a connection
abbrev pub links_at : List SourceFile → Widths → List ℕ → Inside → ℕ × Member → List Link
links_at files w path x (file, member.Connection c) = links_of files w path x c
links_at files w path x m = []

-- what the instance at a path has
abbrev pub whole_contents : List SourceFile → Widths → List ℕ → Inside → Contents
whole_contents files w path x = record {
  instances = map (λ i. i.name) (inners files w x);
  ports = flat_map (ports_at w x) (enumerate_from 0 (members_of files x.class));
  actions = flat_map (actions_at files x) (members_of files x.class);
  timers = flat_map (timers_at files x) (members_of files x.class);
  reactions = flat_map (reactions_at files w path x) (members_of files x.class);
  links = flat_map (links_at files w path x) (members_of files x.class);
}

-- the whole program of files written out, with these widths
abbrev pub expanded_files : List SourceFile → Widths → Expanded
expanded_files files w path = option_and_then (λ main. option_map (whole_contents files w path) (along (entered_instance files w) (main_class_instance files main) path)) (main_of files)
