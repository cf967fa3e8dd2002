-- A core tree written out.
use Rattle.std.specs.Prelude.{ℕ, List, [], ◌∷◌, Option, filter_map, flat_map, map, option_map, option_to_list, zip}
use Rattle.std.specs.Option.{option_and_then}
use Rattle.lft_same.specs.Expanded.Expanded.{Contents, Expanded, Link, Reaction, Trigger, AtStartup, AtShutdown, OnThing}
use Rattle.lft_resolve.specs.{Expansion.Paths.along, Instances.{Inside, Thing, entered, main_instance, main_of, stands_for, time_in}, Sheets.without_timers}
use Rattle.lft_program.specs.Flattening.{time_or_zero}
use Rattle.lft_tree.specs.Tree.{ConnectionTree, FileTree, ReactionTree, ReactorTree, RefTree, TimeTree, TriggerTree, AtStartup as StartupTrigger, AtShutdown as ShutdownTrigger, OnRef, actions_of, connections_of, instances_of, ports_of, reactions_of, timers_of}

-- what names stand for in the instance at a path
abbrev pub things_for : List ℕ → ReactorTree → List RefTree → List Thing
things_for path r refs = filter_map (stands_for r path) refs

-- what a trigger stands for
abbrev pub triggers_for : List ℕ → ReactorTree → TriggerTree → List Trigger
triggers_for path r StartupTrigger = AtStartup ∷ []
triggers_for path r ShutdownTrigger = AtShutdown ∷ []
triggers_for path r (OnRef ref) = map OnThing (option_to_list (stands_for r path ref))

-- a reaction; a timer that it uses is no input
abbrev pub core_reaction : List ℕ → ReactorTree → ReactionTree → Reaction
core_reaction path r x = record { triggers = flat_map (triggers_for path r) x.triggers; uses = things_for path r (without_timers r x.uses); effects = things_for path r x.effects }

-- a source joined to a destination
abbrev pub link_of : List ℕ → Inside → Option TimeTree → RefTree × RefTree → Option Link
link_of path x delay (a, b) = option_and_then (λ s. option_map (λ t. record { from = s; to = t; delay = option_map (time_in x) delay }) (stands_for x.reactor path b)) (stands_for x.reactor path a)

-- the sources of a connection joined to its destinations, in order
abbrev pub core_links : List ℕ → Inside → ConnectionTree → List Link
core_links path x c = filter_map (link_of path x c.delay) (zip c.sources c.destinations)

-- what the instance at a path has
abbrev pub core_contents : List ℕ → Inside → Contents
core_contents path x = record {
  instances = map (λ i. i.name) (instances_of x.reactor);
  ports = map (λ p. record { name = p.name; is_input = p.is_input }) (ports_of x.reactor);
  actions = map (λ a. record { name = a.name; is_physical = a.is_physical; min_delay = time_or_zero x a.min_delay }) (actions_of x.reactor);
  timers = map (λ t. record { name = t.name; offset = time_or_zero x t.offset; period = time_or_zero x t.period }) (timers_of x.reactor);
  reactions = map (core_reaction path x.reactor) (reactions_of x.reactor);
  links = flat_map (core_links path x) (connections_of x.reactor);
}

-- the program of a core tree written out
abbrev pub expanded_tree : FileTree → Expanded
expanded_tree tree path = option_and_then (λ main. option_map (core_contents path) (along (entered tree) (main_instance main) path)) (main_of tree)
