-- A program as it is shown: ports and precedence, or all of it, one thing a line.
use Rattle.std.specs.Prelude.{ℕ, Bool, true, false, List, [], ◌∷◌, ◌++◌, Option, get_or, codes, flat_map, if◌then◌else◌}
use Rattle.std.specs.{List.enumerate_from, Io.KnownBytes.Appends}
use Rattle.lft_ir.specs.Parts.{Parts}
use Rattle.lft_ir.specs.declared.parts.{Port.Port as PortOf, Action.Action as ActionOf, Timer.Timer as TimerOf, Reaction.Reaction}
use Rattle.lft_ir.specs.declared.parts.{Name.{Name, TheVariants.{Port, Action}}, Trigger.{Trigger, TheVariants.{Startup, Shutdown, Timer, On}}}
use Rattle.lft_ir.specs.Words.Words.{action_words, name_words, timer_words, reaction_words, port_words}
use Rattle.lft_graph.specs.Graph.{GraphParts, IsGraphOf}
use Rattle.lft_load.specs.{Words.{field, names_words}, Meaning.{IsProgramOf, OfOnly}}

-- a port of this number: its name, where its chain of connections begins, and the folded delays of that chain
abbrev pub shown_port_words : Parts → ℕ × PortOf → List ℕ
shown_port_words program d =
    codes "port " ++ port_words program d.0 ++ codes " origin=" ++ port_words program d.1.origin
    ++ field (codes " after=") d.1.shift.time ++ field (codes "+") d.1.shift.steps ++ codes "\n"

-- the names of the reactions just before one; a dash where there are none
abbrev pub before_words : Parts → List ℕ → List ℕ
before_words program [] = codes "-"
before_words program (r ∷ rs) = names_words program (r ∷ rs)

-- a reaction: its name, its level, and the reactions just before it
abbrev pub shown_reaction_words : Parts → ℕ → ℕ → List ℕ → List ℕ
shown_reaction_words program r level before =
    codes "reaction " ++ reaction_words program r ++ field (codes " level=") level
    ++ codes " before=" ++ before_words program before ++ codes "\n"

-- a reaction of this number, by the graph
abbrev pub reaction_line : Parts → GraphParts → ℕ × Reaction → List ℕ
reaction_line program graph d = shown_reaction_words program d.0 (get_or graph.levels d.0 0) (get_or graph.before d.0 [])

-- a line for each port, in the order of their numbers
abbrev pub port_lines : Parts → List ℕ
port_lines program = flat_map (shown_port_words program) (enumerate_from 0 program.ports)

-- a line for each port, then a line for each reaction, in the order of their numbers
abbrev pub show_words : Parts → GraphParts → List ℕ
show_words program graph = port_lines program ++ flat_map (reaction_line program graph) (enumerate_from 0 program.reactions)

-- an instance: its name
abbrev pub instance_line : List ℕ → List ℕ
instance_line name = codes "instance " ++ name ++ codes "\n"

-- the kind of an action
abbrev pub action_kind_words : Bool → List ℕ
action_kind_words physical = if physical then codes "physical" else codes "logical"

-- an action of this number: its name, its kind and its least delay
abbrev pub action_line : Parts → ℕ × ActionOf → List ℕ
action_line program d =
    codes "action " ++ action_words program d.0 ++ codes " kind=" ++ action_kind_words d.1.physical
    ++ field (codes " least=") d.1.min_delay ++ codes "\n"

-- a timer of this number: its name, its offset and its period
abbrev pub timer_line : Parts → ℕ × TimerOf → List ℕ
timer_line program d =
    codes "timer " ++ timer_words program d.0 ++ field (codes " offset=") d.1.offset
    ++ field (codes " period=") d.1.period ++ codes "\n"

-- the name of a trigger
abbrev pub trigger_name : Parts → Trigger → List ℕ
trigger_name program Startup = codes "startup"
trigger_name program Shutdown = codes "shutdown"
trigger_name program (Timer n) = timer_words program n
trigger_name program (On n) = name_words program n

-- what a reaction has to do with the thing whose name follows: a word, and the reaction
abbrev pub link_words : Parts → List ℕ → ℕ → List ℕ
link_words program word r = word ++ codes " " ++ reaction_words program r ++ codes " "

-- a reaction is triggered by this
abbrev pub trigger_line : Parts → ℕ → Trigger → List ℕ
trigger_line program r t = link_words program (codes "trigger") r ++ trigger_name program t ++ codes "\n"

-- a reaction may read this besides
abbrev pub use_line : Parts → ℕ → Name → List ℕ
use_line program r n = link_words program (codes "use") r ++ name_words program n ++ codes "\n"

-- the word of the card that answers an effect
abbrev pub effect_word : Name → List ℕ
effect_word (Port p) = codes "write"
effect_word (Action a) = codes "schedule"

-- a reaction may write or schedule this
abbrev pub effect_line : Parts → ℕ → Name → List ℕ
effect_line program r n = link_words program (effect_word n) r ++ name_words program n ++ codes "\n"

-- a reaction of this number, and below it its triggers, uses and effects, each in order of declaration
abbrev pub reaction_lines : Parts → GraphParts → ℕ × Reaction → List ℕ
reaction_lines program graph d =
    reaction_line program graph d ++ flat_map (trigger_line program d.0) d.1.triggers
    ++ flat_map (use_line program d.0) d.1.uses ++ flat_map (effect_line program d.0) d.1.effects

-- all instances, ports, actions, timers and reactions, in the order of their numbers
abbrev pub all_words : Parts → GraphParts → List ℕ
all_words program graph =
    flat_map instance_line program.names.instances ++ port_lines program
    ++ flat_map (action_line program) (enumerate_from 0 program.actions)
    ++ flat_map (timer_line program) (enumerate_from 0 program.timers)
    ++ flat_map (reaction_lines program graph) (enumerate_from 0 program.reactions)

-- the lines of a program: all of them, or those of ports and reactions
abbrev pub lines_of : Bool → Parts → GraphParts → List ℕ
lines_of true program graph = all_words program graph
lines_of false program graph = show_words program graph

-- the lines of the program were written
pub record IsShownProgram (all : Bool) (program : Parts) (old new : Option (List ℕ)) : Type 0 where
  pub graph : GraphParts
  pub is_graph : IsGraphOf program graph
  pub written : Appends old new (lines_of all program graph)

-- the one program of the text was shown, its ports and its reactions
abbrev pub IsTextShown : List ℕ → Option (List ℕ) → Option (List ℕ) → Type 0
IsTextShown text old new = OfOnly (IsProgramOf text) (λ program. IsShownProgram false program old new)
