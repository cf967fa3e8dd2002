-- That a program which is written out is the whole program of files.
use Rattle.std.specs.Prelude.{◌≡◌, ℕ, ◌&&◌, Bool, true, false, not, List, Option, Some, None, Contains, bytes_eq, filter, map, option_map}
use Rattle.lft_same.specs.Expanded.{Expanded.{Contents, Expanded, Reaction, Trigger, OnThing}, Instances.Widths, Whole.{AreWidths, expanded_files}}
use Rattle.lft_resolve.specs.Instances.{Thing, thing_at}
use Rattle.lft_whole.specs.declared.sources.source.SourceFile.{SourceFile}

-- the test of two things being the same
abbrev pub same_thing : Thing → Thing → Bool
same_thing t u = bytes_eq t.path u.path && bytes_eq t.name u.name

-- the test of a trigger being anything but this thing
abbrev pub is_other : Thing → Trigger → Bool
is_other t (OnThing u) = not (same_thing t u)
is_other t c = true

-- a reaction that the thing doesn't trigger
abbrev pub awake_reaction : Thing → Reaction → Reaction
awake_reaction t r = record r { triggers = filter (is_other t) r.triggers }

-- the instance at a path without the action of this name, if there is one, and without what that triggers
abbrev pub awake : List ℕ → Option (List ℕ) → Contents → Contents
awake path None c = c
awake path (Some q) c = record c { actions = filter (λ a. not (bytes_eq q a.name)) c.actions; reactions = map (awake_reaction (thing_at path q)) c.reactions }

-- no reaction has the thing as an effect
abbrev pub IsUnscheduled : Thing → List Reaction → Type 0
IsUnscheduled t rs = (r : Reaction) → Contains rs r → Contains r.effects t → ⊥

-- the action of this name, if there is one, is logical, and nothing schedules it
abbrev pub IsNever : List ℕ → Option (List ℕ) → Contents → Type 0
IsNever path None c = Unit {0}
IsNever path (Some q) c = Contains c.actions (record { name = q; is_physical = false; min_delay = 0 }) × IsUnscheduled (thing_at path q) c.reactions

-- The instances are at the paths at which those of the whole program are, and each has the same. But where a reaction of the whole program has no trigger, as all its channels are none, a logical action triggers it that nothing schedules.
pub record IsSame (files : List SourceFile) (expanded : Expanded) : Type 0 where
  pub widths : Widths
  pub are_widths : AreWidths files widths
  pub never : List ℕ → Option (List ℕ)
  pub is_never : (path : List ℕ) (c : Contents) → expanded path ≡ Some c → IsNever path (never path) c
  pub same : (path : List ℕ) → option_map (awake path (never path)) (expanded path) ≡ expanded_files files widths path
