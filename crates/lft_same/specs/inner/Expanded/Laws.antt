-- What follows of programs that are written out.
use Rattle.std.specs.Prelude.{◌≡◌, ℕ, Bool, false, List, [], ◌∷◌, Option, Some, None, Contains, flat_map, map, option_map}
use Rattle.lft_ir.specs.Parts.{Parts}
use Rattle.lft_elaborate.specs.{Channels.Channels.below, inner.Channels.{Channels.places, Lowered.AreJoinedPlaces}}
use Rattle.lft_program.specs.Flattening.{Flat, IsFlatOf}
use Rattle.lft_resolve.specs.Instances.{Inside, Thing, stands_for, time_in}
use Rattle.lft_whole.specs.declared.sources.source.SourceFile.{SourceFile}
use Rattle.lft_tree.specs.Tree.{ConnectionTree, FileTree, RefTree, TimeTree}
use Rattle.lft_same.specs.inner.Expanded.Core.{core_links, expanded_tree}
use Rattle.lft_same.specs.Expanded.{Expanded.{Expanded, Link}, Flat.IsFlat, Same.IsSame, Whole.{crossed, expanded_files, pairs}}

-- The flat program of a core tree is that of the tree written out.
abbrev pub CoreLaw : Type 0
CoreLaw = (tree : FileTree) (p : Parts) → Flat tree p → IsFlat (expanded_tree tree) p

-- Of a core tree of which no cause of refusal holds the tree written out has one flat program.
abbrev pub OnlyLaw : Type 0
OnlyLaw = (tree : FileTree) (p q : Parts) → IsFlatOf tree p → IsFlat (expanded_tree tree) q → q ≡ p

-- Where a program that is written out is a whole program, each reaction of which has a trigger, its flat program is that of the whole program.
abbrev pub SameLaw : Type 0
SameLaw = (files : List SourceFile) (expanded : Expanded) (same : IsSame files expanded) → ((path : List ℕ) → same.never path ≡ None) → (p : Parts) → IsFlat expanded p → IsFlat (expanded_files files same.widths) p

-- a source and a destination with this delay
abbrev pub linked : Option ℕ → Thing × Thing → Link
linked delay p = record { from = p.0; to = p.1; delay = delay }

-- each of the names stands for its thing in the instance at the path
abbrev pub StandFor : List ℕ → Inside → (RefTree → Thing) → List RefTree → Type 0
StandFor path x thing refs = (ref : RefTree) → Contains refs ref → stands_for x.reactor path ref ≡ Some (thing ref)

-- Connections that join both sides one by one have the links of the pairs, in order.
abbrev pub JoinedLaw : Type 0
JoinedLaw = (path : List ℕ) (x : Inside) (delay : Option TimeTree) (thing : RefTree → Thing) (left right : List RefTree) (broadcast : Bool) (cs : List ConnectionTree) → AreJoinedPlaces left right broadcast delay cs → StandFor path x thing left → StandFor path x thing right → flat_map (core_links path x) cs ≡ map (linked (option_map (time_in x) delay)) (pairs broadcast (map thing left) (map thing right))

-- So has one that joins both sides whole.
abbrev pub WholeJoinLaw : Type 0
WholeJoinLaw = (path : List ℕ) (x : Inside) (delay : Option TimeTree) (thing : RefTree → Thing) (left right : List RefTree) → StandFor path x thing left → StandFor path x thing right → flat_map (core_links path x) (record { sources = left; destinations = right; delay = delay } ∷ []) ≡ map (linked (option_map (time_in x) delay)) (pairs false (map thing left) (map thing right))

-- The places of a bank's multiport, by number, are all pairs of a member and a channel.
abbrev pub PlacesLaw : Type 0
PlacesLaw = (members channels : ℕ) (interleaved : Bool) → places members channels interleaved ≡ crossed interleaved (below members) (below channels)
