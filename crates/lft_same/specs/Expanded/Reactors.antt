-- The reactors of the files of a whole program: what a name means in a file, and what a reactor has with all that it extends.
use Rattle.std.specs.Prelude.{ℕ, zero, suc, ◌&&◌, ◌==◌, Bool, false, not, List, [], ◌∷◌, ◌++◌, Option, None, bytes_eq, filter, filter_map, flat_map, if◌then◌else◌, length, map, option_map, option_to_list, position, slice_get, string_bytes, zip}
use Rattle.std.specs.Option.{option_and_then, option_map_or, option_or}
use Rattle.lft_whole.specs.declared.{sources.source.SourceFile.SourceFile, tree.{Import.Import, Member.Member, Name.Name, Parameter.Parameter, Reactor.Reactor}}

-- a reactor: the number of its file, and its place there
abbrev pub Class : Type 0
Class = ℕ × ℕ

-- the test of two being the same
abbrev pub same_class : Class → Class → Bool
same_class c d = (c.0 == d.0) && (c.1 == d.1)

-- the test of a name being this one
abbrev pub is_named : List ℕ → Name → Bool
is_named q name = bytes_eq q (string_bytes name.text)

-- the test of a reactor having this name
abbrev pub is_reactor_called : List ℕ → Reactor → Bool
is_reactor_called q r = option_map_or (is_named q) r.name false

-- the reactor of this name that stands in a file
abbrev pub own_class : List SourceFile → ℕ → List ℕ → Option Class
own_class files file q = option_and_then (λ f. option_map (λ k. (file, k)) (position (is_reactor_called q) f.tree.reactors.items)) (slice_get files file)

-- the reactors of another file to which an import gives the name
abbrev pub imported_by : List SourceFile → List ℕ → ℕ × Import → List Class
imported_by files q (other, what) = filter_map (λ n. if is_named q n.alias then own_class files other (string_bytes n.name.text) else None) what.names.items

-- the first reactor to which an import of a file gives the name
abbrev pub imported_class : List SourceFile → ℕ → List ℕ → Option Class
imported_class files file q = option_and_then (λ f. slice_get (flat_map (imported_by files q) (zip f.imports.items f.tree.imports.items)) 0) (slice_get files file)

-- the reactor that a name means in a file: one that stands there, or else one that is imported
abbrev pub class_named : List SourceFile → ℕ → List ℕ → Option Class
class_named files file q = option_or (own_class files file q) (imported_class files file q)

-- what a reactor declares
abbrev pub reactor_of : List SourceFile → Class → Option Reactor
reactor_of files c = option_and_then (λ f. slice_get f.tree.reactors.items c.1) (slice_get files c.0)

-- the reactors that one extends
abbrev pub bases_of : List SourceFile → Class → List Class
bases_of files c = flat_map (λ r. filter_map (λ b. class_named files c.0 (string_bytes b.text)) r.bases.items) (option_to_list (reactor_of files c))

-- each one where it stands first
abbrev pub each_once : List Class → List Class
each_once [] = []
each_once (c ∷ cs) = c ∷ filter (λ d. not (same_class c d)) (each_once cs)

-- a reactor behind all that it extends in so many steps: what its first base has, then what is new in the second, and so on
abbrev pub lineage_to : List SourceFile → ℕ → Class → List Class
lineage_to files zero c = []
lineage_to files (suc depth) c = each_once (flat_map (lineage_to files depth) (bases_of files c) ++ c ∷ [])

-- how many reactors the files have
abbrev pub reactor_count : List SourceFile → ℕ
reactor_count files = length (flat_map (λ f. f.tree.reactors.items) files)

-- a reactor behind all that it extends; none extends itself, so as many steps are enough as there are reactors
abbrev pub lineage : List SourceFile → Class → List Class
lineage files c = lineage_to files (reactor_count files) c

-- the members of a reactor, those of its bases first; each with the number of its file, where names of reactors in it are looked up
abbrev pub members_of : List SourceFile → Class → List (ℕ × Member)
members_of files c = flat_map (λ d. flat_map (λ r. map (λ m. (d.0, m)) r.members.items) (option_to_list (reactor_of files d))) (lineage files c)

-- the parameters of a reactor, those of its bases first
abbrev pub parameters_of : List SourceFile → Class → List Parameter
parameters_of files c = flat_map (λ d. flat_map (λ r. r.parameters.items) (option_to_list (reactor_of files d))) (lineage files c)

-- the main reactor of the first file
abbrev pub main_of : List SourceFile → Option Class
main_of files = option_and_then (λ f. option_map (λ k. (0, k)) (position (λ r. r.is_main) f.tree.reactors.items)) (slice_get files 0)
