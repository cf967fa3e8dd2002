-- How core instances stand to instances, and a core tree to the whole program.
use Rattle.std.specs.Prelude.{◌≡◌, ℕ, List, Some, Contains, map, slice_get}
use Rattle.lft_tree.specs.{Tree.{AssignmentTree, FileTree, ReactorTree, TimeTree, reactors_of}, View.tree_view, declared.ast.Ast.Ast}
use Rattle.lft_resolve.specs.{Causes.{NoneHolds, causes}, Instances.{Inside as CoreInside, given_in, main_instance as core_main}, Kinds.times_in}
use Rattle.lft_program.specs.Flattening.{time_or_zero}
use Rattle.lft_whole.specs.declared.{sources.source.SourceFile.SourceFile, tree.Instance.Instance}
use Rattle.lft_classes.specs.declared.shapes.Shape.{Shape}
use Rattle.lft_elaborate.specs.inner.{Meanings.shape_inside, Values.{Valued, inside}}
use Rattle.lft_lower.specs.inner.{Meanings.Meanings.Here, Lowered.{AreTimesGiven, IsPeriod, IsRead, period_at, time_at}}
use Rattle.lft_lower.specs.inner.Reactors.{AreShapesOfFiles, IsLowering, timed_parameters}
use Rattle.lft_same.specs.Expanded.{Instances.{Inside, inside_of, main_class_instance, period_in, time_written_in}, Reactors.{Class, main_of, members_of}}
use Rattle.lft_same.specs.Expanded.{Same.IsSame, Taken.IsTaken}
use Rattle.lft_same.specs.inner.{Expanded.Core.expanded_tree, Fits.Fits.Fits, Times.{HasParameterTimes, IsKnown}}
use Rattle.lft_whole.specs.declared.tree.Member.TheVariants as member

-- The core instance of the main reactor has the times of the main instance.
abbrev pub MainTimesLaw : List SourceFile → Type 0
MainTimesLaw files = (shapes : List Shape) (shape : Shape) (c : Class) (r : ReactorTree) → AreShapesOfFiles files shapes → slice_get shapes 0 ≡ Some shape → main_of files ≡ Some c → r.parameters ≡ timed_parameters shape → HasParameterTimes files (main_class_instance files c) (core_main r)

-- Where a core instance has the times of an instance, the one inside, with what lowering gives it, has those of the one that `new` makes. What is given has to name parameters of the reactor around.
abbrev pub InsideTimesLaw : List SourceFile → Type 0
InsideTimesLaw files = (h : Here) (t u : Valued) (x y : Inside) (core : CoreInside) (m file : ℕ) (i : Instance) (inner : Shape) (r : ReactorTree) (given : List AssignmentTree) → AreShapesOfFiles files h.settings.shapes.items → slice_get h.settings.shapes.items t.shape ≡ Some h.shape → Fits files h.settings.shapes.items t x → slice_get (members_of files x.class) m ≡ Some (file, member.Instance i) → inside h.settings.shapes.items t m ≡ Some u → inside_of files x (file, i) ≡ Some y → HasParameterTimes files x core → AreTimesGiven h m given → ((a : AssignmentTree) → Contains given a → IsKnown core.reactor.parameters a.value) → shape_inside h.settings.shapes.items h.shape m ≡ Some inner → r.parameters ≡ timed_parameters inner → HasParameterTimes files y (record { reactor = r; values = map (given_in core given) r.parameters })

-- there a time that is written means in the core what it means in the language
abbrev pub TimeLaw : List SourceFile → Type 0
TimeLaw files = (x : Inside) (core : CoreInside) (shape : Shape) (e : _) → HasParameterTimes files x core → IsRead shape e → ((t : TimeTree) → time_at e ≡ Some t → IsKnown core.reactor.parameters t) → time_or_zero core (time_at e) ≡ time_written_in files x e

-- and so does a period
abbrev pub PeriodLaw : List SourceFile → Type 0
PeriodLaw files = (x : Inside) (core : CoreInside) (shape : Shape) (e : _) → HasParameterTimes files x core → IsPeriod shape e → ((t : TimeTree) → period_at e ≡ Some t → IsKnown core.reactor.parameters t) → time_or_zero core (period_at e) ≡ period_in files x e

-- A time in a tree of which no cause of refusal holds is written out, or it names a parameter of its reactor.
abbrev pub KnownLaw : Type 0
KnownLaw = (tree : FileTree) (r : ReactorTree) (t : TimeTree) → NoneHolds (causes tree) → Contains (reactors_of tree) r → Contains (times_in r) t → IsKnown r.parameters t

-- A tree to which a program is lowered, and of which no cause of refusal holds, is the whole program, and that is taken.
abbrev pub LoweredLaw : List SourceFile → Type 0
LoweredLaw files = (tree : Ast) → IsLowering files tree → NoneHolds (causes (tree_view tree)) → (same : IsSame files (expanded_tree (tree_view tree))) × IsTaken files same.widths
