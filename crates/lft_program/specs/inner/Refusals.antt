-- Why a tree has no flat program, with what shows it.
use Rattle.std.specs.Prelude.{ℕ}
use Rattle.lft_tree.specs.{Tree.reactors_of, View.tree_view, declared.ast.Ast.Ast}
use Rattle.lft_resolve.specs.{Causes.number_of, declared.causes.ProgramFault.ProgramFault}
use Rattle.lft_validate.specs.{Members.reactors_among, Witnesses.{Shows, fault_shown}, inner.Witnesses.IsCircle}
use Rattle.lft_program.specs.{inner.{Limits.IsExcess, Ways.{IsLongChain, IsRing}}, declared.{nesting.nest.NestFault.NestFault, refusal.Refusal.Refusal}}
use Rattle.lft_resolve.specs.declared.causes.ProgramFault.TheVariants as faults
use Rattle.lft_program.specs.declared.nesting.nest.NestFault.TheVariants as nests
use Rattle.lft_program.specs.declared.refusal.Refusal.TheVariants as refusals

-- the cause for which a tree is refused, without what shows it
abbrev pub fault_of : Refusal → ProgramFault
fault_of (refusals.Shown witness) = fault_shown witness
fault_of (refusals.Recursive places) = faults.RecursiveReactor
fault_of (refusals.TooMany excess) = faults.TooMany
fault_of (refusals.ConnectionCycle way) = faults.ConnectionCycle
fault_of (refusals.LongChain way) = faults.DelayTooLong
fault_of refusals.NoMemory = faults.NoMemory

-- its number
abbrev pub cause_of : Refusal → ℕ
cause_of refusal = number_of (fault_of refusal)

-- what a refusal tells of the tree is so
abbrev pub Tells : Ast → Refusal → Type 0
Tells ast (refusals.Shown witness) = Shows (reactors_among ast.items.items) witness
Tells ast (refusals.Recursive places) = IsCircle (reactors_of (tree_view ast)) places.items
Tells ast (refusals.TooMany excess) = IsExcess (tree_view ast) excess
Tells ast (refusals.ConnectionCycle way) = IsRing (tree_view ast) way
Tells ast (refusals.LongChain way) = IsLongChain (tree_view ast) way
Tells ast refusals.NoMemory = Unit {0}

-- the refusal that a fault of the instances together is
abbrev pub of_nest : NestFault → Refusal
of_nest (nests.TooMany excess) = refusals.TooMany excess
of_nest nests.NoMemory = refusals.NoMemory
