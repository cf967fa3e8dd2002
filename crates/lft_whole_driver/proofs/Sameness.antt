-- Where files are lowered to a tree, the flat program of the tree is that of the whole program.
use Rattle.std.proofs.Common.{List}
use Rattle.lft_ir.specs.Parts.{Parts}
use Rattle.lft_lower.specs.inner.Reactors.{IsLowering}
use Rattle.lft_program.specs.Flattening.{IsFlatOf}
use Rattle.lft_whole.specs.declared.sources.source.SourceFile.{SourceFile}
use Rattle.lft_tree.specs.{View.tree_view, declared.ast.Ast.Ast}
use Rattle.lft_same.{specs.inner.Expanded.Core.expanded_tree, proofs.{ExpandedLemmas.{Only.only_flat, Sameness.core_law}, Taken.lowered_law}}
use Rattle.lft_whole_driver.specs.Lowered.{IsOfFiles}

pub the_program : (files : List SourceFile) (tree : Ast) → IsLowering files tree → (p : Parts) → IsFlatOf (tree_view tree) p → IsOfFiles files p
the_program files tree made p is = let law = lowered_law files tree made is.none in (expanded_tree (tree_view tree), law.0, law.1, record { is = core_law (tree_view tree) p is.flat; only = λ q other. only_flat (tree_view tree) p q is other })
