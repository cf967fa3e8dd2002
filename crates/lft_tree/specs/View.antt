-- What contracts see of a tree.
use Rattle.lft_tree.specs.{declared.ast.Ast.Ast, Tree.FileTree}
pub use Rattle.lft_tree.specs.ItemView.{range_view, time_view, ref_view, ref_views, parameter_view, port_view, timer_view, action_view, trigger_view, reaction_view, assignment_view, instance_view, connection_view, member_view, member_views, reactor_view, item_view, item_views, file_view}

-- the tree that the parser gives
abbrev pub tree_view : Ast → FileTree
tree_view t = file_view t.target t.items.items
