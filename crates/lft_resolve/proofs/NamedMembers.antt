-- The names of a reactor's members, by kind.
use Rattle.std.proofs.Common.{◌≡◌, filter_map, sym}
use Rattle.lft_tree.specs.Tree.{ReactorTree, port_in, timer_in, action_in, instance_in}
use Rattle.lft_lists.proofs.Picked.{map-filter_map}
use Rattle.lft_resolve.specs.{inner.Tests.{name_in, member_names}, declared.names.Declared.{Declared, TheVariants.{Port, Timer, Action, Instance}}}

pub named_members : (kind : Declared) (r : ReactorTree) → filter_map (name_in kind) r.members ≡ member_names kind r
named_members Port r = sym (map-filter_map (λ x. x.name) port_in r.members)
named_members Timer r = sym (map-filter_map (λ x. x.name) timer_in r.members)
named_members Action r = sym (map-filter_map (λ x. x.name) action_in r.members)
named_members Instance r = sym (map-filter_map (λ x. x.name) instance_in r.members)
