-- Tables of the names of reactors. The contracts of the crate's own functions alone need this file.
use Rattle.std.specs.Prelude.{◌≡◌, ℕ, List, Some, map, filter_map, slice_get}
use Rattle.std.specs.List.{AllZip}
use Rattle.lft_tree.specs.{Tree.{ReactorTree, InstanceTree, ports_of, timers_of, actions_of, instances_of}, View.reactor_view}
use Rattle.lft_resolve.specs.inner.{Numbers.numbers_of, Places.IsIndexOf, References.{instance_trees, port_trees}, Sheets.instance_place}
use Rattle.lft_resolve.specs.{Instances.reactor_named, declared.{file.ReactorTable.ReactorTable, own.Own.Own}}

-- the table has this reactor, the places of the names that it declares, its ports and its instances
pub record IsOwn (r : ReactorTree) (own : Own) : Type 0 where
  pub reactor : reactor_view own.reactor.now ≡ r
  pub parameters : IsIndexOf own.parameters (map (λ x. x.name) r.parameters)
  pub ports : IsIndexOf own.ports (map (λ x. x.name) (ports_of r))
  pub timers : IsIndexOf own.timers (map (λ x. x.name) (timers_of r))
  pub actions : IsIndexOf own.actions (map (λ x. x.name) (actions_of r))
  pub instances : IsIndexOf own.instances (map (λ x. x.name) (instances_of r))
  pub declared_ports : port_trees own.declared_ports.items ≡ ports_of r
  pub contained : instance_trees own.contained.items ≡ instances_of r

-- the tables are those of these reactors, in order
pub record IsFile (rs : List ReactorTree) (file : ReactorTable) : Type 0 where
  pub names : IsIndexOf file.names (filter_map (λ r. r.name) rs)
  pub numbers : file.numbers.items ≡ numbers_of 0 rs
  pub owns : AllZip IsOwn rs file.owns.items

-- the instance of this name in the reactor has this place, and the table is that of its reactor
pub record IsInstanceTable (rs : List ReactorTree) (r : ReactorTree) (name : List ℕ) (number : ℕ) (own : Own) : Type 0 where
  pub i : InstanceTree
  pub inner : ReactorTree
  pub is_place : instance_place r name ≡ Some number
  pub is_instance : slice_get (instances_of r) number ≡ Some i
  pub is_inner : reactor_named rs i.reactor ≡ Some inner
  pub is_own : IsOwn inner own
