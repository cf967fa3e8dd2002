-- Tests of being in a list, and names by kind.
use Rattle.std.specs.Prelude.{◌≡◌, ℕ, Bool, true, List, Option, map, option_map, Any, bytes_eq}
use Rattle.std.specs.{Borrow.Bor, HashSet.{HashSet, contains_by}}
use Rattle.lft_tree.specs.Tree.{MemberTree, ReactorTree, port_in, timer_in, action_in, instance_in, ports_of, timers_of, actions_of, instances_of}
use Rattle.lft_resolve.specs.declared.names.Declared.{Declared, TheVariants.{Port, Timer, Action, Instance}}

-- what passes the test is what stands in the list
pub record IsTestOf {X : Type 0} (test : X → Bool) (xs : List X) : Type 0 where
  pub known : (x : X) → test x ≡ true → Any (λ y. y ≡ x) xs
  pub passes : (x : X) → Any (λ y. y ≡ x) xs → test x ≡ true

-- the texts behind the references
abbrev pub texts : List (Bor (List ℕ)) → List (List ℕ)
texts = map (λ t. t.now)

-- the test of a text being in the set
abbrev pub has_text : {S : Type 0} → HashSet (Bor (List ℕ)) S → List ℕ → Bool
has_text set text = contains_by (λ k. bytes_eq text k.now) set

-- the name of a member of the kind
abbrev pub name_in : Declared → MemberTree → Option (List ℕ)
name_in Port m = option_map (λ x. x.name) (port_in m)
name_in Timer m = option_map (λ x. x.name) (timer_in m)
name_in Action m = option_map (λ x. x.name) (action_in m)
name_in Instance m = option_map (λ x. x.name) (instance_in m)

-- the names of the reactor's members of the kind, in order
abbrev pub member_names : Declared → ReactorTree → List (List ℕ)
member_names Port r = map (λ x. x.name) (ports_of r)
member_names Timer r = map (λ x. x.name) (timers_of r)
member_names Action r = map (λ x. x.name) (actions_of r)
member_names Instance r = map (λ x. x.name) (instances_of r)
