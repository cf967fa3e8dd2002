-- The names that reactors declare for their members, by kind. The contracts of the crate's own functions alone need this file.
use Rattle.std.specs.Prelude.{ℕ, List, Option, map, filter_map, option_map, Vec}
use Rattle.std.specs.Borrow.{Bor}
use Rattle.lft_tree.specs.Tree.{MemberTree, ReactorTree, action_in, instance_in, port_in, timer_in}
use Rattle.lft_resolve.specs.inner.Tests.{texts}
use Rattle.lft_program.specs.declared.own_names.MemberKind.{MemberKind}
use Rattle.lft_program.specs.declared.own_names.MemberKind.TheVariants as kinds

-- the name of a member of the kind
abbrev pub name_in : MemberKind → MemberTree → Option (List ℕ)
name_in kinds.Instance m = option_map (λ x. x.name) (instance_in m)
name_in kinds.Port m = option_map (λ x. x.name) (port_in m)
name_in kinds.Action m = option_map (λ x. x.name) (action_in m)
name_in kinds.Timer m = option_map (λ x. x.name) (timer_in m)

-- the names of a reactor's members of the kind, in order
abbrev pub own_names : MemberKind → ReactorTree → List (List ℕ)
own_names kind r = filter_map (name_in kind) r.members

-- lists of names behind references
abbrev pub name_lists : {R : Type 0} → List (Vec (Bor (List ℕ)) R) → List (List (List ℕ))
name_lists = map (λ v. texts v.items)
