-- Names that stand for nothing that may stand in their place. The contracts of the crate's own functions alone need this file.
use Rattle.std.specs.Prelude.{◌≡◌, ℕ, Bool, true, false, List, Some, None, Any, ◌⊎◌, option_to_list}
use Rattle.lft_tree.specs.Tree.{ReactorTree, RefTree, ConnectionTree, TimeTree}
use Rattle.lft_resolve.specs.{Causes.{IsMisplaced, IsMisplacedTime, IsUnknownTime}, Kinds.{connection_refs, kind_of, refs_in, times_in}}
use Rattle.lft_resolve.specs.{inner.Sheets.timer_place, Sheets.is_timer}
use Rattle.lft_resolve.specs.declared.kinds.Kind.{Kind}
use Rattle.lft_resolve.specs.declared.kinds.Kind.TheVariants.{OwnParameter, OwnInput, OwnOutput, OwnTimer, OwnAction, OwnInstance, InnerInput, InnerOutput}
use Rattle.lft_resolve.specs.declared.kinds.Role.{Role}

-- the name `x.y`
abbrev pub inner_ref : List ℕ → List ℕ → RefTree
inner_ref head name = record { head = head; port = Some name }

-- the name is that of the timer at this place
pub record IsNamedTimer (r : ReactorTree) (ref : RefTree) (n : ℕ) : Type 0 where
  pub is_one : is_timer r ref.head ref.port ≡ true
  pub is_plain : ref.port ≡ None
  pub is_place : timer_place r ref.head ≡ Some n

-- ---- names that stand for nothing that is wanted

-- the kinds of ports
abbrev pub is_port_kind : Kind → Bool
is_port_kind OwnInput = true
is_port_kind OwnOutput = true
is_port_kind InnerInput = true
is_port_kind InnerOutput = true
is_port_kind OwnParameter = false
is_port_kind OwnTimer = false
is_port_kind OwnAction = false
is_port_kind OwnInstance = false

-- the kinds of ports and actions
abbrev pub is_spot : Kind → Bool
is_spot OwnInput = true
is_spot OwnOutput = true
is_spot InnerInput = true
is_spot InnerOutput = true
is_spot OwnAction = true
is_spot OwnParameter = false
is_spot OwnTimer = false
is_spot OwnInstance = false

-- the name isn't one of a kind that passes the test
abbrev pub LacksKind : (Kind → Bool) → List ReactorTree → ReactorTree → RefTree → Type 0
LacksKind test rs r ref = (kind : Kind) → kind_of rs r ref ≡ Some kind → test kind ≡ false

-- the name is nothing, or something that may not have this role
abbrev pub IsLost : List ReactorTree → ReactorTree → Role × RefTree → Type 0
IsLost rs r n = (kind_of rs r n.1 ≡ None) ⊎ IsMisplaced rs r n

-- the time names something else than a parameter, or nothing
abbrev pub IsLostTime : ReactorTree → TimeTree → Type 0
IsLostTime r t = IsUnknownTime r t ⊎ IsMisplacedTime r t

-- some name or time in the reactor is so
abbrev pub HasLost : List ReactorTree → ReactorTree → Type 0
HasLost rs r = Any (IsLost rs r) (refs_in r) ⊎ Any (IsLostTime r) (times_in r)

-- some name or time of the connection is so
abbrev pub LosesIn : List ReactorTree → ReactorTree → ConnectionTree → Type 0
LosesIn rs r c = Any (IsLost rs r) (connection_refs c) ⊎ Any (IsLostTime r) (option_to_list c.delay)
