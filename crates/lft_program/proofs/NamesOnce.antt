-- The names that a reactor declares, kind by kind.
use Rattle.std.proofs.Common.{◌≡◌, ℕ, ◌+◌, List, ◌++◌, map, length, slice_get, Some, All, ◌∙◌, arith}
use Rattle.std.proofs.lemmas.Option.{slice_get_within}
use Rattle.lft_tree.specs.Identifiers.{IsName, HasIdentifiers, declared_names}
use Rattle.lft_tree.specs.Tree.{FileTree, ReactorTree, reactors_of, ports_of, timers_of, actions_of, instances_of}
use Rattle.lft_resolve.{specs.{Causes.IsTwice, Kinds.names_in}, proofs.Twice.twice_left}
use Rattle.lft_program.proofs.{FullNames.all_at, Sites.AreApart}
use Rattle.lft_lists.proofs.Places.{get_left, get_right}

-- the names of one kind
abbrev pub port_names : ReactorTree → List (List ℕ)
port_names r = map (λ x. x.name) (ports_of r)

abbrev pub timer_names : ReactorTree → List (List ℕ)
timer_names r = map (λ x. x.name) (timers_of r)

abbrev pub action_names : ReactorTree → List (List ℕ)
action_names r = map (λ x. x.name) (actions_of r)

abbrev pub instance_names : ReactorTree → List (List ℕ)
instance_names r = map (λ x. x.name) (instances_of r)

-- ---- parts of a list without repetition

module _ (xs ys : List (List ℕ)) where
  right_at : (k : ℕ) (x : List ℕ) → slice_get ys k ≡ Some x → slice_get (xs ++ ys) (length xs + k) ≡ Some x
  right_at k x at = get_right xs ys k ∙ at

  twice_right : IsTwice ys → IsTwice (xs ++ ys)
  twice_right (i, j, x, low, first, second) = (length xs + i, length xs + j, x, omega arith, right_at i x first, right_at j x second)

  apart : (IsTwice (xs ++ ys) → ⊥) → AreApart xs ys
  apart never i j x first second =
      let within = slice_get_within xs i x first in
      never (i, length xs + j, x, omega arith, get_left xs ys i x first, right_at j x second)

  left_apart : (zs : List (List ℕ)) → AreApart (xs ++ ys) zs → AreApart xs zs
  left_apart zs both i j x first second = both i j x (get_left xs ys i x first) second

  right_apart : (zs : List (List ℕ)) → AreApart (xs ++ ys) zs → AreApart ys zs
  right_apart zs both i j x first second = both (length xs + i) j x (right_at i x first) second

-- ---- a reactor that declares no name twice

module _ (r : ReactorTree) (never : IsTwice (names_in r) → ⊥) where
  -- the names but for those of the last kinds
  abbrev to_ports : List (List ℕ)
  to_ports = map (λ x. x.name) r.parameters ++ port_names r

  abbrev to_timers : List (List ℕ)
  to_timers = to_ports ++ timer_names r

  abbrev to_actions : List (List ℕ)
  to_actions = to_timers ++ action_names r

  never_actions : IsTwice to_actions → ⊥
  never_actions two = never (twice_left to_actions (instance_names r) two)

  never_timers : IsTwice to_timers → ⊥
  never_timers two = never_actions (twice_left to_timers (action_names r) two)

  never_ports : IsTwice to_ports → ⊥
  never_ports two = never_timers (twice_left to_ports (timer_names r) two)

  pub ports_once : IsTwice (port_names r) → ⊥
  ports_once two = never_ports (twice_right (map (λ x. x.name) r.parameters) (port_names r) two)

  pub timers_once : IsTwice (timer_names r) → ⊥
  timers_once two = never_timers (twice_right to_ports (timer_names r) two)

  pub actions_once : IsTwice (action_names r) → ⊥
  actions_once two = never_actions (twice_right to_timers (action_names r) two)

  pub instances_once : IsTwice (instance_names r) → ⊥
  instances_once two = never (twice_right to_actions (instance_names r) two)

  pub ports_timers : AreApart (port_names r) (timer_names r)
  ports_timers = right_apart (map (λ x. x.name) r.parameters) (port_names r) (timer_names r) (apart to_ports (timer_names r) never_timers)

  timers_from : AreApart to_timers (action_names r)
  timers_from = apart to_timers (action_names r) never_actions

  pub timers_actions : AreApart (timer_names r) (action_names r)
  timers_actions = right_apart to_ports (timer_names r) (action_names r) timers_from

  pub ports_actions : AreApart (port_names r) (action_names r)
  ports_actions = right_apart (map (λ x. x.name) r.parameters) (port_names r) (action_names r) (left_apart to_ports (timer_names r) (action_names r) timers_from)

  from_actions : AreApart to_actions (instance_names r)
  from_actions = apart to_actions (instance_names r) never

  from_timers : AreApart to_timers (instance_names r)
  from_timers = left_apart to_timers (action_names r) (instance_names r) from_actions

  pub actions_instances : AreApart (action_names r) (instance_names r)
  actions_instances = right_apart to_timers (action_names r) (instance_names r) from_actions

  pub timers_instances : AreApart (timer_names r) (instance_names r)
  timers_instances = right_apart to_ports (timer_names r) (instance_names r) from_timers

  pub ports_instances : AreApart (port_names r) (instance_names r)
  ports_instances = right_apart (map (λ x. x.name) r.parameters) (port_names r) (instance_names r) (left_apart to_ports (timer_names r) (instance_names r) from_timers)

-- ---- identifiers

module _ (tree : FileTree) (identifiers : HasIdentifiers tree) (n : ℕ) (r : ReactorTree) (at : slice_get (reactors_of tree) n ≡ Some r) where
  all_named : (k : ℕ) (x : List ℕ) → slice_get (declared_names r) k ≡ Some x → IsName x
  all_named = all_at IsName (declared_names r) (all_at (λ x. All IsName (declared_names x)) (reactors_of tree) identifiers n r at)

  pub instances_named : (k : ℕ) (x : List ℕ) → slice_get (instance_names r) k ≡ Some x → IsName x
  instances_named k x here = all_named _ x (right_at (port_names r ++ timer_names r ++ action_names r) (instance_names r) k x here)

  pub actions_named : (k : ℕ) (x : List ℕ) → slice_get (action_names r) k ≡ Some x → IsName x
  actions_named k x here = all_named _ x (get_left (port_names r ++ timer_names r ++ action_names r) (instance_names r) _ x (right_at (port_names r ++ timer_names r) (action_names r) k x here))

  pub timers_named : (k : ℕ) (x : List ℕ) → slice_get (timer_names r) k ≡ Some x → IsName x
  timers_named k x here = all_named _ x (get_left (port_names r ++ timer_names r ++ action_names r) (instance_names r) _ x (get_left (port_names r ++ timer_names r) (action_names r) _ x (right_at (port_names r) (timer_names r) k x here)))

  pub ports_named : (k : ℕ) (x : List ℕ) → slice_get (port_names r) k ≡ Some x → IsName x
  ports_named k x here = all_named _ x (get_left (port_names r ++ timer_names r ++ action_names r) (instance_names r) _ x (get_left (port_names r ++ timer_names r) (action_names r) _ x (get_left (port_names r) (timer_names r) k x here)))
