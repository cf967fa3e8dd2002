-- What holds of each reactor of a tree of which no cause holds that is looked for in each alone.
use Rattle.std.proofs.Common.{◌≡◌, ◌≢◌, ℕ, ◌+◌, ◌<◌, ◌≤◌, ◌⊎◌, inl, inr, List, ◌++◌, length, sym, ap, ◌∙◌, arith, Some, slice_get, map}
use Rattle.std.proofs.lemmas.Bool.{cases_lt, cases_eq}
use Rattle.lft_resolve.proofs.{Twice.Any-at, Effects.names_once}
use Rattle.lft_resolve.specs.Causes.{IsTwice, NoneHolds, UnknownName, WrongPlace, TwoSources, WritesTwice, WidthMismatch, DiffersInWidth, later_causes}
use Rattle.lft_resolve.specs.Kinds.{names_in, destinations_in}
use Rattle.lft_lists.proofs.{Mapped.mapped, Places.{get_right, get_left}}
use Rattle.lft_tree.specs.Tree.{FileTree, ReactorTree, PortTree, ConnectionTree, reactors_of, connections_of, ports_of, timers_of, actions_of, instances_of}
use Rattle.lft_program.specs.inner.Tables.{IsLawful}

pub later_parts : (rs : List ReactorTree) → NoneHolds (later_causes rs) → (UnknownName rs → ⊥) × (WrongPlace rs → ⊥) × (TwoSources rs → ⊥) × (WidthMismatch rs → ⊥)
later_parts rs n = (n.0, n.1.0, n.1.1.1.0, n.1.1.1.1.0)

-- where all names stand among those that aren't twice, elements of one name are one
once_among : {X : Type 0} (name : X → List ℕ) (xs : List X) (all : List (List ℕ)) (n : ℕ) → (IsTwice all → ⊥) → ((m : ℕ) (z : X) → slice_get xs m ≡ Some z → slice_get all (n + m) ≡ Some (name z)) → (i j : ℕ) (x y : X) → slice_get xs i ≡ Some x → slice_get xs j ≡ Some y → name x ≡ name y → i ≡ j
once_among name xs all n once stands i j x y a b same = by (cases_lt i j) (cases_lt j i)
  where
    second : slice_get all (n + j) ≡ Some (name x)
    second = stands j y b ∙ ap Some (sym same)

    by : (i < j) ⊎ (j ≤ i) → (j < i) ⊎ (i ≤ j) → i ≡ j
    by (inl l) m = absurd (once (n + i, n + j, name x, (omega arith), stands i x a, second))
    by (inr l) (inl m) = absurd (once (n + j, n + i, name x, (omega arith), second, stands i x a))
    by (inr l) (inr m) = omega arith

module _ (tree : FileTree) (lawful : IsLawful tree) (k : ℕ) (r : ReactorTree) (at : slice_get (reactors_of tree) k ≡ Some r) where
  abbrev parameters : List (List ℕ)
  parameters = map (λ x. x.name) r.parameters

  abbrev ports : List (List ℕ)
  ports = map (λ x. x.name) (ports_of r)

  abbrev timers : List (List ℕ)
  timers = map (λ x. x.name) (timers_of r)

  abbrev actions : List (List ℕ)
  actions = map (λ x. x.name) (actions_of r)

  abbrev instances : List (List ℕ)
  instances = map (λ x. x.name) (instances_of r)

  -- no two ports, timers or actions have one name
  pub ports_once : (i j : ℕ) (x y : PortTree) → slice_get (ports_of r) i ≡ Some x → slice_get (ports_of r) j ≡ Some y → x.name ≡ y.name → i ≡ j
  ports_once = once_among (λ x. x.name) (ports_of r) (names_in r) (length parameters) (names_once (reactors_of tree) k r at lawful.first) (λ m z e.
      get_left (parameters ++ ports ++ timers ++ actions) instances (length parameters + m) z.name
      (get_left (parameters ++ ports ++ timers) actions (length parameters + m) z.name
      (get_left (parameters ++ ports) timers (length parameters + m) z.name
      (get_right parameters ports m ∙ mapped (λ x. x.name) (ports_of r) m z e))))

  -- the two lists of a connection are as long as each other
  pub even : (c : ℕ) (con : ConnectionTree) → slice_get (connections_of r) c ≡ Some con → length con.sources ≡ length con.destinations
  unfolding WidthMismatch
  even c con e = elim (cases_eq (length con.sources) (length con.destinations)) [ inl same ↦ same | inr apart ↦ absurd ((later_parts (reactors_of tree) lawful.later).3 (Any-at DiffersInWidth (reactors_of tree) k r at (Any-at (λ c. length c.sources ≢ length c.destinations) (connections_of r) c con e apart))) ]

  -- no destination stands twice
  pub destinations_once : IsTwice (destinations_in r) → ⊥
  unfolding TwoSources
  destinations_once two = (later_parts (reactors_of tree) lawful.later).2 (Any-at WritesTwice (reactors_of tree) k r at (inl two))
