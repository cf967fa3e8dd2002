-- Where a tree isn't refused, each time in it is written out or names a parameter.
use Rattle.std.proofs.Common.{◌≡◌, ℕ, ◌⊎◌, inl, inr, List, ◌++◌, Option, Some, None, Contains, flat_map, map, option_to_list, slice_get, refl, sym, subst}
use Rattle.lft_lists.proofs.{Members.{Mem, mem_contains, mem_flat, mem_left, mem_map, mem_right}, Places.{at_contains, contains_at}}
use Rattle.lft_tree.specs.Tree.{ActionTree, AssignmentTree, ConnectionTree, FileTree, InstanceTree, ReactorTree, TimeTree, TimerTree, Written, Named, actions_of, connections_of, instances_of, reactors_of, timers_of}
use Rattle.lft_resolve.specs.Causes.{IsMisplacedTime, IsUnknownTime, Misplaces, NamesNothing, NoneHolds, UnknownName, WrongPlace, causes}
use Rattle.lft_resolve.specs.{Kinds.{timer_times, times_in}, inner.Sheets.parameter_place}
use Rattle.lft_resolve.proofs.{Lost.lost_time, Twice.Any-at}
use Rattle.lft_program.proofs.Giving.{place_is}
use Rattle.lft_same.specs.inner.Times.{IsKnown}

-- what is there is listed
pub listed : {X : Type 0} (o : Option X) (z : X) → o ≡ Some z → Mem z (option_to_list o)
listed {X} o z e = subst (λ (o : Option X). Mem z (option_to_list o)) (sym e) (inl refl)

pub known_law : (tree : FileTree) (r : ReactorTree) (t : TimeTree) → NoneHolds (causes tree) → Contains (reactors_of tree) r → Contains (times_in r) t → IsKnown r.parameters t
unfolding UnknownName WrongPlace
known_law tree r (Written t) none stands is_time = tt
known_law tree r (Named q) none stands is_time = go (parameter_place r q) refl
  where
    reactor : (k : ℕ) × (slice_get (reactors_of tree) k ≡ Some r)
    reactor = at_contains (reactors_of tree) r stands

    time : (k : ℕ) × (slice_get (times_in r) k ≡ Some (Named q))
    time = at_contains (times_in r) (Named q) is_time

    refused : IsUnknownTime r (Named q) ⊎ IsMisplacedTime r (Named q) → ⊥
    refused (inl lost) = none.1.1.1.1.1.0 (Any-at (NamesNothing (reactors_of tree)) (reactors_of tree) reactor.0 r reactor.1 (inr (inl (Any-at (IsUnknownTime r) (times_in r) time.0 (Named q) time.1 lost))))
    refused (inr lost) = none.1.1.1.1.1.1.0 (Any-at (Misplaces (reactors_of tree)) (reactors_of tree) reactor.0 r reactor.1 (inr (Any-at (IsMisplacedTime r) (times_in r) time.0 (Named q) time.1 lost)))

    go : (o : Option ℕ) → parameter_place r q ≡ o → IsKnown r.parameters (Named q)
    go None e = absurd (refused (lost_time r q e))
    go (Some k) e = contains_at (map (λ p. p.name) r.parameters) k q (place_is q (map (λ p. p.name) r.parameters) k e)

-- ---- the times of a reactor

module _ (r : ReactorTree) where
  abbrev of_timers : List TimeTree
  of_timers = flat_map timer_times (timers_of r)

  abbrev delay_of : ActionTree → List TimeTree
  delay_of a = option_to_list a.min_delay

  abbrev of_actions : List TimeTree
  of_actions = flat_map delay_of (actions_of r)

  abbrev values_of : InstanceTree → List TimeTree
  values_of i = map (λ a. a.value) i.given

  abbrev of_instances : List TimeTree
  of_instances = flat_map values_of (instances_of r)

  abbrev of_connections : List TimeTree
  of_connections = flat_map (λ c. option_to_list c.delay) (connections_of r)

  pub timer_time : (t : TimerTree) (z : TimeTree) → Mem t (timers_of r) → Mem z (timer_times t) → Contains (times_in r) z
  timer_time t z stands m = mem_contains z (times_in r) (mem_left z (of_timers ++ of_actions ++ of_instances) of_connections (mem_left z (of_timers ++ of_actions) of_instances (mem_left z of_timers of_actions (mem_flat timer_times t z (timers_of r) stands m))))

  pub action_time : (a : ActionTree) (z : TimeTree) → Mem a (actions_of r) → a.min_delay ≡ Some z → Contains (times_in r) z
  action_time a z stands e = mem_contains z (times_in r) (mem_left z (of_timers ++ of_actions ++ of_instances) of_connections (mem_left z (of_timers ++ of_actions) of_instances (mem_right z of_timers of_actions (mem_flat delay_of a z (actions_of r) stands (listed a.min_delay z e)))))

  pub given_time : (i : InstanceTree) (a : AssignmentTree) → Mem i (instances_of r) → Mem a i.given → Contains (times_in r) a.value
  given_time i a stands m = mem_contains a.value (times_in r) (mem_left a.value (of_timers ++ of_actions ++ of_instances) of_connections (mem_right a.value (of_timers ++ of_actions) of_instances (mem_flat values_of i a.value (instances_of r) stands (mem_map (λ (a : AssignmentTree). a.value) a i.given m))))

  pub delay_time : (c : ConnectionTree) (z : TimeTree) → Mem c (connections_of r) → c.delay ≡ Some z → Contains (times_in r) z
  delay_time c z stands e = mem_contains z (times_in r) (mem_right z (of_timers ++ of_actions ++ of_instances) of_connections (mem_flat (λ (c : ConnectionTree). option_to_list c.delay) c z (connections_of r) stands (listed c.delay z e)))
