-- Delays as clocks, against the times that they are in the tree.
use Rattle.std.proofs.Common.{◌≡◌, ℕ, suc, ◌+◌, ◌<◌, inl, inr, Bool, true, false, cond, List, [], ◌∷◌, ◌++◌, refl, sym, ap, ◌∙◌, subst, Option, Some, None, option_map, option_to_list, slice_get, map, flat_map, unwrap_or, bytes_eq, Any}
use Rattle.std.proofs.lemmas.Bool.{cases_lt, le-ltb}
use Rattle.lft_resolve.proofs.{Effects.Any-flat, Somes.Any-right, Twice.Any-at}
use Rattle.lft_resolve.specs.declared.expansion.settings.Clock.{Clock, TheVariants.{Fixed, Parameter}}
use Rattle.lft_resolve.specs.{inner.{Expansion.Values.clock_in, Places.place, Sheets.{IsClock, IsDelay, kept}}, Causes.{HasLongTime, IsLongTime, longest}}
use Rattle.lft_resolve.specs.{Instances.{Inside, time_in, value_of}, Kinds.{times_in, timer_times}}
use Rattle.lft_tree.specs.Tree.{FileTree, ReactorTree, ParameterTree, ConnectionTree, TimeTree, Written, Named, nanoseconds, reactors_of, connections_of, timers_of, actions_of, instances_of}

pub kept_is : (t : ℕ) → (longest < t → ⊥) → kept t ≡ t
kept_is t short = elim (cases_lt longest t) [ inl l ↦ absurd (short l) | inr g ↦ ap (λ b. cond b (longest + 1) t) (le-ltb longest t g) ]

-- the value of a name is what stands at the name's place
pub value_at : (ps : List ParameterTree) (vs : List ℕ) (name : List ℕ) (k : ℕ) → place name (map (λ p. p.name) ps) ≡ Some k → unwrap_or (slice_get vs k) 0 ≡ value_of ps vs name
value_at [] vs name k e = absurd (cc)
value_at (p ∷ ps) [] name k e = refl
value_at (p ∷ ps) (v ∷ vs) name k e = by (bytes_eq name p.name) (place name (map (λ p. p.name) ps)) (λ j f. value_at ps vs name j f) e
  where
    by : (b : Bool) (o : Option ℕ) → ((j : ℕ) → o ≡ Some j → unwrap_or (slice_get vs j) 0 ≡ value_of ps vs name) → cond b (Some 0) (option_map suc o) ≡ Some k → unwrap_or (slice_get (v ∷ vs) k) 0 ≡ cond b v (value_of ps vs name)
    by true o more e = let z : k ≡ 0 = cc in ap (λ j. unwrap_or (slice_get (v ∷ vs) j) 0) z
    by false None more e = absurd (cc)
    by false (Some j) more e = let z : k ≡ suc j = cc in ap (λ i. unwrap_or (slice_get (v ∷ vs) i) 0) z ∙ more j refl

pub clock_is : (x : Inside) (t : TimeTree) (clock : Clock) → IsClock x.reactor t clock → (IsLongTime t → ⊥) → clock_in x.values clock ≡ time_in x t
clock_is x (Written t) (Fixed m) is short = is ∙ kept_is (nanoseconds t) short
clock_is x (Written t) (Parameter k) is short = absurd is
clock_is x (Named name) (Fixed m) is short = absurd is
clock_is x (Named name) (Parameter k) is short = value_at x.reactor.parameters x.values name k is

pub delay_is : (x : Inside) (delay : Option TimeTree) (d : Option Clock) → IsDelay x.reactor delay d → ((t : TimeTree) → delay ≡ Some t → IsLongTime t → ⊥) → option_map (clock_in x.values) d ≡ option_map (time_in x) delay
delay_is x None None is short = refl
delay_is x None (Some c) is short = absurd is
delay_is x (Some t) None is short = absurd is
delay_is x (Some t) (Some c) is short = ap Some (clock_is x t c is (λ l. short t refl l))

-- the time of a connection is one of its reactor's
pub long_delay : (tree : FileTree) (k : ℕ) (r : ReactorTree) → slice_get (reactors_of tree) k ≡ Some r → (number : ℕ) (c : ConnectionTree) (t : TimeTree) → slice_get (connections_of r) number ≡ Some c → c.delay ≡ Some t → IsLongTime t → Any HasLongTime (reactors_of tree)
long_delay tree k r at number c t e f long = Any-at HasLongTime (reactors_of tree) k r at (inr among)
  where
    one : Any IsLongTime (option_to_list c.delay)
    one = subst (λ o. Any IsLongTime (option_to_list o)) (sym f) (Any-at IsLongTime (t ∷ []) 0 t refl long)

    among : Any IsLongTime (times_in r)
    among = Any-right IsLongTime (flat_map timer_times (timers_of r) ++ flat_map (λ a. option_to_list a.min_delay) (actions_of r) ++ flat_map (λ i. map (λ a. a.value) i.given) (instances_of r)) (flat_map (λ c. option_to_list c.delay) (connections_of r)) (Any-flat IsLongTime (λ c. option_to_list c.delay) (connections_of r) number c e one)
