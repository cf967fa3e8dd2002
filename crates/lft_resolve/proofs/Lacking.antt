-- Times that name no parameter, and values for what isn't a parameter, follow from the causes of refusal.
use Rattle.std.proofs.Common.{◌≡◌, ◌≢◌, ℕ, ◌<◌, Bool, true, false, List, [], ◌∷◌, ◌++◌, map, flat_map, length, get_or, find, is_some, Option, Some, None, option_map, option_to_list, Any, ◌⊎◌, inl, inr, ⊎_elim, bytes_eq, refl, sym, ap, ◌∙◌}
use Rattle.lft_tree.specs.Tree.{ReactorTree, ParameterTree, PortTree, TimerTree, ActionTree, InstanceTree, AssignmentTree, TimeTree, Written, Named, ports_of, timers_of, actions_of, instances_of, connections_of}
use Rattle.lft_resolve.specs.Causes.{IsUnknownTime, IsMisplacedTime, LacksParameter, LacksReactor, Misplaces, NamesNothing, NoneHolds, SomeGivesUnknown, UnknownName, UnknownReactor, WrongPlace, first_causes, later_causes}
use Rattle.lft_resolve.specs.Kinds.{first_or_second, own_kind, own_port, timer_times, times_in}
use Rattle.lft_resolve.specs.inner.{Lacking.{LacksName, LacksPlace, TimeLacksPlace}, Places.{IsIndexOf, place_in}, Sheets.parameter_place}
use Rattle.lft_resolve.specs.declared.{index.Index.Index, kinds.Kind.{Kind, TheVariants.{OwnParameter, OwnTimer, OwnAction, OwnInstance}}}
use Rattle.lft_resolve.proofs.{Placing.{find-some, not_some}, Somes.{Any-nil, Any-head, Any-tail, Any-cases, Any-left, Any-right, Any-weaker, some_here}}

-- ---- lists

pub Any-flat_map : {X Y : Type 0} (P : Y → Type 0) (f : X → List Y) (xs : List X) → Any (λ x. Any P (f x)) xs → Any P (flat_map f xs)
Any-flat_map P f [] a = absurd (Any-nil (λ x. Any P (f x)) a)
Any-flat_map P f (x ∷ xs) a = ⊎_elim (λ p. Any-left P (f x) (flat_map f xs) p) (λ r. Any-right P (f x) (flat_map f xs) (Any-flat_map P f xs r)) (Any-cases (λ x. Any P (f x)) x xs a)

pub Any-map : {X Y : Type 0} (P : Y → Type 0) (f : X → Y) (xs : List X) → Any (λ x. P (f x)) xs → Any P (map f xs)
Any-map P f [] a = absurd (Any-nil (λ x. P (f x)) a)
Any-map P f (x ∷ xs) a = ⊎_elim (λ p. Any-head P (f x) (map f xs) p) (λ r. Any-tail P (f x) (map f xs) (Any-map P f xs r)) (Any-cases (λ x. P (f x)) x xs a)

pub Any-either : {X : Type 0} (P Q : X → Type 0) (xs : List X) → Any (λ x. P x ⊎ Q x) xs → Any P xs ⊎ Any Q xs
Any-either P Q xs (k, x, within, is, both) = ⊎_elim (λ p. inl (k, x, within, is, p)) (λ q. inr (k, x, within, is, q)) both

-- what no element has, the element of this turn doesn't
module _ {A B C : Type 0} (v : A → B) (f : B → List C) (P : C → Type 0) where
  pub none_at : (xs : List A) (i : ℕ) (x : A) → i < length xs → get_or xs i x ≡ x → (Any P (flat_map f (map v xs)) → ⊥) → Any P (f (v x)) → ⊥
  none_at xs i x within is none a = none (Any-flat_map P f (map v xs) (some_here v (λ y. Any P (f y)) xs i x within is a))

-- ---- places

-- what isn't in the index of a reactor's parameters isn't a parameter of it
module _ (index : Index) (r : ReactorTree) (is : IsIndexOf index (map (λ p. p.name) r.parameters)) where
  pub lacks_place : (t : TimeTree) → LacksPlace (place_in index) t → LacksPlace (parameter_place r) t
  lacks_place (Written t) lacks = lacks
  lacks_place (Named name) lacks = sym (is name) ∙ lacks

  pub lacks_parameter : (a : AssignmentTree) → LacksName index a → LacksParameter r a
  lacks_parameter a lacks = not_some _ (find-some (λ p. p.name) a.name r.parameters ∙ ap is_some (sym (is a.name) ∙ lacks))

  -- the times of the reactor, by where they stand
  abbrev timers : List TimeTree
  timers = flat_map timer_times (timers_of r)

  abbrev actions : List TimeTree
  actions = flat_map (λ a. option_to_list a.min_delay) (actions_of r)

  abbrev values : List TimeTree
  values = flat_map (λ i. map (λ a. a.value) i.given) (instances_of r)

  abbrev delays : List TimeTree
  delays = flat_map (λ c. option_to_list c.delay) (connections_of r)

  abbrev in_index : TimeTree → Type 0
  in_index = LacksPlace (place_in index)

  moved : Any in_index (timers ++ actions ++ values ++ delays) → TimeLacksPlace r
  moved a = Any-weaker in_index (LacksPlace (parameter_place r)) lacks_place (times_in r) a

  pub timer_lacks : Any (LacksPlace (place_in index)) (flat_map timer_times (timers_of r)) → TimeLacksPlace r
  timer_lacks a = moved (Any-left in_index (timers ++ actions ++ values) delays (Any-left in_index (timers ++ actions) values (Any-left in_index timers actions a)))

  pub action_lacks : Any (LacksPlace (place_in index)) (flat_map (λ a. option_to_list a.min_delay) (actions_of r)) → TimeLacksPlace r
  action_lacks a = moved (Any-left in_index (timers ++ actions ++ values) delays (Any-left in_index (timers ++ actions) values (Any-right in_index timers actions a)))

  pub value_lacks : Any (LacksPlace (place_in index)) (flat_map (λ i. map (λ a. a.value) i.given) (instances_of r)) → TimeLacksPlace r
  value_lacks a = moved (Any-left in_index (timers ++ actions ++ values) delays (Any-right in_index (timers ++ actions) values a))

-- ---- causes

port_kind : (b : Bool) → Some (own_port b) ≡ Some OwnParameter → ⊥
port_kind true e = absurd (cc)
port_kind false e = absurd (cc)

other_kind : (q : Option ParameterTree) (p : Option PortTree) (t : Option TimerTree) (a : Option ActionTree) (i : Option InstanceTree) → q ≡ None → first_or_second (option_map (λ x. OwnParameter) q) (first_or_second (option_map (λ x. own_port x.is_input) p) (first_or_second (option_map (λ x. OwnTimer) t) (first_or_second (option_map (λ x. OwnAction) a) (option_map (λ x. OwnInstance) i)))) ≡ Some OwnParameter → ⊥
other_kind (Some q) p t a i none e = absurd (cc)
other_kind None (Some p) t a i none e = port_kind p.is_input e
other_kind None None (Some t) a i none e = absurd (cc)
other_kind None None None (Some a) i none e = absurd (cc)
other_kind None None None None (Some i) none e = absurd (cc)
other_kind None None None None None none e = absurd (cc)

-- a name that is no parameter's is nothing, or something else
lacking : (r : ReactorTree) (t : TimeTree) → LacksPlace (parameter_place r) t → IsUnknownTime r t ⊎ IsMisplacedTime r t
lacking r (Written t) lacks = absurd lacks
lacking r (Named name) lacks = by (own_kind r name) refl
  where
    none : find (λ x. bytes_eq name x.name) r.parameters ≡ None
    none = not_some _ (find-some (λ x. x.name) name r.parameters ∙ ap is_some lacks)

    other : own_kind r name ≡ Some OwnParameter → ⊥
    other e = other_kind (find (λ x. bytes_eq name x.name) r.parameters) (find (λ x. bytes_eq name x.name) (ports_of r)) (find (λ x. bytes_eq name x.name) (timers_of r)) (find (λ x. bytes_eq name x.name) (actions_of r)) (find (λ x. bytes_eq name x.name) (instances_of r)) none e

    by : (o : Option Kind) → own_kind r name ≡ o → (own_kind r name ≡ None) ⊎ ((kind : Kind) × (own_kind r name ≡ Some kind) × (kind ≢ OwnParameter))
    by None e = inl e
    by (Some kind) e = inr (kind, e, λ is. other (e ∙ ap Some is))

lacking_in : (r : ReactorTree) → TimeLacksPlace r → Any (IsUnknownTime r) (times_in r) ⊎ Any (IsMisplacedTime r) (times_in r)
lacking_in r a = Any-either (IsUnknownTime r) (IsMisplacedTime r) (times_in r) (Any-weaker (LacksPlace (parameter_place r)) (λ t. IsUnknownTime r t ⊎ IsMisplacedTime r t) (lacking r) (times_in r) a)

lacking_among : (rs : List ReactorTree) (all : List ReactorTree) → Any TimeLacksPlace all → Any (NamesNothing rs) all ⊎ Any (Misplaces rs) all
lacking_among rs all a = Any-either (NamesNothing rs) (Misplaces rs) all (Any-weaker TimeLacksPlace (λ r. NamesNothing rs r ⊎ Misplaces rs r) (λ r l. ⊎_elim (λ u. inl (inr (inl u))) (λ m. inr (inr m)) (lacking_in r l)) all a)

-- where no cause holds, each time has its parameter, each `new` its reactor and each value its parameter
pub none_lacks : (rs : List ReactorTree) → NoneHolds (later_causes rs) → Any TimeLacksPlace rs → ⊥
unfolding UnknownName WrongPlace
none_lacks rs later a = ⊎_elim (λ u. later.0 u) (λ w. later.1.0 w) (lacking_among rs rs a)

pub none_unknown : (rs : List ReactorTree) → NoneHolds (first_causes rs) → Any (LacksReactor rs) rs → ⊥
unfolding UnknownReactor
none_unknown rs first a = first.1.1.1.0 a

pub none_given : (rs : List ReactorTree) → NoneHolds (later_causes rs) → Any (SomeGivesUnknown rs) rs → ⊥
unfolding UnknownName
none_given rs later a = later.0 (Any-weaker (SomeGivesUnknown rs) (NamesNothing rs) (λ r g. inr (inr g)) rs a)
