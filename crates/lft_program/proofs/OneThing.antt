-- A thing that instances declare has one number and is of one kind.
use Rattle.std.proofs.Common.{◌≡◌, ℕ, ◌+◌, ⊎_elim, List, ◌++◌, map, length, slice_get, Some, sym, ap, subst, ◌∙◌, arith, length-append}
use Rattle.std.proofs.lemmas.{Bool.cases_lt, List.length-map, Option.slice_get_within}
use Rattle.lft_program.proofs.{NamesOnce.{port_names, timer_names, action_names, instance_names}, Placed.path_once, Counting.base}
use Rattle.lft_program.proofs.{Listing.{Stands, declared_from}, OneInstances.{in_file, inside_at}}
use Rattle.lft_program.specs.{Located.{Located, AreLocated, Declared, declared, declared_things, ports_in, actions_in, timers_in}, inner.Tables.IsLawful}
use Rattle.lft_lists.proofs.{Mapped.{mapped, mapped_from}, Places.{get_left, Some_same, get_right}}
use Rattle.lft_tree.specs.Tree.{FileTree, ReactorTree, PortTree, TimerTree, ActionTree, reactors_of, ports_of, timers_of, actions_of}
use Rattle.lft_resolve.{specs.{Causes.IsTwice, Instances.{Thing, thing_at}, Kinds.names_in}, proofs.Effects.names_once}

pub once_at : {X : Type 0} (xs : List X) (x : X) (i j : ℕ) → (IsTwice xs → ⊥) → slice_get xs i ≡ Some x → slice_get xs j ≡ Some x → i ≡ j
once_at xs x i j once a b = ⊎_elim
    (λ low. absurd (once (i, j, x, low, a, b)))
    (λ high. ⊎_elim (λ low. absurd (once (j, i, x, low, b, a))) (λ more. omega arith) (cases_lt j i))
    (cases_lt i j)

pub right_at : {X : Type 0} (xs ys : List X) (k : ℕ) (x : X) → slice_get ys k ≡ Some x → slice_get (xs ++ ys) (length xs + k) ≡ Some x
right_at xs ys k x at = get_right xs ys k ∙ at

-- ---- where the names of a kind stand among those of a reactor

abbrev parameter_names : ReactorTree → List (List ℕ)
parameter_names r = map (λ x. x.name) r.parameters

abbrev before_ports : ReactorTree → ℕ
before_ports r = length (parameter_names r)

abbrev before_timers : ReactorTree → ℕ
before_timers r = length (parameter_names r ++ port_names r)

abbrev before_actions : ReactorTree → ℕ
before_actions r = length ((parameter_names r ++ port_names r) ++ timer_names r)

port_name : (r : ReactorTree) (k : ℕ) (x : PortTree) → slice_get (ports_of r) k ≡ Some x → slice_get (names_in r) (before_ports r + k) ≡ Some x.name
port_name r k x at =
    get_left (((parameter_names r ++ port_names r) ++ timer_names r) ++ action_names r) (instance_names r) (before_ports r + k) x.name
    (get_left ((parameter_names r ++ port_names r) ++ timer_names r) (action_names r) (before_ports r + k) x.name
    (get_left (parameter_names r ++ port_names r) (timer_names r) (before_ports r + k) x.name
    (right_at (parameter_names r) (port_names r) k x.name (mapped (λ x. x.name) (ports_of r) k x at))))

timer_name : (r : ReactorTree) (k : ℕ) (x : TimerTree) → slice_get (timers_of r) k ≡ Some x → slice_get (names_in r) (before_timers r + k) ≡ Some x.name
timer_name r k x at =
    get_left (((parameter_names r ++ port_names r) ++ timer_names r) ++ action_names r) (instance_names r) (before_timers r + k) x.name
    (get_left ((parameter_names r ++ port_names r) ++ timer_names r) (action_names r) (before_timers r + k) x.name
    (right_at (parameter_names r ++ port_names r) (timer_names r) k x.name (mapped (λ x. x.name) (timers_of r) k x at)))

action_name : (r : ReactorTree) (k : ℕ) (x : ActionTree) → slice_get (actions_of r) k ≡ Some x → slice_get (names_in r) (before_actions r + k) ≡ Some x.name
action_name r k x at =
    get_left (((parameter_names r ++ port_names r) ++ timer_names r) ++ action_names r) (instance_names r) (before_actions r + k) x.name
    (right_at ((parameter_names r ++ port_names r) ++ timer_names r) (action_names r) k x.name (mapped (λ x. x.name) (actions_of r) k x at))

timers_after : (r : ReactorTree) → before_timers r ≡ before_ports r + length (ports_of r)
timers_after r = length-append (parameter_names r) (port_names r) ∙ ap (λ n. before_ports r + n) (length-map (ports_of r) (λ x. x.name))

actions_after : (r : ReactorTree) → before_actions r ≡ before_timers r + length (timers_of r)
actions_after r = length-append (parameter_names r ++ port_names r) (timer_names r) ∙ ap (λ n. before_timers r + n) (length-map (timers_of r) (λ x. x.name))

-- ---- one thing at two numbers

module _ (tree : FileTree) (lawful : IsLawful tree) (all : List Located) (are : AreLocated tree all) where
  module _ {X Y : Type 0} (kind : ReactorTree → List X) (other : ReactorTree → List Y) (name : X → List ℕ) (called : Y → List ℕ) (before after : ReactorTree → ℕ) where
    record Meets (p q : ℕ) : Type 0 where
      first : Declared X
      second : Declared Y
      stands : Stands kind all p first
      stands_too : Stands other all q second
      instance : first.instance ≡ second.instance
      item : slice_get (other first.located.inside.reactor) second.place ≡ Some second.item
      places : before first.located.inside.reactor + first.place ≡ after first.located.inside.reactor + second.place

    meets : ((r : ReactorTree) (k : ℕ) (x : X) → slice_get (kind r) k ≡ Some x → slice_get (names_in r) (before r + k) ≡ Some (name x)) → ((r : ReactorTree) (k : ℕ) (y : Y) → slice_get (other r) k ≡ Some y → slice_get (names_in r) (after r + k) ≡ Some (called y)) → (t : Thing) (p q : ℕ) → slice_get (declared_things name (declared kind all)) p ≡ Some t → slice_get (declared_things called (declared other all)) q ≡ Some t → Meets p q
    meets name_at called_at t p q at_p at_q =
        let d = mapped_from (λ (d : Declared X). thing_at d.located.path (name d.item)) (declared kind all) p t at_p in
        let e = mapped_from (λ (d : Declared Y). thing_at d.located.path (called d.item)) (declared other all) q t at_q in
        let s = declared_from kind all p d.0 d.1 in
        let u = declared_from other all q e.0 e.1 in
        let same : thing_at d.0.located.path (name d.0.item) ≡ thing_at e.0.located.path (called e.0.item) = d.2 ∙ sym e.2 in
        let instance : d.0.instance ≡ e.0.instance = path_once tree all are d.0.instance e.0.instance d.0.located e.0.located s.instance u.instance (ap (λ t. t.path) same) in
        let located : d.0.located ≡ e.0.located = Some_same d.0.located e.0.located (sym s.instance ∙ ap (slice_get all) instance ∙ u.instance) in
        let r = d.0.located.inside.reactor in
        let file = in_file tree d.0.located.path d.0.located.inside (inside_at tree all are d.0.instance d.0.located s.instance) in
        let item : slice_get (other r) e.0.place ≡ Some e.0.item = subst (λ (l : Located). slice_get (other l.inside.reactor) e.0.place ≡ Some e.0.item) (sym located) u.place in
        record {
          first = d.0;
          second = e.0;
          stands = s;
          stands_too = u;
          instance = instance;
          item = item;
          places = once_at (names_in r) (name d.0.item) (before r + d.0.place) (after r + e.0.place) (names_once (reactors_of tree) file.0 r file.1 lawful.first) (name_at r d.0.place d.0.item s.place) (called_at r e.0.place e.0.item item ∙ ap Some (sym (ap (λ t. t.name) same)));
        }

  same_number : {X : Type 0} (kind : ReactorTree → List X) (p q : ℕ) (d e : Declared X) → Stands kind all p d → Stands kind all q e → d.instance ≡ e.instance → d.place ≡ e.place → p ≡ q
  same_number kind p q d e s u instance place = s.number ∙ ap (λ i. base kind all i + d.place) instance ∙ ap (λ k. base kind all e.instance + k) place ∙ sym u.number

  pub one_port : (t : Thing) (p q : ℕ) → slice_get (ports_in all) p ≡ Some t → slice_get (ports_in all) q ≡ Some t → p ≡ q
  one_port t p q a b =
      let m = meets ports_of ports_of (λ x. x.name) (λ x. x.name) before_ports before_ports port_name port_name t p q a b in
      let e : before_ports m.first.located.inside.reactor + m.first.place ≡ before_ports m.first.located.inside.reactor + m.second.place = m.places in
      same_number ports_of p q m.first m.second m.stands m.stands_too m.instance (omega arith)

  pub one_action : (t : Thing) (p q : ℕ) → slice_get (actions_in all) p ≡ Some t → slice_get (actions_in all) q ≡ Some t → p ≡ q
  one_action t p q a b =
      let m = meets actions_of actions_of (λ x. x.name) (λ x. x.name) before_actions before_actions action_name action_name t p q a b in
      let e : before_actions m.first.located.inside.reactor + m.first.place ≡ before_actions m.first.located.inside.reactor + m.second.place = m.places in
      same_number actions_of p q m.first m.second m.stands m.stands_too m.instance (omega arith)

  pub one_timer : (t : Thing) (p q : ℕ) → slice_get (timers_in all) p ≡ Some t → slice_get (timers_in all) q ≡ Some t → p ≡ q
  one_timer t p q a b =
      let m = meets timers_of timers_of (λ x. x.name) (λ x. x.name) before_timers before_timers timer_name timer_name t p q a b in
      let e : before_timers m.first.located.inside.reactor + m.first.place ≡ before_timers m.first.located.inside.reactor + m.second.place = m.places in
      same_number timers_of p q m.first m.second m.stands m.stands_too m.instance (omega arith)

  pub port_or_timer : (t : Thing) (p q : ℕ) → slice_get (ports_in all) p ≡ Some t → slice_get (timers_in all) q ≡ Some t → ⊥
  port_or_timer t p q a b =
      let m = meets ports_of timers_of (λ x. x.name) (λ x. x.name) before_ports before_timers port_name timer_name t p q a b in
      let r = m.first.located.inside.reactor in
      let e : before_ports r + m.first.place ≡ before_timers r + m.second.place = m.places in
      let f = timers_after r in
      let l = slice_get_within (ports_of r) m.first.place m.first.item m.stands.place in
      omega arith

  pub port_or_action : (t : Thing) (p q : ℕ) → slice_get (ports_in all) p ≡ Some t → slice_get (actions_in all) q ≡ Some t → ⊥
  port_or_action t p q a b =
      let m = meets ports_of actions_of (λ x. x.name) (λ x. x.name) before_ports before_actions port_name action_name t p q a b in
      let r = m.first.located.inside.reactor in
      let e : before_ports r + m.first.place ≡ before_actions r + m.second.place = m.places in
      let f = timers_after r in
      let g = actions_after r in
      let l = slice_get_within (ports_of r) m.first.place m.first.item m.stands.place in
      omega arith

  pub timer_or_action : (t : Thing) (p q : ℕ) → slice_get (timers_in all) p ≡ Some t → slice_get (actions_in all) q ≡ Some t → ⊥
  timer_or_action t p q a b =
      let m = meets timers_of actions_of (λ x. x.name) (λ x. x.name) before_timers before_actions timer_name action_name t p q a b in
      let r = m.first.located.inside.reactor in
      let e : before_timers r + m.first.place ≡ before_actions r + m.second.place = m.places in
      let g = actions_after r in
      let l = slice_get_within (timers_of r) m.first.place m.first.item m.stands.place in
      omega arith
