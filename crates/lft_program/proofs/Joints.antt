-- The joins of instances: both ends of each are ports, and no two lead into one.
use Rattle.std.proofs.Common.{◌≡◌, ℕ, ◌+◌, ◌<◌, ◌≤◌, ◌⊎◌, inl, inr, Bool, true, false, List, [], ◌∷◌, ◌++◌, refl, sym, ap, ◌∙◌, subst, arith, Some, slice_get}
use Rattle.std.{specs.Option.option_map_or, proofs.lemmas.Bool.cases_lt}
use Rattle.lft_lists.proofs.Places.{push_apart}
use Rattle.lft_tree.specs.Tree.{FileTree, ReactorTree, PortTree, InstanceTree, RefTree, reactors_of, ports_of, instances_of}
use Rattle.lft_resolve.specs.declared.expansion.{walk.Instance.Instance, joins.{End.{End, TheVariants.{Own, Inner}}, Join.Join, Connections.Connections}}
use Rattle.lft_resolve.specs.inner.{Expansion.Joins.{HasJoin, JoinPorts, LeadApart}, Sheets.{IsConnections, IsEnd, IsJoin, Single, singles_of}}
use Rattle.lft_resolve.specs.{Causes.IsTwice, Instances.{thing_at, reactor_named}, Kinds.destinations_in}
use Rattle.lft_resolve.proofs.{Written.{own_written, inner_written}, Directed.AllZip-to, Files.AllZip-from}
use Rattle.lft_program.specs.{Located.{Located, ports_in}, inner.{Nests.IsNest, Tables.{AreTables, IsLawful}}}
use Rattle.lft_program.specs.declared.nesting.{nest.Nest.Nest, tables.Tables.Tables}
use Rattle.lft_program.proofs.{Checked.{later_parts, ports_once, even, destinations_once}, Counting.base, Ends.{Standing, standing, steps_to, place_at, holder}}
use Rattle.lft_program.proofs.{Nested.{located_of, instance_of, one_number}, Singles.{IsOf, single_back, to_at, place_forth}}

-- whether an end as a destination is an input
abbrev pub goes_in : End → Bool
goes_in (Own port) = false
goes_in (Inner place port) = true

no_step : (p q : List ℕ) → p ++ [] ≡ q ++ [] → p ≡ q
no_step [] [] e = refl
no_step [] (y ∷ q) e = absurd (cc)
no_step (x ∷ p) [] e = absurd (cc)
no_step (x ∷ p) (y ∷ q) e = let a : x ≡ y = cc in let b : p ++ [] ≡ q ++ [] = cc in ap (λ z. z ∷ p) a ∙ ap (λ z. y ∷ z) (no_step p q b)

-- destinations that are one port are one end of one instance
same_end : (d e : End) (p q : List ℕ) → goes_in d ≡ goes_in e → p ++ steps_to d ≡ q ++ steps_to e → place_at d ≡ place_at e → (p ≡ q) × (d ≡ e)
same_end (Own a) (Own b) p q f g h = (no_step p q g, ap (λ x. Own x) h)
same_end (Own a) (Inner k b) p q f g h = absurd (cc)
same_end (Inner j a) (Own b) p q f g h = absurd (cc)
same_end (Inner j a) (Inner k b) p q f g h = let r = push_apart p q j k g in (r.0, ap (λ x. Inner x a) r.1 ∙ ap (λ x. Inner k x) h)

-- names that stand for one end are one name
one_name : (rs : List ReactorTree) (r : ReactorTree) (d e : RefTree) (end : End) → IsEnd rs r d end → IsEnd rs r e end → (d.head ≡ e.head) × (d.port ≡ e.port)
one_name rs r d e (Own port) (plain, at) (plain2, at2) =
    let x = place_forth (λ (p : PortTree). p.name) d.head (ports_of r) port at in
    let y = place_forth (λ (p : PortTree). p.name) e.head (ports_of r) port at2 in
    let same : x.0 ≡ y.0 = (let z : Some x.0 ≡ Some y.0 = sym x.1 ∙ y.1 in cc) in
    (sym x.2 ∙ ap (λ (p : PortTree). p.name) same ∙ y.2, plain ∙ sym plain2)
one_name rs r d e (Inner place port) v w =
    let i = place_forth (λ (i : InstanceTree). i.name) d.head (instances_of r) place v.is_place in
    let j = place_forth (λ (i : InstanceTree). i.name) e.head (instances_of r) place w.is_place in
    let same : i.0 ≡ j.0 = (let z : Some i.0 ≡ Some j.0 = sym i.1 ∙ j.1 in cc) in
    let instance : v.i ≡ w.i = (let z : Some v.i ≡ Some w.i = sym v.is_instance ∙ w.is_instance in cc) in
    let inner : v.inner ≡ w.inner = (let z : Some v.inner ≡ Some w.inner = sym v.is_inner ∙ ap (λ (x : InstanceTree). reactor_named rs x.reactor) instance ∙ w.is_inner in cc) in
    let x = place_forth (λ (p : PortTree). p.name) v.name (ports_of v.inner) port v.is_port in
    let y = place_forth (λ (p : PortTree). p.name) w.name (ports_of w.inner) port w.is_port in
    let there : slice_get (ports_of v.inner) port ≡ Some y.0 = subst (λ q. slice_get (ports_of q) port ≡ Some y.0) (sym inner) y.1 in
    let item : x.0 ≡ y.0 = (let z : Some x.0 ≡ Some y.0 = sym x.1 ∙ there in cc) in
    (sym i.2 ∙ ap (λ (x : InstanceTree). x.name) same ∙ j.2, v.is_name ∙ ap (λ t. Some t) (sym x.2 ∙ ap (λ (p : PortTree). p.name) item ∙ y.2) ∙ sym w.is_name)

ref_of : (d e : RefTree) → d.head ≡ e.head → d.port ≡ e.port → d ≡ e
ref_of d e p q = let r : record { head = d.head; port = d.port } ≡ record { head = e.head; port = e.port } = cc in r

module _ (tree : FileTree) (tables : Tables) (nest : Nest) (made : AreTables tree tables) (n : IsNest tree tables nest) where
  -- a join of an instance, with the single connection that it is
  pub record Joint (k place : ℕ) (join : Join) : Type 0 where
    pub instance : Located
    pub single : Single
    pub is_instance : slice_get n.located k ≡ Some instance
    pub is_single : slice_get (singles_of instance.inside.reactor) place ≡ Some single
    pub is_join : IsJoin (reactors_of tree) instance.inside.reactor single join

  pub joint : (k place : ℕ) (join : Join) → HasJoin tables.connections.items nest.instances.items k place join → Joint k place join
  joint k place join h =
      let l = located_of tree tables nest n k h.0 h.1 in
      let c = AllZip-to (IsConnections (reactors_of tree)) (reactors_of tree) tables.connections.items made.connections h.0.reactor l.0.inside.reactor l.2 in
      let e : slice_get c.0.joins.items place ≡ Some join = sym (ap (λ o. slice_get (option_map_or (λ (d : Connections). d.joins.items) o []) place) c.1) ∙ h.2 in
      let s = AllZip-from (IsJoin (reactors_of tree) l.0.inside.reactor) (singles_of l.0.inside.reactor) c.0.joins.items c.2 place join e in
      record { instance = l.0; single = s.0; is_instance = l.1; is_single = s.1; is_join = s.2 }

  -- and back
  pub has_join : (k : ℕ) (l : Located) → slice_get n.located k ≡ Some l → (place : ℕ) (s : Single) → slice_get (singles_of l.inside.reactor) place ≡ Some s → (join : Join) × HasJoin tables.connections.items nest.instances.items k place join × IsJoin (reactors_of tree) l.inside.reactor s join
  has_join k l e place s f =
      let i = instance_of tree tables nest n k l e in
      let c = AllZip-to (IsConnections (reactors_of tree)) (reactors_of tree) tables.connections.items made.connections i.0.reactor l.inside.reactor i.2 in
      let j = AllZip-to (IsJoin (reactors_of tree) l.inside.reactor) (singles_of l.inside.reactor) c.0.joins.items c.2 place s f in
      (j.0, (i.0, i.1, ap (λ o. slice_get (option_map_or (λ (d : Connections). d.joins.items) o []) place) c.1 ∙ j.1), j.2)

  pub join_ports : JoinPorts nest.ports.counts.items tables.connections.items nest.instances.items nest.children
  join_ports k place join h =
      let j = joint k place join h in
      ((standing tree tables nest n k j.instance j.is_instance j.single.from join.from j.is_join.from).is_port, (standing tree tables nest n k j.instance j.is_instance j.single.to join.to j.is_join.to).is_port)

  module _ (lawful : IsLawful tree) where
    -- an own port that is a destination is an output, and one of a contained instance is an input
    direction : (k : ℕ) (l : Located) → slice_get n.located k ≡ Some l → (place : ℕ) (s : Single) → slice_get (singles_of l.inside.reactor) place ≡ Some s → (end : End) (is : IsEnd (reactors_of tree) l.inside.reactor s.to end) (x : PortTree) → slice_get (ports_of (holder (reactors_of tree) l.inside.reactor s.to end is)) (place_at end) ≡ Some x → x.is_input ≡ goes_in end
    direction k l e place s f end is x g = by end is g
      where
        c : IsOf l.inside.reactor s
        c = single_back l.inside.reactor place s f

        i : (i : Instance) × (slice_get nest.instances.items k ≡ Some i) × (slice_get (reactors_of tree) i.reactor ≡ Some l.inside.reactor)
        i = instance_of tree tables nest n k l e

        by : (end : End) (is : IsEnd (reactors_of tree) l.inside.reactor s.to end) → slice_get (ports_of (holder (reactors_of tree) l.inside.reactor s.to end is)) (place_at end) ≡ Some x → x.is_input ≡ goes_in end
        by (Own port) is g = own_written (reactors_of tree) (later_parts (reactors_of tree) lawful.later).0 (later_parts (reactors_of tree) lawful.later).1 i.0.reactor l.inside.reactor i.2 c.number c.place c.connection s.to c.is_connection c.is_to port x is.0 is.1 g
        by (Inner place port) is g = inner_written (reactors_of tree) (later_parts (reactors_of tree) lawful.later).0 (later_parts (reactors_of tree) lawful.later).1 i.0.reactor l.inside.reactor i.2 c.number c.place c.connection s.to c.is_connection c.is_to place port is x g

    -- two ports of one number are one
    pub record Same (a b : Located) (x y : PortTree) (i j : ℕ) : Type 0 where
      pub instances : a ≡ b
      pub ports : x ≡ y
      pub places : i ≡ j

    same_port : (o u : ℕ) (a b : Located) (x y : PortTree) (i j : ℕ) → slice_get n.located o ≡ Some a → slice_get n.located u ≡ Some b → slice_get (ports_of a.inside.reactor) i ≡ Some x → slice_get (ports_of b.inside.reactor) j ≡ Some y → thing_at a.path x.name ≡ thing_at b.path y.name → Same a b x y i j
    same_port o u a b x y i j e f g h same =
        let number : o ≡ u = one_number tree tables nest n o u a b e f (ap (λ t. t.path) same) in
        let there : slice_get n.located o ≡ Some b = subst (λ k. slice_get n.located k ≡ Some b) (sym number) f in
        let instance : a ≡ b = (let z : Some a ≡ Some b = sym e ∙ there in cc) in
        let item : slice_get (ports_of a.inside.reactor) j ≡ Some y = subst (λ l. slice_get (ports_of l.inside.reactor) j ≡ Some y) (sym instance) h in
        let r = instance_of tree tables nest n o a e in
        let place : i ≡ j = ports_once tree lawful r.0.reactor a.inside.reactor r.2 i j x y g item (ap (λ t. t.name) same) in
        let both : Some x ≡ Some y = sym g ∙ ap (slice_get (ports_of a.inside.reactor)) place ∙ item in
        record { instances = instance; ports = (let z : x ≡ y = cc in z); places = place }

    -- destinations of one reactor that are one name stand at one place
    one_place : (k : ℕ) (l : Located) → slice_get n.located k ≡ Some l → (i j : ℕ) (s t : Single) → slice_get (singles_of l.inside.reactor) i ≡ Some s → slice_get (singles_of l.inside.reactor) j ≡ Some t → s.to ≡ t.to → i ≡ j
    one_place k l e i j s t f g same = by (cases_lt i j) (cases_lt j i)
      where
        r : (m : Instance) × (slice_get nest.instances.items k ≡ Some m) × (slice_get (reactors_of tree) m.reactor ≡ Some l.inside.reactor)
        r = instance_of tree tables nest n k l e

        first : slice_get (destinations_in l.inside.reactor) i ≡ Some s.to
        first = to_at l.inside.reactor (even tree lawful r.0.reactor l.inside.reactor r.2) i s f

        second : slice_get (destinations_in l.inside.reactor) j ≡ Some s.to
        second = to_at l.inside.reactor (even tree lawful r.0.reactor l.inside.reactor r.2) j t g ∙ ap Some (sym same)

        once : IsTwice (destinations_in l.inside.reactor) → ⊥
        once = destinations_once tree lawful r.0.reactor l.inside.reactor r.2

        by : (i < j) ⊎ (j ≤ i) → (j < i) ⊎ (i ≤ j) → i ≡ j
        by (inl a) b = absurd (once (i, j, s.to, a, first, second))
        by (inr a) (inl b) = absurd (once (j, i, s.to, b, second, first))
        by (inr a) (inr b) = omega arith

    pub lead_apart : LeadApart tables.connections.items nest.instances.items nest.ports.firsts.items nest.children
    lead_apart k m i j b (join, h, into) (join2, h2, into2) = (number, place)
      where
        one : Joint k i join
        one = joint k i join h

        two : Joint m j join2
        two = joint m j join2 h2

        end : Standing tree tables nest n k one.instance one.single.to join.to one.is_join.to
        end = standing tree tables nest n k one.instance one.is_instance one.single.to join.to one.is_join.to

        end2 : Standing tree tables nest n m two.instance two.single.to join2.to two.is_join.to
        end2 = standing tree tables nest n m two.instance two.is_instance two.single.to join2.to two.is_join.to

        thing : slice_get (ports_in n.located) b ≡ Some (thing_at end.instance.path end.port.name)
        thing = let e : Some (base ports_of n.located end.owner + place_at join.to) ≡ Some b = sym end.is_number ∙ into in let f : base ports_of n.located end.owner + place_at join.to ≡ b = cc in subst (λ p. slice_get (ports_in n.located) p ≡ Some (thing_at end.instance.path end.port.name)) f end.is_thing

        thing2 : slice_get (ports_in n.located) b ≡ Some (thing_at end2.instance.path end2.port.name)
        thing2 = let e : Some (base ports_of n.located end2.owner + place_at join2.to) ≡ Some b = sym end2.is_number ∙ into2 in let f : base ports_of n.located end2.owner + place_at join2.to ≡ b = cc in subst (λ p. slice_get (ports_in n.located) p ≡ Some (thing_at end2.instance.path end2.port.name)) f end2.is_thing

        things : thing_at end.instance.path end.port.name ≡ thing_at end2.instance.path end2.port.name
        things = let z : Some (thing_at end.instance.path end.port.name) ≡ Some (thing_at end2.instance.path end2.port.name) = sym thing ∙ thing2 in cc

        same : Same end.instance end2.instance end.port end2.port (place_at join.to) (place_at join2.to)
        same = same_port end.owner end2.owner end.instance end2.instance end.port end2.port (place_at join.to) (place_at join2.to) end.is_owner end2.is_owner end.is_item end2.is_item things

        goes : end.port.is_input ≡ goes_in join.to
        goes = direction k one.instance one.is_instance i one.single one.is_single join.to one.is_join.to end.port (subst (λ r. slice_get (ports_of r) (place_at join.to) ≡ Some end.port) end.is_reactor end.is_item)

        goes2 : end2.port.is_input ≡ goes_in join2.to
        goes2 = direction m two.instance two.is_instance j two.single two.is_single join2.to two.is_join.to end2.port (subst (λ r. slice_get (ports_of r) (place_at join2.to) ≡ Some end2.port) end2.is_reactor end2.is_item)

        ends : (one.instance.path ≡ two.instance.path) × (join.to ≡ join2.to)
        ends = same_end join.to join2.to one.instance.path two.instance.path (sym goes ∙ ap (λ (p : PortTree). p.is_input) same.ports ∙ goes2) (sym end.is_path ∙ ap (λ (l : Located). l.path) same.instances ∙ end2.is_path) same.places

        number : k ≡ m
        number = one_number tree tables nest n k m one.instance two.instance one.is_instance two.is_instance ends.0

        instance : one.instance ≡ two.instance
        instance = let z : Some one.instance ≡ Some two.instance = sym one.is_instance ∙ ap (slice_get n.located) number ∙ two.is_instance in cc

        to : IsEnd (reactors_of tree) two.instance.inside.reactor one.single.to join2.to
        to = subst (λ (l : Located). IsEnd (reactors_of tree) l.inside.reactor one.single.to join2.to) instance (subst (λ e. IsEnd (reactors_of tree) one.instance.inside.reactor one.single.to e) ends.1 one.is_join.to)

        names : (one.single.to.head ≡ two.single.to.head) × (one.single.to.port ≡ two.single.to.port)
        names = one_name (reactors_of tree) two.instance.inside.reactor one.single.to two.single.to join2.to to two.is_join.to

        place : i ≡ j
        place = one_place m two.instance two.is_instance i j one.single two.single (subst (λ (l : Located). slice_get (singles_of l.inside.reactor) i ≡ Some one.single) instance one.is_single) two.is_single (ref_of one.single.to two.single.to names.0 names.1)
