-- The sources by number are the connections of the tree.
use Rattle.std.proofs.Common.{◌≡◌, ℕ, ◌+◌, List, [], refl, sym, ap, ◌∙◌, subst, Option, Some, option_map, slice_get, length, unwrap_or, Any}
use Rattle.std.proofs.lemmas.List.{length-map}
use Rattle.lft_lists.proofs.Mapped.{mapped}
use Rattle.lft_tree.specs.Tree.{FileTree, TimeTree, ConnectionTree, RefTree, reactors_of, ports_of, connections_of}
use Rattle.lft_tag.specs.declared.Source.{Source}
use Rattle.lft_resolve.specs.declared.expansion.{joins.{Join.Join, Connections.Connections, Site.Site}, walk.Instance.Instance}
use Rattle.lft_resolve.specs.inner.{Expansion.{Joins.{AreSources, Joins, JoinPorts, LeadApart, HasJoin}, Values.clock_in}, Sheets.{IsJoin, Single, singles_of}}
use Rattle.lft_resolve.specs.{Causes.{HasLongTime, IsLongTime}, Instances.{Inside, Thing, thing_at, Connects, stands_for, time_in}}
use Rattle.lft_program.specs.{Located.{Located, declared, ports_in}, inner.{Nests.IsNest, Tables.{AreTables, IsLawful}, Ways.IsJoined}}
use Rattle.lft_program.specs.declared.nesting.{nest.Nest.Nest, tables.Tables.Tables}
use Rattle.lft_program.proofs.{Checked.ports_once, Counting.base, Delays.{delay_is, long_delay}, Ends.{Standing, standing, place_at}}
use Rattle.lft_program.proofs.{Joints.{Joint, joint, has_join, join_ports, lead_apart}, Nested.{instance_of, inside_of, number_of}, Listing.declared_long}
use Rattle.lft_program.proofs.{Ports.distinct, Singles.{IsOf, single_back, single_forth}}

-- no reactor has a time past the greatest
abbrev pub NoLongTime : FileTree → Type 0
NoLongTime tree = Any HasLongTime (reactors_of tree) → ⊥

-- the ports by number are these things, and each has as its source what a connection joins to it; the delays agree where no time is too long
pub record TreeSources (tree : FileTree) (ports : List Thing) (sources : List (Option Source)) : Type 0 where
  pub as_long : length ports ≡ length sources
  pub joined : (p : ℕ) (t : Thing) (s : Source) → slice_get ports p ≡ Some t → slice_get sources p ≡ Some (Some s) → (from : Thing) × (delay : Option ℕ) × (slice_get ports s.port ≡ Some from) × Connects tree from t delay × (NoLongTime tree → delay ≡ s.delay)
  pub complete : (from t : Thing) (delay : Option ℕ) → Connects tree from t delay → (p : ℕ) × (s : Source) × (slice_get ports p ≡ Some t) × (slice_get sources p ≡ Some (Some s)) × (slice_get ports s.port ≡ Some from) × (NoLongTime tree → delay ≡ s.delay)
  pub distinct : (p q : ℕ) (t : Thing) → slice_get ports p ≡ Some t → slice_get ports q ≡ Some t → p ≡ q

-- a single connection is one of a connection
connects : (tree : FileTree) (instances : List Instance) (x : Site) (from to : Thing) (delay : Option ℕ) → IsJoined tree instances x from to delay → Connects tree from to delay
connects tree instances x from to delay w =
    let of = single_back w.inside.reactor x.place w.single w.is_single in
    record {
      path = w.path;
      inside = w.inside;
      is_inside = w.is_inside;
      number = of.number;
      connection = of.connection;
      is_connection = of.is_connection;
      place = of.place;
      from = w.single.from;
      to = w.single.to;
      is_from = of.is_from;
      is_to = of.is_to;
      from_source = w.from_source;
      to_destination = w.to_destination;
      is_delay = ap (option_map (time_in w.inside)) of.is_delay ∙ w.is_delay;
    }

module _ (tree : FileTree) (tables : Tables) (nest : Nest) (made : AreTables tree tables) (lawful : IsLawful tree) (n : IsNest tree tables nest) (sources : List (Option Source)) (w : AreSources nest.ports.counts.items tables.connections.items nest.instances.items nest.ports.firsts.items nest.children nest.values sources) where
  -- the clock of a delay is its time
  delays : NoLongTime tree → (k : ℕ) (l : Located) → slice_get n.located k ≡ Some l → (number : ℕ) (c : ConnectionTree) → slice_get (connections_of l.inside.reactor) number ≡ Some c → (s : Single) → c.delay ≡ s.delay → (join : Join) → IsJoin (reactors_of tree) l.inside.reactor s join → option_map (time_in l.inside) c.delay ≡ option_map (clock_in (unwrap_or (slice_get nest.values k) [])) join.delay
  delays short k l e number c f s same join is = sym (ap (λ v. option_map (clock_in v) join.delay) values ∙ delay_is l.inside s.delay join.delay is.delay (λ t g long. short (no_long t g long)) ∙ ap (option_map (time_in l.inside)) (sym same))
    where
      values : unwrap_or (slice_get nest.values k) [] ≡ l.inside.values
      values = ap (λ v. unwrap_or (slice_get v k) []) (n.values short) ∙ ap (λ o. unwrap_or o []) (mapped (λ x. x.inside.values) n.located k l e)

      no_long : (t : TimeTree) → s.delay ≡ Some t → IsLongTime t → Any HasLongTime (reactors_of tree)
      no_long t g long = let r = instance_of tree tables nest n k l e in long_delay tree r.0.reactor l.inside.reactor r.2 number c t f (same ∙ g) long

  -- a join by number is a single connection of the tree
  pub joined_by : (b : ℕ) (t : Thing) (s : Source) → slice_get (ports_in n.located) b ≡ Some t → (j : Joins tables.connections.items nest.instances.items nest.ports.firsts.items nest.children nest.values s.port b s.delay) → (from : Thing) × (delay : Option ℕ) × (slice_get (ports_in n.located) s.port ≡ Some from) × IsJoined tree nest.instances.items (record { number = j.number; place = j.place }) from t delay × (NoLongTime tree → delay ≡ s.delay)
  joined_by b t s e j = (thing_at end.instance.path end.port.name, option_map (time_in one.instance.inside) one.single.delay, there, joined, λ short. ap (option_map (time_in one.instance.inside)) (sym of.is_delay) ∙ delays short j.number one.instance one.is_instance of.number of.connection of.is_connection one.single of.is_delay j.join one.is_join ∙ j.is_delay)
    where
      one : Joint tree tables nest made n j.number j.place j.join
      one = joint tree tables nest made n j.number j.place j.join j.has_join

      of : IsOf one.instance.inside.reactor one.single
      of = single_back one.instance.inside.reactor j.place one.single one.is_single

      end : Standing tree tables nest n j.number one.instance one.single.from j.join.from one.is_join.from
      end = standing tree tables nest n j.number one.instance one.is_instance one.single.from j.join.from one.is_join.from

      end2 : Standing tree tables nest n j.number one.instance one.single.to j.join.to one.is_join.to
      end2 = standing tree tables nest n j.number one.instance one.is_instance one.single.to j.join.to one.is_join.to

      there : slice_get (ports_in n.located) s.port ≡ Some (thing_at end.instance.path end.port.name)
      there = let q : Some (base ports_of n.located end.owner + place_at j.join.from) ≡ Some s.port = sym end.is_number ∙ j.from in let z : base ports_of n.located end.owner + place_at j.join.from ≡ s.port = cc in subst (λ p. slice_get (ports_in n.located) p ≡ Some (thing_at end.instance.path end.port.name)) z end.is_thing

      destination : Some (thing_at end2.instance.path end2.port.name) ≡ Some t
      destination = let q : Some (base ports_of n.located end2.owner + place_at j.join.to) ≡ Some b = sym end2.is_number ∙ j.to in let z : base ports_of n.located end2.owner + place_at j.join.to ≡ b = cc in sym end2.is_thing ∙ ap (slice_get (ports_in n.located)) z ∙ e

      made_so : (i : Instance) × (slice_get nest.instances.items j.number ≡ Some i) × (slice_get (reactors_of tree) i.reactor ≡ Some one.instance.inside.reactor)
      made_so = instance_of tree tables nest n j.number one.instance one.is_instance

      joined : IsJoined tree nest.instances.items (record { number = j.number; place = j.place }) (thing_at end.instance.path end.port.name) t (option_map (time_in one.instance.inside) one.single.delay)
      joined = record {
        path = one.instance.path;
        inside = one.instance.inside;
        is_inside = inside_of tree tables nest n j.number one.instance one.is_instance;
        instance = made_so.0;
        is_instance = made_so.1;
        is_reactor = made_so.2;
        single = one.single;
        is_single = one.is_single;
        from_source = end.stands;
        to_destination = end2.stands ∙ destination;
        is_delay = refl;
      }

  -- a source by number is a connection of the tree
  joined : (b : ℕ) (t : Thing) (s : Source) → slice_get (ports_in n.located) b ≡ Some t → slice_get sources b ≡ Some (Some s) → (from : Thing) × (delay : Option ℕ) × (slice_get (ports_in n.located) s.port ≡ Some from) × Connects tree from t delay × (NoLongTime tree → delay ≡ s.delay)
  joined b t s e f = let r = joined_by b t s e ((w.each b s).0 f) in (r.0, r.1, r.2, connects tree nest.instances.items _ r.0 t r.1 r.3, r.4)

  -- and back, in the instance of a number
  back : (k : ℕ) (l : Located) → slice_get n.located k ≡ Some l → (number : ℕ) (c : ConnectionTree) (place : ℕ) (from to : RefTree) (a t : Thing) → slice_get (connections_of l.inside.reactor) number ≡ Some c → slice_get c.sources place ≡ Some from → slice_get c.destinations place ≡ Some to → stands_for l.inside.reactor l.path from ≡ Some a → stands_for l.inside.reactor l.path to ≡ Some t → (p : ℕ) × (s : Source) × (slice_get (ports_in n.located) p ≡ Some t) × (slice_get sources p ≡ Some (Some s)) × (slice_get (ports_in n.located) s.port ≡ Some a) × (NoLongTime tree → option_map (time_in l.inside) c.delay ≡ s.delay)
  back k l e number c place from to a t is_c is_from is_to stands_a stands_t = (base ports_of n.located end2.owner + place_at j.0.to, source, end2.is_thing ∙ sym end2.stands ∙ stands_t, (w.each (base ports_of n.located end2.owner + place_at j.0.to) source).1 joins, end.is_thing ∙ sym end.stands ∙ stands_a, λ short. delays short k l e number c is_c one refl j.0 j.2)
    where
      one : Single
      one = record { from = from; to = to; delay = c.delay }

      at : (i : ℕ) × (slice_get (singles_of l.inside.reactor) i ≡ Some one)
      at = single_forth l.inside.reactor number c place from to is_c is_from is_to

      j : (join : Join) × HasJoin tables.connections.items nest.instances.items k at.0 join × IsJoin (reactors_of tree) l.inside.reactor one join
      j = has_join tree tables nest made n k l e at.0 one at.1

      end : Standing tree tables nest n k l from j.0.from j.2.from
      end = standing tree tables nest n k l e from j.0.from j.2.from

      end2 : Standing tree tables nest n k l to j.0.to j.2.to
      end2 = standing tree tables nest n k l e to j.0.to j.2.to

      source : Source
      source = record { port = base ports_of n.located end.owner + place_at j.0.from; delay = option_map (clock_in (unwrap_or (slice_get nest.values k) [])) j.0.delay }

      joins : Joins tables.connections.items nest.instances.items nest.ports.firsts.items nest.children nest.values source.port (base ports_of n.located end2.owner + place_at j.0.to) source.delay
      joins = record { number = k; place = at.0; join = j.0; has_join = j.1; from = end.is_number; to = end2.is_number; is_delay = refl }

  -- a connection of the tree is a source by number
  complete : (from t : Thing) (delay : Option ℕ) → Connects tree from t delay → (p : ℕ) × (s : Source) × (slice_get (ports_in n.located) p ≡ Some t) × (slice_get sources p ≡ Some (Some s)) × (slice_get (ports_in n.located) s.port ≡ Some from) × (NoLongTime tree → delay ≡ s.delay)
  complete a t delay c = by (number_of tree tables nest n c.path c.inside c.is_inside)
    where
      by : (k : ℕ) × (l : Located) × (slice_get n.located k ≡ Some l) × (l.path ≡ c.path) × (l.inside ≡ c.inside) → (p : ℕ) × (s : Source) × (slice_get (ports_in n.located) p ≡ Some t) × (slice_get sources p ≡ Some (Some s)) × (slice_get (ports_in n.located) s.port ≡ Some a) × (NoLongTime tree → delay ≡ s.delay)
      by (k, l, e, path, inside) =
          let reactor : l.inside.reactor ≡ c.inside.reactor = ap (λ (x : Inside). x.reactor) inside in
          let stands : (ref : RefTree) → stands_for l.inside.reactor l.path ref ≡ stands_for c.inside.reactor c.path ref = λ ref. ap (λ r. stands_for r l.path ref) reactor ∙ ap (λ p. stands_for c.inside.reactor p ref) path in
          let r = back k l e c.number c.connection c.place c.from c.to a t (ap (λ r. slice_get (connections_of r) c.number) reactor ∙ c.is_connection) c.is_from c.is_to (stands c.from ∙ c.from_source) (stands c.to ∙ c.to_destination) in
          (r.0, r.1, r.2, r.3, r.4, λ short. sym c.is_delay ∙ ap (λ x. option_map (time_in x) c.connection.delay) (sym inside) ∙ r.5 short)

  pub tree_sources : TreeSources tree (ports_in n.located) sources
  tree_sources = record {
    as_long = length-map (declared ports_of n.located) _ ∙ declared_long ports_of (reactors_of tree) nest.ports.counts.items n.ports.counts n.located nest.instances.items n.instances ∙ sym w.as_long;
    joined = joined;
    complete = complete;
    distinct = distinct ports_of (λ p. p.name) tree tables nest n (λ k i j l x y e f g same. let r = instance_of tree tables nest n k l e in ports_once tree lawful r.0.reactor l.inside.reactor r.2 i j x y f g same);
  }

-- the same of lists that are read from the tables and the nest
module _ {tree : FileTree} {tables : Tables} {nest : Nest} (made : AreTables tree tables) (n : IsNest tree tables nest) (lawful : IsLawful tree) {counts : List ℕ} {table : List Connections} {instances : List Instance} {firsts : List ℕ} (as_counts : counts ≡ nest.ports.counts.items) (as_table : table ≡ tables.connections.items) (as_instances : instances ≡ nest.instances.items) (as_firsts : firsts ≡ nest.ports.firsts.items) where
  pub ports_read : JoinPorts counts table instances nest.children
  ports_read = rw (as_counts, as_table, as_instances) (join_ports tree tables nest made n)

  pub apart_read : LeadApart table instances firsts nest.children
  apart_read = rw (as_table, as_instances, as_firsts) (lead_apart tree tables nest made n lawful)

  pub sources_read : (sources : List (Option Source)) → AreSources counts table instances firsts nest.children nest.values sources → (m : IsNest tree tables nest) → TreeSources tree (ports_in m.located) sources
  sources_read sources w m = tree_sources tree tables nest made lawful m sources (rw (← as_counts, ← as_table, ← as_instances, ← as_firsts) w)
