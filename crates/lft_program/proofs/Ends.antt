-- The ends of the connections of an instance: the ports that they are, by number and in the tree.
use Rattle.std.proofs.Common.{◌≡◌, ℕ, ◌+◌, List, [], ◌∷◌, ◌++◌, refl, sym, ap, ◌∙◌, subst, arith, Some, option_map, slice_get, map, position, bytes_eq}
use Rattle.std.{specs.Option.option_and_then, proofs.lemmas.Option.slice_get_within}
use Rattle.lft_tree.specs.Tree.{FileTree, ReactorTree, PortTree, InstanceTree, RefTree, reactors_of, ports_of, instances_of}
use Rattle.lft_resolve.specs.{declared.expansion.joins.End.{End, TheVariants.{Own, Inner}}, Expansion.Paths.along}
use Rattle.lft_resolve.specs.inner.{Expansion.{Children.child_of, Joins.{port_at, port_of, Declares, IsDeclaredPort}}, Sheets.{IsEnd, IsInner}}
use Rattle.lft_resolve.specs.Instances.{Inside, thing_at, stands_for, stands_inside, entered, main_instance, reactor_named, given_in}
use Rattle.lft_resolve.proofs.ExpansionLemmas.Orders.{along_kid}
use Rattle.lft_program.specs.{Located.{Located, ports_in}, inner.Nests.IsNest, declared.nesting.{nest.Nest.Nest, tables.Tables.Tables}}
use Rattle.lft_program.proofs.{Counting.base, Nested.{instance_of, number_of, child_at}, Ports.{number_at, thing_forth}, Singles.{place_forth, place_found}}
use Rattle.lft_program.proofs.Listing.{count_is}

-- the step that an end goes down from its instance
abbrev pub steps_to : End → List ℕ
steps_to (Own port) = []
steps_to (Inner place port) = place ∷ []

-- the place of the port in its instance
abbrev pub place_at : End → ℕ
place_at (Own port) = port
place_at (Inner place port) = port

-- the reactor of the port that a name stands for
abbrev pub holder : (rs : List ReactorTree) (r : ReactorTree) (ref : RefTree) (end : End) → IsEnd rs r ref end → ReactorTree
holder rs r ref (Own port) is = r
holder rs r ref (Inner place port) is = is.inner

module _ (tree : FileTree) (tables : Tables) (nest : Nest) (n : IsNest tree tables nest) where
  -- what an end is in instance k: a port of the owner, which is that instance or one that it contains
  pub record Standing (k : ℕ) (l : Located) (ref : RefTree) (end : End) (is : IsEnd (reactors_of tree) l.inside.reactor ref end) : Type 0 where
    pub owner : ℕ
    pub instance : Located
    pub port : PortTree
    pub is_owner : slice_get n.located owner ≡ Some instance
    pub is_path : instance.path ≡ l.path ++ steps_to end
    pub is_reactor : instance.inside.reactor ≡ holder (reactors_of tree) l.inside.reactor ref end is
    pub is_item : slice_get (ports_of instance.inside.reactor) (place_at end) ≡ Some port
    pub stands : stands_for l.inside.reactor l.path ref ≡ Some (thing_at instance.path port.name)
    pub is_number : port_of nest.ports.firsts.items nest.children k end ≡ Some (base ports_of n.located owner + place_at end)
    pub is_thing : slice_get (ports_in n.located) (base ports_of n.located owner + place_at end) ≡ Some (thing_at instance.path port.name)
    pub is_port : IsDeclaredPort nest.ports.counts.items nest.instances.items nest.children k end

  declares : (k port : ℕ) (l : Located) (x : PortTree) → slice_get n.located k ≡ Some l → slice_get (ports_of l.inside.reactor) port ≡ Some x → Declares nest.ports.counts.items nest.instances.items k port
  declares k port l x e f =
      let i = instance_of tree tables nest n k l e in
      let c = count_is ports_of (reactors_of tree) nest.ports.counts.items n.ports.counts i.0.reactor l.inside.reactor i.2 in
      let w = slice_get_within (ports_of l.inside.reactor) port x f in
      (i.0, i.1, omega arith)

  append_none : (p : List ℕ) → p ≡ p ++ []
  append_none [] = refl
  append_none (x ∷ p) = ap (λ l. x ∷ l) (append_none p)

  own : (k : ℕ) (l : Located) → slice_get n.located k ≡ Some l → (ref : RefTree) (port : ℕ) (is : IsEnd (reactors_of tree) l.inside.reactor ref (Own port)) → Standing k l ref (Own port) is
  own k l e ref port is =
      let x = place_forth (λ (p : PortTree). p.name) ref.head (ports_of l.inside.reactor) port is.1 in
      record {
        owner = k;
        instance = l;
        port = x.0;
        is_owner = e;
        is_path = append_none l.path;
        is_reactor = refl;
        is_item = x.1;
        stands = ap (stands_inside l.inside.reactor l.path ref.head) is.0 ∙ ap (λ h. Some (thing_at l.path h)) (sym x.2);
        is_number = number_at ports_of tree tables nest n 100000 nest.ports n.ports k port l e;
        is_thing = thing_forth ports_of (λ p. p.name) n.located k port l x.0 e x.1;
        is_port = declares k port l x.0 e x.1;
      }

  -- what is one step further
  step : (l : Located) (i : InstanceTree) (inner : ReactorTree) (place : ℕ) → slice_get (instances_of l.inside.reactor) place ≡ Some i → reactor_named (reactors_of tree) i.reactor ≡ Some inner → entered tree l.inside place ≡ Some (record { reactor = inner; values = map (given_in l.inside i.given) inner.parameters })
  step l i inner place e f =
      let R : InstanceTree → ReactorTree → Inside = λ j r. record { reactor = r; values = map (given_in l.inside j.given) r.parameters } in
      ap (option_and_then (λ j. option_map (R j) (reactor_named (reactors_of tree) j.reactor))) e ∙ ap (option_map (R i)) f

  pub record Below (l : Located) (place : ℕ) (inner : ReactorTree) : Type 0 where
    pub number : ℕ
    pub instance : Located
    pub is_instance : slice_get n.located number ≡ Some instance
    pub is_path : instance.path ≡ l.path ++ place ∷ []
    pub is_reactor : instance.inside.reactor ≡ inner

  below : (k : ℕ) (l : Located) → slice_get n.located k ≡ Some l → (i : InstanceTree) (inner : ReactorTree) (place : ℕ) → slice_get (instances_of l.inside.reactor) place ≡ Some i → reactor_named (reactors_of tree) i.reactor ≡ Some inner → Below l place inner
  below k l e i inner place f g =
      let y : Inside = record { reactor = inner; values = map (given_in l.inside i.given) inner.parameters } in
      let there : along (entered tree) (main_instance n.are_located.main) (l.path ++ place ∷ []) ≡ Some y = along_kid (entered tree) (main_instance n.are_located.main) l.inside y l.path place (n.are_located.inside k l e) (step l i inner place f g) in
      let m = number_of tree tables nest n (l.path ++ place ∷ []) y (n.are_located.main, n.are_located.is_main, there) in
      record { number = m.0; instance = m.1; is_instance = m.2; is_path = m.3; is_reactor = ap (λ x. x.reactor) m.4 }

  inner : (k : ℕ) (l : Located) → slice_get n.located k ≡ Some l → (ref : RefTree) (place port : ℕ) (w : IsInner (reactors_of tree) l.inside.reactor ref place port) → Standing k l ref (Inner place port) w
  inner k l e ref place port w =
      let b = below k l e w.i w.inner place w.is_instance w.is_inner in
      let x = place_forth (λ (p : PortTree). p.name) w.name (ports_of w.inner) port w.is_port in
      let item : slice_get (ports_of b.instance.inside.reactor) port ≡ Some x.0 = subst (λ r. slice_get (ports_of r) port ≡ Some x.0) (sym b.is_reactor) x.1 in
      let child : child_of nest.children k place ≡ Some b.number = child_at tree tables nest n k place b.number l b.instance e b.is_instance b.is_path in
      let at : position (λ (i : InstanceTree). bytes_eq ref.head i.name) (instances_of l.inside.reactor) ≡ Some place = place_found (λ (i : InstanceTree). i.name) ref.head (instances_of l.inside.reactor) ∙ w.is_place in
      record {
        owner = b.number;
        instance = b.instance;
        port = x.0;
        is_owner = b.is_instance;
        is_path = b.is_path;
        is_reactor = b.is_reactor;
        is_item = item;
        stands = ap (stands_inside l.inside.reactor l.path ref.head) w.is_name ∙ ap (option_map (λ j. thing_at (l.path ++ j ∷ []) w.name)) at ∙ ap (λ p. Some (thing_at p w.name)) (sym b.is_path) ∙ ap (λ h. Some (thing_at b.instance.path h)) (sym x.2);
        is_number = ap (option_and_then (λ m. port_at nest.ports.firsts.items m port)) child ∙ number_at ports_of tree tables nest n 100000 nest.ports n.ports b.number port b.instance b.is_instance;
        is_thing = thing_forth ports_of (λ p. p.name) n.located b.number port b.instance x.0 b.is_instance item;
        is_port = (b.number, child, declares b.number port b.instance x.0 b.is_instance item);
      }

  pub standing : (k : ℕ) (l : Located) → slice_get n.located k ≡ Some l → (ref : RefTree) (end : End) (is : IsEnd (reactors_of tree) l.inside.reactor ref end) → Standing k l ref end is
  standing k l e ref (Own port) is = own k l e ref port is
  standing k l e ref (Inner place port) is = inner k l e ref place port is
