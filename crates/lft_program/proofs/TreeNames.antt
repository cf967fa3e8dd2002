-- The things of a tree's instances are those of one program, and their full names are those of the tree.
use Rattle.std.proofs.Common.{◌≡◌, ◌≢◌, ℕ, ◌+◌, ◌<◌, List, ◌++◌, map, drop, length, slice_get, Some, Result, Ok, Err, IfOk, codes, refl, sym, ap, subst, ◌∙◌, arith, length-drop, append-nil}
use Rattle.std.{specs.{Fmt.decimal, List.AllZip}, proofs.lemmas.{List.length-map, Option.slice_get_within}}
use Rattle.lft_lists.proofs.{Places.Some_same, Mapped.{mapped, mapped_from}, Zips.long as zip_long}
use Rattle.lft_tree.specs.{Identifiers.{IsName, HasIdentifiers}, Tree.{FileTree, ReactorTree, reactors_of, ports_of, actions_of, timers_of, reactions_of}}
use Rattle.lft_resolve.{specs.{Kinds.names_in, Causes.IsTwice}, proofs.{Directed.AllZip-to, Effects.names_once}}
use Rattle.lft_program.specs.Located.{Located, declared, declared_things}
use Rattle.lft_program.specs.inner.{Nests.IsNest, Tables.IsLawful, FullNames.{IsDotted, IsHashed, AreFullNames, AreNested, AreOfProgram, AreFew, members}}
use Rattle.lft_program.specs.inner.TreeLists.{AreLists, IsPlacedAt, SaysDeclaration}
use Rattle.lft_program.specs.declared.{nesting.{nest.Nest.Nest, tables.Tables.Tables}, naming.{OwnName.OwnName, PlacedReaction.PlacedReaction}}
use Rattle.lft_program.specs.declared.tree_lists.Lists.{Lists}
use Rattle.lft_program.specs.Flattening.{name_of_path, name_of_thing, name_of_reaction, names_of}
use Rattle.lft_program.proofs.{Listing.declared_from, Zipping.zip_of, InnerNames.{first, inner_at, inner_sites, long, long_inner, path_last}}
use Rattle.lft_program.proofs.KindNames.{reactor_at, sites, few_told, placed_within, placed_once, few_placed}
use Rattle.lft_program.proofs.NamesOnce.{port_names, timer_names, action_names, instance_names, ports_once, timers_once, actions_once, instances_once, ports_timers, ports_actions, ports_instances, timers_actions, timers_instances, actions_instances, ports_named, timers_named, actions_named, instances_named}
use Rattle.lft_program.proofs.Sites.{Once, AreApart, AreSites, Each, all_of, pairs_of, each_append, once_append, apart_append, append_apart, once_of, apart_of, names_of_sites, within_sites}
use Rattle.lft_ir.{specs.Names.ThingNames, proofs.Ranges.slice_get-drop}

module _ (tree : FileTree) (tables : Tables) (nest : Nest) (is : IsNest tree tables nest)
    (lists : Lists) (are : AreLists tree tables nest is lists) where
  abbrev inner : List OwnName
  inner = lists.instances.items

  abbrev ports : List OwnName
  ports = lists.ports.items

  abbrev actions : List OwnName
  actions = lists.actions.items

  abbrev timers : List OwnName
  timers = lists.timers.items

  abbrev reactions : List PlacedReaction
  reactions = lists.reactions.items

  -- ---- sites

  of_inner : AreSites is.located instance_names (drop 1 inner)
  of_inner = inner_sites tree tables nest is inner are.instances

  of_ports : AreSites is.located port_names ports
  of_ports = sites (reactors_of tree) is.located nest.instances.items is.instances ports_of (λ x. x.name) port_names (λ r. refl) ports are.ports

  of_actions : AreSites is.located action_names actions
  of_actions = sites (reactors_of tree) is.located nest.instances.items is.instances actions_of (λ x. x.name) action_names (λ r. refl) actions are.actions

  of_timers : AreSites is.located timer_names timers
  of_timers = sites (reactors_of tree) is.located nest.instances.items is.instances timers_of (λ x. x.name) timer_names (λ r. refl) timers are.timers

  same_long : length inner ≡ length is.located
  same_long = long_inner tree tables nest is inner are.instances

  -- ---- things of one program

  nested : AreNested inner
  nested = record {
    main = (let l = first tree tables nest is in let w = slice_get_within is.located 0 l.0 l.1 in let n = same_long in omega arith);
    order = λ k x at later. (inner_at tree tables nest is inner are.instances k x at later).before;
  }

  module _ (identifiers : HasIdentifiers tree) (law : IsLawful tree) where
    never : Each is.located (λ r. IsTwice (names_in r) → ⊥)
    never n l at = let m = reactor_at (reactors_of tree) is.located nest.instances.items is.instances n l at in names_once (reactors_of tree) m.0.reactor l.inside.reactor m.2 law.first

    once_members : Once (members inner ports actions timers)
    once_members =
        let p = once_of is.located port_names ports of_ports (λ n l at. ports_once l.inside.reactor (never n l at)) in
        let a = once_of is.located action_names actions of_actions (λ n l at. actions_once l.inside.reactor (never n l at)) in
        let t = once_of is.located timer_names timers of_timers (λ n l at. timers_once l.inside.reactor (never n l at)) in
        let i = once_of is.located instance_names (drop 1 inner) of_inner (λ n l at. instances_once l.inside.reactor (never n l at)) in
        let pa = apart_of is.located port_names action_names ports actions of_ports of_actions (λ n l at. ports_actions l.inside.reactor (never n l at)) in
        let pt = apart_of is.located port_names timer_names ports timers of_ports of_timers (λ n l at. ports_timers l.inside.reactor (never n l at)) in
        let at = apart_of is.located action_names timer_names actions timers of_actions of_timers (λ n l at. turned (timer_names l.inside.reactor) (action_names l.inside.reactor) (timers_actions l.inside.reactor (never n l at))) in
        let ip = apart_of is.located instance_names port_names (drop 1 inner) ports of_inner of_ports (λ n l at. turned (port_names l.inside.reactor) (instance_names l.inside.reactor) (ports_instances l.inside.reactor (never n l at))) in
        let ia = apart_of is.located instance_names action_names (drop 1 inner) actions of_inner of_actions (λ n l at. turned (action_names l.inside.reactor) (instance_names l.inside.reactor) (actions_instances l.inside.reactor (never n l at))) in
        let it = apart_of is.located instance_names timer_names (drop 1 inner) timers of_inner of_timers (λ n l at. turned (timer_names l.inside.reactor) (instance_names l.inside.reactor) (timers_instances l.inside.reactor (never n l at))) in
        once_append (drop 1 inner) (ports ++ actions ++ timers) i
        (once_append (ports ++ actions) timers (once_append ports actions p a pa) t (append_apart ports actions timers pt at))
        (apart_append (drop 1 inner) (ports ++ actions) timers (apart_append (drop 1 inner) ports actions ip ia) it)
      where
        turned : (us vs : List (List ℕ)) → AreApart us vs → AreApart vs us
        turned us vs apart i j name first second = apart j i name second first

    each_identifier : (k : ℕ) (d : OwnName) → slice_get (members inner ports actions timers) k ≡ Some d → IsName d.name.now
    each_identifier =
        let P : OwnName → Type 0 = λ d. IsName d.name.now in
        let r = λ (n : ℕ) (l : Located) (at : slice_get is.located n ≡ Some l). reactor_at (reactors_of tree) is.located nest.instances.items is.instances n l at in
        each_append P (drop 1 inner) (ports ++ actions ++ timers)
        (names_of_sites is.located IsName instance_names (drop 1 inner) of_inner (λ n l at. instances_named tree identifiers (r n l at).0.reactor l.inside.reactor (r n l at).2))
        (each_append P (ports ++ actions) timers
        (each_append P ports actions
        (names_of_sites is.located IsName port_names ports of_ports (λ n l at. ports_named tree identifiers (r n l at).0.reactor l.inside.reactor (r n l at).2))
        (names_of_sites is.located IsName action_names actions of_actions (λ n l at. actions_named tree identifiers (r n l at).0.reactor l.inside.reactor (r n l at).2)))
        (names_of_sites is.located IsName timer_names timers of_timers (λ n l at. timers_named tree identifiers (r n l at).0.reactor l.inside.reactor (r n l at).2)))

    pub of_program : AreOfProgram inner ports actions timers reactions
    of_program =
        let P : OwnName → Type 0 = λ d. d.instance < length inner in
        let within = λ (names : ReactorTree → List (List ℕ)) (xs : List OwnName) (s : AreSites is.located names xs) (k : ℕ) (d : OwnName) (at : slice_get xs k ≡ Some d). (let l = within_sites is.located names xs s k d at in let n = same_long in small d.instance l n) in
        record {
          nested = nested;
          declared = all_of P (ports ++ actions ++ timers) (each_append P (ports ++ actions) timers (each_append P ports actions (within port_names ports of_ports) (within action_names actions of_actions)) (within timer_names timers of_timers));
          placed = all_of (λ r. (r.instance < length inner) × (r.place < length reactions)) reactions (λ k x at. let w = placed_within (reactors_of tree) is.located nest.instances.items is.instances reactions_of reactions are.reactions k x at in (small x.instance w.0 same_long, w.1));
          identifiers = all_of (λ d. IsName d.name.now) (members inner ports actions timers) each_identifier;
          names_once = pairs_of (λ a b. a.instance ≡ b.instance → a.name.now ≢ b.name.now) (members inner ports actions timers) once_members;
          places_once = pairs_of (λ a b. a.instance ≡ b.instance → a.place ≢ b.place) reactions (placed_once (reactors_of tree) is.located nest.instances.items is.instances reactions_of reactions are.reactions);
        }
      where
        small : (n : ℕ) → n < length is.located → length inner ≡ length is.located → n < length inner
        small n low same = omega arith

  pub few : AreFew inner ports actions timers reactions
  few = record {
    few_instances = (let a = same_long in let b = long tree tables nest is in let c = is.few in omega arith);
    few_ports = few_told (reactors_of tree) is.located nest.instances.items is.instances ports_of (λ x. x.name) port_names (λ r. refl) 100000 nest.ports is.ports ports are.ports;
    few_actions = few_told (reactors_of tree) is.located nest.instances.items is.instances actions_of (λ x. x.name) action_names (λ r. refl) 100000 nest.actions is.actions actions are.actions;
    few_timers = few_told (reactors_of tree) is.located nest.instances.items is.instances timers_of (λ x. x.name) timer_names (λ r. refl) 100000 nest.timers is.timers timers are.timers;
    few_reactions = few_placed (reactors_of tree) is.located nest.instances.items is.instances reactions_of reactions are.reactions 10000 nest.reactions is.reactions;
  }

  -- ---- full names

  abbrev instance_texts : List (List ℕ)
  instance_texts = map (λ i. name_of_path tree is.are_located.main i.path) is.located

  text_at : (n : ℕ) (l : Located) → slice_get is.located n ≡ Some l → slice_get instance_texts n ≡ Some (name_of_path tree is.are_located.main l.path)
  text_at n l at = mapped (λ i. name_of_path tree is.are_located.main i.path) is.located n l at

  names_of_kind : {X : Type 0} (kind : ReactorTree → List X) (name : X → List ℕ) (xs : List OwnName) → AllZip (SaysDeclaration name) (declared kind is.located) xs → AllZip (IsDotted instance_texts) xs (map (name_of_thing tree is.are_located.main) (declared_things name (declared kind is.located)))
  names_of_kind {X} kind name xs all = zip_of (IsDotted instance_texts) xs _ same each
    where
      same : length xs ≡ length (map (name_of_thing tree is.are_located.main) (declared_things name (declared kind is.located)))
      same = sym (zip_long (SaysDeclaration name) (declared kind is.located) xs all) ∙ sym (length-map (declared kind is.located) _) ∙ sym (length-map (declared_things name (declared kind is.located)) (name_of_thing tree is.are_located.main))

      each : (k : ℕ) (x : OwnName) (y : List ℕ) → slice_get xs k ≡ Some x → slice_get (map (name_of_thing tree is.are_located.main) (declared_things name (declared kind is.located))) k ≡ Some y → IsDotted instance_texts x y
      each k x y at_x at_y =
          let t = mapped_from (name_of_thing tree is.are_located.main) (declared_things name (declared kind is.located)) k y at_y in
          let d = mapped_from _ (declared kind is.located) k t.0 t.1 in
          let s = AllZip-to (SaysDeclaration name) (declared kind is.located) xs all k d.0 d.1 in
          let one : s.0 ≡ x = Some_same s.0 x (sym s.1 ∙ at_x) in
          let says : SaysDeclaration name d.0 x = subst (SaysDeclaration name d.0) one s.2 in
          let stands = declared_from kind is.located k d.0 d.1 in (
            name_of_path tree is.are_located.main d.0.located.path,
            text_at x.instance d.0.located (ap (slice_get is.located) says.0 ∙ stands.instance),
            sym t.2 ∙ ap (name_of_thing tree is.are_located.main) (sym d.2) ∙ ap (λ n. name_of_path tree is.are_located.main d.0.located.path ++ codes "." ++ n) (sym says.1),
          )

  names_of_reactions : AllZip (IsHashed instance_texts) reactions (map (name_of_reaction tree is.are_located.main) (declared reactions_of is.located))
  names_of_reactions = zip_of (IsHashed instance_texts) reactions _ same each
    where
      same : length reactions ≡ length (map (name_of_reaction tree is.are_located.main) (declared reactions_of is.located))
      same = sym (zip_long IsPlacedAt (declared reactions_of is.located) reactions are.reactions) ∙ sym (length-map (declared reactions_of is.located) (name_of_reaction tree is.are_located.main))

      each : (k : ℕ) (x : PlacedReaction) (y : List ℕ) → slice_get reactions k ≡ Some x → slice_get (map (name_of_reaction tree is.are_located.main) (declared reactions_of is.located)) k ≡ Some y → IsHashed instance_texts x y
      each k x y at_x at_y =
          let d = mapped_from (name_of_reaction tree is.are_located.main) (declared reactions_of is.located) k y at_y in
          let s = AllZip-to IsPlacedAt (declared reactions_of is.located) reactions are.reactions k d.0 d.1 in
          let one : s.0 ≡ x = Some_same s.0 x (sym s.1 ∙ at_x) in
          let says : IsPlacedAt d.0 x = subst (IsPlacedAt d.0) one s.2 in
          let stands = declared_from reactions_of is.located k d.0 d.1 in (
            name_of_path tree is.are_located.main d.0.located.path,
            text_at x.instance d.0.located (ap (slice_get is.located) says.0 ∙ stands.instance),
            sym d.2 ∙ ap (λ n. name_of_path tree is.are_located.main d.0.located.path ++ codes "#" ++ decimal (n + 1)) (sym says.1),
          )

  names_of_inner : AllZip (IsDotted instance_texts) (drop 1 inner) (drop 1 instance_texts)
  names_of_inner = zip_of (IsDotted instance_texts) (drop 1 inner) (drop 1 instance_texts) same each
    where
      same : length (drop 1 inner) ≡ length (drop 1 instance_texts)
      same = let a = length-drop 1 inner in let b = length-drop 1 instance_texts in let c = length-map is.located (λ i. name_of_path tree is.are_located.main i.path) in let d = same_long in omega arith

      each : (k : ℕ) (x : OwnName) (y : List ℕ) → slice_get (drop 1 inner) k ≡ Some x → slice_get (drop 1 instance_texts) k ≡ Some y → IsDotted instance_texts x y
      each k x y at_x at_y =
          let i = inner_at tree tables nest is inner are.instances (1 + k) x (sym (slice_get-drop inner 1 k) ∙ at_x) (omega arith) in
          let there : slice_get instance_texts (1 + k) ≡ Some y = sym (slice_get-drop instance_texts 1 k) ∙ at_y in
          let one : y ≡ name_of_path tree is.are_located.main i.inner.path = Some_same _ _ (sym there ∙ text_at (1 + k) i.inner i.here) in (
            name_of_path tree is.are_located.main i.outer.path,
            text_at x.instance i.outer i.there,
            one ∙ ap (name_of_path tree is.are_located.main) i.path
                ∙ path_last tree is.are_located.main i.outer.path i.place i.outer.inside i.item (is.are_located.inside x.instance i.outer i.there) i.stands
                ∙ ap (λ n. name_of_path tree is.are_located.main i.outer.path ++ codes "." ++ n) (sym i.called),
          )

  pub full_tree : AreFullNames inner ports actions timers reactions (names_of tree is.are_located.main is.located)
  full_tree =
      let l = first tree tables nest is in
      record {
        main_name = text_at 0 l.0 l.1 ∙ ap (λ p. Some (name_of_path tree is.are_located.main p)) l.2 ∙ ap Some (append-nil (codes "main"));
        instance_names = names_of_inner;
        port_names = names_of_kind ports_of (λ x. x.name) ports are.ports;
        action_names = names_of_kind actions_of (λ x. x.name) actions are.actions;
        timer_names = names_of_kind timers_of (λ x. x.name) timers are.timers;
        reaction_names = names_of_reactions;
      }

-- an answer that each right naming is equal to is the naming of the tree
pub named_as : {E : Type 0} (tree : FileTree) (tables : Tables) (nest : Nest) (xs ps cs ts : List OwnName) (rs : List PlacedReaction) (r : Result ThingNames E)
    → ((n : IsNest tree tables nest) → AreFullNames xs ps cs ts rs (names_of tree n.are_located.main n.located))
    → IfOk r (λ t. (other : ThingNames) → AreFullNames xs ps cs ts rs other → other ≡ t)
    → IfOk r (λ t. (n : IsNest tree tables nest) → t ≡ names_of tree n.are_located.main n.located)
named_as tree tables nest xs ps cs ts rs (Ok t) full one = λ n. sym (one (names_of tree n.are_located.main n.located) (full n))
named_as tree tables nest xs ps cs ts rs (Err e) full one = one
