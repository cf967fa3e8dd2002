-- The flat program of a core tree is that of what is written out of the tree.
use Rattle.std.proofs.Common.{◌≡◌, inl, inr, ℕ, suc, ◌+◌, List, [], ◌∷◌, ◌++◌, map, flat_map, Option, Some, None, option_map, option_to_list, slice_get, codes, refl, sym, ap, ◌∙◌, subst}
use Rattle.std.specs.{List.{AllZip, enumerate_from, zip, cons_option}, Option.{option_and_then, option_map_or}, Fmt.decimal}
use Rattle.std.proofs.lemmas.List.{append-nil, map-append}
use Rattle.lft_lists.proofs.Mapped.{mapped, mapped_from, option_map_some, pair_at}
use Rattle.lft_lists.proofs.Members.{Mem, mem_get, get_mem, mem_flat, mem_from_map, mem_from_flat, mem_filter, mem_from_filter}
use Rattle.lft_tree.specs.Tree.{FileTree, ReactorTree, PortTree, ActionTree, TimerTree, ReactionTree, RefTree, TriggerTree, AtStartup as StartupTrigger, AtShutdown as ShutdownTrigger, OnRef, actions_of, connections_of, instances_of, ports_of, reactions_of, reactors_of, timers_of}
use Rattle.lft_resolve.specs.Expansion.Paths.{along, PathBefore}
use Rattle.lft_resolve.specs.Instances.{Inside, Thing, thing_at, entered, given_in, main_instance, main_of, reactor_named, stands_for, time_in, Connects as TreeConnects}
use Rattle.lft_resolve.specs.Sheets.{without_timers}
use Rattle.lft_resolve.proofs.Flat.{enumerated}
use Rattle.lft_ir.specs.Parts.{Parts}
use Rattle.lft_ir.specs.declared.parts.{Name.{Name, TheVariants.{Port as PortName, Action as ActionName}}, Port.Port as FlatPort, Action.Action as FlatAction}
use Rattle.lft_ir.specs.declared.parts.{Timer.Timer as FlatTimer, Reaction.Reaction as FlatReaction}
use Rattle.lft_ir.specs.declared.parts.Trigger.{Trigger, TheVariants.{Startup, Shutdown, Timer as TimerTrigger, On}}
use Rattle.lft_tag.specs.declared.Source.{Source}
use Rattle.lft_program.specs.Located.{Located as TreeLocated, AreLocated, Declared as TreeDeclared, declared as tree_declared, declared_in as tree_declared_in, ports_in as tree_ports, actions_in as tree_actions, timers_in as tree_timers, declared_things as tree_things}
use Rattle.lft_program.specs.Links.{IsSource as IsTreeSource}
use Rattle.lft_program.specs.Flattening.{Flat, time_or_zero, IsFlatName as IsTreeName, IsTrigger as IsTreeTrigger, IsPort as IsTreePort, IsAction as IsTreeAction, IsTimer as IsTreeTimer, IsReaction as IsTreeReaction, NamesThing as TreeMeans, name_under, name_of_path as tree_name_of_path, name_of_thing as tree_name_of_thing, name_of_reaction as tree_name_of_reaction, names_of as tree_names_of}
use Rattle.lft_program.proofs.Zipping.{then_some}
use Rattle.lft_classes.proofs.Rows.{map_alike}
use Rattle.lft_same.specs.Expanded.Expanded.{Action, Contents, OnThing, Link, Port, Reaction, Timer}
use Rattle.lft_same.specs.Expanded.Flat.{AreAllInstances, JoinsThings, ExpandedItem, IsExpandedAction, IsFlat, IsExpandedPort, IsExpandedReaction, IsExpandedSource, IsExpandedTimer, LocatedContents, NamesExpandedThing, IsExpandedTrigger, expanded_actions, expanded_items, items_of_instance, name_behind, expanded_path_name, expanded_reaction_name, expanded_thing_name, names_along, names_of, expanded_ports, expanded_things, expanded_timers}
use Rattle.lft_same.specs.inner.Expanded.Core.{things_for, triggers_for, expanded_tree, core_contents, link_of, core_links, core_reaction}

-- ---- instances

-- an instance of the tree, written out
abbrev pub written_out : TreeLocated → LocatedContents
written_out x = record { path = x.path; contents = core_contents x.path x.inside }

module _ (tree : FileTree) (all : List TreeLocated) (are : AreLocated tree all) where
  pub bodies_of : (path : List ℕ) → expanded_tree tree path ≡ option_map (core_contents path) (along (entered tree) (main_instance are.main) path)
  bodies_of path = ap (option_and_then (λ main. option_map (core_contents path) (along (entered tree) (main_instance main) path))) are.is_main

  pub all_out : AreAllInstances (expanded_tree tree) (map written_out all)
  all_out = record {
    in_order = λ i j x y a b l.
        let u = mapped_from written_out all i x a in
        let v = mapped_from written_out all j y b in
        let h : PathBefore u.0.path v.0.path = are.in_order.in_order i j u.0.path v.0.path (mapped (λ (z : TreeLocated). z.path) all i u.0 u.1) (mapped (λ (z : TreeLocated). z.path) all j v.0 v.1) l in
        subst (λ p. PathBefore p y.path) (ap (λ (z : LocatedContents). z.path) u.2) (subst (λ q. PathBefore u.0.path q) (ap (λ (z : LocatedContents). z.path) v.2) h);
    each = λ i x a.
        let u = mapped_from written_out all i x a in
        subst (λ (z : LocatedContents). expanded_tree tree z.path ≡ Some z.contents) u.2 (bodies_of u.0.path ∙ ap (option_map (core_contents u.0.path)) (are.inside i u.0 u.1));
    every = λ path b at.
        let x = option_map_some (core_contents path) (along (entered tree) (main_instance are.main) path) b (sym (bodies_of path) ∙ at) in
        let k = are.in_order.all path (x.0, x.1) in
        let u = mapped_from (λ (z : TreeLocated). z.path) all k.0 path k.1 in
        (k.0, written_out u.0, mapped written_out all k.0 u.0 u.1, u.2);
  }

-- ---- what is declared

module _ {X Y : Type 0} (kind : ReactorTree → List Y) (own : Contents → List X) (f : List ℕ → Inside → Y → X) (seen : (path : List ℕ) (x : Inside) → own (core_contents path x) ≡ map (f path x) (kind x.reactor)) where
  abbrev pub turned : TreeDeclared Y → ExpandedItem X
  turned d = record { instance = d.instance; path = d.located.path; place = d.place; item = f d.located.path d.located.inside d.item }

  abbrev pub made : ℕ → List ℕ → ℕ × X → ExpandedItem X
  made n path d = record { instance = n; path = path; place = d.0; item = d.1 }

  abbrev pub tree_made : ℕ → TreeLocated → ℕ × Y → TreeDeclared Y
  tree_made n x d = record { instance = n; located = x; place = d.0; item = d.1 }

  rows : (n k : ℕ) (x : TreeLocated) (ys : List Y) → map (made n x.path) (enumerate_from k (map (f x.path x.inside) ys)) ≡ map turned (map (tree_made n x) (enumerate_from k ys))
  rows n k x [] = refl
  rows n k x (y ∷ ys) = ap (λ (l : List (ExpandedItem X)). made n x.path (k, f x.path x.inside y) ∷ l) (rows n (k + 1) x ys)

  in_turned : (n : ℕ) (x : TreeLocated) → items_of_instance own (n, written_out x) ≡ map turned (tree_declared_in kind (n, x))
  in_turned n x = ap (λ l. map (made n x.path) (enumerate_from 0 l)) (seen x.path x.inside) ∙ rows n 0 x (kind x.inside.reactor)

  all_turned : (k : ℕ) (xs : List TreeLocated) → flat_map (items_of_instance own) (enumerate_from k (map written_out xs)) ≡ map turned (flat_map (tree_declared_in kind) (enumerate_from k xs))
  all_turned k [] = refl
  all_turned k (x ∷ xs) =
      ap (λ l. l ++ flat_map (items_of_instance own) (enumerate_from (k + 1) (map written_out xs))) (in_turned k x)
      ∙ ap (λ l. map turned (tree_declared_in kind (k, x)) ++ l) (all_turned (k + 1) xs)
      ∙ sym (map-append turned (tree_declared_in kind (k, x)) (flat_map (tree_declared_in kind) (enumerate_from (k + 1) xs)))

  pub declared_turned : (xs : List TreeLocated) → expanded_items own (map written_out xs) ≡ map turned (tree_declared kind xs)
  declared_turned xs = all_turned 0 xs

  things_rows : (name : X → List ℕ) (called : Y → List ℕ) → ((path : List ℕ) (x : Inside) (y : Y) → name (f path x y) ≡ called y) → (ds : List (TreeDeclared Y)) → expanded_things name (map turned ds) ≡ tree_things called ds
  things_rows name called same [] = refl
  things_rows name called same (d ∷ ds) =
      ap (λ n. thing_at d.located.path n ∷ expanded_things name (map turned ds)) (same d.located.path d.located.inside d.item)
      ∙ ap (λ (l : List Thing). thing_at d.located.path (called d.item) ∷ l) (things_rows name called same ds)

  pub things_turned : (name : X → List ℕ) (called : Y → List ℕ) → ((path : List ℕ) (x : Inside) (y : Y) → name (f path x y) ≡ called y) → (xs : List TreeLocated) → expanded_things name (expanded_items own (map written_out xs)) ≡ tree_things called (tree_declared kind xs)
  things_turned name called same xs = ap (expanded_things name) (declared_turned xs) ∙ things_rows name called same (tree_declared kind xs)

abbrev pub port_out : List ℕ → Inside → PortTree → Port
port_out path x p = record { name = p.name; is_input = p.is_input }

abbrev pub action_out : List ℕ → Inside → ActionTree → Action
action_out path x a = record { name = a.name; is_physical = a.is_physical; min_delay = time_or_zero x a.min_delay }

abbrev pub timer_out : List ℕ → Inside → TimerTree → Timer
timer_out path x t = record { name = t.name; offset = time_or_zero x t.offset; period = time_or_zero x t.period }

abbrev pub reaction_out : List ℕ → Inside → ReactionTree → Reaction
reaction_out path x r = core_reaction path x.reactor r

pub ports_out : (all : List TreeLocated) → expanded_ports (map written_out all) ≡ tree_ports all
ports_out all = things_turned ports_of (λ c. c.ports) port_out (λ path x. refl) (λ p. p.name) (λ p. p.name) (λ path x y. refl) all

pub actions_out : (all : List TreeLocated) → expanded_actions (map written_out all) ≡ tree_actions all
actions_out all = things_turned actions_of (λ c. c.actions) action_out (λ path x. refl) (λ p. p.name) (λ p. p.name) (λ path x y. refl) all

pub timers_out : (all : List TreeLocated) → expanded_timers (map written_out all) ≡ tree_timers all
timers_out all = things_turned timers_of (λ c. c.timers) timer_out (λ path x. refl) (λ p. p.name) (λ p. p.name) (λ path x y. refl) all

-- ---- connections

pub unzip : {X Y : Type 0} (xs : List X) (ys : List Y) (a : X) (b : Y) → Mem (a, b) (zip xs ys) → (k : ℕ) × (slice_get xs k ≡ Some a) × (slice_get ys k ≡ Some b)
unzip [] ys a b m = absurd m
unzip (x ∷ xs) [] a b m = absurd m
unzip {X} {Y} (x ∷ xs) (y ∷ ys) a b (inl e) = (0, ap (λ (p : X × Y). Some p.0) e, ap (λ (p : X × Y). Some p.1) e)
unzip (x ∷ xs) (y ∷ ys) a b (inr m) = let r = unzip xs ys a b m in (suc r.0, r.1, r.2)

abbrev pub linked : Option ℕ → Thing → Thing → Link
linked d s t = record { from = s; to = t; delay = d }

module _ (tree : FileTree) where
  pub forth : (a b : Thing) (delay : Option ℕ) → TreeConnects tree a b delay → JoinsThings (expanded_tree tree) a b delay
  forth a b delay c =
      let x : Inside = c.inside in
      let at : expanded_tree tree c.path ≡ Some (core_contents c.path x) = ap (option_and_then (λ main. option_map (core_contents c.path) (along (entered tree) (main_instance main) c.path))) c.is_inside.1 ∙ ap (option_map (core_contents c.path)) c.is_inside.2 in
      let both : Mem (c.from, c.to) (zip c.connection.sources c.connection.destinations) = mem_get (zip c.connection.sources c.connection.destinations) c.place (c.from, c.to) (pair_at c.connection.sources c.connection.destinations c.place c.from c.to c.is_from c.is_to) in
      let made : link_of c.path x c.connection.delay (c.from, c.to) ≡ Some (linked delay a b) =
      ap (option_and_then (λ s. option_map (λ t. linked (option_map (time_in x) c.connection.delay) s t) (stands_for x.reactor c.path c.to))) c.from_source
      ∙ ap (option_map (λ t. linked (option_map (time_in x) c.connection.delay) a t)) c.to_destination
      ∙ ap (λ d. Some (linked d a b)) c.is_delay in
      let in_one : Mem (linked delay a b) (core_links c.path x c.connection) = mem_filter (link_of c.path x c.connection.delay) (c.from, c.to) (linked delay a b) (zip c.connection.sources c.connection.destinations) both made in
      let in_all : Mem (linked delay a b) (flat_map (core_links c.path x) (connections_of x.reactor)) = mem_flat (core_links c.path x) c.connection (linked delay a b) (connections_of x.reactor) (mem_get (connections_of x.reactor) c.number c.connection c.is_connection) in_one in
      let k = get_mem (linked delay a b) (flat_map (core_links c.path x) (connections_of x.reactor)) in_all in
      (c.path, core_contents c.path x, k.0, at, k.1)

  pub back : (a b : Thing) (delay : Option ℕ) → JoinsThings (expanded_tree tree) a b delay → TreeConnects tree a b delay
  back a b delay c =
      let main = then_some (λ main. option_map (core_contents c.0) (along (entered tree) (main_instance main) c.0)) (main_of tree) c.1 c.3 in
      let x = option_map_some (core_contents c.0) (along (entered tree) (main_instance main.0) c.0) c.1 main.2 in
      let made : Link = record { from = a; to = b; delay = delay } in
      let at : slice_get (flat_map (core_links c.0 x.0) (connections_of x.0.reactor)) c.2 ≡ Some made = ap (λ (v : Contents). slice_get v.links c.2) x.2 ∙ c.4 in
      let m = mem_from_flat (core_links c.0 x.0) (connections_of x.0.reactor) made (mem_get (flat_map (core_links c.0 x.0) (connections_of x.0.reactor)) c.2 made at) in
      let p = mem_from_filter (link_of c.0 x.0 m.0.delay) (zip m.0.sources m.0.destinations) made m.2 in
      let n = get_mem m.0 (connections_of x.0.reactor) m.1 in
      let k = unzip m.0.sources m.0.destinations p.0.0 p.0.1 p.1 in
      let s = then_some (λ s. option_map (λ t. record { from = s; to = t; delay = option_map (time_in x.0) m.0.delay }) (stands_for x.0.reactor c.0 p.0.1)) (stands_for x.0.reactor c.0 p.0.0) made p.2 in
      let t = option_map_some (λ t. record { from = s.0; to = t; delay = option_map (time_in x.0) m.0.delay }) (stands_for x.0.reactor c.0 p.0.1) made s.2 in
      let from : s.0 ≡ a = ap (λ (l : Link). l.from) t.2 in
      let to : t.0 ≡ b = ap (λ (l : Link). l.to) t.2 in
      record {
        path = c.0;
        inside = x.0;
        is_inside = (main.0, main.1, x.1);
        number = n.0;
        connection = m.0;
        is_connection = n.1;
        place = k.0;
        from = p.0.0;
        to = p.0.1;
        is_from = k.1;
        is_to = k.2;
        from_source = s.1 ∙ ap Some from;
        to_destination = t.1 ∙ ap Some to;
        is_delay = ap (λ (l : Link). l.delay) t.2;
      }

  source_out : (ports : List Thing) (t : Thing) (s : Option Source) → IsTreeSource tree ports t s → IsExpandedSource (expanded_tree tree) ports t s
  source_out ports t None none = λ from delay c. none from delay (back from t delay c)
  source_out ports t (Some s) one = (one.0, one.1, forth one.0 t s.delay one.2)

-- ---- reactions

means_out : (all : List TreeLocated) (t : Thing) (n : Name) → TreeMeans all t n → NamesExpandedThing (map written_out all) t n
means_out all t (PortName p) h = ap (λ l. slice_get l p) (ports_out all) ∙ h
means_out all t (ActionName a) h = ap (λ l. slice_get l a) (actions_out all) ∙ h

names_out : (all : List TreeLocated) (at : TreeLocated) (refs : List RefTree) (ns : List Name) → AllZip (IsTreeName all at) refs ns → AllZip (NamesExpandedThing (map written_out all)) (things_for at.path at.inside.reactor refs) ns
names_out all at [] [] h = h
names_out all at [] (n ∷ ns) h = absurd h
names_out all at (ref ∷ refs) [] h = absurd h
names_out all at (ref ∷ refs) (n ∷ ns) h = subst (λ o. AllZip (NamesExpandedThing (map written_out all)) (cons_option o (things_for at.path at.inside.reactor refs)) (n ∷ ns)) (sym h.0.1) (means_out all h.0.0 n h.0.2, names_out all at refs ns h.1)

triggers_out : (all : List TreeLocated) (at : TreeLocated) (ts : List TriggerTree) (us : List Trigger) → AllZip (IsTreeTrigger all at) ts us → AllZip (IsExpandedTrigger (map written_out all)) (flat_map (triggers_for at.path at.inside.reactor) ts) us
triggers_out all at [] [] h = h
triggers_out all at [] (u ∷ us) h = absurd h
triggers_out all at (t ∷ ts) [] h = absurd h
triggers_out all at (StartupTrigger ∷ ts) (u ∷ us) h = (h.0, triggers_out all at ts us h.1)
triggers_out all at (ShutdownTrigger ∷ ts) (u ∷ us) h = (h.0, triggers_out all at ts us h.1)
triggers_out all at (OnRef ref ∷ ts) (Startup ∷ us) h = absurd h.0
triggers_out all at (OnRef ref ∷ ts) (Shutdown ∷ us) h = absurd h.0
triggers_out all at (OnRef ref ∷ ts) (TimerTrigger n ∷ us) h = subst (λ o. AllZip (IsExpandedTrigger (map written_out all)) (map OnThing (option_to_list o) ++ flat_map (triggers_for at.path at.inside.reactor) ts) (TimerTrigger n ∷ us)) (sym h.0.1) (ap (λ l. slice_get l n) (timers_out all) ∙ h.0.2, triggers_out all at ts us h.1)
triggers_out all at (OnRef ref ∷ ts) (On n ∷ us) h = subst (λ o. AllZip (IsExpandedTrigger (map written_out all)) (map OnThing (option_to_list o) ++ flat_map (triggers_for at.path at.inside.reactor) ts) (On n ∷ us)) (sym h.0.1) (means_out all h.0.0 n h.0.2, triggers_out all at ts us h.1)

-- ---- the whole

module _ (tree : FileTree) (all : List TreeLocated) where
  port_is : (d : TreeDeclared PortTree) (port : FlatPort) → Mem d (tree_declared ports_of all) → IsTreePort tree all d port → IsExpandedPort (expanded_tree tree) (map written_out all) (turned ports_of (λ c. c.ports) port_out (λ path x. refl) d) port
  port_is d port m h = record { instance = h.instance; direction = h.direction; source = subst (λ l. IsExpandedSource (expanded_tree tree) l (thing_at d.located.path d.item.name) port.source) (sym (ports_out all)) (source_out tree (tree_ports all) (thing_at d.located.path d.item.name) port.source h.source) }

  action_is : (d : TreeDeclared ActionTree) (a : FlatAction) → Mem d (tree_declared actions_of all) → IsTreeAction d a → IsExpandedAction (turned actions_of (λ c. c.actions) action_out (λ path x. refl) d) a
  action_is d a m h = record { instance = h.instance; physical = h.physical; min_delay = h.min_delay }

  timer_is : (d : TreeDeclared TimerTree) (t : FlatTimer) → Mem d (tree_declared timers_of all) → IsTreeTimer d t → IsExpandedTimer (turned timers_of (λ c. c.timers) timer_out (λ path x. refl) d) t
  timer_is d t m h = record { instance = h.instance; offset = h.offset; period = h.period }

  reaction_is : (d : TreeDeclared ReactionTree) (r : FlatReaction) → Mem d (tree_declared reactions_of all) → IsTreeReaction all d r → IsExpandedReaction (map written_out all) (turned reactions_of (λ c. c.reactions) reaction_out (λ path x. refl) d) r
  reaction_is d r m h = record {
    instance = h.instance;
    place = h.place;
    triggers = triggers_out all d.located d.item.triggers r.triggers h.triggers;
    uses = names_out all d.located (without_timers d.located.inside.reactor d.item.uses) r.uses h.uses;
    effects = names_out all d.located d.item.effects r.effects h.effects;
  }

-- lists that belong together, item by item of the first one
zip_from : {A B C : Type 0} (f : A → B) (R : A → C → Type 0) (S : B → C → Type 0) (xs : List A) (ys : List C) → ((x : A) (y : C) → Mem x xs → R x y → S (f x) y) → AllZip R xs ys → AllZip S (map f xs) ys
zip_from f R S [] [] go h = h
zip_from f R S [] (y ∷ ys) go h = absurd h
zip_from f R S (x ∷ xs) [] go h = absurd h
zip_from f R S (x ∷ xs) (y ∷ ys) go h = (go x y (inl refl) h.0, zip_from f R S xs ys (λ z w m r. go z w (inr m) r) h.1)

-- ---- names

pub map_twice : {X Y Z : Type 0} (f : X → Y) (g : Y → Z) (xs : List X) → map g (map f xs) ≡ map (λ x. g (f x)) xs
map_twice f g [] = refl
map_twice {X} {Y} {Z} f g (x ∷ xs) = ap (λ (l : List Z). g (f x) ∷ l) (map_twice f g xs)

unnumbered : {X : Type 0} (k : ℕ) (xs : List X) (p : ℕ × X) → Mem p (enumerate_from k xs) → Mem p.1 xs
unnumbered k xs p m = let i = get_mem p (enumerate_from k xs) m in mem_get xs i.0 p.1 (enumerated k xs i.0 p i.1).1

located_of : {Y : Type 0} (kind : ReactorTree → List Y) (all : List TreeLocated) (d : TreeDeclared Y) → Mem d (tree_declared kind all) → Mem d.located all
located_of {Y} kind all d m =
    let i = mem_from_flat (tree_declared_in kind) (enumerate_from 0 all) d m in
    let e = mem_from_map (λ (p : ℕ × Y). at i.0.0 i.0.1 p) (enumerate_from 0 (kind i.0.1.inside.reactor)) d i.2 in
    subst (λ x. Mem x all) (ap (λ (v : TreeDeclared Y). v.located) e.2) (unnumbered 0 all i.0 i.1)
  where
    at : ℕ → TreeLocated → ℕ × Y → TreeDeclared Y
    at n x p = record { instance = n; located = x; place = p.0; item = p.1 }

module _ (tree : FileTree) (all : List TreeLocated) (are : AreLocated tree all) where
  along_next : (front : List ℕ) (k : ℕ) (x y : Inside) → along (entered tree) (main_instance are.main) front ≡ Some x → entered tree x k ≡ Some y → along (entered tree) (main_instance are.main) (front ++ k ∷ []) ≡ Some y
  along_next front k x y a b = go front (main_instance are.main) a
    where
      go : (path : List ℕ) (z : Inside) → along (entered tree) z path ≡ Some x → along (entered tree) z (path ++ k ∷ []) ≡ Some y
      go [] z e = let q : z ≡ x = cc in ap (λ v. option_and_then (λ w. along (entered tree) w []) (entered tree v k)) q ∙ ap (option_and_then (λ w. along (entered tree) w [])) b
      go (j ∷ path) z e =
          let n = then_some (λ w. along (entered tree) w path) (entered tree z j) x e in
          ap (option_and_then (λ w. along (entered tree) w (path ++ k ∷ []))) n.1 ∙ go path n.0 n.2

  under : (front path : List ℕ) (x y : Inside) → along (entered tree) (main_instance are.main) front ≡ Some x → along (entered tree) x path ≡ Some y → names_along (expanded_tree tree) front path ≡ name_under tree x path
  under front [] x y a b = refl
  under front (k ∷ path) x y a b =
      let n = then_some (λ w. along (entered tree) w path) (entered tree x k) y b in
      let i = then_some (λ i. option_map (λ r. record { reactor = r; values = map (given_in x i.given) r.parameters }) (reactor_named (reactors_of tree) i.reactor)) (slice_get (instances_of x.reactor) k) n.0 n.1 in
      let rest : names_along (expanded_tree tree) (front ++ k ∷ []) path ≡ name_under tree n.0 path = under (front ++ k ∷ []) path n.0 y (along_next front k x n.0 a n.1) n.2 in
      let here : expanded_tree tree front ≡ Some (core_contents front x) = bodies_of tree all are front ∙ ap (option_map (core_contents front)) a in
      let mine : name_behind (expanded_tree tree front) k ≡ codes "." ++ i.0.name = ap (λ v. name_behind v k) here ∙ ap (λ v. option_map_or (λ name. codes "." ++ name) v []) (mapped (λ j. j.name) (instances_of x.reactor) k i.0 i.1) in
      let own : flat_map (λ j. codes "." ++ j.name) (option_to_list (slice_get (instances_of x.reactor) k)) ≡ codes "." ++ i.0.name = ap (λ v. flat_map (λ j. codes "." ++ j.name) (option_to_list v)) i.1 ∙ append-nil (codes "." ++ i.0.name) in
      let inner : flat_map (λ w. name_under tree w path) (option_to_list (entered tree x k)) ≡ name_under tree n.0 path = ap (λ v. flat_map (λ w. name_under tree w path) (option_to_list v)) n.1 ∙ append-nil (name_under tree n.0 path) in
      ap (λ v. v ++ names_along (expanded_tree tree) (front ++ k ∷ []) path) (mine ∙ sym own) ∙ ap (λ v. flat_map (λ j. codes "." ++ j.name) (option_to_list (slice_get (instances_of x.reactor) k)) ++ v) (rest ∙ sym inner)

  path_named : (x : TreeLocated) → Mem x all → expanded_path_name (expanded_tree tree) x.path ≡ tree_name_of_path tree are.main x.path
  path_named x m = let i = get_mem x all m in ap (λ v. codes "main" ++ v) (under [] x.path (main_instance are.main) x.inside refl (are.inside i.0 x i.1))

  thing_named : {Y : Type 0} (kind : ReactorTree → List Y) (called : Y → List ℕ) (t : Thing) → Mem t (tree_things called (tree_declared kind all)) → expanded_thing_name (expanded_tree tree) t ≡ tree_name_of_thing tree are.main t
  thing_named {Y} kind called t m =
      let d = mem_from_map (λ (d : TreeDeclared Y). thing_at d.located.path (called d.item)) (tree_declared kind all) t m in
      let n : expanded_path_name (expanded_tree tree) d.0.located.path ≡ tree_name_of_path tree are.main d.0.located.path = path_named d.0.located (located_of kind all d.0 d.1) in
      let p : d.0.located.path ≡ t.path = ap (λ (v : Thing). v.path) d.2 in
      ap (λ v. v ++ codes "." ++ t.name) (subst (λ q. expanded_path_name (expanded_tree tree) q ≡ tree_name_of_path tree are.main q) p n)

  things_named : {Y : Type 0} (kind : ReactorTree → List Y) (called : Y → List ℕ) (ts : List Thing) → ts ≡ tree_things called (tree_declared kind all) → map (expanded_thing_name (expanded_tree tree)) ts ≡ map (tree_name_of_thing tree are.main) (tree_things called (tree_declared kind all))
  things_named kind called ts e = ap (map (expanded_thing_name (expanded_tree tree))) e ∙ map_alike (expanded_thing_name (expanded_tree tree)) (tree_name_of_thing tree are.main) (tree_things called (tree_declared kind all)) (thing_named kind called)

  abbrev pub reaction_turned : TreeDeclared ReactionTree → ExpandedItem Reaction
  reaction_turned = turned reactions_of (λ c. c.reactions) reaction_out (λ path x. refl)

  reactions_named : map (expanded_reaction_name (expanded_tree tree)) (expanded_items (λ c. c.reactions) (map written_out all)) ≡ map (tree_name_of_reaction tree are.main) (tree_declared reactions_of all)
  reactions_named =
      ap (map (expanded_reaction_name (expanded_tree tree))) (declared_turned reactions_of (λ c. c.reactions) reaction_out (λ path x. refl) all)
      ∙ map_twice reaction_turned (expanded_reaction_name (expanded_tree tree)) (tree_declared reactions_of all)
      ∙ map_alike (λ d. expanded_reaction_name (expanded_tree tree) (reaction_turned d)) (tree_name_of_reaction tree are.main) (tree_declared reactions_of all) (λ d m. ap (λ v. v ++ codes "#" ++ decimal (d.place + 1)) (path_named d.located (located_of reactions_of all d m)))

  paths_named : map (λ x. expanded_path_name (expanded_tree tree) x.path) (map written_out all) ≡ map (λ x. tree_name_of_path tree are.main x.path) all
  paths_named = map_twice written_out (λ x. expanded_path_name (expanded_tree tree) x.path) all ∙ map_alike (λ x. expanded_path_name (expanded_tree tree) x.path) (λ x. tree_name_of_path tree are.main x.path) all path_named

  names_same : names_of (expanded_tree tree) (map written_out all) ≡ tree_names_of tree are.main all
  names_same = λ i. record {
    instances = paths_named i;
    ports = things_named ports_of (λ p. p.name) (expanded_ports (map written_out all)) (ports_out all) i;
    actions = things_named actions_of (λ a. a.name) (expanded_actions (map written_out all)) (actions_out all) i;
    timers = things_named timers_of (λ t. t.name) (expanded_timers (map written_out all)) (timers_out all) i;
    reactions = reactions_named i;
  }

-- the flat program of a tree is flat of what is written out of the tree
pub flat_out : (tree : FileTree) (p : Parts) → Flat tree p → IsFlat (expanded_tree tree) p
flat_out tree p flat =
    let all : List TreeLocated = flat.instances in
    record {
      all = map written_out all;
      are_all = all_out tree all flat.are_located;
      ports = subst (λ ds. AllZip (IsExpandedPort (expanded_tree tree) (map written_out all)) ds p.ports) (sym (declared_turned ports_of (λ c. c.ports) port_out (λ path x. refl) all)) (zip_from (turned ports_of (λ c. c.ports) port_out (λ path x. refl)) (IsTreePort tree all) (IsExpandedPort (expanded_tree tree) (map written_out all)) (tree_declared ports_of all) p.ports (port_is tree all) flat.ports);
      origins = flat.origins;
      actions = subst (λ ds. AllZip IsExpandedAction ds p.actions) (sym (declared_turned actions_of (λ c. c.actions) action_out (λ path x. refl) all)) (zip_from (turned actions_of (λ c. c.actions) action_out (λ path x. refl)) IsTreeAction IsExpandedAction (tree_declared actions_of all) p.actions (action_is tree all) flat.actions);
      timers = subst (λ ds. AllZip IsExpandedTimer ds p.timers) (sym (declared_turned timers_of (λ c. c.timers) timer_out (λ path x. refl) all)) (zip_from (turned timers_of (λ c. c.timers) timer_out (λ path x. refl)) IsTreeTimer IsExpandedTimer (tree_declared timers_of all) p.timers (timer_is tree all) flat.timers);
      reactions = subst (λ ds. AllZip (IsExpandedReaction (map written_out all)) ds p.reactions) (sym (declared_turned reactions_of (λ c. c.reactions) reaction_out (λ path x. refl) all)) (zip_from (turned reactions_of (λ c. c.reactions) reaction_out (λ path x. refl)) (IsTreeReaction all) (IsExpandedReaction (map written_out all)) (tree_declared reactions_of all) p.reactions (reaction_is tree all) flat.reactions);
      names = flat.names ∙ sym (names_same tree all flat.are_located);
    }
