-- A core tree of which no cause of refusal holds has one flat program, as it is written out.
use Rattle.std.proofs.Common.{◌≡◌, ℕ, suc, List, [], ◌∷◌, map, Option, Some, None, option_map, slice_get, refl, sym, ap, subst, ◌∙◌}
use Rattle.std.specs.List.{AllZip}
use Rattle.lft_lists.proofs.{Mapped.{mapped, mapped_from, option_map_some}, Picked.map-same, Places.Some_same}
use Rattle.lft_tree.specs.Tree.{FileTree, PortTree, ports_of}
use Rattle.lft_resolve.specs.{Expansion.Paths.{along, PathBefore, Exists, IsPreOrder}, Instances.{Thing, entered, main_instance, thing_at}}
use Rattle.lft_resolve.proofs.ExpansionLemmas.Unique.{pre_order_unique}
use Rattle.lft_ir.specs.{Parts.Parts, Sound.KeepsOrigins}
use Rattle.lft_ir.specs.declared.parts.{Action.Action as FlatAction, Name.{Name, TheVariants.{Port as PortName, Action as ActionName}}, Port.Port as FlatPort}
use Rattle.lft_ir.specs.declared.parts.{Reaction.Reaction as FlatReaction, Timer.Timer as FlatTimer}
use Rattle.lft_ir.specs.declared.parts.Trigger.{Trigger as FlatTrigger, TheVariants.{Startup, Shutdown, Timer as TimerTrigger, On}}
use Rattle.lft_tag.specs.declared.Source.{Source}
use Rattle.lft_program.specs.{Flattening.{IsFlatOf, NamesThing as TreeMeans}, Links.IsSource as IsTreeSource}
use Rattle.lft_program.specs.Located.{Located as TreeLocated, AreLocated, Declared as TreeDeclared, declared as tree_declared, ports_in as tree_ports, timers_in as tree_timers}
use Rattle.lft_program.specs.inner.{Faults.reactor_causes, Tables.IsLawful}
use Rattle.lft_program.proofs.{Firsts.{NoneHolds-left, lawful, rest}, Listing.declared_from, OneFlat.one_mapped, OneName.{one_meant, timer_or_meant}}
use Rattle.lft_program.proofs.{OneOrigin.one_end, OneSource.one_source, OneThing.one_timer, Zips.AllZip-one}
use Rattle.lft_same.specs.inner.Expanded.Core.{core_contents, expanded_tree}
use Rattle.lft_same.specs.Expanded.Expanded.{Action, Contents, Port, Reaction, Timer, Trigger, AtStartup, AtShutdown, OnThing}
use Rattle.lft_same.specs.Expanded.Flat.{AreAllInstances, ExpandedItem, IsExpandedAction, IsFlat, IsExpandedPort, IsExpandedReaction, IsExpandedSource, IsExpandedTimer, LocatedContents, NamesExpandedThing, IsExpandedTrigger, expanded_items, names_of, expanded_ports, expanded_timers}
use Rattle.lft_same.proofs.ExpandedLemmas.Flattened.{actions_out, all_out, back, bodies_of, declared_turned, flat_out, forth, port_out, ports_out, timers_out, turned, written_out}

-- lists of instances are the same where their paths are, and at each path stands one thing
same_located : (e : List ℕ → Option Contents) (xs ys : List LocatedContents) → map (λ (x : LocatedContents). x.path) xs ≡ map (λ (x : LocatedContents). x.path) ys → ((n : ℕ) (x : LocatedContents) → slice_get xs n ≡ Some x → e x.path ≡ Some x.contents) → ((n : ℕ) (x : LocatedContents) → slice_get ys n ≡ Some x → e x.path ≡ Some x.contents) → xs ≡ ys
same_located e [] [] paths f g = refl
same_located e [] (y ∷ ys) paths f g = absurd (cc)
same_located e (x ∷ xs) [] paths f g = absurd (cc)
same_located e (x ∷ xs) (y ∷ ys) paths f g =
    let path : x.path ≡ y.path = cc in
    let more : map (λ (z : LocatedContents). z.path) xs ≡ map (λ (z : LocatedContents). z.path) ys = cc in
    let contents : x.contents ≡ y.contents = Some_same x.contents y.contents (sym (f 0 x refl) ∙ ap e path ∙ g 0 y refl) in
    let head : x ≡ y = λ j. record { path = path j; contents = contents j } in
    let tail = same_located e xs ys more (λ n. f (suc n)) (λ n. g (suc n)) in
    λ j. head j ∷ tail j

one_of_action : (d : ExpandedItem Action) (x y : FlatAction) → IsExpandedAction d x → IsExpandedAction d y → x ≡ y
one_of_action d x y a b =
    let instance = a.instance ∙ sym b.instance in
    let physical = a.physical ∙ sym b.physical in
    let min_delay = a.min_delay ∙ sym b.min_delay in
    λ j. record { instance = instance j; physical = physical j; min_delay = min_delay j }

one_of_timer : (d : ExpandedItem Timer) (x y : FlatTimer) → IsExpandedTimer d x → IsExpandedTimer d y → x ≡ y
one_of_timer d x y a b =
    let instance = a.instance ∙ sym b.instance in
    let offset = a.offset ∙ sym b.offset in
    let period = a.period ∙ sym b.period in
    λ j. record { instance = instance j; offset = offset j; period = period j }

module _ (tree : FileTree) (all : List TreeLocated) (are : AreLocated tree all) where
  in_pre_order : (xs : List LocatedContents) → AreAllInstances (expanded_tree tree) xs → IsPreOrder (entered tree) (main_instance are.main) (map (λ (x : LocatedContents). x.path) xs)
  in_pre_order xs of = record {
    in_order = λ i j p q at there l.
        let u = mapped_from (λ (x : LocatedContents). x.path) xs i p at in
        let v = mapped_from (λ (x : LocatedContents). x.path) xs j q there in
        subst (λ w. PathBefore w q) u.2 (subst (λ w. PathBefore u.0.path w) v.2 (of.in_order i j u.0 v.0 u.1 v.1 l));
    each = λ i p at.
        let u = mapped_from (λ (x : LocatedContents). x.path) xs i p at in
        let x = option_map_some (core_contents u.0.path) (along (entered tree) (main_instance are.main) u.0.path) u.0.contents (sym (bodies_of tree all are u.0.path) ∙ of.each i u.0 u.1) in
        subst (Exists (entered tree) (main_instance are.main)) u.2 (x.0, x.1);
    all = λ p x.
        let u = of.every p (core_contents p x.0) (bodies_of tree all are p ∙ ap (option_map (core_contents p)) x.1) in
        (u.0, mapped (λ (y : LocatedContents). y.path) xs u.0 u.1 u.2 ∙ ap Some u.3);
  }

  -- the instances written out are one list
  one_list : (xs ys : List LocatedContents) → AreAllInstances (expanded_tree tree) xs → AreAllInstances (expanded_tree tree) ys → xs ≡ ys
  one_list xs ys a b = same_located (expanded_tree tree) xs ys (pre_order_unique (entered tree) (main_instance are.main) (map (λ (x : LocatedContents). x.path) xs) (map (λ (x : LocatedContents). x.path) ys) (in_pre_order xs a) (in_pre_order ys b)) a.each b.each

  module _ (is_lawful : IsLawful tree) where
    abbrev out : List LocatedContents
    out = map written_out all

    in_tree : (t : Thing) (n : Name) → NamesExpandedThing out t n → TreeMeans all t n
    in_tree t (PortName p) a = ap (λ l. slice_get l p) (sym (ports_out all)) ∙ a
    in_tree t (ActionName n) a = ap (λ l. slice_get l n) (sym (actions_out all)) ∙ a

    timer_there : (t : Thing) (n : ℕ) → slice_get (expanded_timers out) n ≡ Some t → slice_get (tree_timers all) n ≡ Some t
    timer_there t n a = ap (λ l. slice_get l n) (sym (timers_out all)) ∙ a

    one_name : (t : Thing) (m n : Name) → NamesExpandedThing out t m → NamesExpandedThing out t n → m ≡ n
    one_name t m n a b = one_meant tree is_lawful all are t m n (in_tree t m a) (in_tree t n b)

    one_trigger : (c : Trigger) (t u : FlatTrigger) → IsExpandedTrigger out c t → IsExpandedTrigger out c u → t ≡ u
    one_trigger AtStartup t u a b = a ∙ sym b
    one_trigger AtShutdown t u a b = a ∙ sym b
    one_trigger (OnThing w) Startup u a b = absurd a
    one_trigger (OnThing w) Shutdown u a b = absurd a
    one_trigger (OnThing w) (TimerTrigger m) Startup a b = absurd b
    one_trigger (OnThing w) (TimerTrigger m) Shutdown a b = absurd b
    one_trigger (OnThing w) (TimerTrigger m) (TimerTrigger n) a b = ap (λ k. TimerTrigger k) (one_timer tree is_lawful all are w m n (timer_there w m a) (timer_there w n b))
    one_trigger (OnThing w) (TimerTrigger m) (On n) a b = absurd (timer_or_meant tree is_lawful all are w m n (timer_there w m a) (in_tree w n b))
    one_trigger (OnThing w) (On m) Startup a b = absurd b
    one_trigger (OnThing w) (On m) Shutdown a b = absurd b
    one_trigger (OnThing w) (On m) (TimerTrigger n) a b = absurd (timer_or_meant tree is_lawful all are w n m (timer_there w n b) (in_tree w m a))
    one_trigger (OnThing w) (On m) (On n) a b = ap (λ k. On k) (one_name w m n a b)

    one_of_reaction : (d : ExpandedItem Reaction) (x y : FlatReaction) → IsExpandedReaction out d x → IsExpandedReaction out d y → x ≡ y
    one_of_reaction d x y a b =
        let instance = a.instance ∙ sym b.instance in
        let place = a.place ∙ sym b.place in
        let triggers = AllZip-one (IsExpandedTrigger out) one_trigger d.item.triggers x.triggers y.triggers a.triggers b.triggers in
        let uses = AllZip-one (NamesExpandedThing out) one_name d.item.uses x.uses y.uses a.uses b.uses in
        let effects = AllZip-one (NamesExpandedThing out) one_name d.item.effects x.effects y.effects a.effects b.effects in
        λ j. record { instance = instance j; place = place j; triggers = triggers j; uses = uses j; effects = effects j }

    -- ---- ports

    abbrev port_turned : TreeDeclared PortTree → ExpandedItem Port
    port_turned = turned ports_of (λ c. c.ports) port_out (λ path x. refl)

    source_there : (t : Thing) (s : Option Source) → IsExpandedSource (expanded_tree tree) (expanded_ports out) t s → IsTreeSource tree (tree_ports all) t s
    source_there t None nothing = λ from delay c. nothing from delay (forth tree from t delay c)
    source_there t (Some s) one = (one.0, ap (λ l. slice_get l s.port) (sym (ports_out all)) ∙ one.1, back tree one.0 t s.delay one.2)

    same_source : (k : ℕ) (d : ExpandedItem Port) (x y : FlatPort) → slice_get (expanded_items (λ c. c.ports) out) k ≡ Some d → IsExpandedPort (expanded_tree tree) out d x → IsExpandedPort (expanded_tree tree) out d y → x.source ≡ y.source
    same_source k d x y at v w =
        let u = mapped_from port_turned (tree_declared ports_of all) k d (ap (λ l. slice_get l k) (sym (declared_turned ports_of (λ c. c.ports) port_out (λ path x. refl) all)) ∙ at) in
        let source : (z : FlatPort) → IsExpandedPort (expanded_tree tree) out d z → IsTreeSource tree (tree_ports all) (thing_at u.0.located.path u.0.item.name) z.source = λ z h. source_there (thing_at u.0.located.path u.0.item.name) z.source (subst (λ (b : ExpandedItem Port). IsExpandedSource (expanded_tree tree) (expanded_ports out) (thing_at b.path b.item.name) z.source) (sym u.2) h.source) in
        one_source tree is_lawful all are k u.0 (declared_from ports_of all k u.0 u.1) x.source y.source (source x v) (source y w)

    module _ (p q : Parts) (a : AllZip (IsExpandedPort (expanded_tree tree) out) (expanded_items (λ c. c.ports) out) p.ports) (b : AllZip (IsExpandedPort (expanded_tree tree) out) (expanded_items (λ c. c.ports) out) q.ports) where
      sources : map (λ (x : FlatPort). x.source) p.ports ≡ map (λ (x : FlatPort). x.source) q.ports
      sources = one_mapped (IsExpandedPort (expanded_tree tree) out) (λ (x : FlatPort). x.source) (expanded_items (λ c. c.ports) out) p.ports q.ports a b (λ k d x y at _ _ v w. same_source k d x y at v w)

      one_ports : KeepsOrigins p → KeepsOrigins q → p.ports ≡ q.ports
      one_ports keeps keeps_too = sym (map-same p.ports) ∙ one_mapped (IsExpandedPort (expanded_tree tree) out) (λ (x : FlatPort). x) (expanded_items (λ c. c.ports) out) p.ports q.ports a b one ∙ map-same q.ports
        where
          one : (k : ℕ) (d : ExpandedItem Port) (x y : FlatPort) → slice_get (expanded_items (λ c. c.ports) out) k ≡ Some d → slice_get p.ports k ≡ Some x → slice_get q.ports k ≡ Some y → IsExpandedPort (expanded_tree tree) out d x → IsExpandedPort (expanded_tree tree) out d y → x ≡ y
          one k d x y at e f v w =
              let instance : x.instance ≡ y.instance = v.instance ∙ sym w.instance in
              let direction : x.is_input ≡ y.is_input = v.direction ∙ sym w.direction in
              let source : x.source ≡ y.source = same_source k d x y at v w in
              let end = one_end p q sources keeps keeps_too k x y e f in
              λ j. record { instance = instance j; is_input = direction j; source = source j; origin = end.0 j; shift = end.1 j }

    -- ---- the whole

    one_of_out : (p q : Parts) (a : IsFlat (expanded_tree tree) p) (b : IsFlat (expanded_tree tree) q) → a.all ≡ out → b.all ≡ out → p ≡ q
    one_of_out p q a b of_p of_q =
        let ports = one_ports p q (subst (λ l. AllZip (IsExpandedPort (expanded_tree tree) l) (expanded_items (λ c. c.ports) l) p.ports) of_p a.ports) (subst (λ l. AllZip (IsExpandedPort (expanded_tree tree) l) (expanded_items (λ c. c.ports) l) q.ports) of_q b.ports) a.origins b.origins in
        let actions = AllZip-one IsExpandedAction one_of_action (expanded_items (λ c. c.actions) out) p.actions q.actions (subst (λ l. AllZip IsExpandedAction (expanded_items (λ c. c.actions) l) p.actions) of_p a.actions) (subst (λ l. AllZip IsExpandedAction (expanded_items (λ c. c.actions) l) q.actions) of_q b.actions) in
        let timers = AllZip-one IsExpandedTimer one_of_timer (expanded_items (λ c. c.timers) out) p.timers q.timers (subst (λ l. AllZip IsExpandedTimer (expanded_items (λ c. c.timers) l) p.timers) of_p a.timers) (subst (λ l. AllZip IsExpandedTimer (expanded_items (λ c. c.timers) l) q.timers) of_q b.timers) in
        let reactions = AllZip-one (IsExpandedReaction out) one_of_reaction (expanded_items (λ c. c.reactions) out) p.reactions q.reactions (subst (λ l. AllZip (IsExpandedReaction l) (expanded_items (λ c. c.reactions) l) p.reactions) of_p a.reactions) (subst (λ l. AllZip (IsExpandedReaction l) (expanded_items (λ c. c.reactions) l) q.reactions) of_q b.reactions) in
        let names : p.names ≡ q.names = a.names ∙ ap (names_of (expanded_tree tree)) (of_p ∙ sym of_q) ∙ sym b.names in
        λ j. record { ports = ports j; actions = actions j; timers = timers j; reactions = reactions j; names = names j }

pub only_flat : (tree : FileTree) (p q : Parts) → IsFlatOf tree p → IsFlat (expanded_tree tree) q → q ≡ p
only_flat tree p q is other =
    let flat = flat_out tree p is.flat in
    let all : List TreeLocated = is.flat.instances in
    let are = is.flat.are_located in
    let those = one_list tree all are in
    let out = all_out tree all are in
    one_of_out tree all are (lawful tree (NoneHolds-left (reactor_causes tree) (rest tree) is.none)) q p other flat (those other.all (map written_out all) other.are_all out) (those flat.all (map written_out all) flat.are_all out)
