-- A lowered program that isn't refused is the whole program, and is taken.
use Rattle.std.proofs.Common.{◌≡◌, ◌≢◌, ℕ, zero, suc, ◌+◌, length, All, inl, inr, Bool, true, false, List, [], ◌∷◌, map, flat_map, filter_map, Option, Some, None, Contains, IfSome, IsSomeAnd, option_map, option_to_list, slice_get, arith, refl, sym, ap, subst, ◌∙◌}
use Rattle.std.specs.Prelude.{◌&&◌, find, is_some, not, slice_index_or, string_bytes, unwrap_or}
use Rattle.std.{specs.{List.position, Option.option_and_then}, proofs.lemmas.{List.Elements.All-weaker, Slice.Eq.bytes_eq-Decides}}
use Rattle.lft_lists.proofs.{Mapped.{mapped, mapped_from, option_map_some}, Members.{Mem, mem_contains, mem_filter, mem_get, mem_left, mem_right}}
use Rattle.lft_lists.proofs.Places.{Some_same, same_some}
use Rattle.lft_program.proofs.Zipping.{then_some}
use Rattle.lft_tree.specs.Tree.{ActionMember, ConnectionMember, ConnectionTree, MemberTree, TimeTree, TimerMember, TriggerTree, action_in, actions_of, connection_in, connections_of, timer_in, timers_of}
use Rattle.lft_tree.specs.{View.tree_view, declared.ast.Ast.Ast}
use Rattle.lft_resolve.specs.{Causes.{NoneHolds, causes}, Expansion.Paths.along}
use Rattle.lft_resolve.specs.{Instances.{Inside as CoreInside, entered as core_entered, main_instance as core_main}, Kinds.{timer_times, times_in}}
use Rattle.lft_whole.specs.declared.sources.source.SourceFile.{SourceFile}
use Rattle.lft_whole.specs.declared.tree.{Action.Action, Connection.Connection, Effect.Effect, Expression.Expression, Instance.Instance, Member.Member}
use Rattle.lft_whole.specs.declared.tree.{Name.Name, Parameter.Parameter, Reaction.Reaction, Reactor.Reactor, Reference.Reference, Trigger.Trigger}
use Rattle.lft_whole.specs.declared.tree.WrittenValue.{WrittenValue}
use Rattle.lft_classes.specs.Shapes.{name_of, width_of}
use Rattle.lft_classes.specs.declared.scopes.Class.{Class as ScopesClass}
use Rattle.lft_classes.specs.declared.shapes.{Child.Child, Inherited.Inherited, InheritedParameter.InheritedParameter, Shape.Shape}
use Rattle.lft_classes.specs.declared.shapes.OwnThing.{OwnThing as ShapeThing}
use Rattle.lft_classes.specs.inner.{Built.{Core, core}, Scopes.{IsExported, reactors_before, reactors_in}, Shapes.{thing_named, inside as noted_inside, tables}}
use Rattle.lft_classes.specs.inner.Walks.{Has, IsReachable}
use Rattle.lft_classes.proofs.{Needing.listed_all, Numbering.at_file}
use Rattle.lft_elaborate.specs.Channels.Channels.{below}
use Rattle.lft_elaborate.specs.inner.{Meanings.meaning_named, Noted.found_inside, Settings.{setting_in, shape_at, valued}}
use Rattle.lft_elaborate.specs.inner.{Values.{Valued, inside, main_setting, main_values}, Widths.found_width, Channels.Lowered.AreJoinedPlaces, Used.IsReached}
use Rattle.lft_elaborate.specs.declared.{settings.Setting.Setting, meanings.Meaning.Meaning}
use Rattle.lft_elaborate.proofs.Keeping.{found_is_inside}
use Rattle.lft_lower.specs.inner.Meanings.Meanings.{Here, Means, all_places}
use Rattle.lft_lower.specs.inner.Lowered.{AreConnected, AreInstances, AreTriggers, IsLowered, IsRead, MeanSides, MeansEffect, MeansTrigger, action_tree, each_pair, is_some_time, no_instances, period_at, runs, sleeps, some_instances, time_at, timer_tree, trigger_places, whole}
use Rattle.lft_lower.specs.inner.{Programs.decentralized_in, Reactors.{AreShapesOfFiles, IsLowering}}
use Rattle.lft_same.specs.Expanded.{Expanded.Expanded, Instances.{Inside, Widths, entered_instance, inside_of, main_class_instance, numbers, place_named}}
use Rattle.lft_same.specs.Expanded.{Reactors.{Class, is_named, main_of, members_of, own_class, parameters_of, reactor_of}, Same.IsSame}
use Rattle.lft_same.specs.Expanded.Whole.{AreWidths, LeadsToInstance, inside_named, links_of}
use Rattle.lft_same.specs.Expanded.Taken.{AreGivenTo, HasImports, HasNamesApart, HasOneMain, HasParameter, HasTimes, IsCentral, IsEffect, IsIndexFree, IsMember, IsNamed, IsNoSpacing, IsReaction, IsTaken, IsTakenInside, IsThere, IsTrigger, IsZero}
use Rattle.lft_same.specs.inner.{Expanded.Core.{core_links, expanded_tree}, Fits.Fits.{Fits, IsShapeOf}, Times.IsKnown}
use Rattle.lft_same.proofs.FitsLemmas.{Banks.{index_law, reached_shape}, ClassNames.own_found, Fitting.parameter_is, Giving.{find_none, unique}}
use Rattle.lft_same.proofs.FitsLemmas.{MemberNames.member_found, Nested.{in_first, main_is}, Ports.{IsPort, port_is}}
use Rattle.lft_same.proofs.{Connections.connection_links, Known.{action_time, delay_time, known_law, listed, timer_time}}
use Rattle.lft_same.proofs.{Times.{IsInsideGiven, inside_given, made_of, period_is_in, time_is_in}, Found.shape_of_setting}
use Rattle.lft_same.proofs.{Instances.{AreWidthsFound, StandsFor}, Lowered.{Becomes, made_at}, Members.{here, of_class}, Paths.{Both, both, neither}}
use Rattle.lft_same.proofs.References.{inside_is, its_instance, u as setting_inside, y as instance_inside}
use Rattle.lft_same.proofs.{Settings.{its_setting, member_of, nested, numbers_are, shape_there}, Same.{at_path, is_same, main as main_reactor, stands}}
use Rattle.lft_same.proofs.Widths.{depth, has_widths, in_steps}
use Rattle.lft_elaborate.specs.declared.meanings.Meaning.TheVariants as meaning
use Rattle.lft_whole.specs.declared.tree.Effect.TheVariants as effect
use Rattle.lft_whole.specs.declared.tree.Member.TheVariants as member
use Rattle.lft_whole.specs.declared.tree.Trigger.TheVariants as trigger
use Rattle.lft_whole.specs.declared.tree.WrittenValue.TheVariants as value
use Rattle.lft_classes.specs.declared.shapes.OwnThing.TheVariants as thing

-- ---- what is written

-- what isn't spaced has no spacing
unspaced : (b : Bool) (o : Option Expression) → (not b && unwrap_or (option_map (λ (e : Expression). is_some_time e.value) o) false) ≡ false → b ≡ false → IsNoSpacing o
unspaced true o e f = absurd (cc)
unspaced false None e f = tt
unspaced false (Some v) e f = zero_is v.value e
  where
    zero_is : (z : WrittenValue) → is_some_time z ≡ false → IsZero z
    zero_is (value.Number negative zero unit) e = tt
    zero_is (value.Number negative (suc n) unit) e = absurd (cc)
    zero_is (value.Word q) e = absurd (cc)
    zero_is value.Code e = absurd (cc)
    zero_is value.Other e = absurd (cc)

-- a reaction that is lowered has a trigger
has_trigger : (h : Here) (r : Reaction) (before : Option (List ℕ)) (more : List MemberTree) (after : Option (List ℕ)) (triggers : List TriggerTree) → AreTriggers h r before more after triggers → r.triggers.items ≢ []
has_trigger h r _ _ _ _ (runs before some) = λ e. some (ap (flat_map (trigger_places h)) e)
has_trigger h r _ _ _ _ (sleeps name before more written none asleep) = written

-- what is on both sides is on the one
on_both : {X Y : Type 0} (R : X → Y → Type 0) (o : Option X) (p : Option Y) (y : Y) → Both R o p → p ≡ Some y → (x : X) × R x y
on_both R _ _ y neither e = absurd (cc)
on_both R _ _ y (both x z r) e = (x, subst (R x) (Some_same z y e) r)

-- what is a parameter in a shape is one of the reactor
has_parameter : (files : List SourceFile) (shape : Shape) (x : Inside) (is : IsShapeOf files shape x.class) (q : List ℕ) (p : ℕ) → thing_named shape q ≡ Some (thing.Parameter p) → HasParameter files x q
has_parameter files shape x is q p e = go (find (λ (p : Parameter). is_named q p.name) (parameters_of files x.class)) refl
  where
    i : (i : InheritedParameter) × (slice_get shape.parameters.items p ≡ Some i) × (string_bytes i.parameter.now.name.text ≡ q)
    i = (is.names q (thing.Parameter p)).0 e

    there : slice_get (parameters_of files x.class) p ≡ Some i.0.parameter.now
    there = parameter_is files shape x.class is p i.0 i.1

    go : (o : Option Parameter) → find (λ (p : Parameter). is_named q p.name) (parameters_of files x.class) ≡ o → is_some o ≡ true
    go None f = absurd (find_none (λ (p : Parameter). is_named q p.name) (parameters_of files x.class) i.0.parameter.now f (mem_get (parameters_of files x.class) p i.0.parameter.now there) ((bytes_eq-Decides q (string_bytes i.0.parameter.now.name.text)).1 (sym i.2)))
    go (Some z) f = refl

-- what `new` gives is given to parameters, each once
are_given : (files : List SourceFile) (x y : Inside) (child : Child) (shape : Shape) (i : Instance) → IsInsideGiven files x y child shape i → AreGivenTo files i.given.items y
are_given files x y child shape i given = subst (AreGivenTo files i.given.items) given.made (record {
  known = λ k a at. let g = given.gives.1.all a (mem_contains a i.given.items (mem_get i.given.items k a at)) in has_parameter files shape (made_of files x i given.class) given.of_inner (string_bytes a.name.text) g.0.parameter g.2.0;
  once = unique i.given.items given.gives.0;
})

abbrev valued_main : Shape → Valued
valued_main main = record { shape = 0; values = main_values main }

-- the first file has no second main reactor
one_main : (files : List SourceFile) (shapes : List Shape) → AreShapesOfFiles files shapes → HasOneMain files
one_main files shapes (scopes, n, is, same) f j k a b first at there main also = let p = number j a at main in let q = number k b there also in omega (arith, p, q)
  where
    number : (j : ℕ) (a : Reactor) → slice_get f.tree.reactors.items j ≡ Some a → a.is_main ≡ true → length (reactors_before files 0) + j ≡ is.main_is.number
    number j a at main =
        let stands : slice_get (reactors_in files) (length (reactors_before files 0) + j) ≡ Some (0, a) = at_file files 0 f j a first at in
        let d = mapped_from (λ (d : ScopesClass). (d.file, d.reactor.now)) scopes.classes.items (length (reactors_before files 0) + j) (0, a) (ap (λ l. slice_get l (length (reactors_before files 0) + j)) is.scopes_are.reactors ∙ stands) in
        is.main_is.alone (length (reactors_before files 0) + j) d.0 (record { is_known = d.1; in_first_file = ap (λ (p : ℕ × Reactor). p.0) d.2; is_main = ap (λ (p : ℕ × Reactor). p.1.is_main) d.2 ∙ main })

-- what is imported is there
imports_there : (files : List SourceFile) (shapes : List Shape) → AreShapesOfFiles files shapes → HasImports files
imports_there files shapes (scopes, n, is, same) file other k j f what name here written read at = go (own_class files other (string_bytes name.name.text)) refl
  where
    c : (c : ScopesClass) × IsExported files other (string_bytes name.name.text) c
    c = is.scopes_are.imports file other what j name (record { here = f; is_here = here; place = k; is_written = written; is_read = read }) at

    go : (o : Option Class) → own_class files other (string_bytes name.name.text) ≡ o → is_some o ≡ true
    go None e = absurd (own_found files other (string_bytes name.name.text) c.0 c.1.0 e)
    go (Some z) e = refl

-- the first shape is of the main reactor
main_reactor_is : (files : List SourceFile) (shapes : List Shape) → AreShapesOfFiles files shapes → (main : Shape) → slice_get shapes 0 ≡ Some main → (at : Class) × (main_of files ≡ Some at) × (reactor_of files at ≡ Some main.class.reactor.now)
main_reactor_is files shapes (scopes, n, is, same) main first =
    let at = main_is files scopes is.scopes_are is.main is.main_is in
    let c : main.class ≡ is.main = Some_same main.class is.main (sym (ap (option_map (λ (c : Core). c.class)) (mapped core n.shapes.items 0 main (ap (λ l. slice_get l 0) same ∙ first))) ∙ is.is_first) in
    (at.0, at.1, at.2.reactor ∙ ap (λ (c : ScopesClass). Some c.reactor.now) (sym c))

module _ (files : List SourceFile) (tree : Ast) (low : IsLowering files tree) (none : NoneHolds (causes (tree_view tree))) (w : Widths) (found : AreWidthsFound files tree low w) where
  module _ (x : Inside) (core : CoreInside) (s : StandsFor files tree low x core) where
    abbrev h : Here
    h = here files tree low x core s

    is_shape_of : IsShapeOf files s.shape x.class
    is_shape_of = of_class files tree low x core s

    -- ---- names

    -- a port of an instance is there
    port_there : (b p : List ℕ) (z : Meaning) → meaning_named low.settings.shapes.items s.shape b (Some p) ≡ Some z → IsNamed files x b (Some p)
    port_there b p z e = subst (λ o. IsSomeAnd o (λ y. is_some (place_named files y p) ≡ true)) (sym is_there) (ap is_some (member_found files k.inner y.0 of_y p k.port k.is_port))
      where
        k : IsPort low.settings.shapes.items s.shape b p z
        k = port_is low.settings.shapes.items s.shape b p z e

        u : (u : Valued) × (inside low.settings.shapes.items s.setting k.instance ≡ Some u) × (slice_get low.settings.shapes.items u.shape ≡ Some k.inner)
        u = setting_inside files tree low w found x (its_setting files tree low x core s) b p k.instance k.is_instance k.inner k.is_inner k.port k.is_port

        i : (file : ℕ) × (i : Instance) × (slice_get (members_of files x.class) k.instance ≡ Some (file, member.Instance i))
        i = its_instance files tree low w found x (its_setting files tree low x core s) b p k.instance k.is_instance k.inner k.is_inner k.port k.is_port

        y : (y : Inside) × (inside_of files x (i.0, i.1) ≡ Some y)
        y = instance_inside files tree low w found x (its_setting files tree low x core s) b p k.instance k.is_instance k.inner k.is_inner k.port k.is_port

        is_there : inside_named files x b ≡ Some y.0
        is_there = inside_is files tree low w found x (its_setting files tree low x core s) b p k.instance k.is_instance k.inner k.is_inner k.port k.is_port

        f : (z : Inside) × (inside_of files x (i.0, i.1) ≡ Some z) × Fits files low.settings.shapes.items u.0 z
        f = (nested files tree low).inside_fits s.setting u.0 x k.instance i.0 i.1 s.fits i.2 u.1

        fits : Fits files low.settings.shapes.items u.0 y.0
        fits = subst (Fits files low.settings.shapes.items u.0) (Some_same f.0 y.0 (sym f.1 ∙ y.1)) f.2

        of_y : IsShapeOf files k.inner y.0.class
        of_y = subst (λ (z : Shape). IsShapeOf files z y.0.class) (Some_same fits.shape k.inner (sym fits.is_shape ∙ u.2)) fits.of_class

    -- so is a thing of the reactor itself
    own_there : (q : List ℕ) (th : ShapeThing) → thing_named s.shape q ≡ Some th → IsNamed files x q None
    own_there q (thing.Member m) e = inl (ap is_some (member_found files s.shape x is_shape_of q m e))
    own_there q (thing.Parameter p) e = inr (has_parameter files s.shape x is_shape_of q p e)

    named_there : (q : List ℕ) (port : Option (List ℕ)) (o : Option Meaning) → meaning_named low.settings.shapes.items s.shape q port ≡ o → is_some o ≡ true → IsNamed files x q port
    named_there q port None e is = absurd (cc)
    named_there q None (Some z) e is = let t = option_map_some (λ th. meaning.Own th) (thing_named s.shape q) z e in own_there q t.0 t.1
    named_there q (Some p) (Some z) e is = port_there q p z e

    there : (r : Reference) → Means h r → IsThere files x r
    there r means = named_there (string_bytes r.head.text) (option_map (λ (p : Name). string_bytes p.text) r.port) (meaning_named low.settings.shapes.items s.shape (string_bytes r.head.text) (option_map (λ (p : Name). string_bytes p.text) r.port)) refl means

    of_trigger : (t : Trigger) → MeansTrigger h t → IsTrigger files x t
    of_trigger trigger.Startup m = tt
    of_trigger trigger.Shutdown m = tt
    of_trigger (trigger.Reset at) m = absurd m
    of_trigger (trigger.Reference r) m = there r m

    of_effect : (t : Effect) → MeansEffect h t → IsEffect files x t
    of_effect (effect.Mode at) m = absurd m
    of_effect (effect.Reference r) m = there r m

    -- ---- members
    module _ (n file : ℕ) (y : Member) (at : slice_get (members_of files x.class) n ≡ Some (file, y)) where
      own : (m : Inherited) × (slice_get s.shape.members.items n ≡ Some m) × (m.member.now ≡ y)
      own = member_of files tree low x (its_setting files tree low x core s) n file y at

      made : (new : List MemberTree) × Becomes low.names h core.reactor.members s.reactor.members.0 n own.0 new
      made = made_at low.names h core.reactor.members s.reactor.members.0 s.reactor.members.1 n own.0 own.1

      lowered : IsLowered low.names h n made.1.before made.0 made.1.after y
      lowered = subst (IsLowered low.names h n made.1.before made.0 made.1.after) own.2 made.1.lowered

    of_member : (n file : ℕ) (y : Member) (at : slice_get (members_of files x.class) n ≡ Some (file, y)) (before : Option (List ℕ)) (new : List MemberTree) (after : Option (List ℕ)) → IsLowered low.names h n before new after y → IsMember files w x n (file, y)
    of_member n file (member.Port p) at before new after l = tt
    of_member n file (member.Timer t) at before new after l = tt
    of_member n file (member.Action a) at before new after l = λ logical. unspaced a.is_physical a.spacing l.2 logical
    of_member n file (member.Reaction r) at before new after l = record {
      written = has_trigger h r before l.1.1 after l.1.0 l.1.2;
      triggers = All-weaker (MeansTrigger h) (IsTrigger files x) of_trigger r.triggers.items l.0.triggers;
      uses = All-weaker (Means h) (IsThere files x) there r.uses.items l.0.uses;
      effects = All-weaker (MeansEffect h) (IsEffect files x) of_effect r.effects.items l.0.effects;
    }
    of_member n file (member.Instance i) at before new after l = λ some. by new l.1 some
      where
        own_i : (m : Inherited) × (slice_get s.shape.members.items n ≡ Some m) × (m.member.now ≡ member.Instance i)
        own_i = member_of files tree low x (its_setting files tree low x core s) n file (member.Instance i) at

        are : numbers i.width (w x n) ≡ map (λ k. option_map (λ _. k) (found_width low.settings s.number n)) (below (unwrap_or (found_width low.settings s.number n) 1))
        are = ap (λ (z : Member). numbers (width_of z) (w x n)) (sym own_i.2) ∙ numbers_are files tree low x (its_setting files tree low x core s) w found n own_i.0 own_i.1

        by : (new : List MemberTree) → AreInstances low.names h n (string_bytes i.name.text) new → numbers i.width (w x n) ≢ [] → IsSomeAnd (inside_of files x (file, i)) (AreGivenTo files i.given.items)
        by _ (no_instances empty) some = absurd (some (are ∙ ap (λ c. map (λ (k : ℕ). option_map (λ (_ : ℕ). k) (found_width low.settings s.number n)) (below c)) empty))
        by _ (some_instances reactor given is_reactor gives) some =
            let k = then_some (λ inner. slice_index_or low.names inner None) (found_inside low.settings s.number n) reactor is_reactor in
            let u = found_is_inside low.settings s.number n k.0 s.setting low.program.settings.made k.1 s.is_setting in
            let f = (nested files tree low).inside_fits s.setting u.0 x n file i s.fits at u.1 in
            let (child, shape, is_child, is_inner, needed, gives_all, given_is) = gives in
            subst (λ o. IsSomeAnd o (AreGivenTo files i.given.items)) (sym f.1) (are_given files x f.0 child shape i (inside_given files h s.setting u.0 x f.0 n file i low.program.shapes (shape_of_setting low.settings s.number s.setting s.shape s.is_setting s.is_shape) s.fits at u.1 f.1 child shape is_child is_inner))
    of_member n file (member.Connection c) at before new after l = (l.1, All-weaker (Means h) (IsThere files x) there c.sources.items l.2.0, All-weaker (Means h) (IsThere files x) there c.destinations.items l.2.1)
    of_member n file (member.Foreign what place) at before new after l = absurd l

    -- ---- times

    -- a time in the core reactor is written out, or names a parameter
    known_time : (t : TimeTree) → Contains (times_in core.reactor) t → IsKnown core.reactor.parameters t
    known_time t stands = known_law (tree_view tree) core.reactor t none s.listed stands

    -- a connection that joins something is one in the core, with its delay
    its_core : (c : Connection) (mean : MeanSides h c) (read : IsRead s.shape c.delay) (new : List MemberTree) → AreConnected (all_places h c.sources.items) (all_places h c.destinations.items) c.is_broadcast (time_at c.delay) new → ((z : MemberTree) → Mem z new → Mem z core.reactor.members) → links_of files w [] x c ≢ [] → (cn : ConnectionTree) × Mem cn (connections_of core.reactor) × (cn.delay ≡ time_at c.delay)
    its_core c mean read _ (each_pair ms (cs, joins, is)) among some = go cs joins is
      where
        go : (cs : List ConnectionTree) → AreJoinedPlaces (all_places h c.sources.items) (all_places h c.destinations.items) c.is_broadcast (time_at c.delay) cs → ms ≡ map ConnectionMember cs → (cn : ConnectionTree) × Mem cn (connections_of core.reactor) × (cn.delay ≡ time_at c.delay)
        go [] joins is = absurd (some (sym (connection_links files tree low w found none x core s [] c mean read ms (each_pair ms ([], joins, is)) among) ∙ ap (λ (l : List MemberTree). flat_map (core_links [] core) (filter_map connection_in l)) is))
        go (cn ∷ cs) joins is =
            let one = joins.1 0 (omega arith) in (
              cn,
              mem_filter connection_in (ConnectionMember cn) cn core.reactor.members (among (ConnectionMember cn) (subst (Mem (ConnectionMember cn)) (sym is) (inl refl))) refl,
              ap (λ (k : ConnectionTree). k.delay) (Some_same cn _ one.4),
            )
    its_core c mean read _ (whole narrow long) among some = (cn, mem_filter connection_in (ConnectionMember cn) cn core.reactor.members (among (ConnectionMember cn) (inl refl)) refl, refl)
      where
        cn : ConnectionTree
        cn = record { sources = all_places h c.sources.items; destinations = all_places h c.destinations.items; delay = time_at c.delay }

    of_times : (n file : ℕ) (y : Member) (before : Option (List ℕ)) (new : List MemberTree) (after : Option (List ℕ)) → ((z : MemberTree) → Mem z new → Mem z core.reactor.members) → IsLowered low.names h n before new after y → HasTimes files w x y
    of_times n file (member.Port p) before new after inside l = tt
    of_times n file (member.Timer t) before new after inside l = (
      time_is_in files x core.reactor.parameters s.shape t.offset s.timed l.1 (λ z e. known z (mem_left z (option_to_list (time_at t.offset)) (option_to_list (period_at t.period)) (listed (time_at t.offset) z e))),
      period_is_in files x core.reactor.parameters s.shape t.period s.timed l.2 (λ z e. known z (mem_right z (option_to_list (time_at t.offset)) (option_to_list (period_at t.period)) (listed (period_at t.period) z e))),
    )
      where
        stands : Mem (timer_tree t) (timers_of core.reactor)
        stands = mem_filter timer_in (TimerMember (timer_tree t)) (timer_tree t) core.reactor.members (inside (TimerMember (timer_tree t)) (subst (Mem (TimerMember (timer_tree t))) (sym l.3) (inl refl))) refl

        known : (z : TimeTree) → Mem z (timer_times (timer_tree t)) → IsKnown core.reactor.parameters z
        known z k = known_time z (timer_time core.reactor (timer_tree t) z stands k)
    of_times n file (member.Action a) before new after inside l = time_is_in files x core.reactor.parameters s.shape a.min_delay s.timed l.1 (λ z e. known_time z (action_time core.reactor (action_tree a) z stands e))
      where
        stands : Mem (action_tree a) (actions_of core.reactor)
        stands = mem_filter action_in (ActionMember (action_tree a)) (action_tree a) core.reactor.members (inside (ActionMember (action_tree a)) (subst (Mem (ActionMember (action_tree a))) (sym l.3) (inl refl))) refl
    of_times n file (member.Reaction r) before new after inside l = tt
    of_times n file (member.Instance i) before new after inside l = tt
    of_times n file (member.Connection c) before new after inside l = λ joins. let cn = its_core c l.2 l.3 new l.4 inside joins in time_is_in files x core.reactor.parameters s.shape c.delay s.timed l.3 (λ z e. known_time z (delay_time core.reactor cn.0 z cn.1 (cn.2 ∙ e)))
    of_times n file (member.Foreign what place) before new after inside l = absurd l

    -- ---- names of members
    apart : HasNamesApart files x
    apart j k a b q at is named also =
        let m = mapped_from (λ (m : Inherited). (m.file, m.member.now)) s.shape.members.items j a (ap (λ l. slice_get l j) is_shape_of.members ∙ at) in
        let n = mapped_from (λ (m : Inherited). (m.file, m.member.now)) s.shape.members.items k b (ap (λ l. slice_get l k) is_shape_of.members ∙ is) in
        let first : thing_named s.shape q ≡ Some (thing.Member j) = (is_shape_of.names q (thing.Member j)).1 (m.0, m.1, ap (λ (z : ℕ × Member). option_map (λ (n : Name). string_bytes n.text) (name_of z.1)) m.2 ∙ named) in
        let second : thing_named s.shape q ≡ Some (thing.Member k) = (is_shape_of.names q (thing.Member k)).1 (n.0, n.1, ap (λ (z : ℕ × Member). option_map (λ (n : Name). string_bytes n.text) (name_of z.1)) n.2 ∙ also) in
        let e : Some (thing.Member j) ≡ Some (thing.Member k) = sym first ∙ second in
        cc

    -- ---- banks
    banks : (k file : ℕ) (i : Instance) (y : Inside) → slice_get (members_of files x.class) k ≡ Some (file, member.Instance i) → is_some i.width ≡ true → inside_of files x (file, i) ≡ Some y → IsIndexFree files y
    banks k file i y = index_law files scopes.0 scopes.1 scopes.2 s.setting.shape s.shape x k file i y has (subst (λ l. slice_get l s.setting.shape ≡ Some s.shape) (sym scopes.3) (shape_there files tree low x (its_setting files tree low x core s))) is_shape_of
      where
        scopes : AreShapesOfFiles files low.settings.shapes.items
        scopes = low.program.shapes

        reached : (t : Valued) × (setting_in low.settings.settings.items s.number ≡ Some t) × IsReached low.settings.shapes.items t
        reached = low.program.are_used.reached s.number s.used

        has : Has scopes.1.order.items s.setting.shape
        has = listed_all (noted_inside (tables scopes.1.shapes.items)) 0 scopes.1.order.items scopes.2.order s.setting.shape (subst (λ l. IsReachable (noted_inside (tables l)) 0 s.setting.shape) (sym scopes.3) (subst (λ (t : Valued). IsReachable (noted_inside (tables low.settings.shapes.items)) 0 t.shape) (Some_same reached.0 s.setting (sym reached.1 ∙ s.is_setting)) (reached_shape low.settings.shapes.items reached.0 reached.2)))

    taken_inside : IsTakenInside files w x
    taken_inside = record {
      members = λ k m at. of_member k m.0 m.1 at (made k m.0 m.1 at).1.before (made k m.0 m.1 at).0 (made k m.0 m.1 at).1.after (lowered k m.0 m.1 at);
      times = λ k m at. of_times k m.0 m.1 (made k m.0 m.1 at).1.before (made k m.0 m.1 at).0 (made k m.0 m.1 at).1.after (made k m.0 m.1 at).1.among (lowered k m.0 m.1 at);
      banks = banks;
      apart = apart;
    }

  -- the core instance that stands for an instance
  stands_at : (path : List ℕ) (x : Inside) → LeadsToInstance files w path x → (core : CoreInside) × StandsFor files tree low x core
  stands_at path x (c, is_main, leads) =
      let st = stands files tree low none w found in
      let same : c ≡ st.0 = same_some (main_of files) c st.0 is_main st.1 in
      on_both (λ core x. StandsFor files tree low x core) (along (core_entered (tree_view tree)) (core_main (main_reactor files tree low none w found).0) path) (along (entered_instance files w) (main_class_instance files st.0) path) x (at_path files tree low none w found path) (ap (λ d. along (entered_instance files w) (main_class_instance files d) path) (sym same) ∙ leads)

  -- the first file doesn't say that it is decentralized, where its main reactor is federated
  is_central : IsCentral files
  is_central = subst (λ o. IsSomeAnd o (λ f. IsSomeAnd (option_and_then (reactor_of files) (main_of files)) (λ main. main.is_federated ≡ true → f.tree.decentralized ≡ None))) (sym first.1) (subst (λ (o : Option Reactor). IsSomeAnd o (λ main. main.is_federated ≡ true → first.0.tree.decentralized ≡ None)) (sym main_there) not_both)
    where
      u : (u : Valued) × (main_setting low.settings.shapes.items ≡ Some u) × (setting_in low.settings.settings.items 0 ≡ Some u)
      u = low.program.settings.main

      shape : (z : Shape) × (slice_get low.settings.shapes.items 0 ≡ Some z) × (valued_main z ≡ u.0)
      shape = option_map_some valued_main (slice_get low.settings.shapes.items 0) u.0 u.1

      main_is_at : (at : Class) × (main_of files ≡ Some at) × (reactor_of files at ≡ Some shape.0.class.reactor.now)
      main_is_at = main_reactor_is files low.settings.shapes.items low.program.shapes shape.0 shape.1

      main_there : option_and_then (reactor_of files) (main_of files) ≡ Some shape.0.class.reactor.now
      main_there = ap (option_and_then (reactor_of files)) main_is_at.1 ∙ main_is_at.2

      first : (f : SourceFile) × (slice_get files 0 ≡ Some f)
      first = let f = then_some (λ (f : SourceFile). option_map in_first (position (λ (r : Reactor). r.is_main) f.tree.reactors.items)) (slice_get files 0) main_is_at.0 main_is_at.1 in (f.0, f.1)

      made_first : (z : Setting) × (slice_get low.settings.settings.items 0 ≡ Some z) × (valued z ≡ u.0)
      made_first = mapped_from valued low.settings.settings.items 0 u.0 u.2

      there : shape_at low.settings 0 ≡ Some shape.0
      there = ap (option_and_then (λ (z : Setting). slice_get low.settings.shapes.items z.shape)) made_first.1 ∙ ap (slice_get low.settings.shapes.items) (ap (λ (v : Valued). v.shape) (made_first.2 ∙ sym shape.2)) ∙ shape.1

      says : (fs : List SourceFile) (f : SourceFile) → slice_get fs 0 ≡ Some f → decentralized_in fs ≡ f.tree.decentralized
      says [] f e = absurd (cc)
      says (g ∷ gs) f e = ap (λ (z : SourceFile). z.tree.decentralized) (Some_same g f e)

      not_both : shape.0.class.reactor.now.is_federated ≡ true → first.0.tree.decentralized ≡ None
      not_both federated = sym (says files first.0 first.1) ∙ subst (λ (o : Option Shape). IfSome o (λ main. main.class.reactor.now.is_federated ≡ true → decentralized_in files ≡ None)) there low.centralized federated

  pub taken : IsTaken files w
  taken = record {
    inside = λ path x leads. let s = stands_at path x leads in taken_inside x s.0 s.1;
    steps = ((depth files tree low none).0, λ v path x k m width leads at wide. let s = stands_at path x leads in in_steps files tree low none w found v x (its_setting files tree low x s.0 s.1) k m width at wide);
    central = is_central;
    one_main = one_main files low.settings.shapes.items low.program.shapes;
    imports = imports_there files low.settings.shapes.items low.program.shapes;
  }

-- it is the whole program, and is taken
pub lowered_law : (files : List SourceFile) (tree : Ast) → IsLowering files tree → NoneHolds (causes (tree_view tree)) → (same : IsSame files (expanded_tree (tree_view tree))) × IsTaken files same.widths
lowered_law files tree low none = let w = has_widths files tree low none in (is_same files tree low none w.0 w.2 w.1, taken files tree low none w.0 w.2)
