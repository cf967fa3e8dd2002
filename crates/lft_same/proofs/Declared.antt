-- The ports, timers and actions of a core instance are those of the instance that it stands for.
use Rattle.std.proofs.Common.{◌≡◌, ℕ, Bool, true, false, inl, List, [], ◌∷◌, ◌++◌, map, flat_map, filter_map, Option, Some, None, Contains, option_map, option_to_list, refl, sym, ap, subst, ◌∙◌, append-nil}
use Rattle.std.specs.Prelude.{bytes_eq, filter, if◌then◌else◌, not, string_bytes, unwrap_or}
use Rattle.std.specs.List.{enumerate_from}
use Rattle.std.proofs.lemmas.{Grind.flat_map-append, List.{map-append, Elements.{filter-append, filter_map-append}}, Slice.Eq.bytes_eq-Decides}
use Rattle.lft_lists.proofs.Members.{Mem, mem_filter, mem_left, mem_right}
use Rattle.lft_tree.specs.Tree.{ActionTree, MemberTree, PortTree, ReactionTree, TimeTree, TimerTree, TriggerTree, OnRef, PortMember, TimerMember, ActionMember, ReactionMember, action_in, actions_of, port_in, ports_of, timer_in, timers_of}
use Rattle.lft_tree.specs.{View.tree_view, declared.ast.Ast.Ast}
use Rattle.lft_resolve.specs.{Causes.{NoneHolds, causes}, Instances.Inside as CoreInside, Kinds.{timer_times, times_in}}
use Rattle.lft_program.specs.Flattening.{time_or_zero}
use Rattle.lft_whole.specs.declared.{sources.source.SourceFile.SourceFile, tree.{Member.Member, Name.Name}}
use Rattle.lft_elaborate.specs.{Channels.Channels.below, inner.{Channels.Lowered.own, Widths.found_width}}
use Rattle.lft_classes.specs.{declared.shapes.Inherited.Inherited, Shapes.{name_of, width_of}, inner.Shapes.thing_named}
use Rattle.lft_lower.specs.inner.Meanings.{Meanings.named_in, Places.{name_at, names_of}}
use Rattle.lft_lower.specs.inner.Lowered.{AreTriggers, IsAsleep, IsLowered, action_tree, added, asleep, known, period_at, reaction_tree, runs, sleeps, time_at, timer_tree}
use Rattle.lft_lower.specs.inner.Reactors.{IsLowering}
use Rattle.lft_same.specs.Expanded.{Expanded.{Action, Port, Timer}, Instances.{Inside, Widths, numbers, period_in, time_written_in, name_with_number}}
use Rattle.lft_same.specs.Expanded.{Reactors.members_of, Whole.{actions_at, ports_at, timers_at}}
use Rattle.lft_same.specs.inner.Times.{IsKnown}
use Rattle.lft_same.proofs.{ExpandedLemmas.Flattened.map_twice, Instances.{AreWidthsFound, StandsFor}, Known.{action_time, known_law, listed, timer_time}}
use Rattle.lft_same.proofs.{Listed.{all_mapped, none_mapped, unnumbered}, Lowered.{Appends, Becomes, never_added, of_connection, of_instance, of_reaction}}
use Rattle.lft_same.proofs.{Members.{here, members_alike, never_of, numbers_are, of_class}, Times.{period_law, time_law}}
use Rattle.lft_whole.specs.declared.tree.Member.TheVariants as member
use Rattle.lft_classes.specs.declared.shapes.OwnThing.TheVariants as thing

-- ---- lists by kind

-- what core members of a kind are, is what the members are
abbrev AreAlike : {K Y : Type 0} → (MemberTree → Option K) → (K → Y) → (ℕ × (ℕ × Member) → List Y) → List MemberTree → List (ℕ × (ℕ × Member)) → Type 0
AreAlike kind f g a b = map f (filter_map kind a) ≡ flat_map g b

alike_appends : {K Y : Type 0} (kind : MemberTree → Option K) (f : K → Y) (g : ℕ × (ℕ × Member) → List Y) → Appends (AreAlike kind f g)
alike_appends {K} {Y} kind f g = record {
  nothing = refl;
  append = λ a b c d p q. ap (map f) (filter_map-append kind a b) ∙ map-append f (filter_map kind a) (filter_map kind b) ∙ ap (λ (l : List Y). l ++ map f (filter_map kind b)) p ∙ ap (λ (l : List Y). flat_map g c ++ l) q ∙ sym (flat_map-append g c d);
}

-- the action without events, if there is one, is taken away
abbrev pub awake_actions : Option (List ℕ) → List Action → List Action
awake_actions None all = all
awake_actions (Some q) all = filter (λ a. not (bytes_eq q a.name)) all

taken : (never : Option (List ℕ)) → awake_actions never [] ≡ []
taken None = refl
taken (Some q) = refl

-- it is gone, and nothing else is
gone : (never : Option (List ℕ)) (a : Action) → never ≡ Some a.name → awake_actions never (a ∷ []) ≡ []
gone never a e = ap (λ o. awake_actions o (a ∷ [])) e ∙ ap (λ (b : Bool). if not b then a ∷ [] else []) ((bytes_eq-Decides a.name a.name).1 refl)

stays : (never : Option (List ℕ)) (a : Action) → (never ≡ Some a.name → ⊥) → awake_actions never (a ∷ []) ≡ a ∷ []
stays None a other = refl
stays (Some q) a other = go (bytes_eq q a.name) refl
  where
    go : (b : Bool) → bytes_eq q a.name ≡ b → (if not b then a ∷ [] else []) ≡ a ∷ []
    go true e = absurd (other (ap Some ((bytes_eq-Decides q a.name).0 e)))
    go false e = refl

awake-append : (never : Option (List ℕ)) (some more : List Action) → awake_actions never (some ++ more) ≡ awake_actions never some ++ awake_actions never more
awake-append None some more = refl
awake-append (Some q) some more = filter-append (λ (a : Action). not (bytes_eq q a.name)) some more

module _ (files : List SourceFile) (tree : Ast) (low : IsLowering files tree) (x : Inside) (core : CoreInside) (s : StandsFor files tree low x core) where
  -- what a member of its reactor becomes
  abbrev Made : ℕ → Inherited → List MemberTree → Type 0
  Made = Becomes low.names (here files tree low x core s) core.reactor.members (never_of files tree low x core s)

  -- ---- ports

  module _ (w : Widths) (found : AreWidthsFound files tree low w) where
    abbrev port_of : PortTree → Port
    port_of p = record { name = p.name; is_input = p.is_input }

    port_at : (n : ℕ) (m : Inherited) (new : List MemberTree) → Made n m new → AreAlike port_in port_of (ports_at w x) new ((n, (m.file, m.member.now)) ∷ [])
    port_at n m new made = of m.member.now (numbers_are files tree low x core s w found n m made.at made.measured) made.lowered
      where
        f : Option ℕ
        f = found_width low.settings s.number n

        of : (y : Member) → numbers (width_of y) (w x n) ≡ map (λ k. option_map (λ _. k) f) (below (unwrap_or f 1)) → IsLowered low.names (here files tree low x core s) n made.before new made.after y → AreAlike port_in port_of (ports_at w x) new ((n, (m.file, y)) ∷ [])
        of (member.Port p) numbers_is l =
            ap (λ a. map port_of (filter_map port_in a)) l.1
            ∙ ap (map port_of) (all_mapped port_in (λ name. PortMember (tree_of name)) tree_of (λ name. refl) (names_of (named_in (here files tree low x core s) (string_bytes p.name.text) n)))
            ∙ map_twice tree_of port_of (names_of (named_in (here files tree low x core s) (string_bytes p.name.text) n))
            ∙ map_twice (name_at (named_in (here files tree low x core s) (string_bytes p.name.text) n)) whole_of (below (unwrap_or f 1))
            ∙ sym (map_twice (λ k. option_map (λ _. k) f) (λ o. whole_of (name_with_number (string_bytes p.name.text) o)) (below (unwrap_or f 1)))
            ∙ ap (map (λ o. whole_of (name_with_number (string_bytes p.name.text) o))) (sym numbers_is)
            ∙ sym (append-nil (map (λ o. whole_of (name_with_number (string_bytes p.name.text) o)) (numbers p.width (w x n))))
          where
            tree_of : List ℕ → PortTree
            tree_of name = record { name = name; is_input = p.is_input }

            whole_of : List ℕ → Port
            whole_of name = record { name = name; is_input = p.is_input }
        of (member.Timer t) numbers_is l = ap (λ a. map port_of (filter_map port_in a)) l.3
        of (member.Action a) numbers_is l = ap (λ a. map port_of (filter_map port_in a)) l.3
        of (member.Reaction r) numbers_is l = ap (map port_of) (of_reaction port_in (λ q. refl) (here files tree low x core s) r made.before new made.after l.1).1
        of (member.Instance i) numbers_is l = ap (map port_of) (of_instance port_in (λ i. refl) low.names (here files tree low x core s) n (string_bytes i.name.text) new l.1)
        of (member.Connection c) numbers_is l = ap (map port_of) (of_connection port_in (λ c. refl) _ _ c.is_broadcast (time_at c.delay) new l.4)
        of (member.Foreign what at) numbers_is l = absurd l

    pub ports_alike : map port_of (ports_of core.reactor) ≡ flat_map (ports_at w x) (enumerate_from 0 (members_of files x.class))
    ports_alike = members_alike files tree low x core s (AreAlike port_in port_of (ports_at w x)) (alike_appends port_in port_of (ports_at w x)) port_at

  -- ---- timers and actions

  module _ (none : NoneHolds (causes (tree_view tree))) where
    known_time : (t : TimeTree) → Contains (times_in core.reactor) t → IsKnown core.reactor.parameters t
    known_time t = known_law (tree_view tree) core.reactor t none s.listed

    abbrev timer_of : TimerTree → Timer
    timer_of t = record { name = t.name; offset = time_or_zero core t.offset; period = time_or_zero core t.period }

    timer_at : (n : ℕ) (m : Inherited) (new : List MemberTree) → Made n m new → AreAlike timer_in timer_of (λ p. timers_at files x p.1) new ((n, (m.file, m.member.now)) ∷ [])
    timer_at n m new made = of m.member.now made.lowered
      where
        of : (y : Member) → IsLowered low.names (here files tree low x core s) n made.before new made.after y → AreAlike timer_in timer_of (λ p. timers_at files x p.1) new ((n, (m.file, y)) ∷ [])
        of (member.Timer t) l = ap (λ a. map timer_of (filter_map timer_in a)) l.3 ∙ same
          where
            stands : Mem (timer_tree t) (timers_of core.reactor)
            stands = mem_filter timer_in (TimerMember (timer_tree t)) (timer_tree t) core.reactor.members (made.among (TimerMember (timer_tree t)) (subst (Mem (TimerMember (timer_tree t))) (sym l.3) (inl refl))) refl

            known : (z : TimeTree) → Mem z (timer_times (timer_tree t)) → IsKnown core.reactor.parameters z
            known z k = known_time z (timer_time core.reactor (timer_tree t) z stands k)

            offset : time_or_zero core (time_at t.offset) ≡ time_written_in files x t.offset
            offset = time_law files x core s.shape t.offset s.times l.1 (λ z e. known z (mem_left z (option_to_list (time_at t.offset)) (option_to_list (period_at t.period)) (listed (time_at t.offset) z e)))

            period : time_or_zero core (period_at t.period) ≡ period_in files x t.period
            period = period_law files x core s.shape t.period s.times l.2 (λ z e. known z (mem_right z (option_to_list (time_at t.offset)) (option_to_list (period_at t.period)) (listed (period_at t.period) z e)))

            timer : ℕ → ℕ → Timer
            timer offset period = record { name = string_bytes t.name.text; offset = offset; period = period }

            same : timer (time_or_zero core (time_at t.offset)) (time_or_zero core (period_at t.period)) ∷ [] ≡ timer (time_written_in files x t.offset) (period_in files x t.period) ∷ []
            same = ap (λ o. timer o (time_or_zero core (period_at t.period)) ∷ []) offset ∙ ap (λ p. timer (time_written_in files x t.offset) p ∷ []) period
        of (member.Port p) l = ap (λ a. map timer_of (filter_map timer_in a)) l.1 ∙ ap (map timer_of) (none_mapped timer_in (λ name. PortMember (record { name = name; is_input = p.is_input })) (λ name. refl) (names_of (named_in (here files tree low x core s) (string_bytes p.name.text) n)))
        of (member.Action a) l = ap (λ a. map timer_of (filter_map timer_in a)) l.3
        of (member.Reaction r) l = ap (map timer_of) (of_reaction timer_in (λ q. refl) (here files tree low x core s) r made.before new made.after l.1).1
        of (member.Instance i) l = ap (map timer_of) (of_instance timer_in (λ i. refl) low.names (here files tree low x core s) n (string_bytes i.name.text) new l.1)
        of (member.Connection c) l = ap (map timer_of) (of_connection timer_in (λ c. refl) _ _ c.is_broadcast (time_at c.delay) new l.4)
        of (member.Foreign what at) l = absurd l

    pub timers_alike : map timer_of (timers_of core.reactor) ≡ flat_map (timers_at files x) (members_of files x.class)
    timers_alike = members_alike files tree low x core s (AreAlike timer_in timer_of (λ p. timers_at files x p.1)) (alike_appends timer_in timer_of (λ p. timers_at files x p.1)) timer_at ∙ unnumbered (timers_at files x) 0 (members_of files x.class)

    abbrev action_of : ActionTree → Action
    action_of a = record { name = a.name; is_physical = a.is_physical; min_delay = time_or_zero core a.min_delay }

    abbrev never : Option (List ℕ)
    never = never_of files tree low x core s

    -- so it is but for the action without events
    abbrev AreAwake : List MemberTree → List (ℕ × (ℕ × Member)) → Type 0
    AreAwake a b = awake_actions never (map action_of (filter_map action_in a)) ≡ flat_map (λ p. actions_at files x p.1) b

    awake_appends : Appends AreAwake
    awake_appends = record {
      nothing = taken never;
      append = λ a b c d p q. ap (awake_actions never) (ap (map action_of) (filter_map-append action_in a b) ∙ map-append action_of (filter_map action_in a) (filter_map action_in b)) ∙ awake-append never (map action_of (filter_map action_in a)) (map action_of (filter_map action_in b)) ∙ ap (λ (l : List Action). l ++ awake_actions never (map action_of (filter_map action_in b))) p ∙ ap (λ (l : List Action). flat_map (λ p. actions_at files x p.1) c ++ l) q ∙ sym (flat_map-append (λ (p : ℕ × (ℕ × Member)). actions_at files x p.1) c d);
    }

    action_at : (n : ℕ) (m : Inherited) (new : List MemberTree) → Made n m new → AreAwake new ((n, (m.file, m.member.now)) ∷ [])
    action_at n m new made = of m.member.now refl made.lowered
      where
        of : (y : Member) → m.member.now ≡ y → IsLowered low.names (here files tree low x core s) n made.before new made.after y → AreAwake new ((n, (m.file, y)) ∷ [])
        of (member.Action a) is l = ap (λ a. awake_actions never (map action_of (filter_map action_in a))) l.3 ∙ ap (λ d. awake_actions never (action d ∷ [])) delay ∙ stays never (action (time_written_in files x a.min_delay)) apart
          where
            action : ℕ → Action
            action d = record { name = string_bytes a.name.text; is_physical = a.is_physical; min_delay = d }

            stands : Mem (action_tree a) (actions_of core.reactor)
            stands = mem_filter action_in (ActionMember (action_tree a)) (action_tree a) core.reactor.members (made.among (ActionMember (action_tree a)) (subst (Mem (ActionMember (action_tree a))) (sym l.3) (inl refl))) refl

            delay : time_or_zero core (time_at a.min_delay) ≡ time_written_in files x a.min_delay
            delay = time_law files x core s.shape a.min_delay s.times l.1 (λ z e. known_time z (action_time core.reactor (action_tree a) z stands e))

            apart : never ≡ Some (string_bytes a.name.text) → ⊥
            apart e =
                let added = never_added low.names (here files tree low x core s) s.shape.members.items core.reactor.members never s.reactor.members.1 (string_bytes a.name.text) e in
                let named : thing_named s.shape (string_bytes a.name.text) ≡ Some (thing.Member n) = ((of_class files tree low x core s).names (string_bytes a.name.text) (thing.Member n)).1 (m, made.at, ap (λ (y : Member). option_map (λ (z : Name). string_bytes z.text) (name_of y)) is) in
                let f : None ≡ Some (thing.Member n) = sym added.unnamed ∙ named in cc
        of (member.Reaction r) is l = by made.before l.1.1 made.after l.1.0 l.1.2 l.1.3 made.leads
          where
            woken : (name : List ℕ) (before : Option (List ℕ)) (more : List MemberTree) → IsAsleep (here files tree low x core s) name before more → (tree : ReactionTree) → never ≡ Some name → awake_actions never (map action_of (filter_map action_in (more ++ ReactionMember tree ∷ []))) ≡ []
            woken name _ _ known tree e = taken never
            woken name _ _ (added new is_name) tree e = gone never (record { name = name; is_physical = false; min_delay = 0 }) e

            by : (before : Option (List ℕ)) (more : List MemberTree) (after : Option (List ℕ)) (triggers : List TriggerTree) → AreTriggers (here files tree low x core s) r before more after triggers → new ≡ more ++ ReactionMember (reaction_tree (here files tree low x core s) r triggers) ∷ [] → ((q : List ℕ) → after ≡ Some q → never ≡ Some q) → AreAwake new ((n, (m.file, member.Reaction r)) ∷ [])
            by _ _ _ _ (runs before some) is leads = ap (λ a. awake_actions never (map action_of (filter_map action_in a))) is ∙ taken never
            by _ _ _ _ (sleeps name before more written none asleep) is leads = ap (λ a. awake_actions never (map action_of (filter_map action_in a))) is ∙ woken name before more asleep (reaction_tree (here files tree low x core s) r (OnRef (own name) ∷ [])) (leads name refl)
        of (member.Timer t) is l = ap (λ a. awake_actions never (map action_of (filter_map action_in a))) l.3 ∙ taken never
        of (member.Port p) is l = ap (λ a. awake_actions never (map action_of (filter_map action_in a))) l.1 ∙ ap (λ l. awake_actions never (map action_of l)) (none_mapped action_in (λ name. PortMember (record { name = name; is_input = p.is_input })) (λ name. refl) (names_of (named_in (here files tree low x core s) (string_bytes p.name.text) n))) ∙ taken never
        of (member.Instance i) is l = ap (λ l. awake_actions never (map action_of l)) (of_instance action_in (λ i. refl) low.names (here files tree low x core s) n (string_bytes i.name.text) new l.1) ∙ taken never
        of (member.Connection c) is l = ap (λ l. awake_actions never (map action_of l)) (of_connection action_in (λ c. refl) _ _ c.is_broadcast (time_at c.delay) new l.4) ∙ taken never
        of (member.Foreign what at) is l = absurd l

    pub actions_alike : awake_actions never (map action_of (actions_of core.reactor)) ≡ flat_map (actions_at files x) (members_of files x.class)
    actions_alike = members_alike files tree low x core s AreAwake awake_appends action_at ∙ unnumbered (actions_at files x) 0 (members_of files x.class)
