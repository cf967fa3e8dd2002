-- Nothing names the action without events that lowering adds, but the reactions that sleep.
use Rattle.std.proofs.Common.{◌≡◌, ℕ, ◌+◌, ◌<◌, inl, inr, ⊎_elim, Bool, false, List, [], ◌∷◌, ◌++◌, length, length-append, map, filter_map, Option, Some, None, Contains, option_map, slice_get, refl, sym, ap, subst, ◌∙◌, arith, append-nil}
use Rattle.std.specs.Prelude.{bytes_eq, position, string_bytes, unwrap_or}
use Rattle.std.proofs.lemmas.{Option.slice_get_within, List.Elements.filter_map-append}
use Rattle.lft_lists.proofs.Mapped.{option_map_some}
use Rattle.lft_lists.proofs.Members.{Mem, contains_mem, get_mem, mem_cases, mem_contains, mem_filter, mem_from_filter, mem_from_flat, mem_from_map, mem_left, mem_map, mem_right}
use Rattle.lft_lists.proofs.Places.{Some_same, at_contains, get_left, get_right}
use Rattle.lft_elaborate.specs.Channels.Channels.{below}
use Rattle.lft_elaborate.specs.inner.{Channels.{Channels.places, Lowered.{inner, own}}, Meanings.meaning_named, Names.name_in, Widths.found_width}
use Rattle.lft_elaborate.specs.declared.meanings.Meaning.{Meaning}
use Rattle.lft_tree.specs.Tree.{ActionTree, TriggerTree, InstanceTree, InstanceMember, MemberTree, PortTree, PortMember, ReactionTree, ReactorTree, RefTree, action_in, actions_of, instance_in, instances_of, port_in, ports_of, reaction_in, reactions_of, reactors_of, timers_of}
use Rattle.lft_tree.specs.{View.tree_view, declared.ast.Ast.Ast}
use Rattle.lft_resolve.specs.Causes.{DeclaresTwice, DuplicateName, IsTwice, NoneHolds, causes}
use Rattle.lft_resolve.specs.{Instances.{Inside as CoreInside, Thing, stands_for, stands_inside, thing_at}, Kinds.names_in}
use Rattle.lft_resolve.proofs.Twice.{Any-at, twice_left}
use Rattle.lft_program.specs.Flattening.{time_or_zero}
use Rattle.lft_whole.specs.declared.sources.source.SourceFile.{SourceFile}
use Rattle.lft_whole.specs.declared.tree.{Effect.Effect, Member.Member, Name.Name, Reaction.Reaction as WrittenReaction, Reference.Reference}
use Rattle.lft_classes.specs.declared.shapes.{Inherited.Inherited, InheritedParameter.InheritedParameter, OwnThing.OwnThing as ShapeThing}
use Rattle.lft_classes.specs.{Shapes.{name_of, width_of}, inner.Shapes.thing_named}
use Rattle.lft_lower.specs.inner.Meanings.{Meanings.{named_in, places_in, places_of, port_of, thing_in}, Places.{Several, count_of, name_at, names_of}}
use Rattle.lft_lower.specs.inner.Lowered.{AreInstances, IsLowered, IsLoweredReaction, asleep, effect_places, no_instances, reaction_tree, some_instances, time_at}
use Rattle.lft_lower.specs.inner.Reactors.{IsLowering}
use Rattle.lft_same.specs.inner.Expanded.Core.{core_contents, core_reaction}
use Rattle.lft_same.specs.Expanded.{Expanded.{Action, Reaction}, Instances.Inside, Same.{IsNever, IsUnscheduled}}
use Rattle.lft_same.proofs.{FitsLemmas.Ports.port_is, Instances.StandsFor, Listed.none_mapped}
use Rattle.lft_same.proofs.Lowered.{Appends, Becomes, IsAdded, all_become, made_at, never_added, of_connection, of_instance, of_reaction}
use Rattle.lft_same.proofs.{Members.{here, never_of, of_class, unwritten}, References.named as member_named}
use Rattle.lft_elaborate.specs.declared.meanings.Meaning.TheVariants as meaning
use Rattle.lft_whole.specs.declared.tree.Effect.TheVariants as effect
use Rattle.lft_whole.specs.declared.tree.Member.TheVariants as member
use Rattle.lft_classes.specs.declared.shapes.OwnThing.TheVariants as thing

-- what stands in two lists stands twice in both together
both_twice : {X : Type 0} (x : X) (xs ys : List X) → Mem x xs → Mem x ys → IsTwice (xs ++ ys)
both_twice x xs ys m n =
    let i = get_mem x xs m in
    let j = get_mem x ys n in
    let l : i.0 < length xs + j.0 = (let k = slice_get_within xs i.0 x i.1 in omega (arith, k)) in
    (i.0, length xs + j.0, x, l, get_left xs ys i.0 x i.1, get_right xs ys j.0 ∙ j.1)

-- no name stands twice in a reactor of a tree that isn't refused
names_once : (tree : Ast) → NoneHolds (causes (tree_view tree)) → (r : ReactorTree) → Contains (reactors_of (tree_view tree)) r → IsTwice (names_in r) → ⊥
unfolding DuplicateName
names_once tree none r stands twice = let k = at_contains (reactors_of (tree_view tree)) r stands in none.1.1.0 (inr (Any-at DeclaresTwice (reactors_of (tree_view tree)) k.0 r k.1 (inl twice)))

module _ (r : ReactorTree) (once : IsTwice (names_in r) → ⊥) (q : List ℕ) (stands : Mem q (map (λ a. a.name) (actions_of r))) where
  abbrev of_parameters : List (List ℕ)
  of_parameters = map (λ p. p.name) r.parameters

  abbrev of_ports : List (List ℕ)
  of_ports = map (λ p. p.name) (ports_of r)

  abbrev of_timers : List (List ℕ)
  of_timers = map (λ t. t.name) (timers_of r)

  abbrev of_actions : List (List ℕ)
  of_actions = map (λ a. a.name) (actions_of r)

  abbrev of_instances : List (List ℕ)
  of_instances = map (λ i. i.name) (instances_of r)

  -- what an action is named no port is named
  no_port : Mem q of_ports → ⊥
  no_port m = once (twice_left (of_parameters ++ of_ports ++ of_timers ++ of_actions) of_instances (both_twice q (of_parameters ++ of_ports ++ of_timers) of_actions (mem_left q (of_parameters ++ of_ports) of_timers (mem_right q of_parameters of_ports m)) stands))

  -- nor an instance
  no_instance : Mem q of_instances → ⊥
  no_instance m = once (both_twice q (of_parameters ++ of_ports ++ of_timers ++ of_actions) of_instances (mem_right q (of_parameters ++ of_ports ++ of_timers) of_actions stands) m)

-- what is an own thing is named so
pub own_thing : (r : ReactorTree) (path q head : List ℕ) (port : Option (List ℕ)) → stands_inside r path head port ≡ Some (thing_at path q) → (port ≡ None) × (head ≡ q)
own_thing r path q head None e = (refl, ap (λ (t : Thing). t.name) (Some_same (thing_at path head) (thing_at path q) e))
own_thing r path q head (Some p) e =
    let k = option_map_some (λ k. thing_at (path ++ k ∷ []) p) (position (λ (i : InstanceTree). bytes_eq head i.name) (instances_of r)) (thing_at path q) e in
    let long : length (path ++ k.0 ∷ []) ≡ length path = ap (λ (t : Thing). length t.path) k.2 in
    let both = length-append path (k.0 ∷ []) in
    absurd (omega (arith, long, both))

module _ (files : List SourceFile) (tree : Ast) (none : NoneHolds (causes (tree_view tree))) (low : IsLowering files tree) (x : Inside) (core : CoreInside) (s : StandsFor files tree low x core) (q : List ℕ) (e : never_of files tree low x core s ≡ Some q) where
  is_added : IsAdded low.names (here files tree low x core s) core.reactor.members q
  is_added = never_added low.names (here files tree low x core s) s.shape.members.items core.reactor.members (never_of files tree low x core s) s.reactor.members.1 q e

  -- the action stands in the core reactor
  sleeping : Mem (record { name = q; is_physical = false; min_delay = None }) (actions_of core.reactor)
  sleeping = mem_filter action_in (asleep q) (record { name = q; is_physical = false; min_delay = None }) core.reactor.members is_added.stands refl

  action_named : Mem q (map (λ a. a.name) (actions_of core.reactor))
  action_named = mem_map (λ (a : ActionTree). a.name) (record { name = q; is_physical = false; min_delay = None }) (actions_of core.reactor) sleeping

  once : IsTwice (names_in core.reactor) → ⊥
  once = names_once tree none core.reactor s.listed

  not_port : (p : PortTree) → Mem (PortMember p) core.reactor.members → p.name ≡ q → ⊥
  not_port p m same = no_port core.reactor once q action_named (subst (λ n. Mem n (map (λ p. p.name) (ports_of core.reactor))) same (mem_map (λ (p : PortTree). p.name) p (ports_of core.reactor) (mem_filter port_in (PortMember p) p core.reactor.members m refl)))

  not_instance : (i : InstanceTree) → Mem (InstanceMember i) core.reactor.members → i.name ≡ q → ⊥
  not_instance i m same = no_instance core.reactor once q action_named (subst (λ n. Mem n (map (λ i. i.name) (instances_of core.reactor))) same (mem_map (λ (i : InstanceTree). i.name) i (instances_of core.reactor) (mem_filter instance_in (InstanceMember i) i core.reactor.members m refl)))

  -- it isn't what anything is named in the reactor of the source
  other_name : (th : ShapeThing) (head : List ℕ) → thing_named s.shape head ≡ Some th → head ++ [] ≡ q → ⊥
  other_name th head named same =
      let f : None ≡ Some th = sym is_added.unnamed ∙ ap (thing_named s.shape) (sym same ∙ append-nil head) ∙ named in cc

  -- nor what anything becomes
  own_name : (th : ShapeThing) (head : List ℕ) (k : ℕ) → thing_named s.shape head ≡ Some th → Mem k (below (count_of (thing_in (here files tree low x core s) th))) → name_at (thing_in (here files tree low x core s) th) k ≡ q → ⊥
  own_name (thing.Parameter n) head k named among same =
      let p = ((of_class files tree low x core s).names head (thing.Parameter n)).0 named in
      other_name (thing.Parameter n) head named (ap (λ z. z ++ []) (sym (ap (λ o. unwrap_or (option_map (λ (p : InheritedParameter). string_bytes p.parameter.now.name.text) o) []) p.1 ∙ p.2)) ∙ same)
  own_name (thing.Member n) head k named among same = of m.0.member.now (member_named m.0.member.now head m.2) refl made.1.lowered
    where
      m : (m : Inherited) × (slice_get s.shape.members.items n ≡ Some m) × (option_map (λ (z : Name). string_bytes z.text) (name_of m.member.now) ≡ Some head)
      m = ((of_class files tree low x core s).names head (thing.Member n)).0 named

      made : (new : List MemberTree) × Becomes low.names (here files tree low x core s) core.reactor.members (never_of files tree low x core s) n m.0 new
      made = made_at low.names (here files tree low x core s) core.reactor.members (never_of files tree low x core s) s.reactor.members.1 n m.0 m.1

      -- all of it, by its name
      several : List ℕ → Several
      several name = named_in (here files tree low x core s) name n

      name_is : unwrap_or (option_map (λ (m : Inherited). name_in m.member.now) (slice_get s.shape.members.items n)) [] ≡ name_in m.0.member.now
      name_is = ap (λ o. unwrap_or (option_map (λ (m : Inherited). name_in m.member.now) o) []) m.1

      at_name : name_at (several (name_in m.0.member.now)) k ≡ q
      at_name = ap (λ name. name_at (several name) k) (sym name_is) ∙ same

      plain : width_of m.0.member.now ≡ None → name_in m.0.member.now ≡ head → ⊥
      plain narrow is = go (found_width low.settings s.number n) refl at_name
        where
          go : (f : Option ℕ) → found_width low.settings s.number n ≡ f → name_at (record { name = name_in m.0.member.now; width = f }) k ≡ q → ⊥
          go None g at = other_name (thing.Member n) head named (ap (λ z. z ++ []) (sym is) ∙ at)
          go (Some c) g at = unwritten files tree low x core s n c m.0 m.1 narrow g

      of : (y : Member) → name_in m.0.member.now ≡ head → m.0.member.now ≡ y → IsLowered low.names (here files tree low x core s) n made.1.before made.0 made.1.after y → ⊥
      of (member.Port p) is alike l = not_port (tree_of (name_at (several (string_bytes p.name.text)) k)) (made.1.among (port (name_at (several (string_bytes p.name.text)) k)) (subst (Mem (port (name_at (several (string_bytes p.name.text)) k))) (sym l.1) stands)) (ap (λ y. name_at (several (name_in y)) k) (sym alike) ∙ at_name)
        where
          tree_of : List ℕ → PortTree
          tree_of name = record { name = name; is_input = p.is_input }

          port : List ℕ → MemberTree
          port name = PortMember (tree_of name)

          stands : Mem (port (name_at (several (string_bytes p.name.text)) k)) (map (λ name. PortMember (record { name = name; is_input = p.is_input })) (names_of (several (string_bytes p.name.text))))
          stands = mem_map port (name_at (several (string_bytes p.name.text)) k) (names_of (several (string_bytes p.name.text))) (mem_map (name_at (several (string_bytes p.name.text))) k (below (count_of (several (string_bytes p.name.text)))) among)
      of (member.Instance i) is alike l = by made.0 l.1 made.1.among
        where
          by : (new : List MemberTree) → AreInstances low.names (here files tree low x core s) n (string_bytes i.name.text) new → ((y : MemberTree) → Mem y new → Mem y core.reactor.members) → ⊥
          by _ (no_instances nothing) all = absurd (subst (λ c. Mem k (below c)) nothing among)
          by _ (some_instances reactor given named are) all = not_instance (tree_of (name_at (several (string_bytes i.name.text)) k)) (all (instance (name_at (several (string_bytes i.name.text)) k)) stands) (ap (λ y. name_at (several (name_in y)) k) (sym alike) ∙ at_name)
            where
              tree_of : List ℕ → InstanceTree
              tree_of name = record { name = name; reactor = reactor; given = given }

              instance : List ℕ → MemberTree
              instance name = InstanceMember (tree_of name)

              stands : Mem (instance (name_at (several (string_bytes i.name.text)) k)) (map (λ name. InstanceMember (record { name = name; reactor = reactor; given = given })) (names_of (several (string_bytes i.name.text))))
              stands = mem_map instance (name_at (several (string_bytes i.name.text)) k) (names_of (several (string_bytes i.name.text))) (mem_map (name_at (several (string_bytes i.name.text))) k (below (count_of (several (string_bytes i.name.text)))) among)
      of (member.Timer t) is alike l = plain (ap width_of alike) is
      of (member.Action a) is alike l = plain (ap width_of alike) is
      of (member.Reaction r) is alike l = plain (ap width_of alike) is
      of (member.Connection c) is alike l = plain (ap width_of alike) is
      of (member.Foreign what at) is alike l = absurd l

  -- no place of a reference is it
  module _ (ref : RefTree) (own_port : ref.port ≡ None) (own_head : ref.head ≡ q) where
    no_inner : (interleaved : Bool) (head port : List ℕ) (o : Option Meaning) → meaning_named low.settings.shapes.items s.shape head (Some port) ≡ o → Mem ref (unwrap_or (option_map (places_of (here files tree low x core s) interleaved) o) []) → ⊥
    no_inner interleaved head port None is m = absurd m
    no_inner interleaved head port (Some z) is m =
        let b = port_is low.settings.shapes.items s.shape head port z is in
        let members : Several = thing_in (here files tree low x core s) (thing.Member b.instance) in
        let ports : Several = port_of (here files tree low x core s) b.instance b.port in
        let p = mem_from_map (λ (p : ℕ × ℕ). inner (name_at members p.0) (name_at ports p.1)) (places (count_of members) (count_of ports) interleaved) ref (subst (λ (z : Meaning). Mem ref (places_of (here files tree low x core s) interleaved z)) (sym b.is_meant) m) in
        let f : Some (name_at ports p.0.1) ≡ None = ap (λ (r : RefTree). r.port) p.2 ∙ own_port in cc

    itself : (interleaved : Bool) (head : List ℕ) (o : Option ShapeThing) → thing_named s.shape head ≡ o → Mem ref (unwrap_or (option_map (places_of (here files tree low x core s) interleaved) (option_map (λ th. meaning.Own th) o)) []) → ⊥
    itself interleaved head None e m = absurd m
    itself interleaved head (Some th) e m =
        let k = mem_from_map (λ k. own (name_at (thing_in (here files tree low x core s) th) k)) (below (count_of (thing_in (here files tree low x core s) th))) ref m in
        own_name th head k.0 e k.1 (ap (λ (r : RefTree). r.head) k.2 ∙ own_head)

    pub never_meant : (r : Reference) → Mem ref (places_in (here files tree low x core s) r) → ⊥
    never_meant r m = by (option_map (λ (n : Name). string_bytes n.text) r.port) m
      where
        by : (port : Option (List ℕ)) → Mem ref (unwrap_or (option_map (places_of (here files tree low x core s) r.is_interleaved) (meaning_named low.settings.shapes.items s.shape (string_bytes r.head.text) port)) []) → ⊥
        by None m = itself r.is_interleaved (string_bytes r.head.text) (thing_named s.shape (string_bytes r.head.text)) refl m
        by (Some port) m = no_inner r.is_interleaved (string_bytes r.head.text) port (meaning_named low.settings.shapes.items s.shape (string_bytes r.head.text) (Some port)) refl m

  -- ---- effects

  -- no effect of reactions is it
  abbrev Unscheduled : List MemberTree → List (ℕ × (ℕ × Member)) → Type 0
  Unscheduled some members = (t : ReactionTree) → Mem t (filter_map reaction_in some) → (ref : RefTree) → Mem ref t.effects → ref.port ≡ None → ref.head ≡ q → ⊥

  unscheduled_appends : Appends Unscheduled
  unscheduled_appends = record {
    nothing = λ t m. absurd m;
    append = λ some more left right before behind t m. ⊎_elim (before t) (behind t) (mem_cases t (filter_map reaction_in some) (filter_map reaction_in more) (subst (Mem t) (filter_map-append reaction_in some more) m));
  }

  unscheduled_at : (n : ℕ) (m : Inherited) (new : List MemberTree) → Becomes low.names (here files tree low x core s) core.reactor.members (never_of files tree low x core s) n m new → Unscheduled new ((n, (m.file, m.member.now)) ∷ [])
  unscheduled_at n m new made = of m.member.now made.lowered
    where
      lost : filter_map reaction_in new ≡ [] → Unscheduled new ((n, (m.file, m.member.now)) ∷ [])
      lost e t k = absurd (subst (Mem t) e k)

      reacts : (r : WrittenReaction) → IsLoweredReaction (here files tree low x core s) r made.before new made.after → Unscheduled new ((n, (m.file, m.member.now)) ∷ [])
      reacts r is t k ref among own_port own_head =
          let made_of = of_reaction reaction_in (λ q. refl) (here files tree low x core s) r made.before new made.after is in
          one made_of.0 (subst (Mem t) made_of.1 k)
        where
          places : (f : Effect) → Mem ref (effect_places (here files tree low x core s) f) → ⊥
          places (effect.Mode at) m = absurd m
          places (effect.Reference r) m = never_meant ref own_port own_head r m

          one : (triggers : List TriggerTree) → Mem t (reaction_tree (here files tree low x core s) r triggers ∷ []) → ⊥
          one triggers (inl same) =
              let f = mem_from_flat (effect_places (here files tree low x core s)) r.effects.items ref (subst (λ (t : ReactionTree). Mem ref t.effects) (sym same) among) in
              places f.0 f.2
          one triggers (inr m) = absurd m

      of : (y : Member) → IsLowered low.names (here files tree low x core s) n made.before new made.after y → Unscheduled new ((n, (m.file, m.member.now)) ∷ [])
      of (member.Port p) l = lost (ap (filter_map reaction_in) l.1 ∙ none_mapped reaction_in (λ name. PortMember (record { name = name; is_input = p.is_input })) (λ name. refl) (names_of (named_in (here files tree low x core s) (string_bytes p.name.text) n)))
      of (member.Timer t) l = lost (ap (filter_map reaction_in) l.3)
      of (member.Action a) l = lost (ap (filter_map reaction_in) l.3)
      of (member.Instance i) l = lost (of_instance reaction_in (λ i. refl) low.names (here files tree low x core s) n (string_bytes i.name.text) new l.1)
      of (member.Connection c) l = lost (of_connection reaction_in (λ c. refl) _ _ c.is_broadcast (time_at c.delay) new l.4)
      of (member.Foreign what at) l = absurd l
      of (member.Reaction r) l = reacts r l.1

  unscheduled : (t : ReactionTree) → Mem t (reactions_of core.reactor) → (ref : RefTree) → Mem ref t.effects → ref.port ≡ None → ref.head ≡ q → ⊥
  unscheduled = all_become low.names (here files tree low x core s) core.reactor.members (never_of files tree low x core s) Unscheduled unscheduled_appends unscheduled_at s.reactor.members.1

  -- nothing schedules it
  pub is_never : (path : List ℕ) → IsNever path (Some q) (core_contents path core)
  is_never path = (mem_contains (record { name = q; is_physical = false; min_delay = 0 }) (map action_of (actions_of core.reactor)) (mem_map action_of (record { name = q; is_physical = false; min_delay = None }) (actions_of core.reactor) sleeping), alone)
    where
      action_of : ActionTree → Action
      action_of a = record { name = a.name; is_physical = a.is_physical; min_delay = time_or_zero core a.min_delay }

      alone : IsUnscheduled (thing_at path q) (map (core_reaction path core.reactor) (reactions_of core.reactor))
      alone r listed effects =
          let t = mem_from_map (core_reaction path core.reactor) (reactions_of core.reactor) r (contains_mem r (map (core_reaction path core.reactor) (reactions_of core.reactor)) listed) in
          let f = mem_from_filter (stands_for core.reactor path) t.0.effects (thing_at path q) (subst (Mem (thing_at path q)) (ap (λ (r : Reaction). r.effects) (sym t.2)) (contains_mem (thing_at path q) r.effects effects)) in
          let o = own_thing core.reactor path q f.0.head f.0.port f.2 in
          unscheduled t.0 t.1 f.0 f.1 o.0 o.1
