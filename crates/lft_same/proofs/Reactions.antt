-- The reactions of a core instance are those of the instance that it stands for, but for what sleeps.
use Rattle.std.proofs.Common.{◌≡◌, ℕ, inl, inr, All, Bool, true, false, List, [], ◌∷◌, ◌++◌, map, flat_map, filter_map, Option, Some, None, option_to_list, refl, sym, ap, subst, ◌∙◌}
use Rattle.std.specs.Prelude.{bytes_eq, filter, if◌then◌else◌, not, string_bytes, ◌&&◌}
use Rattle.std.proofs.lemmas.{Grind.flat_map-append, List.{map-append, Elements.filter_map-append, Folds.flat_map-map}, Slice.Eq.bytes_eq-Decides}
use Rattle.lft_lists.proofs.Members.{Mem, filter_map-flat_map, mem_from_flat, mem_from_map}
use Rattle.lft_tree.specs.Tree.{MemberTree, RefTree, TriggerTree, AtStartup as StartupTrigger, AtShutdown as ShutdownTrigger, OnRef, PortMember, ReactionMember, reaction_in, reactions_of}
use Rattle.lft_tree.specs.{View.tree_view, declared.ast.Ast.Ast}
use Rattle.lft_resolve.specs.{Causes.{NoneHolds, causes}, Instances.{Inside as CoreInside, Thing, stands_for, thing_at}}
use Rattle.lft_resolve.specs.Sheets.{is_timer as is_core_timer, without_timers}
use Rattle.lft_whole.specs.declared.sources.source.SourceFile.{SourceFile}
use Rattle.lft_whole.specs.declared.tree.{Effect.Effect, Member.Member, Reaction.Reaction as WrittenReaction, Reference.Reference}
use Rattle.lft_whole.specs.declared.tree.Trigger.{Trigger as WrittenTrigger}
use Rattle.lft_elaborate.specs.inner.Channels.Lowered.{own}
use Rattle.lft_classes.specs.declared.shapes.Inherited.{Inherited}
use Rattle.lft_lower.specs.inner.Meanings.{Meanings.{Means, all_places, named_in, places_in}, Places.names_of}
use Rattle.lft_lower.specs.inner.Lowered.{AreTriggers, IsAsleep, IsLowered, MeansAll, MeansEffect, MeansTrigger, added, all_triggers, asleep, effect_places, known, reaction_tree, runs, sleeps, time_at, trigger_places}
use Rattle.lft_lower.specs.inner.Reactors.{IsLowering}
use Rattle.lft_same.specs.inner.Expanded.Core.{core_reaction, things_for, triggers_for}
use Rattle.lft_same.specs.Expanded.{Expanded.{Reaction, Trigger, AtStartup, AtShutdown, OnThing}, Instances.{Inside, Widths}, Reactors.members_of}
use Rattle.lft_same.specs.Expanded.{Same.{awake_reaction, is_other}, Whole.{channels, channels_of_effect, reactions_at, triggers_in, uses_in}}
use Rattle.lft_same.proofs.{FitsLemmas.Shapes.flat_alike, Instances.{AreWidthsFound, StandsFor}, Inners.names_alike}
use Rattle.lft_same.proofs.{Kept.{all_pass, filter-flat_map, flat_kept, flat_map-flat_map, of_all}, Listed.{none_mapped, unnumbered}}
use Rattle.lft_same.proofs.{Lowered.{Appends, Becomes, of_connection, of_instance}, Members.{here, members_alike, never_of}, References.places_channels}
use Rattle.lft_same.proofs.{Settings.its_setting, Sleeping.{never_meant, own_thing}, Timers.use_alike}
use Rattle.lft_whole.specs.declared.tree.Effect.TheVariants as effect
use Rattle.lft_whole.specs.declared.tree.Member.TheVariants as member
use Rattle.lft_whole.specs.declared.tree.Trigger.TheVariants as trigger

-- triggers without the action without events, if there is one
abbrev awake_triggers : List ℕ → Option (List ℕ) → List Trigger → List Trigger
awake_triggers path None ts = ts
awake_triggers path (Some q) ts = filter (is_other (thing_at path q)) ts

-- what the action without events, if there is one, triggers is without it
abbrev pub awake_reactions : List ℕ → Option (List ℕ) → List Reaction → List Reaction
awake_reactions path None all = all
awake_reactions path (Some q) all = map (awake_reaction (thing_at path q)) all

awoken : (path : List ℕ) (never : Option (List ℕ)) (r : Reaction) (ts : List Trigger) (us es : List Thing) → awake_triggers path never r.triggers ≡ ts → r.uses ≡ us → r.effects ≡ es → awake_reactions path never (r ∷ []) ≡ record { triggers = ts; uses = us; effects = es } ∷ []
awoken path None r ts us es a b c = λ i. record { triggers = a i; uses = b i; effects = c i } ∷ []
awoken path (Some q) r ts us es a b c = λ i. record { triggers = a i; uses = b i; effects = c i } ∷ []

none_awake : (path : List ℕ) (never : Option (List ℕ)) → awake_reactions path never [] ≡ []
none_awake path None = refl
none_awake path (Some q) = refl

awake-append : (path : List ℕ) (never : Option (List ℕ)) (a b : List Reaction) → awake_reactions path never (a ++ b) ≡ awake_reactions path never a ++ awake_reactions path never b
awake-append path None a b = refl
awake-append path (Some q) a b = map-append (awake_reaction (thing_at path q)) a b

-- the thing itself is no other one
itself : (path q : List ℕ) → filter (is_other (thing_at path q)) (OnThing (thing_at path q) ∷ []) ≡ []
itself path q =
    ap (λ (b : Bool). if not (b && bytes_eq q q) then OnThing (thing_at path q) ∷ [] else []) ((bytes_eq-Decides path path).1 refl)
    ∙ ap (λ (b : Bool). if not b then OnThing (thing_at path q) ∷ [] else []) ((bytes_eq-Decides q q).1 refl)

-- what isn't another thing is the thing
not_other : (t u : Thing) → (t ≡ u → ⊥) → is_other t (OnThing u) ≡ true
not_other t u apart = go (bytes_eq t.path u.path) (bytes_eq t.name u.name) refl refl
  where
    go : (a b : Bool) → bytes_eq t.path u.path ≡ a → bytes_eq t.name u.name ≡ b → not (a && b) ≡ true
    go true true e f = absurd (let p = (bytes_eq-Decides t.path u.path).0 e in let n = (bytes_eq-Decides t.name u.name).0 f in apart (λ i. record { path = p i; name = n i }))
    go true false e f = refl
    go false b e f = refl

module _ (files : List SourceFile) (tree : Ast) (low : IsLowering files tree) (w : Widths) (found : AreWidthsFound files tree low w) (none : NoneHolds (causes (tree_view tree))) (x : Inside) (core : CoreInside) (s : StandsFor files tree low x core) (path : List ℕ) where
  abbrev never : Option (List ℕ)
  never = never_of files tree low x core s

  -- what a reference stands for
  its_channels : (ref : Reference) → Means (here files tree low x core s) ref → things_for path core.reactor (places_in (here files tree low x core s) ref) ≡ channels files w path x ref
  its_channels ref means = places_channels files tree low w found x (its_setting files tree low x core s) path core.reactor (names_alike files tree low x core s w found) ref means

  -- ---- triggers

  trigger_alike : (t : WrittenTrigger) → MeansTrigger (here files tree low x core s) t → flat_map (triggers_for path core.reactor) (trigger_places (here files tree low x core s) t) ≡ triggers_in files w path x t
  trigger_alike trigger.Startup means = refl
  trigger_alike trigger.Shutdown means = refl
  trigger_alike (trigger.Reset at) means = absurd means
  trigger_alike (trigger.Reference ref) means =
      flat_map-map (triggers_for path core.reactor) OnRef (places_in (here files tree low x core s) ref)
      ∙ flat_kept (stands_for core.reactor path) OnThing (places_in (here files tree low x core s) ref)
      ∙ ap (map OnThing) (its_channels ref means)

  triggers_alike : (ts : List WrittenTrigger) → All (MeansTrigger (here files tree low x core s)) ts → flat_map (triggers_for path core.reactor) (flat_map (trigger_places (here files tree low x core s)) ts) ≡ flat_map (triggers_in files w path x) ts
  triggers_alike ts mean =
      flat_map-flat_map (triggers_for path core.reactor) (trigger_places (here files tree low x core s)) ts
      ∙ flat_alike (λ t. flat_map (triggers_for path core.reactor) (trigger_places (here files tree low x core s) t)) (triggers_in files w path x) ts (λ t k. trigger_alike t (of_all (MeansTrigger (here files tree low x core s)) ts mean t k))

  -- none of them is the action without events
  module _ (q : List ℕ) (e : never ≡ Some q) where
    place_other : (ref : Reference) (p : RefTree) → Mem p (places_in (here files tree low x core s) ref) → (u : Thing) → stands_for core.reactor path p ≡ Some u → is_other (thing_at path q) (OnThing u) ≡ true
    place_other ref p k u is = not_other (thing_at path q) u (λ same. let o = own_thing core.reactor path q p.head p.port (is ∙ ap Some (sym same)) in never_meant files tree none low x core s q e p o.0 o.1 ref k)

    listed_one : (o : Option Thing) (u : Thing) → Mem u (option_to_list o) → o ≡ Some u
    listed_one None u m = absurd m
    listed_one (Some z) u (inl same) = ap Some same
    listed_one (Some z) u (inr m) = absurd m

    cue_other : (t : WrittenTrigger) (cue : TriggerTree) → Mem cue (trigger_places (here files tree low x core s) t) → (c : Trigger) → Mem c (triggers_for path core.reactor cue) → is_other (thing_at path q) c ≡ true
    cue_other t cue k AtStartup m = refl
    cue_other t cue k AtShutdown m = refl
    cue_other t StartupTrigger k (OnThing u) (inl same) = absurd (let f : AtStartup ≡ OnThing u = same in cc)
    cue_other t StartupTrigger k (OnThing u) (inr m) = absurd m
    cue_other t ShutdownTrigger k (OnThing u) (inl same) = absurd (let f : AtShutdown ≡ OnThing u = same in cc)
    cue_other t ShutdownTrigger k (OnThing u) (inr m) = absurd m
    cue_other t (OnRef p) k (OnThing u) m = by t k
      where
        v : (v : Thing) × Mem v (option_to_list (stands_for core.reactor path p)) × (OnThing v ≡ OnThing u)
        v = mem_from_map OnThing (option_to_list (stands_for core.reactor path p)) (OnThing u) m

        is : stands_for core.reactor path p ≡ Some u
        is = listed_one (stands_for core.reactor path p) v.0 v.1 ∙ (let f : OnThing v.0 ≡ OnThing u = v.2 in let g : v.0 ≡ u = cc in ap Some g)

        by : (t : WrittenTrigger) → Mem (OnRef p) (trigger_places (here files tree low x core s) t) → is_other (thing_at path q) (OnThing u) ≡ true
        by trigger.Startup (inl same) = absurd (let f : StartupTrigger ≡ OnRef p = same in cc)
        by trigger.Startup (inr m) = absurd m
        by trigger.Shutdown (inl same) = absurd (let f : ShutdownTrigger ≡ OnRef p = same in cc)
        by trigger.Shutdown (inr m) = absurd m
        by (trigger.Reset at) m = absurd m
        by (trigger.Reference ref) m =
            let z = mem_from_map OnRef (places_in (here files tree low x core s) ref) (OnRef p) m in
            let f : OnRef z.0 ≡ OnRef p = z.2 in
            let g : z.0 ≡ p = cc in
            place_other ref p (subst (λ r. Mem r (places_in (here files tree low x core s) ref)) g z.1) u is

  all_awake : (ts : List WrittenTrigger) → awake_triggers path never (flat_map (triggers_for path core.reactor) (flat_map (trigger_places (here files tree low x core s)) ts)) ≡ flat_map (triggers_for path core.reactor) (flat_map (trigger_places (here files tree low x core s)) ts)
  all_awake ts = go never refl
    where
      go : (o : Option (List ℕ)) → never ≡ o → awake_triggers path o (flat_map (triggers_for path core.reactor) (flat_map (trigger_places (here files tree low x core s)) ts)) ≡ flat_map (triggers_for path core.reactor) (flat_map (trigger_places (here files tree low x core s)) ts)
      go None e = refl
      go (Some q) e = all_pass (is_other (thing_at path q)) (flat_map (triggers_for path core.reactor) (flat_map (trigger_places (here files tree low x core s)) ts)) (λ c k.
          let cue = mem_from_flat (triggers_for path core.reactor) (flat_map (trigger_places (here files tree low x core s)) ts) c k in
          let t = mem_from_flat (trigger_places (here files tree low x core s)) ts cue.0 cue.1 in
          cue_other q e t.0 cue.0 t.2 c cue.2)

  -- ---- a reaction

  effect_alike : (f : Effect) → MeansEffect (here files tree low x core s) f → things_for path core.reactor (effect_places (here files tree low x core s) f) ≡ channels_of_effect files w path x f
  effect_alike (effect.Mode at) means = absurd means
  effect_alike (effect.Reference ref) means = its_channels ref means

  module _ (r : WrittenReaction) (mean : MeansAll (here files tree low x core s) r) where
    abbrev its_reaction : Reaction
    its_reaction = record { triggers = flat_map (triggers_in files w path x) r.triggers.items; uses = flat_map (uses_in files w path x) r.uses.items; effects = flat_map (channels_of_effect files w path x) r.effects.items }

    uses_alike : things_for path core.reactor (without_timers core.reactor (all_places (here files tree low x core s) r.uses.items)) ≡ flat_map (uses_in files w path x) r.uses.items
    uses_alike =
        ap (things_for path core.reactor) (filter-flat_map (λ (ref : RefTree). not (is_core_timer core.reactor ref.head ref.port)) (places_in (here files tree low x core s)) r.uses.items)
        ∙ filter_map-flat_map (λ ref. without_timers core.reactor (places_in (here files tree low x core s) ref)) (stands_for core.reactor path) r.uses.items
        ∙ flat_alike (λ ref. things_for path core.reactor (without_timers core.reactor (places_in (here files tree low x core s) ref))) (uses_in files w path x) r.uses.items (λ ref k. use_alike files tree low x core s w found path ref (of_all (Means (here files tree low x core s)) r.uses.items mean.uses ref k))

    effects_alike : things_for path core.reactor (flat_map (effect_places (here files tree low x core s)) r.effects.items) ≡ flat_map (channels_of_effect files w path x) r.effects.items
    effects_alike =
        filter_map-flat_map (effect_places (here files tree low x core s)) (stands_for core.reactor path) r.effects.items
        ∙ flat_alike (λ f. things_for path core.reactor (effect_places (here files tree low x core s) f)) (channels_of_effect files w path x) r.effects.items (λ f k. effect_alike f (of_all (MeansEffect (here files tree low x core s)) r.effects.items mean.effects f k))

    woken : (ts : List TriggerTree) → awake_triggers path never (flat_map (triggers_for path core.reactor) ts) ≡ flat_map (triggers_in files w path x) r.triggers.items → awake_reactions path never (core_reaction path core.reactor (reaction_tree (here files tree low x core s) r ts) ∷ []) ≡ its_reaction ∷ []
    woken ts same = awoken path never (core_reaction path core.reactor (reaction_tree (here files tree low x core s) r ts)) (flat_map (triggers_in files w path x) r.triggers.items) (flat_map (uses_in files w path x) r.uses.items) (flat_map (channels_of_effect files w path x) r.effects.items) same uses_alike effects_alike

    -- what it becomes is the reaction
    reaction_alike : (before : Option (List ℕ)) (more : List MemberTree) (after : Option (List ℕ)) (triggers : List TriggerTree) → AreTriggers (here files tree low x core s) r before more after triggers → ((q : List ℕ) → after ≡ Some q → never ≡ Some q) → awake_reactions path never (map (core_reaction path core.reactor) (filter_map reaction_in (more ++ ReactionMember (reaction_tree (here files tree low x core s) r triggers) ∷ []))) ≡ its_reaction ∷ []
    reaction_alike _ _ _ _ (runs before some) leads = woken (all_triggers (here files tree low x core s) r) (all_awake r.triggers.items ∙ triggers_alike r.triggers.items mean.triggers)
    reaction_alike _ _ _ _ (sleeps name before more written nothing asleep) leads = by before more asleep
      where
        silent : awake_triggers path never (OnThing (thing_at path name) ∷ []) ≡ flat_map (triggers_in files w path x) r.triggers.items
        silent =
            ap (λ o. awake_triggers path o (OnThing (thing_at path name) ∷ [])) (leads name refl)
            ∙ itself path name
            ∙ ap (flat_map (triggers_for path core.reactor)) (sym nothing)
            ∙ triggers_alike r.triggers.items mean.triggers

        by : (before : Option (List ℕ)) (more : List MemberTree) → IsAsleep (here files tree low x core s) name before more → awake_reactions path never (map (core_reaction path core.reactor) (filter_map reaction_in (more ++ ReactionMember (reaction_tree (here files tree low x core s) r (OnRef (own name) ∷ [])) ∷ []))) ≡ its_reaction ∷ []
        by _ _ known = woken (OnRef (own name) ∷ []) silent
        by _ _ (added new is_name) = woken (OnRef (own name) ∷ []) silent

  -- ---- all members

  -- core reactions are the reactions of these members, but for what sleeps
  abbrev AreAwake : List MemberTree → List (ℕ × (ℕ × Member)) → Type 0
  AreAwake a b = awake_reactions path never (map (core_reaction path core.reactor) (filter_map reaction_in a)) ≡ flat_map (λ p. reactions_at files w path x p.1) b

  awake_appends : Appends AreAwake
  awake_appends = record {
    nothing = none_awake path never;
    append = λ a b c d p q. ap (awake_reactions path never) (ap (map (core_reaction path core.reactor)) (filter_map-append reaction_in a b) ∙ map-append (core_reaction path core.reactor) (filter_map reaction_in a) (filter_map reaction_in b)) ∙ awake-append path never (map (core_reaction path core.reactor) (filter_map reaction_in a)) (map (core_reaction path core.reactor) (filter_map reaction_in b)) ∙ ap (λ (l : List Reaction). l ++ awake_reactions path never (map (core_reaction path core.reactor) (filter_map reaction_in b))) p ∙ ap (λ (l : List Reaction). flat_map (λ p. reactions_at files w path x p.1) c ++ l) q ∙ sym (flat_map-append (λ (p : ℕ × (ℕ × Member)). reactions_at files w path x p.1) c d);
  }

  reaction_at : (n : ℕ) (m : Inherited) (new : List MemberTree) → Becomes low.names (here files tree low x core s) core.reactor.members never n m new → AreAwake new ((n, (m.file, m.member.now)) ∷ [])
  reaction_at n m new made = of m.member.now made.lowered
    where
      lost : filter_map reaction_in new ≡ [] → awake_reactions path never (map (core_reaction path core.reactor) (filter_map reaction_in new)) ≡ []
      lost e = ap (λ l. awake_reactions path never (map (core_reaction path core.reactor) l)) e ∙ none_awake path never

      of : (y : Member) → IsLowered low.names (here files tree low x core s) n made.before new made.after y → AreAwake new ((n, (m.file, y)) ∷ [])
      of (member.Reaction r) l = ap (λ a. awake_reactions path never (map (core_reaction path core.reactor) (filter_map reaction_in a))) l.1.3 ∙ reaction_alike r l.0 made.before l.1.1 made.after l.1.0 l.1.2 made.leads
      of (member.Port p) l = lost (ap (filter_map reaction_in) l.1 ∙ none_mapped reaction_in (λ name. PortMember (record { name = name; is_input = p.is_input })) (λ name. refl) (names_of (named_in (here files tree low x core s) (string_bytes p.name.text) n)))
      of (member.Timer t) l = lost (ap (filter_map reaction_in) l.3)
      of (member.Action a) l = lost (ap (filter_map reaction_in) l.3)
      of (member.Instance i) l = lost (of_instance reaction_in (λ i. refl) low.names (here files tree low x core s) n (string_bytes i.name.text) new l.1)
      of (member.Connection c) l = lost (of_connection reaction_in (λ c. refl) _ _ c.is_broadcast (time_at c.delay) new l.4)
      of (member.Foreign what at) l = absurd l

  -- the reactions of both are the same, but for what sleeps
  pub reactions_alike : awake_reactions path never (map (core_reaction path core.reactor) (reactions_of core.reactor)) ≡ flat_map (reactions_at files w path x) (members_of files x.class)
  reactions_alike = members_alike files tree low x core s AreAwake awake_appends reaction_at ∙ unnumbered (reactions_at files w path x) 0 (members_of files x.class)
