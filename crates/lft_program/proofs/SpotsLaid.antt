-- What the names in the reactions of a tree are by number.
use Rattle.std.proofs.Common.{◌≡◌, ℕ, ◌≤◌, List, [], ◌∷◌, ◌+◌, Some, None, map, length, slice_get, sym, ap, subst, ◌∙◌, arith}
use Rattle.std.{specs.{Option.{option_map, option_and_then}, List.AllZip}, proofs.lemmas.{Option.slice_get_within, List.length-map}}
use Rattle.lft_tree.specs.Tree.{FileTree, ReactorTree, ReactionTree, RefTree, TriggerTree, AtStartup, AtShutdown, OnRef, reactors_of, ports_of, timers_of, actions_of, reactions_of}
use Rattle.lft_lists.proofs.Mapped.{option_map_some}
use Rattle.lft_resolve.specs.inner.{Expansion.Joins.port_at, Places.place, Sheets.{AreCues, IsCue, IsReactions, IsSpot}}
use Rattle.lft_resolve.specs.declared.{expansion.numbering.Thing.Thing, by_number.sheets.{Cue.Cue, Cues.Cues, NamedThing.NamedThing}}
use Rattle.lft_resolve.specs.{Instances.{Thing as Spoken, thing_at, stands_inside, stands_for}, Sheets.without_timers}
use Rattle.lft_resolve.proofs.{Directed.AllZip-to, Files.AllZip-from}
use Rattle.lft_program.specs.Located.{Located, Declared, declared, declared_things}
use Rattle.lft_program.specs.inner.{Nests.{IsNumbering, IsThingOf}, Laying.{Each, HasCues, HasNamedThing, HasCue, IsReactionAt, cues_at, name_at, trigger_at}}
use Rattle.lft_program.specs.inner.OfTree.{AreOfTree}
use Rattle.lft_program.specs.declared.nesting.{linking.Linked.Linked, nest.{Nest.Nest, Numbering.Numbering}, tables.Tables.Tables}
use Rattle.lft_program.specs.Flattening.{IsFlatName, IsReaction, IsTrigger}
use Rattle.lft_program.proofs.{Counting.base, Ends.{place_at, standing}, Listing.{declared_from, declared_long}, Ports.{number_at, thing_forth}}
use Rattle.lft_program.proofs.{Singles.place_forth, LaidOut.row_there, Making.{Made, made_zip}}
use Rattle.lft_ir.specs.declared.parts.{Name.{Name, TheVariants.{Port, Action}}, Reaction.Reaction}
use Rattle.lft_ir.specs.declared.parts.Trigger.{Trigger, TheVariants.{Startup, Shutdown, Timer, On}}
use Rattle.lft_resolve.specs.declared.by_number.sheets.Cue.TheVariants as cues
use Rattle.lft_resolve.specs.declared.by_number.sheets.NamedThing.TheVariants as spots

zip_along : {A B C : Type 0} (R : A → B → Type 0) (S : B → C → Type 0) (T : A → C → Type 0) → ((x : A) (y : B) (z : C) → R x y → S y z → T x z) → (xs : List A) (ys : List B) (zs : List C) → AllZip R xs ys → AllZip S ys zs → AllZip T xs zs
zip_along R S T both [] [] [] r s = tt
zip_along R S T both [] [] (z ∷ zs) r s = absurd s
zip_along R S T both [] (y ∷ ys) zs r s = absurd r
zip_along R S T both (x ∷ xs) [] zs r s = absurd r
zip_along R S T both (x ∷ xs) (y ∷ ys) [] r s = absurd s
zip_along R S T both (x ∷ xs) (y ∷ ys) (z ∷ zs) r s = (both x y z r.0 s.0, zip_along R S T both xs ys zs r.1 s.1)

each_of : {A B : Type 0} (R : A → B → Type 0) (P : B → Type 0) → ((x : A) (y : B) → R x y → P y) → (xs : List A) (ys : List B) → AllZip R xs ys → Each P ys
each_of R P one xs ys all k y at = let x = AllZip-from R xs ys all k y at in one x.0 y x.2

module _ (tree : FileTree) (tables : Tables) (nest : Nest) (links : List Linked) (of : AreOfTree tree tables nest links) where
  abbrev all : List Located
  all = of.is_nest.located

  -- there are no more things than the limit, so each number is within it
  module _ {X : Type 0} (kind : ReactorTree → List X) (name : X → List ℕ) (limit : ℕ) (numbers : Numbering) (w : IsNumbering kind (reactors_of tree) nest.instances.items limit numbers) where
    pub declared_few : length (declared kind all) ≤ limit
    declared_few =
        let many = declared_long kind (reactors_of tree) numbers.counts.items w.counts all nest.instances.items of.is_nest.instances in
        let most = w.few in
        omega arith

    few : (p : ℕ) (t : Spoken) → slice_get (declared_things name (declared kind all)) p ≡ Some t → p ≤ limit
    few p t at =
        let within = slice_get_within (declared_things name (declared kind all)) p t at in
        let same = length-map (declared kind all) (λ d. thing_at d.located.path (name d.item)) in
        let most = declared_few in
        omega arith

    -- the thing of a name of the instance's own
    own : (k : ℕ) (l : Located) → slice_get all k ≡ Some l → (ref : RefTree) (n : ℕ) → ref.port ≡ None → place ref.head (map name (kind l.inside.reactor)) ≡ Some n → (p : ℕ) × (t : Spoken) × (port_at numbers.firsts.items k n ≡ Some p) × (stands_for l.inside.reactor l.path ref ≡ Some t) × (slice_get (declared_things name (declared kind all)) p ≡ Some t)
    own k l at ref n plain is =
        let x = place_forth name ref.head (kind l.inside.reactor) n is in (
          base kind all k + n,
          thing_at l.path (name x.0),
          number_at kind tree tables nest of.is_nest limit numbers w k n l at,
          ap (stands_inside l.inside.reactor l.path ref.head) plain ∙ ap (λ h. Some (thing_at l.path h)) (sym x.2),
          thing_forth kind name all k n l x.0 at x.1,
        )

  module _ (k : ℕ) (l : Located) (at : slice_get all k ≡ Some l) where
    -- the number of what a spot is, and what it stands for
    name_of : (ref : RefTree) (spot : NamedThing) → IsSpot (reactors_of tree) l.inside.reactor ref spot → HasNamedThing nest k spot × (x : Name) × (name_at nest k spot ≡ Some x) × IsFlatName all l ref x
    name_of ref (spots.Port end) is =
        let s = standing tree tables nest of.is_nest k l at ref end is in
        let p = base ports_of all s.owner + place_at end in (
          (p, s.is_number, few ports_of (λ x. x.name) 100000 nest.ports of.is_nest.ports p _ s.is_thing),
          Port p,
          ap (option_map Port) s.is_number,
          (_, s.stands, s.is_thing),
        )
    name_of ref (spots.Action n) is =
        let a = own actions_of (λ x. x.name) 100000 nest.actions of.is_nest.actions k l at ref n is.0 is.1 in (
          (a.0, a.2, few actions_of (λ x. x.name) 100000 nest.actions of.is_nest.actions a.0 a.1 a.4),
          Action a.0,
          ap (option_map Action) a.2,
          (a.1, a.3, a.4),
        )

    has_name : (ref : RefTree) (spot : NamedThing) → IsSpot (reactors_of tree) l.inside.reactor ref spot → HasNamedThing nest k spot
    has_name ref spot is = (name_of ref spot is).0

    is_name : (ref : RefTree) (spot : NamedThing) (x : Name) → IsSpot (reactors_of tree) l.inside.reactor ref spot → name_at nest k spot ≡ Some x → IsFlatName all l ref x
    is_name ref spot x is made =
        let n = name_of ref spot is in
        let same : n.1 ≡ x = (let e : Some n.1 ≡ Some x = sym n.2 ∙ made in cc) in
        subst (IsFlatName all l ref) same n.3

    has_trigger : (t : TriggerTree) (cue : Cue) → IsCue (reactors_of tree) l.inside.reactor t cue → HasCue nest k cue
    has_trigger AtStartup cue is = subst (HasCue nest k) (sym is) tt
    has_trigger AtShutdown cue is = subst (HasCue nest k) (sym is) tt
    has_trigger (OnRef ref) cues.Startup is = absurd is
    has_trigger (OnRef ref) cues.Shutdown is = absurd is
    has_trigger (OnRef ref) (cues.Timer n) is =
        let t = own timers_of (λ x. x.name) 100000 nest.timers of.is_nest.timers k l at ref n is.0 is.1 in
        (t.0, t.2, few timers_of (λ x. x.name) 100000 nest.timers of.is_nest.timers t.0 t.1 t.4)
    has_trigger (OnRef ref) (cues.On spot) is = has_name ref spot is

    is_trigger : (t : TriggerTree) (cue : Cue) (x : Trigger) → IsCue (reactors_of tree) l.inside.reactor t cue → trigger_at nest k cue ≡ Some x → IsTrigger all l t x
    is_trigger AtStartup cue x is made = let e : Some x ≡ Some Startup = sym made ∙ ap (trigger_at nest k) is in cc
    is_trigger AtShutdown cue x is made = let e : Some x ≡ Some Shutdown = sym made ∙ ap (trigger_at nest k) is in cc
    is_trigger (OnRef ref) cues.Startup x is made = absurd is
    is_trigger (OnRef ref) cues.Shutdown x is made = absurd is
    is_trigger (OnRef ref) (cues.Timer n) x is made =
        let t = own timers_of (λ x. x.name) 100000 nest.timers of.is_nest.timers k l at ref n is.0 is.1 in
        let same : Timer t.0 ≡ x = (let e : Some (Timer t.0) ≡ Some x = sym (ap (option_map Timer) t.2) ∙ made in cc) in
        subst (IsTrigger all l (OnRef ref)) same (t.1, t.3, t.4)
    is_trigger (OnRef ref) (cues.On spot) x is made =
        let n = option_map_some On (name_at nest k spot) x made in
        subst (IsTrigger all l (OnRef ref)) n.2 (is_name ref spot n.0 is n.1)

    -- the same of all names of a reaction
    has_cues : (r : ReactionTree) (c : Cues) → AreCues (reactors_of tree) l.inside.reactor r c → HasCues nest k c
    has_cues r c is = record {
      triggers = each_of (IsCue (reactors_of tree) l.inside.reactor) (HasCue nest k) has_trigger r.triggers c.triggers.items is.triggers;
      uses = each_of (IsSpot (reactors_of tree) l.inside.reactor) (HasNamedThing nest k) has_name (without_timers l.inside.reactor r.uses) c.uses.items is.uses;
      effects = each_of (IsSpot (reactors_of tree) l.inside.reactor) (HasNamedThing nest k) has_name r.effects c.effects.items is.effects;
    }

  module _ (k : ℕ) (d : Declared ReactionTree) (thing : Thing) (is : slice_get (declared reactions_of all) k ≡ Some d) (same : IsThingOf d thing) where
    here : slice_get all thing.instance ≡ Some d.located
    here = ap (slice_get all) same.0 ∙ (declared_from reactions_of all k d is).instance

    pub cues_there : (c : Cues) × (cues_at tables nest thing ≡ Some c) × AreCues (reactors_of tree) d.located.inside.reactor d.item c
    cues_there =
        let row = row_there tree tables nest links of (IsReactions (reactors_of tree)) tables.reactions.items of.are_tables.reactions thing.instance d.located here in
        let item : slice_get (reactions_of d.located.inside.reactor) thing.place ≡ Some d.item = ap (slice_get (reactions_of d.located.inside.reactor)) same.1 ∙ (declared_from reactions_of all k d is).place in
        let c = AllZip-to (AreCues (reactors_of tree) d.located.inside.reactor) (reactions_of d.located.inside.reactor) row.0.reactions.items row.2 thing.place d.item item in
        (c.0, ap (option_and_then (λ x. slice_get x.reactions.items thing.place)) row.1 ∙ c.1, c.2)

    pub reaction_is : (reaction : Reaction) → IsReactionAt tables nest thing reaction → IsReaction all d reaction
    reaction_is reaction made =
        let r = d.located.inside.reactor in
        let cues : made.cues ≡ cues_there.0 = (let e : Some made.cues ≡ Some cues_there.0 = sym made.is_cues ∙ cues_there.1 in cc) in
        let are : AreCues (reactors_of tree) r d.item made.cues = subst (AreCues (reactors_of tree) r d.item) (sym cues) cues_there.2 in
        let names : (ref : RefTree) (spot : NamedThing) (x : Name) → IsSpot (reactors_of tree) r ref spot → name_at nest thing.instance spot ≡ Some x → IsFlatName all d.located ref x = is_name thing.instance d.located here in
        record {
          instance = made.instance ∙ same.0;
          place = made.place ∙ same.1;
          triggers = zip_along (IsCue (reactors_of tree) r) (λ c t. trigger_at nest thing.instance c ≡ Some t) (IsTrigger all d.located) (is_trigger thing.instance d.located here) d.item.triggers made.cues.triggers.items reaction.triggers are.triggers made.triggers;
          uses = zip_along (IsSpot (reactors_of tree) r) (λ s x. name_at nest thing.instance s ≡ Some x) (IsFlatName all d.located) names (without_timers r d.item.uses) made.cues.uses.items reaction.uses are.uses made.uses;
          effects = zip_along (IsSpot (reactors_of tree) r) (λ s x. name_at nest thing.instance s ≡ Some x) (IsFlatName all d.located) names d.item.effects made.cues.effects.items reaction.effects are.effects made.effects;
        }

  module _ (list : List Thing) (zipped : AllZip IsThingOf (declared reactions_of all) list) where
    pub reaction_for : (k : ℕ) (thing : Thing) → slice_get list k ≡ Some thing → (c : Cues) × (cues_at tables nest thing ≡ Some c) × HasCues nest thing.instance c
    reaction_for k thing at =
        let d = AllZip-from IsThingOf (declared reactions_of all) list zipped k thing at in
        let c = cues_there k d.0 thing d.1 d.2 in
        (c.0, c.1, has_cues thing.instance d.0.located (here k d.0 thing d.1 d.2) d.0.item c.0 c.2)

    pub reactions_are : (reactions : List Reaction) → length reactions ≡ length list → Made (λ _. IsReactionAt tables nest) list reactions → AllZip (IsReaction all) (declared reactions_of all) reactions
    reactions_are reactions long made = made_zip IsThingOf (λ _. IsReactionAt tables nest) (IsReaction all) (declared reactions_of all) list reactions zipped long made (λ k d thing reaction is same at. reaction_is k d thing is same reaction at)
