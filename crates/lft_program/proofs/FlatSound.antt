-- The flat program of a lawful tree is sound.
use Rattle.std.proofs.Common.{◌≡◌, ℕ, ◌<◌, ◌≤◌, filter_map, length, not, slice_get, Some, Any, Contains, option_to_list, sym, ap, subst, ◌∙◌}
use Rattle.std.proofs.lemmas.{List.length-map, Option.slice_get_within}
use Rattle.lft_lists.proofs.{Places.{at_contains, Some_same}, Zips.long as zip_long}
use Rattle.lft_tree.specs.Tree.{FileTree, PortTree, RefTree, TriggerTree, AtStartup, AtShutdown, OnRef, reactors_of, ports_of, actions_of, timers_of, reactions_of}
use Rattle.lft_resolve.proofs.{Effects.{Any-flat, reads_once, effects_once}, Somes.{Any-left, Any-right}, Files.AllZip-from}
use Rattle.lft_resolve.specs.{Causes.{HasLongTime, IsLongTime}, Instances.{stands_for, thing_at}, Kinds.{names_read, ref_in, timer_times}}
use Rattle.lft_resolve.specs.Sheets.{is_timer, without_timers}
use Rattle.lft_program.specs.{Located.{Located, Declared, declared, ports_in, actions_in, timers_in}, inner.Tables.IsLawful}
use Rattle.lft_program.specs.Flattening.{Flat, IsPort, IsAction, IsTimer, IsReaction, IsFlatName, IsTrigger, name_of_thing, name_of_reaction}
use Rattle.lft_program.proofs.{Listing.declared_from, Placed.{thing_from, path_once}, Entered.{IsUsual, all_usual, option_short, in_timers, in_actions}}
use Rattle.lft_program.proofs.{OneWriter.{Writes, writes, same_path}, Ordered.{reaction_at, is_numbered, is_consecutive}}
use Rattle.lft_program.proofs.Standing.{Some_of, all_of, some_kept, some_append, some_distinct, once_apart, apart_pairs, name_once, trigger_names}
use Rattle.lft_ir.specs.{Names.{AreDistinct, AreWords}, Parts.{Parts, inputs}, Naming.named}
use Rattle.lft_ir.specs.Sound.{IsSound, HasOneWriter, HasDistinct, IsNameOf, IsTriggerOf, NamesParts, IsWithinLimits, HasTimes, IsWellNamed}
use Rattle.lft_ir.specs.declared.parts.{Name.{Name, TheVariants.{Port, Action}}, Reaction.Reaction}
use Rattle.lft_ir.specs.declared.parts.Trigger.{Trigger, TheVariants.{Startup, Shutdown, Timer, On}}

module _ (tree : FileTree) (program : Parts) (flat : Flat tree program) where
  -- ---- what is named is there

  many_ports : length (ports_in flat.instances) ≡ length program.ports
  many_ports = length-map (declared ports_of flat.instances) _ ∙ zip_long (IsPort tree flat.instances) (declared ports_of flat.instances) program.ports flat.ports

  many_actions : length (actions_in flat.instances) ≡ length program.actions
  many_actions = length-map (declared actions_of flat.instances) _ ∙ zip_long IsAction (declared actions_of flat.instances) program.actions flat.actions

  many_timers : length (timers_in flat.instances) ≡ length program.timers
  many_timers = length-map (declared timers_of flat.instances) _ ∙ zip_long IsTimer (declared timers_of flat.instances) program.timers flat.timers

  many_reactions : length (declared reactions_of flat.instances) ≡ length program.reactions
  many_reactions = zip_long (IsReaction flat.instances) (declared reactions_of flat.instances) program.reactions flat.reactions

  name_there : (at : Located) (ref : RefTree) (n : Name) → IsFlatName flat.instances at ref n → IsNameOf program n
  name_there at ref (Port p) is = subst (λ k. p < k) many_ports (slice_get_within (ports_in flat.instances) p is.0 is.2)
  name_there at ref (Action a) is = subst (λ k. a < k) many_actions (slice_get_within (actions_in flat.instances) a is.0 is.2)

  trigger_there : (at : Located) (d : TriggerTree) (t : Trigger) → IsTrigger flat.instances at d t → IsTriggerOf program t
  trigger_there at d Startup is = tt
  trigger_there at d Shutdown is = tt
  trigger_there at AtStartup (Timer n) is = absurd (cc is)
  trigger_there at AtShutdown (Timer n) is = absurd (cc is)
  trigger_there at (OnRef ref) (Timer n) is = subst (λ k. n < k) many_timers (slice_get_within (timers_in flat.instances) n is.0 is.2)
  trigger_there at AtStartup (On n) is = absurd (cc is)
  trigger_there at AtShutdown (On n) is = absurd (cc is)
  trigger_there at (OnRef ref) (On n) is = name_there at ref n is

  parts_of : (a : ℕ) (x : Reaction) → slice_get program.reactions a ≡ Some x → NamesParts program x
  parts_of a x at =
      let o = reaction_at tree program flat a x at in
      let d = o.declaration in
      record {
        triggers = λ t has. (let k = at_contains x.triggers t has in let z = AllZip-from (IsTrigger flat.instances d.located) d.item.triggers x.triggers o.is.triggers k.0 t k.1 in trigger_there d.located z.0 t z.2);
        uses = λ n has. (let k = at_contains x.uses n has in let z = AllZip-from (IsFlatName flat.instances d.located) (without_timers d.located.inside.reactor d.item.uses) x.uses o.is.uses k.0 n k.1 in name_there d.located z.0 n z.2);
        effects = λ n has. (let k = at_contains x.effects n has in let z = AllZip-from (IsFlatName flat.instances d.located) d.item.effects x.effects o.is.effects k.0 n k.1 in name_there d.located z.0 n z.2);
      }

  well_named : AreDistinct program.names → AreWords program.names → IsWellNamed program
  well_named distinct words = record {
    ports = ap (λ n. length n.ports) flat.names ∙ length-map (ports_in flat.instances) (name_of_thing tree flat.are_located.main) ∙ many_ports;
    actions = ap (λ n. length n.actions) flat.names ∙ length-map (actions_in flat.instances) (name_of_thing tree flat.are_located.main) ∙ many_actions;
    timers = ap (λ n. length n.timers) flat.names ∙ length-map (timers_in flat.instances) (name_of_thing tree flat.are_located.main) ∙ many_timers;
    reactions = ap (λ n. length n.reactions) flat.names ∙ length-map (declared reactions_of flat.instances) (name_of_reaction tree flat.are_located.main) ∙ many_reactions;
    distinct = distinct;
    words = words;
  }

  module _ (lawful : IsLawful tree) (in_time : Any HasLongTime (reactors_of tree) → ⊥) where
    usual : (n : ℕ) (l : Located) → slice_get flat.instances n ≡ Some l → IsUsual tree in_time l.inside
    usual n l at = all_usual tree in_time flat.instances flat.are_located n l at

    has_distinct : HasDistinct program
    has_distinct a x at =
        let o = reaction_at tree program flat a x at in
        let d = o.declaration in
        let r = d.located.inside.reactor in
        let u = usual d.instance d.located o.at.instance in
        let R = IsFlatName flat.instances d.located in
        let reads : Some_of R (names_read d.item) (inputs x) =
        some_append R (filter_map ref_in d.item.triggers) d.item.uses (filter_map named x.triggers) x.uses
        (trigger_names flat.instances d.located d.item.triggers x.triggers o.is.triggers)
        (some_kept R (λ ref. not (is_timer r ref.head ref.port)) d.item.uses x.uses (all_of R (without_timers r d.item.uses) x.uses o.is.uses)) in
        let written : Some_of R d.item.effects x.effects = all_of R d.item.effects x.effects o.is.effects in
        let once = once_apart (names_read d.item) (reads_once (reactors_of tree) u.number r u.reactor lawful.later d.place d.item o.at.place) in
        let effects = once_apart d.item.effects (effects_once (reactors_of tree) u.number r u.reactor lawful.later d.place d.item o.at.place) in
        let one = name_once flat.instances d.located in
        (apart_pairs (inputs x) (some_distinct R one (names_read d.item) (inputs x) once reads), apart_pairs x.effects (some_distinct R one d.item.effects x.effects effects written))

    -- a reaction that writes a port does so as its declaration and the port's allow
    writes_it : (a : ℕ) (x : Reaction) (p : ℕ) (at : slice_get program.reactions a ≡ Some x) (q : Declared PortTree) → slice_get (declared ports_of flat.instances) p ≡ Some q → Contains x.effects (Port p) → Writes (reaction_at tree program flat a x at).declaration q
    writes_it a x p at q at_q has =
        let o = reaction_at tree program flat a x at in
        let d = o.declaration in
        let k = at_contains x.effects (Port p) has in
        let z = AllZip-from (IsFlatName flat.instances d.located) d.item.effects x.effects o.is.effects k.0 (Port p) k.1 in
        let n : IsFlatName flat.instances d.located z.0 (Port p) = z.2 in
        let t = thing_from (λ y. y.name) (declared ports_of flat.instances) p n.0 n.2 in
        let same : t.0 ≡ q = Some_same t.0 q (sym t.1 ∙ at_q) in
        let whole : stands_for d.located.inside.reactor d.located.path z.0 ≡ Some (thing_at q.located.path q.item.name) = n.1 ∙ ap Some (sym t.2) ∙ ap (λ w. Some (thing_at w.located.path w.item.name)) same in
        writes tree lawful in_time flat.instances flat.are_located a p d q o.at (declared_from ports_of flat.instances p q at_q) k.0 z.0 z.1 whole

    has_one_writer : HasOneWriter program
    has_one_writer a b x y p at_a at_b has other =
        let o = reaction_at tree program flat a x at_a in
        let e = reaction_at tree program flat b y at_b in
        let k = at_contains x.effects (Port p) has in
        let z = AllZip-from (IsFlatName flat.instances o.declaration.located) o.declaration.item.effects x.effects o.is.effects k.0 (Port p) k.1 in
        let n : IsFlatName flat.instances o.declaration.located z.0 (Port p) = z.2 in
        let t = thing_from (λ w. w.name) (declared ports_of flat.instances) p n.0 n.2 in
        let path = same_path o.declaration e.declaration t.0 (writes_it a x p at_a t.0 t.1 has) (writes_it b y p at_b t.0 t.1 other) in
        let one = path_once tree flat.instances flat.are_located o.declaration.instance e.declaration.instance o.declaration.located e.declaration.located o.at.instance e.at.instance path in
        o.is.instance ∙ one ∙ sym e.is.instance

    has_times : HasTimes program
    has_times = record {
      min_delays = λ a action at. (
          let z = AllZip-from IsAction (declared actions_of flat.instances) program.actions flat.actions a action at in
          let d = z.0 in
          let here = declared_from actions_of flat.instances a d z.1 in
          let r = d.located.inside.reactor in
          let short = option_short tree in_time d.located.inside (usual d.instance d.located here.instance) d.item.min_delay (λ l. in_actions r (Any-flat IsLongTime (λ w. option_to_list w.min_delay) (actions_of r) d.place d.item here.place l)) in
          subst (λ m. m ≤ 1000000000000000000) (sym z.2.min_delay) short);
      offsets = λ n timer at. (
          let z = AllZip-from IsTimer (declared timers_of flat.instances) program.timers flat.timers n timer at in
          let d = z.0 in
          let here = declared_from timers_of flat.instances n d z.1 in
          let r = d.located.inside.reactor in
          let short = option_short tree in_time d.located.inside (usual d.instance d.located here.instance) d.item.offset (λ l. in_timers r (Any-flat IsLongTime timer_times (timers_of r) d.place d.item here.place (Any-left IsLongTime (option_to_list d.item.offset) (option_to_list d.item.period) l))) in
          subst (λ m. m ≤ 1000000000000000000) (sym z.2.offset) short);
      periods = λ n timer at. (
          let z = AllZip-from IsTimer (declared timers_of flat.instances) program.timers flat.timers n timer at in
          let d = z.0 in
          let here = declared_from timers_of flat.instances n d z.1 in
          let r = d.located.inside.reactor in
          let short = option_short tree in_time d.located.inside (usual d.instance d.located here.instance) d.item.period (λ l. in_timers r (Any-flat IsLongTime timer_times (timers_of r) d.place d.item here.place (Any-right IsLongTime (option_to_list d.item.offset) (option_to_list d.item.period) l))) in
          subst (λ m. m ≤ 1000000000000000000) (sym z.2.period) short);
    }

    pub IsSound-from_flat : IsWithinLimits program → AreDistinct program.names → AreWords program.names → IsSound program
    IsSound-from_flat limits distinct words = record {
      origins = flat.origins;
      one_writer = has_one_writer;
      numbered = is_numbered tree program flat;
      consecutive = is_consecutive tree program flat;
      distinct = has_distinct;
      exist = parts_of;
      limits = limits;
      times = has_times;
      well_named = well_named distinct words;
    }
