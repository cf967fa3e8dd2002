-- What the tables and the nest of a tree have for a declaration of it.
use Rattle.std.proofs.Common.{◌≡◌, ℕ, List, [], ◌++◌, Option, Some, map, flat_map, length, slice_get, option_to_list, Any, inr, sym, ap, ◌∙◌}
use Rattle.std.specs.{Option.{option_and_then, unwrap_or}, List.AllZip}
use Rattle.lft_resolve.proofs.{Effects.Any-flat, Somes.{Any-left, Any-right}, Twice.Any-at, Directed.AllZip-to, Files.AllZip-from}
use Rattle.lft_resolve.specs.inner.{Expansion.Values.clock_in, Sheets.{IsDeclarations, IsTimerSheet, IsActionSheet, IsClockOrZero}}
use Rattle.lft_resolve.specs.declared.expansion.{numbering.Thing.Thing, settings.Clock.Clock, walk.Instance.Instance}
use Rattle.lft_resolve.specs.declared.by_number.sheets.{ActionSheet.ActionSheet, Declarations.Declarations, TimerSheet.TimerSheet}
use Rattle.lft_resolve.specs.{Causes.{IsLongTime, HasLongTime}, Kinds.{times_in, timer_times}}
use Rattle.lft_lists.proofs.Mapped.{mapped}
use Rattle.lft_tree.specs.Tree.{FileTree, ReactorTree, TimerTree, ActionTree, TimeTree, reactors_of, timers_of, actions_of, instances_of, connections_of}
use Rattle.lft_program.specs.Located.{Located, Declared, declared}
use Rattle.lft_program.specs.inner.{Nests.{IsInstanceOf, IsThingOf}, Laying.{IsActionAt, IsTimerAt, action_at, clock_at, declarations_at, timer_at}}
use Rattle.lft_program.specs.inner.OfTree.{AreOfTree}
use Rattle.lft_program.specs.{declared.nesting.{linking.Linked.Linked, nest.Nest.Nest, tables.Tables.Tables}, Flattening.{IsTimer, IsAction, time_or_zero}}
use Rattle.lft_program.proofs.{Clocks.clock_or_zero_is, Listing.declared_from, Making.{Made, made_zip}}
use Rattle.lft_ir.specs.declared.parts.{Action.Action as ActionOf, Timer.Timer as TimerOf}

-- times of timers and actions are among those of their reactor
long_first : (r : ReactorTree) → Any IsLongTime (flat_map timer_times (timers_of r) ++ flat_map (λ a. option_to_list a.min_delay) (actions_of r)) → Any IsLongTime (times_in r)
long_first r long = Any-left IsLongTime _ (flat_map (λ c. option_to_list c.delay) (connections_of r)) (Any-left IsLongTime _ (flat_map (λ i. map (λ a. a.value) i.given) (instances_of r)) long)

long_timer : (r : ReactorTree) (k : ℕ) (t : TimerTree) → slice_get (timers_of r) k ≡ Some t → Any IsLongTime (timer_times t) → Any IsLongTime (times_in r)
long_timer r k t at long = long_first r (Any-left IsLongTime _ (flat_map (λ a. option_to_list a.min_delay) (actions_of r)) (Any-flat IsLongTime timer_times (timers_of r) k t at long))

long_action : (r : ReactorTree) (k : ℕ) (a : ActionTree) → slice_get (actions_of r) k ≡ Some a → Any IsLongTime (option_to_list a.min_delay) → Any IsLongTime (times_in r)
long_action r k a at long = long_first r (Any-right IsLongTime (flat_map timer_times (timers_of r)) _ (Any-flat IsLongTime (λ x. option_to_list x.min_delay) (actions_of r) k a at long))

module _ (tree : FileTree) (tables : Tables) (nest : Nest) (links : List Linked) (of : AreOfTree tree tables nest links) where
  pub instance_there : (n : ℕ) (l : Located) → slice_get of.is_nest.located n ≡ Some l → (i : Instance) × (slice_get nest.instances.items n ≡ Some i) × IsInstanceOf (reactors_of tree) l i
  instance_there n l at = AllZip-to (IsInstanceOf (reactors_of tree)) of.is_nest.located nest.instances.items of.is_nest.instances n l at

  -- the row of a table that is kept for the reactor of an instance
  pub row_there : {Y : Type 0} (R : ReactorTree → Y → Type 0) (table : List Y) → AllZip R (reactors_of tree) table → (n : ℕ) (l : Located) → slice_get of.is_nest.located n ≡ Some l → (y : Y) × (option_and_then (λ i. slice_get table i.reactor) (slice_get nest.instances.items n) ≡ Some y) × R l.inside.reactor y
  row_there R table all n l at =
      let i = instance_there n l at in
      let y = AllZip-to R (reactors_of tree) table all i.0.reactor l.inside.reactor i.2 in
      (y.0, ap (option_and_then (λ i. slice_get table i.reactor)) i.1 ∙ y.1, y.2)

  declarations_there : (n : ℕ) (l : Located) → slice_get of.is_nest.located n ≡ Some l → (d : Declarations) × (declarations_at tables nest n ≡ Some d) × IsDeclarations l.inside.reactor d
  declarations_there n l at = row_there IsDeclarations tables.declarations.items of.are_tables.declarations n l at

  not_long : (n : ℕ) (l : Located) → slice_get of.is_nest.located n ≡ Some l → Any IsLongTime (times_in l.inside.reactor) → ⊥
  not_long n l at long = let i = instance_there n l at in of.in_time (Any-at HasLongTime (reactors_of tree) i.0.reactor l.inside.reactor i.2 (inr long))

  clock_read : (n : ℕ) (l : Located) (o : Option TimeTree) (clock : Clock) → slice_get of.is_nest.located n ≡ Some l → (Any IsLongTime (option_to_list o) → ⊥) → IsClockOrZero l.inside.reactor o clock → clock_at nest n clock ≡ time_or_zero l.inside o
  clock_read n l o clock at short is =
      let values : slice_get nest.values n ≡ Some l.inside.values = ap (λ rows. slice_get rows n) (of.is_nest.values of.in_time) ∙ mapped (λ l. l.inside.values) of.is_nest.located n l at in
      ap (λ row. clock_in (unwrap_or row []) clock) values ∙ clock_or_zero_is l.inside o clock short is

  -- the thing of a declaration is in the tables
  module _ (k : ℕ) (d : Declared TimerTree) (thing : Thing) (is : slice_get (declared timers_of of.is_nest.located) k ≡ Some d) (same : IsThingOf d thing) where
    timer_place : (slice_get of.is_nest.located thing.instance ≡ Some d.located) × (slice_get (timers_of d.located.inside.reactor) thing.place ≡ Some d.item)
    timer_place = let at = declared_from timers_of of.is_nest.located k d is in (ap (slice_get of.is_nest.located) same.0 ∙ at.instance, ap (slice_get (timers_of d.located.inside.reactor)) same.1 ∙ at.place)

    pub timer_there : (sheet : TimerSheet) × (timer_at tables nest thing ≡ Some sheet) × IsTimerSheet d.located.inside.reactor d.item sheet
    timer_there =
        let row = declarations_there thing.instance d.located timer_place.0 in
        let sheet = AllZip-to (IsTimerSheet d.located.inside.reactor) (timers_of d.located.inside.reactor) row.0.timers.items row.2.timers thing.place d.item timer_place.1 in
        (sheet.0, ap (option_and_then (λ x. slice_get x.timers.items thing.place)) row.1 ∙ sheet.1, sheet.2)

    pub timer_is : (timer : TimerOf) → IsTimerAt tables nest thing timer → IsTimer d timer
    timer_is timer made =
        let sheet : made.sheet ≡ timer_there.0 = (let e : Some made.sheet ≡ Some timer_there.0 = sym made.is_sheet ∙ timer_there.1 in cc) in
        let short : Any IsLongTime (timer_times d.item) → ⊥ = λ long. not_long thing.instance d.located timer_place.0 (long_timer d.located.inside.reactor thing.place d.item timer_place.1 long) in
        record {
          instance = made.instance ∙ same.0;
          offset = made.offset ∙ ap (λ s. clock_at nest thing.instance s.offset) sheet ∙ clock_read thing.instance d.located d.item.offset timer_there.0.offset timer_place.0 (λ long. short (Any-left IsLongTime (option_to_list d.item.offset) _ long)) timer_there.2.offset;
          period = made.period ∙ ap (λ s. clock_at nest thing.instance s.period) sheet ∙ clock_read thing.instance d.located d.item.period timer_there.0.period timer_place.0 (λ long. short (Any-right IsLongTime (option_to_list d.item.offset) _ long)) timer_there.2.period;
        }

  module _ (k : ℕ) (d : Declared ActionTree) (thing : Thing) (is : slice_get (declared actions_of of.is_nest.located) k ≡ Some d) (same : IsThingOf d thing) where
    action_place : (slice_get of.is_nest.located thing.instance ≡ Some d.located) × (slice_get (actions_of d.located.inside.reactor) thing.place ≡ Some d.item)
    action_place = let at = declared_from actions_of of.is_nest.located k d is in (ap (slice_get of.is_nest.located) same.0 ∙ at.instance, ap (slice_get (actions_of d.located.inside.reactor)) same.1 ∙ at.place)

    pub action_there : (sheet : ActionSheet) × (action_at tables nest thing ≡ Some sheet) × IsActionSheet d.located.inside.reactor d.item sheet
    action_there =
        let row = declarations_there thing.instance d.located action_place.0 in
        let sheet = AllZip-to (IsActionSheet d.located.inside.reactor) (actions_of d.located.inside.reactor) row.0.actions.items row.2.actions thing.place d.item action_place.1 in
        (sheet.0, ap (option_and_then (λ x. slice_get x.actions.items thing.place)) row.1 ∙ sheet.1, sheet.2)

    pub action_is : (action : ActionOf) → IsActionAt tables nest thing action → IsAction d action
    action_is action made =
        let sheet : made.sheet ≡ action_there.0 = (let e : Some made.sheet ≡ Some action_there.0 = sym made.is_sheet ∙ action_there.1 in cc) in
        record {
          instance = made.instance ∙ same.0;
          physical = made.physical ∙ ap (λ s. s.is_physical) sheet ∙ action_there.2.is_physical;
          min_delay = made.min_delay ∙ ap (λ s. clock_at nest thing.instance s.min_delay) sheet ∙ clock_read thing.instance d.located d.item.min_delay action_there.0.min_delay action_place.0 (λ long. not_long thing.instance d.located action_place.0 (long_action d.located.inside.reactor thing.place d.item action_place.1 long)) action_there.2.min_delay;
        }

  module _ (things : List Thing) (all : AllZip IsThingOf (declared timers_of of.is_nest.located) things) where
    pub timer_for : (k : ℕ) (thing : Thing) → slice_get things k ≡ Some thing → (sheet : TimerSheet) × (timer_at tables nest thing ≡ Some sheet)
    timer_for k thing at = let d = AllZip-from IsThingOf (declared timers_of of.is_nest.located) things all k thing at in let s = timer_there k d.0 thing d.1 d.2 in (s.0, s.1)

    pub timers_are : (timers : List TimerOf) → length timers ≡ length things → Made (λ _. IsTimerAt tables nest) things timers → AllZip IsTimer (declared timers_of of.is_nest.located) timers
    timers_are timers long made = made_zip IsThingOf (λ _. IsTimerAt tables nest) IsTimer (declared timers_of of.is_nest.located) things timers all long made (λ k d thing timer is same at. timer_is k d thing is same timer at)

  module _ (things : List Thing) (all : AllZip IsThingOf (declared actions_of of.is_nest.located) things) where
    pub action_for : (k : ℕ) (thing : Thing) → slice_get things k ≡ Some thing → (sheet : ActionSheet) × (action_at tables nest thing ≡ Some sheet)
    action_for k thing at = let d = AllZip-from IsThingOf (declared actions_of of.is_nest.located) things all k thing at in let s = action_there k d.0 thing d.1 d.2 in (s.0, s.1)

    pub actions_are : (actions : List ActionOf) → length actions ≡ length things → Made (λ _. IsActionAt tables nest) things actions → AllZip IsAction (declared actions_of of.is_nest.located) actions
    actions_are actions long made = made_zip IsThingOf (λ _. IsActionAt tables nest) IsAction (declared actions_of of.is_nest.located) things actions all long made (λ k d thing action is same at. action_is k d thing is same action at)
