-- A name in an instance is of one port or action, a trigger is one, and so is a reaction.
use Rattle.std.proofs.Common.{◌≡◌, ℕ, List, slice_get, Some, sym, ap, subst, ◌∙◌}
use Rattle.lft_lists.proofs.{Places.Some_same, Zips.same as zip_same}
use Rattle.lft_tree.specs.Tree.{FileTree, RefTree, TriggerTree, ReactionTree, ActionTree, TimerTree, AtStartup, AtShutdown, OnRef}
use Rattle.lft_resolve.specs.{Instances.{Thing, stands_for}, Sheets.without_timers}
use Rattle.lft_program.specs.{Located.{Located, AreLocated, Declared, timers_in}, inner.Tables.IsLawful}
use Rattle.lft_program.specs.Flattening.{NamesThing, IsFlatName, IsTrigger, IsAction, IsTimer, IsReaction}
use Rattle.lft_program.proofs.OneThing.{one_port, one_action, one_timer, port_or_timer, port_or_action, timer_or_action}
use Rattle.lft_ir.specs.declared.parts.{Action.Action as ActionOf, Timer.Timer as TimerOf, Reaction.Reaction, Name.{Name, TheVariants.{Port, Action}}}
use Rattle.lft_ir.specs.declared.parts.Trigger.{Trigger, TheVariants.{Startup, Shutdown, Timer, On}}

pub one_of_action : (d : Declared ActionTree) (x y : ActionOf) → IsAction d x → IsAction d y → x ≡ y
one_of_action d x y a b =
    let instance = a.instance ∙ sym b.instance in
    let physical = a.physical ∙ sym b.physical in
    let min_delay = a.min_delay ∙ sym b.min_delay in
    λ j. record { instance = instance j; physical = physical j; min_delay = min_delay j }

pub one_of_timer : (d : Declared TimerTree) (x y : TimerOf) → IsTimer d x → IsTimer d y → x ≡ y
one_of_timer d x y a b =
    let instance = a.instance ∙ sym b.instance in
    let offset = a.offset ∙ sym b.offset in
    let period = a.period ∙ sym b.period in
    λ j. record { instance = instance j; offset = offset j; period = period j }

module _ (tree : FileTree) (lawful : IsLawful tree) (all : List Located) (are : AreLocated tree all) where
  pub one_meant : (t : Thing) (m n : Name) → NamesThing all t m → NamesThing all t n → m ≡ n
  one_meant t (Port p) (Port q) a b = ap (λ k. Port k) (one_port tree lawful all are t p q a b)
  one_meant t (Port p) (Action q) a b = absurd (port_or_action tree lawful all are t p q a b)
  one_meant t (Action p) (Port q) a b = absurd (port_or_action tree lawful all are t q p b a)
  one_meant t (Action p) (Action q) a b = ap (λ k. Action k) (one_action tree lawful all are t p q a b)

  pub timer_or_meant : (t : Thing) (n : ℕ) (m : Name) → slice_get (timers_in all) n ≡ Some t → NamesThing all t m → ⊥
  timer_or_meant t n (Port p) a b = port_or_timer tree lawful all are t p n b a
  timer_or_meant t n (Action p) a b = timer_or_action tree lawful all are t n p a b

  -- a name in an instance stands for one thing
  one_stands : (at : Located) (ref : RefTree) (t u : Thing) → stands_for at.inside.reactor at.path ref ≡ Some t → stands_for at.inside.reactor at.path ref ≡ Some u → u ≡ t
  one_stands at ref t u e f = Some_same u t (sym f ∙ e)

  one_name : (at : Located) (ref : RefTree) (m n : Name) → IsFlatName all at ref m → IsFlatName all at ref n → m ≡ n
  one_name at ref m n (t, e, a) (u, f, b) = one_meant t m n a (subst (λ w. NamesThing all w n) (one_stands at ref t u e f) b)

  timer_or_name : (at : Located) (ref : RefTree) (n : ℕ) (m : Name) → IsTrigger all at (OnRef ref) (Timer n) → IsFlatName all at ref m → ⊥
  timer_or_name at ref n m (t, e, a) (u, f, b) = timer_or_meant t n m a (subst (λ w. NamesThing all w m) (one_stands at ref t u e f) b)

  one_trigger : (at : Located) (d : TriggerTree) (t u : Trigger) → IsTrigger all at d t → IsTrigger all at d u → t ≡ u
  one_trigger at AtStartup t u a b = a ∙ sym b
  one_trigger at AtShutdown t u a b = a ∙ sym b
  one_trigger at (OnRef ref) Startup u a b = absurd a
  one_trigger at (OnRef ref) Shutdown u a b = absurd a
  one_trigger at (OnRef ref) (Timer m) Startup a b = absurd b
  one_trigger at (OnRef ref) (Timer m) Shutdown a b = absurd b
  one_trigger at (OnRef ref) (Timer m) (Timer n) (t, e, a) (u, f, b) = ap (λ k. Timer k) (one_timer tree lawful all are t m n a (subst (λ w. slice_get (timers_in all) n ≡ Some w) (one_stands at ref t u e f) b))
  one_trigger at (OnRef ref) (Timer m) (On n) a b = absurd (timer_or_name at ref m n a b)
  one_trigger at (OnRef ref) (On m) Startup a b = absurd b
  one_trigger at (OnRef ref) (On m) Shutdown a b = absurd b
  one_trigger at (OnRef ref) (On m) (Timer n) a b = absurd (timer_or_name at ref n m b a)
  one_trigger at (OnRef ref) (On m) (On n) a b = ap (λ k. On k) (one_name at ref m n a b)

  pub one_of_reaction : (d : Declared ReactionTree) (x y : Reaction) → IsReaction all d x → IsReaction all d y → x ≡ y
  one_of_reaction d x y a b =
      let instance = a.instance ∙ sym b.instance in
      let place = a.place ∙ sym b.place in
      let triggers = zip_same (IsTrigger all d.located) (one_trigger d.located) d.item.triggers x.triggers y.triggers a.triggers b.triggers in
      let uses = zip_same (IsFlatName all d.located) (one_name d.located) (without_timers d.located.inside.reactor d.item.uses) x.uses y.uses a.uses b.uses in
      let effects = zip_same (IsFlatName all d.located) (one_name d.located) d.item.effects x.effects y.effects a.effects b.effects in
      λ j. record { instance = instance j; place = place j; triggers = triggers j; uses = uses j; effects = effects j }
