-- Names that stand for nothing that may stand in their place.
use Rattle.std.proofs.Common.{◌≡◌, ◌≢◌, ℕ, Bool, true, false, List, Option, Some, None, inl, inr, find, is_some, option_map, MatchOption, bytes_eq, refl, sym, ap, subst, ◌∙◌}
use Rattle.std.specs.Option.{option_and_then}
use Rattle.lft_tree.specs.Tree.{ReactorTree, ParameterTree, PortTree, TimerTree, ActionTree, InstanceTree, RefTree, Named, ports_of, timers_of, actions_of, instances_of}
use Rattle.lft_resolve.specs.inner.Lost.{IsLost, IsLostTime, IsNamedTimer, LacksKind, is_port_kind, is_spot}
use Rattle.lft_resolve.specs.inner.Sheets.{action_place, parameter_place, port_place, timer_place}
use Rattle.lft_resolve.specs.{Instances.reactor_named, Kinds.{inner_port, kind_inside, kind_of, may_stand, first_or_second, own_kind, own_port}}
use Rattle.lft_resolve.specs.Sheets.{is_timer}
use Rattle.lft_resolve.specs.declared.kinds.Kind.{Kind}
use Rattle.lft_resolve.specs.declared.kinds.Kind.TheVariants.{OwnParameter, OwnInput, OwnOutput, OwnTimer, OwnAction, OwnInstance, InnerInput, InnerOutput}
use Rattle.lft_resolve.specs.declared.kinds.Role.{Role, TheVariants.{Read, Effect, Source, Destination}}
use Rattle.lft_resolve.proofs.{Directed.place_none, Placing.find-some}

-- what a plain name is, from what is found of each kind
abbrev kind_among : Option ParameterTree → Option PortTree → Option TimerTree → Option ActionTree → Option InstanceTree → Option Kind
kind_among p q t a i = first_or_second (option_map (λ x. OwnParameter) p) (first_or_second (option_map (λ x. own_port x.is_input) q) (first_or_second (option_map (λ x. OwnTimer) t) (first_or_second (option_map (λ x. OwnAction) a) (option_map (λ x. OwnInstance) i))))

-- what fails of the only kind that it may be
only : (test : Kind → Bool) (x k : Kind) → test x ≡ false → Some x ≡ Some k → test k ≡ false
only test x k fails is = let e : x ≡ k = cc in subst (λ y. test y ≡ false) e fails

portless : (p : Option ParameterTree) (q : Option PortTree) (t : Option TimerTree) (a : Option ActionTree) (i : Option InstanceTree) (k : Kind) → q ≡ None → kind_among p q t a i ≡ Some k → is_port_kind k ≡ false
portless (Some x) q t a i k none is = only is_port_kind OwnParameter k refl is
portless None (Some y) t a i k none is = absurd (cc)
portless None None (Some x) a i k none is = only is_port_kind OwnTimer k refl is
portless None None None (Some x) i k none is = only is_port_kind OwnAction k refl is
portless None None None None (Some x) k none is = only is_port_kind OwnInstance k refl is
portless None None None None None k none is = absurd (cc)

spotless : (p : Option ParameterTree) (q : Option PortTree) (t : Option TimerTree) (a : Option ActionTree) (i : Option InstanceTree) (k : Kind) → q ≡ None → a ≡ None → kind_among p q t a i ≡ Some k → is_spot k ≡ false
spotless (Some x) q t a i k none nor is = only is_spot OwnParameter k refl is
spotless None (Some y) t a i k none nor is = absurd (cc)
spotless None None (Some x) a i k none nor is = only is_spot OwnTimer k refl is
spotless None None None (Some x) i k none nor is = absurd (cc)
spotless None None None None (Some x) k none nor is = only is_spot OwnInstance k refl is
spotless None None None None None k none nor is = absurd (cc)

-- a name without a place among the ports is no port
pub own_portless : (r : ReactorTree) (head : List ℕ) (k : Kind) → port_place r head ≡ None → own_kind r head ≡ Some k → is_port_kind k ≡ false
own_portless r head k none is = portless (find (λ x. bytes_eq head x.name) r.parameters) (find (λ x. bytes_eq head x.name) (ports_of r)) (find (λ x. bytes_eq head x.name) (timers_of r)) (find (λ x. bytes_eq head x.name) (actions_of r)) (find (λ x. bytes_eq head x.name) (instances_of r)) k (place_none (λ x. x.name) head (ports_of r) none) is

-- and one without a place among the actions neither is no port and no action
pub own_spotless : (r : ReactorTree) (head : List ℕ) (k : Kind) → port_place r head ≡ None → action_place r head ≡ None → own_kind r head ≡ Some k → is_spot k ≡ false
own_spotless r head k none nor is = spotless (find (λ x. bytes_eq head x.name) r.parameters) (find (λ x. bytes_eq head x.name) (ports_of r)) (find (λ x. bytes_eq head x.name) (timers_of r)) (find (λ x. bytes_eq head x.name) (actions_of r)) (find (λ x. bytes_eq head x.name) (instances_of r)) k (place_none (λ x. x.name) head (ports_of r) none) (place_none (λ x. x.name) head (actions_of r) nor) is

differs : (x k : Kind) → x ≢ OwnParameter → Some x ≡ Some k → k ≢ OwnParameter
differs x k other is same = let e : x ≡ k = cc in other (e ∙ same)

port_differs : (b : Bool) → own_port b ≢ OwnParameter
port_differs true e = absurd (cc)
port_differs false e = absurd (cc)

parameterless : (p : Option ParameterTree) (q : Option PortTree) (t : Option TimerTree) (a : Option ActionTree) (i : Option InstanceTree) (k : Kind) → p ≡ None → kind_among p q t a i ≡ Some k → k ≢ OwnParameter
parameterless (Some x) q t a i k none is = absurd (cc)
parameterless None (Some x) t a i k none is = differs (own_port x.is_input) k (port_differs x.is_input) is
parameterless None None (Some x) a i k none is = differs OwnTimer k (λ e. absurd (cc)) is
parameterless None None None (Some x) i k none is = differs OwnAction k (λ e. absurd (cc)) is
parameterless None None None None (Some x) k none is = differs OwnInstance k (λ e. absurd (cc)) is
parameterless None None None None None k none is = absurd (cc)

-- a time of a name without a place among the parameters
pub lost_time : (r : ReactorTree) (name : List ℕ) → parameter_place r name ≡ None → IsLostTime r (Named name)
lost_time r name none = by (own_kind r name) refl
  where
    by : (o : Option Kind) → own_kind r name ≡ o → IsLostTime r (Named name)
    by None e = inl e
    by (Some k) e = inr (k, e, parameterless (find (λ x. bytes_eq name x.name) r.parameters) (find (λ x. bytes_eq name x.name) (ports_of r)) (find (λ x. bytes_eq name x.name) (timers_of r)) (find (λ x. bytes_eq name x.name) (actions_of r)) (find (λ x. bytes_eq name x.name) (instances_of r)) k (place_none (λ x. x.name) name r.parameters none) e)

-- a name of no kind that its role allows
pub lost : (test : Kind → Bool) (rs : List ReactorTree) (r : ReactorTree) (role : Role) (ref : RefTree) → ((k : Kind) → test k ≡ false → may_stand role k ≡ false) → LacksKind test rs r ref → IsLost rs r (role, ref)
lost test rs r role ref allows lacks = by (kind_of rs r ref) refl
  where
    by : (o : Option Kind) → kind_of rs r ref ≡ o → IsLost rs r (role, ref)
    by None e = inl e
    by (Some k) e = inr (k, e, allows k (lacks k e))

-- what is no port may not be a source, nor a destination
pub source_port : (k : Kind) → is_port_kind k ≡ false → may_stand Source k ≡ false
source_port OwnInput e = absurd (cc)
source_port OwnOutput e = absurd (cc)
source_port InnerInput e = absurd (cc)
source_port InnerOutput e = absurd (cc)
source_port OwnParameter e = refl
source_port OwnTimer e = refl
source_port OwnAction e = refl
source_port OwnInstance e = refl

pub destination_port : (k : Kind) → is_port_kind k ≡ false → may_stand Destination k ≡ false
destination_port OwnInput e = absurd (cc)
destination_port OwnOutput e = absurd (cc)
destination_port InnerInput e = absurd (cc)
destination_port InnerOutput e = absurd (cc)
destination_port OwnParameter e = refl
destination_port OwnTimer e = refl
destination_port OwnAction e = refl
destination_port OwnInstance e = refl

-- what is no port and no action may not be an effect
pub effect_spot : (k : Kind) → is_spot k ≡ false → may_stand Effect k ≡ false
effect_spot OwnInput e = absurd (cc)
effect_spot OwnOutput e = absurd (cc)
effect_spot InnerInput e = absurd (cc)
effect_spot InnerOutput e = absurd (cc)
effect_spot OwnAction e = absurd (cc)
effect_spot OwnParameter e = refl
effect_spot OwnTimer e = refl
effect_spot OwnInstance e = refl

-- and may be read only if it is a timer
read_spot : (k : Kind) → k ≢ OwnTimer → is_spot k ≡ false → may_stand Read k ≡ false
read_spot OwnInput other e = absurd (cc)
read_spot OwnOutput other e = absurd (cc)
read_spot InnerInput other e = absurd (cc)
read_spot InnerOutput other e = absurd (cc)
read_spot OwnAction other e = absurd (cc)
read_spot OwnParameter other e = refl
read_spot OwnTimer other e = absurd (other refl)
read_spot OwnInstance other e = refl

port_untimed : (b : Bool) → Some (own_port b) ≡ Some OwnTimer → ⊥
port_untimed true e = absurd (cc)
port_untimed false e = absurd (cc)

timerless : (p : Option ParameterTree) (q : Option PortTree) (t : Option TimerTree) (a : Option ActionTree) (i : Option InstanceTree) → is_some t ≡ false → kind_among p q t a i ≡ Some OwnTimer → ⊥
timerless (Some x) q t a i none is = absurd (cc)
timerless None (Some x) t a i none is = port_untimed x.is_input is
timerless None None (Some x) a i none is = absurd (cc)
timerless None None None (Some x) i none is = absurd (cc)
timerless None None None None (Some x) none is = absurd (cc)
timerless None None None None None none is = absurd (cc)

inner_port_untimed : (b : Bool) → Some (inner_port b) ≡ Some OwnTimer → ⊥
inner_port_untimed true e = absurd (cc)
inner_port_untimed false e = absurd (cc)

found_untimed : (o : Option PortTree) → option_map (λ x. inner_port x.is_input) o ≡ Some OwnTimer → ⊥
found_untimed None e = absurd (cc)
found_untimed (Some x) e = inner_port_untimed x.is_input e

reactor_untimed : (name : List ℕ) (o : Option ReactorTree) → option_and_then (λ inner. option_map (λ x. inner_port x.is_input) (find (λ x. bytes_eq name x.name) (ports_of inner))) o ≡ Some OwnTimer → ⊥
reactor_untimed name None e = absurd (cc)
reactor_untimed name (Some inner) e = found_untimed (find (λ x. bytes_eq name x.name) (ports_of inner)) e

instance_untimed : (rs : List ReactorTree) (name : List ℕ) (o : Option InstanceTree) → option_and_then (λ i. option_and_then (λ inner. option_map (λ x. inner_port x.is_input) (find (λ x. bytes_eq name x.name) (ports_of inner))) (reactor_named rs i.reactor)) o ≡ Some OwnTimer → ⊥
instance_untimed rs name None e = absurd (cc)
instance_untimed rs name (Some i) e = reactor_untimed name (reactor_named rs i.reactor) e

-- what the test of timers fails of is no timer
untimed : (rs : List ReactorTree) (r : ReactorTree) (head : List ℕ) (port : Option (List ℕ)) → is_timer r head port ≡ false → kind_inside rs r head port ≡ Some OwnTimer → ⊥
untimed rs r head None none is = timerless (find (λ x. bytes_eq head x.name) r.parameters) (find (λ x. bytes_eq head x.name) (ports_of r)) (find (λ x. bytes_eq head x.name) (timers_of r)) (find (λ x. bytes_eq head x.name) (actions_of r)) (find (λ x. bytes_eq head x.name) (instances_of r)) none is
untimed rs r head (Some name) none is = instance_untimed rs name (find (λ i. bytes_eq head i.name) (instances_of r)) is

-- a name that is no timer, no port and no action is lost where it is read
pub lost_read : (rs : List ReactorTree) (r : ReactorTree) (ref : RefTree) → is_timer r ref.head ref.port ≡ false → LacksKind is_spot rs r ref → IsLost rs r (Read, ref)
lost_read rs r ref none lacks = by (kind_of rs r ref) refl
  where
    by : (o : Option Kind) → kind_of rs r ref ≡ o → IsLost rs r (Read, ref)
    by None e = inl e
    by (Some k) e = inr (k, e, read_spot k (λ same. untimed rs r ref.head ref.port none (e ∙ ap Some same)) (lacks k e))

-- a plain name is a timer where it has a place among them
pub timer_there : (r : ReactorTree) (ref : RefTree) (o : Option ℕ) → ref.port ≡ None → o ≡ timer_place r ref.head → MatchOption o (is_timer r ref.head ref.port ≡ false) (IsNamedTimer r ref)
timer_there r ref None plain is = ap (is_timer r ref.head) plain ∙ find-some (λ x. x.name) ref.head (timers_of r) ∙ ap is_some (sym is)
timer_there r ref (Some n) plain is = record { is_one = ap (is_timer r ref.head) plain ∙ find-some (λ x. x.name) ref.head (timers_of r) ∙ ap is_some (sym is); is_plain = plain; is_place = sym is }
