-- What a destination of a connection is, where no name is nothing and none stands in a wrong place.
use Rattle.std.proofs.Common.{◌≡◌, ℕ, Bool, true, false, List, refl, sym, ap, ◌∙◌, subst, Option, Some, None, slice_get, flat_map, find, bytes_eq, Any, inl}
use Rattle.std.specs.Option.{option_map, option_and_then}
use Rattle.lft_resolve.proofs.{Effects.Any-flat, Placing.place_found, Somes.Any-right, Twice.Any-at}
use Rattle.lft_resolve.specs.{Causes.{UnknownName, NamesNothing, WrongPlace, Misplaces, IsMisplaced}, Instances.reactor_named}
use Rattle.lft_resolve.specs.Kinds.{inner_kind, own_port, inner_port, first_or_second, kind_of, kind_inside, refs_in, in_role, may_stand, reaction_refs, connection_refs}
use Rattle.lft_resolve.specs.inner.Sheets.{IsInner, port_place}
use Rattle.lft_resolve.specs.declared.kinds.Kind.{Kind, TheVariants.{OwnParameter, OwnTimer, OwnAction, OwnInstance}}
use Rattle.lft_resolve.specs.declared.kinds.Role.{Role, TheVariants.{Source, Destination}}
use Rattle.lft_lists.proofs.Mapped.{mapped}
use Rattle.lft_tree.specs.Tree.{ReactorTree, ParameterTree, PortTree, InstanceTree, ConnectionTree, RefTree, connections_of, reactions_of, ports_of, timers_of, actions_of, instances_of}

-- an own name that may be a destination is an output
own_output : (a : Option ParameterTree) (b : Bool) (rest : Option Kind) (kind : Kind) → first_or_second (option_map (λ x. OwnParameter) a) (first_or_second (Some (own_port b)) rest) ≡ Some kind → may_stand Destination kind ≡ true → b ≡ false
own_output (Some x) b rest kind e f = let q : OwnParameter ≡ kind = cc in absurd (let z : may_stand Destination OwnParameter ≡ true = subst (λ k. may_stand Destination k ≡ true) (sym q) f in cc)
own_output None true rest kind e f = let q : own_port true ≡ kind = cc in absurd (let z : may_stand Destination (own_port true) ≡ true = subst (λ k. may_stand Destination k ≡ true) (sym q) f in cc)
own_output None false rest kind e f = refl

-- one of a contained instance is an input
inner_input : (b : Bool) (kind : Kind) → Some (inner_port b) ≡ Some kind → may_stand Destination kind ≡ true → b ≡ true
inner_input true kind e f = refl
inner_input false kind e f = let q : inner_port false ≡ kind = cc in absurd (let z : may_stand Destination (inner_port false) ≡ true = subst (λ k. may_stand Destination k ≡ true) (sym q) f in cc)

module _ (rs : List ReactorTree) (known : UnknownName rs → ⊥) (placed : WrongPlace rs → ⊥) (n : ℕ) (r : ReactorTree) (at : slice_get rs n ≡ Some r) (c k : ℕ) (con : ConnectionTree) (ref : RefTree) (is_connection : slice_get (connections_of r) c ≡ Some con) (is_destination : slice_get con.destinations k ≡ Some ref) where
  among : (P : Role × RefTree → Type 0) → P (Destination, ref) → Any P (refs_in r)
  among P p = Any-right P (flat_map reaction_refs (reactions_of r)) (flat_map connection_refs (connections_of r)) (Any-flat P connection_refs (connections_of r) c con is_connection (Any-right P (in_role Source con.sources) (in_role Destination con.destinations) (Any-at P (in_role Destination con.destinations) k (Destination, ref) (mapped (λ x. (Destination, x)) con.destinations k ref is_destination) p)))

  misplaced : (kind : Kind) → kind_of rs r ref ≡ Some kind → may_stand Destination kind ≡ false → ⊥
  unfolding WrongPlace
  misplaced kind g h = placed (Any-at (Misplaces rs) rs n r at (inl (among (IsMisplaced rs r) (kind, g, h))))

  unknown : kind_of rs r ref ≡ None → ⊥
  unfolding UnknownName
  unknown g = known (Any-at (NamesNothing rs) rs n r at (inl (among (λ x. kind_of rs r x.1 ≡ None) g)))

  -- it is something that may be a destination
  allowed : (kind : Kind) × (kind_of rs r ref ≡ Some kind) × (may_stand Destination kind ≡ true)
  allowed = by (kind_of rs r ref) refl
    where
      stands : (kind : Kind) (b : Bool) → kind_of rs r ref ≡ Some kind → may_stand Destination kind ≡ b → b ≡ true
      stands kind true g h = refl
      stands kind false g h = absurd (misplaced kind g h)

      by : (o : Option Kind) → kind_of rs r ref ≡ o → (kind : Kind) × (kind_of rs r ref ≡ Some kind) × (may_stand Destination kind ≡ true)
      by None g = absurd (unknown g)
      by (Some kind) g = (kind, g, stands kind (may_stand Destination kind) g refl)

  pub own_written : (port : ℕ) (x : PortTree) → ref.port ≡ None → port_place r ref.head ≡ Some port → slice_get (ports_of r) port ≡ Some x → x.is_input ≡ false
  own_written port x own e f =
      let a = allowed in
      let is : find (λ y. bytes_eq ref.head y.name) (ports_of r) ≡ Some x = place_found (λ y. y.name) ref.head (ports_of r) port x e f in
      let rest : Option Kind = first_or_second (option_map (λ y. OwnTimer) (find (λ y. bytes_eq ref.head y.name) (timers_of r))) (first_or_second (option_map (λ y. OwnAction) (find (λ y. bytes_eq ref.head y.name) (actions_of r))) (option_map (λ y. OwnInstance) (find (λ y. bytes_eq ref.head y.name) (instances_of r)))) in
      let params : Option ParameterTree = find (λ y. bytes_eq ref.head y.name) r.parameters in
      let kind : first_or_second (option_map (λ y. OwnParameter) params) (first_or_second (option_map (λ (y : PortTree). own_port y.is_input) (Some x)) rest) ≡ Some a.0 = ap (λ (o : Option PortTree). first_or_second (option_map (λ y. OwnParameter) params) (first_or_second (option_map (λ (y : PortTree). own_port y.is_input) o) rest)) (sym is) ∙ sym (ap (kind_inside rs r ref.head) own) ∙ a.1 in
      own_output params x.is_input rest a.0 kind a.2

  pub inner_written : (number port : ℕ) (w : IsInner rs r ref number port) (x : PortTree) → slice_get (ports_of w.inner) port ≡ Some x → x.is_input ≡ true
  inner_written number port w x f =
      let a = allowed in
      let is_i : find (λ (y : InstanceTree). bytes_eq ref.head y.name) (instances_of r) ≡ Some w.i = place_found (λ y. y.name) ref.head (instances_of r) number w.i w.is_place w.is_instance in
      let is_x : find (λ (y : PortTree). bytes_eq w.name y.name) (ports_of w.inner) ≡ Some x = place_found (λ y. y.name) w.name (ports_of w.inner) port x w.is_port f in
      let P : ReactorTree → Option Kind = λ inner. option_map (λ (y : PortTree). inner_port y.is_input) (find (λ (y : PortTree). bytes_eq w.name y.name) (ports_of inner)) in
      let one : inner_kind rs r ref.head w.name ≡ Some (inner_port x.is_input) = ap (option_and_then (λ (i : InstanceTree). option_and_then P (reactor_named rs i.reactor))) is_i ∙ ap (option_and_then P) w.is_inner ∙ ap (option_map (λ (y : PortTree). inner_port y.is_input)) is_x in
      inner_input x.is_input a.0 (sym one ∙ sym (ap (kind_inside rs r ref.head) w.is_name) ∙ a.1) a.2
