-- The reactions that write one port are of one instance: an output is written where it is declared, an input where the instance is made.
use Rattle.std.proofs.Common.{◌≡◌, ℕ, List, [], ◌∷◌, ◌++◌, find, slice_get, Bool, true, false, Option, Some, None, Any, ◌⊎◌, inl, inr, refl, sym, ap, ◌∙◌}
use Rattle.std.specs.{Option.option_and_then, Str.bytes_eq}
use Rattle.lft_program.proofs.{Listing.Stands, OneSource.found_at, Placed.inside_once, Entered.{IsUsual, all_usual}, Standing.{StandsInner, stands_inner}}
use Rattle.lft_program.proofs.Entering.{entered_by}
use Rattle.lft_program.specs.{Located.{Located, AreLocated, Declared}, inner.Tables.IsLawful}
use Rattle.lft_lists.proofs.Places.{push_apart, Some_same}
use Rattle.lft_tree.specs.Tree.{FileTree, ReactionTree, PortTree, RefTree, reactors_of, reactions_of, ports_of, instances_of}
use Rattle.lft_resolve.specs.{Expansion.Paths.along, Causes.HasLongTime}
use Rattle.lft_resolve.specs.Instances.{Inside, thing_at, stands_for, stands_inside, entered, main_instance, reactor_named}
use Rattle.lft_resolve.proofs.{ExpansionLemmas.Orders.along_at, Effects.{port_found, own_effect, inner_effect}}

-- how a reaction may write a port: an output of its own instance, or an input of an instance that this contains
abbrev pub Writes : Declared ReactionTree → Declared PortTree → Type 0
Writes d q = ((q.item.is_input ≡ false) × (d.located.path ≡ q.located.path)) ⊎ ((k : ℕ) × (q.item.is_input ≡ true) × (d.located.path ++ k ∷ [] ≡ q.located.path))

input_output : (b : Bool) → b ≡ true → b ≡ false → ⊥
input_output b is_input is_output = cc

pub same_path : (d e : Declared ReactionTree) (q : Declared PortTree) → Writes d q → Writes e q → d.located.path ≡ e.located.path
same_path d e q (inl a) (inl b) = a.1 ∙ sym b.1
same_path d e q (inl a) (inr (k, incoming, b)) = absurd (input_output q.item.is_input incoming a.0)
same_path d e q (inr (k, incoming, a)) (inl b) = absurd (input_output q.item.is_input incoming b.0)
same_path d e q (inr (j, incoming, a)) (inr (k, also, b)) = (push_apart d.located.path e.located.path j k (a ∙ sym b)).0

module _ (tree : FileTree) (lawful : IsLawful tree) (in_time : Any HasLongTime (reactors_of tree) → ⊥) (instances : List Located) (are : AreLocated tree instances) where
  module _ (n p : ℕ) (d : Declared ReactionTree) (q : Declared PortTree) (at_d : Stands reactions_of instances n d) (at_q : Stands ports_of instances p q) (j : ℕ) (ref : RefTree) (among : slice_get d.item.effects j ≡ Some ref) where
    usual_d : IsUsual tree in_time d.located.inside
    usual_d = all_usual tree in_time instances are d.instance d.located at_d.instance

    usual_q : IsUsual tree in_time q.located.inside
    usual_q = all_usual tree in_time instances are q.instance q.located at_q.instance

    found : find (λ x. bytes_eq q.item.name x.name) (ports_of q.located.inside.reactor) ≡ Some q.item
    found = port_found (reactors_of tree) usual_q.number q.located.inside.reactor usual_q.reactor lawful.first q.place q.item at_q.place

    own : ref.port ≡ None → thing_at d.located.path ref.head ≡ thing_at q.located.path q.item.name → Writes d q
    own plain same =
        let path : d.located.path ≡ q.located.path = ap (λ t. t.path) same in
        let name : ref.head ≡ q.item.name = ap (λ t. t.name) same in
        let inside : d.located.inside ≡ q.located.inside = inside_once tree instances are d.instance q.instance d.located q.located at_d.instance at_q.instance path in
        let here : find (λ x. bytes_eq ref.head x.name) (ports_of d.located.inside.reactor) ≡ Some q.item =
        ap (λ h. find (λ x. bytes_eq h x.name) (ports_of d.located.inside.reactor)) name ∙ ap (λ i. find (λ x. bytes_eq q.item.name x.name) (ports_of i.reactor)) inside ∙ found in
        inl (own_effect (reactors_of tree) usual_d.number d.located.inside.reactor usual_d.reactor lawful.later d.place d.item at_d.place j ref among q.item plain here, path)

    inner : (name : List ℕ) → ref.port ≡ Some name → StandsInner d.located.inside.reactor d.located.path ref.head name (thing_at q.located.path q.item.name) → Writes d q
    inner name dotted s =
        let path : d.located.path ++ s.place ∷ [] ≡ q.located.path = ap (λ t. t.path) s.thing in
        let called : name ≡ q.item.name = ap (λ t. t.name) s.thing in
        let root = main_instance are.main in
        let leads : along (entered tree) root (d.located.path ++ s.place ∷ []) ≡ Some q.located.inside = ap (along (entered tree) root) path ∙ are.inside q.instance q.located at_q.instance in
        let step : along (entered tree) d.located.inside (s.place ∷ []) ≡ Some q.located.inside = sym (along_at (entered tree) root d.located.inside d.located.path (s.place ∷ []) (are.inside d.instance d.located at_d.instance)) ∙ leads in
        let e = entered_by tree d.located.inside s.place q.located.inside (last_step (entered tree d.located.inside s.place) step) in
        let instance : e.i ≡ s.instance = Some_same _ _ (sym e.is_instance ∙ s.there) in
        let reactor : q.located.inside.reactor ≡ e.r = sym (ap (λ i. i.reactor) e.is_made) in
        let named : reactor_named (reactors_of tree) s.instance.reactor ≡ Some e.r = ap (λ i. reactor_named (reactors_of tree) i.reactor) (sym instance) ∙ e.is_reactor in
        let there : find (λ x. bytes_eq name x.name) (ports_of e.r) ≡ Some q.item =
        ap (λ h. find (λ x. bytes_eq h x.name) (ports_of e.r)) called ∙ ap (λ r. find (λ x. bytes_eq q.item.name x.name) (ports_of r)) (sym reactor) ∙ found in
        let first = found_at (λ i. bytes_eq ref.head i.name) (instances_of d.located.inside.reactor) s.place s.instance s.is s.there in
        inr (s.place, inner_effect (reactors_of tree) usual_d.number d.located.inside.reactor usual_d.reactor lawful.later d.place d.item at_d.place j ref among name s.instance e.r q.item dotted first named there, path)
      where
        last_step : (o : Option Inside) → option_and_then (λ y. Some y) o ≡ Some q.located.inside → o ≡ Some q.located.inside
        last_step None e = absurd (cc)
        last_step (Some y) e = e

    pub writes : stands_for d.located.inside.reactor d.located.path ref ≡ Some (thing_at q.located.path q.item.name) → Writes d q
    writes e = by ref.port refl e
      where
        by : (o : Option (List ℕ)) → ref.port ≡ o → stands_inside d.located.inside.reactor d.located.path ref.head o ≡ Some (thing_at q.located.path q.item.name) → Writes d q
        by None is e = own is (Some_same _ _ e)
        by (Some name) is e = inner name is (stands_inner d.located.inside.reactor d.located.path ref.head name (thing_at q.located.path q.item.name) e)
