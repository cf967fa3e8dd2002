-- What a plain name is, by the kind under which it is found first.
use Rattle.std.proofs.Common.{◌≡◌, ℕ, Bool, true, false, List, map, find, is_some, Option, Some, None, option_map, bytes_eq, refl, sym, ap, ◌∙◌}
use Rattle.lft_tree.specs.Tree.{ReactorTree, ParameterTree, PortTree, TimerTree, ActionTree, InstanceTree, ports_of, timers_of, actions_of, instances_of}
use Rattle.lft_resolve.specs.{Kinds.{first_or_second, own_kind, own_port}, inner.Places.{IsIndexOf, place_in}}
use Rattle.lft_resolve.specs.declared.{index.Index.Index, kinds.Kind.{Kind, TheVariants.{OwnParameter, OwnTimer, OwnAction, OwnInstance}}}
use Rattle.lft_resolve.proofs.Placing.{find-some}

-- something of this name is found where the index has a place for it
pub indexed : {X : Type 0} (name : X → List ℕ) (q : List ℕ) (xs : List X) (index : Index) (b : Bool) → IsIndexOf index (map name xs) → is_some (place_in index q) ≡ b → is_some (find (λ x. bytes_eq q (name x)) xs) ≡ b
indexed name q xs index b is e = find-some name q xs ∙ ap is_some (sym (is q)) ∙ e

-- the kind of the first that is found, and what stands for nothing
first_kind : {X : Type 0} (k : Kind) (o : Option X) (rest : Option Kind) → is_some o ≡ true → Some k ≡ first_or_second (option_map (λ x. k) o) rest
first_kind k None rest e = absurd (cc)
first_kind k (Some x) rest e = refl

next_kind : {X : Type 0} (k : X → Kind) (o : Option X) (rest found : Option Kind) → is_some o ≡ false → found ≡ rest → found ≡ first_or_second (option_map k o) rest
next_kind k None rest found e is = is
next_kind k (Some x) rest found e is = absurd (cc)

module _ (r : ReactorTree) (q : List ℕ) where
  abbrev pub parameter : Option ParameterTree
  parameter = find (λ x. bytes_eq q x.name) r.parameters

  abbrev pub port : Option PortTree
  port = find (λ x. bytes_eq q x.name) (ports_of r)

  abbrev pub timer : Option TimerTree
  timer = find (λ x. bytes_eq q x.name) (timers_of r)

  abbrev pub action : Option ActionTree
  action = find (λ x. bytes_eq q x.name) (actions_of r)

  abbrev pub instance : Option InstanceTree
  instance = find (λ x. bytes_eq q x.name) (instances_of r)

  pub as_parameter : is_some parameter ≡ true → Some OwnParameter ≡ own_kind r q
  as_parameter is = first_kind OwnParameter parameter _ is

  module _ (no_parameter : is_some parameter ≡ false) where
    pub as_port : (p : PortTree) (k : Kind) → k ≡ own_port p.is_input → Some p ≡ port → Some k ≡ own_kind r q
    as_port p k kind is = next_kind (λ x. OwnParameter) parameter _ (Some k) no_parameter (ap Some kind ∙ ap (λ o. first_or_second (option_map (λ x. own_port x.is_input) o) (first_or_second (option_map (λ x. OwnTimer) timer) (first_or_second (option_map (λ x. OwnAction) action) (option_map (λ x. OwnInstance) instance)))) is)

    module _ (no_port : None ≡ port) where
      beside : (found : Option Kind) → found ≡ first_or_second (option_map (λ x. OwnTimer) timer) (first_or_second (option_map (λ x. OwnAction) action) (option_map (λ x. OwnInstance) instance)) → found ≡ own_kind r q
      beside found is = next_kind (λ x. OwnParameter) parameter _ found no_parameter (next_kind (λ x. own_port x.is_input) port _ found (sym (ap is_some no_port)) is)

      pub as_timer : is_some timer ≡ true → Some OwnTimer ≡ own_kind r q
      as_timer is = beside (Some OwnTimer) (first_kind OwnTimer timer _ is)

      module _ (no_timer : is_some timer ≡ false) where
        pub as_action : is_some action ≡ true → Some OwnAction ≡ own_kind r q
        as_action is = beside (Some OwnAction) (next_kind (λ x. OwnTimer) timer _ (Some OwnAction) no_timer (first_kind OwnAction action _ is))

        module _ (no_action : is_some action ≡ false) where
          last : (found : Option Kind) → found ≡ option_map (λ x. OwnInstance) instance → found ≡ own_kind r q
          last found is = beside found (next_kind (λ x. OwnTimer) timer _ found no_timer (next_kind (λ x. OwnAction) action _ found no_action is))

          pub as_instance : is_some instance ≡ true → Some OwnInstance ≡ own_kind r q
          as_instance is = last (Some OwnInstance) (by instance is)
            where
              by : (o : Option InstanceTree) → is_some o ≡ true → Some OwnInstance ≡ option_map (λ x. OwnInstance) o
              by None e = absurd (cc)
              by (Some x) e = refl

          pub as_nothing : is_some instance ≡ false → None ≡ own_kind r q
          as_nothing is = last None (by instance is)
            where
              by : (o : Option InstanceTree) → is_some o ≡ false → None ≡ option_map (λ x. OwnInstance) o
              by None e = refl
              by (Some x) e = absurd (cc)
