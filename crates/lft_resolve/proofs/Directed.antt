-- The item that an element goes with, and what `x.y` is.
use Rattle.std.proofs.Common.{◌≡◌, ℕ, zero, suc, List, [], ◌∷◌, map, slice_get, find, Option, Some, None, option_map, IsSomeAnd, Bor, bytes_eq, refl, sym, ap, subst, ◌∙◌}
use Rattle.std.specs.{List.AllZip, Option.option_and_then}
use Rattle.lft_tree.specs.Tree.{ReactorTree, InstanceTree, instances_of, ports_of}
use Rattle.lft_resolve.specs.{inner.{Lost.inner_ref, Places.place, Sheets.{IsInner, port_place}, Tables.IsInstanceTable}, Instances.reactor_named}
use Rattle.lft_resolve.specs.{Kinds.{inner_kind, inner_port}, declared.{kinds.Kind.Kind, own.Own.Own}}
use Rattle.lft_resolve.proofs.Placing.{find-place, place_found}

module _ {A B : Type 0} (R : A → B → Type 0) where
  -- the item that an element goes with
  pub AllZip-to : (xs : List A) (ys : List B) → AllZip R xs ys → (k : ℕ) (x : A) → slice_get xs k ≡ Some x → (y : B) × (slice_get ys k ≡ Some y) × R x y
  AllZip-to [] ys all k x at = absurd (cc)
  AllZip-to (z ∷ xs) [] all k x at = absurd all
  AllZip-to (z ∷ xs) (w ∷ ys) all zero x at = let e : z ≡ x = cc in (w, refl, subst (λ a. R a w) e all.0)
  AllZip-to (z ∷ xs) (w ∷ ys) all (suc k) x at = AllZip-to xs ys all.1 k x at

  -- a reference to it
  pub AllZip-there : (xs : List A) (ys : List B) (o : Option (Bor B)) (k : ℕ) (x : A) → AllZip R xs ys → slice_get xs k ≡ Some x → option_map (λ b. b.now) o ≡ slice_get ys k → IsSomeAnd o (λ b. R x b.now)
  AllZip-there xs ys None k x all at is = let to = AllZip-to xs ys all k x at in let e : None ≡ Some to.0 = is ∙ to.1 in absurd (cc)
  AllZip-there xs ys (Some b) k x all at is = let to = AllZip-to xs ys all k x at in let e : to.0 ≡ b.now = (let f : Some b.now ≡ Some to.0 = is ∙ to.1 in cc) in subst (R x) e to.2

-- what has no place isn't found
pub place_none : {X : Type 0} (name : X → List ℕ) (q : List ℕ) (xs : List X) → place q (map name xs) ≡ None → find (λ x. bytes_eq q (name x)) xs ≡ None
place_none name q xs none = find-place name q xs ∙ ap (option_and_then (slice_get xs)) none

-- what `x.y` is
module _ (rs : List ReactorTree) (r : ReactorTree) (head name : List ℕ) where
  -- nothing, where x is no instance of a reactor of the file
  pub inner_nowhere : option_and_then (λ i. reactor_named rs i.reactor) (find (λ i. bytes_eq head i.name) (instances_of r)) ≡ None → inner_kind rs r head name ≡ None
  inner_nowhere none = by (find (λ i. bytes_eq head i.name) (instances_of r)) none
    where
      by : (o : Option InstanceTree) → option_and_then (λ i. reactor_named rs i.reactor) o ≡ None → option_and_then (λ i. option_and_then (λ inner. option_map (λ x. inner_port x.is_input) (find (λ x. bytes_eq name x.name) (ports_of inner))) (reactor_named rs i.reactor)) o ≡ None
      by None e = refl
      by (Some i) e = ap (option_and_then (λ inner. option_map (λ x. inner_port x.is_input) (find (λ x. bytes_eq name x.name) (ports_of inner)))) e

  -- else what y is in that reactor
  module _ (number : ℕ) (own : Own) (held : IsInstanceTable rs r head number own) where
    pub inner_shown : (o : Option Kind) → o ≡ option_map (λ x. inner_port x.is_input) (find (λ x. bytes_eq name x.name) (ports_of held.inner)) → o ≡ inner_kind rs r head name
    inner_shown o is = rw (place_found (λ i. i.name) head (instances_of r) number held.i held.is_place held.is_instance, held.is_inner) is

    pub inner_portless : port_place held.inner name ≡ None → inner_kind rs r head name ≡ None
    inner_portless none = sym (inner_shown None (sym (ap (option_map (λ x. inner_port x.is_input)) (place_none (λ x. x.name) name (ports_of held.inner) none))))

    pub inner_there : (port : ℕ) → port_place held.inner name ≡ Some port → IsInner rs r (inner_ref head name) number port
    inner_there port at = record { name = name; i = held.i; inner = held.inner; is_name = refl; is_place = held.is_place; is_instance = held.is_instance; is_inner = held.is_inner; is_port = at }
