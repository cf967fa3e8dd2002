-- The number of a port, or of another thing that instances declare under names, against the path of its instance and its place there.
use Rattle.std.proofs.Common.{◌≡◌, ℕ, ◌+◌, List, sym, ap, ◌∙◌, subst, arith, Some, slice_get}
use Rattle.std.{specs.Option.option_map, proofs.lemmas.Option.slice_get_within}
use Rattle.lft_lists.proofs.{Mapped.mapped, Places.get_there}
use Rattle.lft_tree.specs.Tree.{FileTree, ReactorTree, reactors_of}
use Rattle.lft_resolve.specs.{inner.Expansion.Joins.port_at, Instances.{Thing, thing_at}}
use Rattle.lft_program.specs.{Located.{Located, declared, declared_things}, inner.Nests.{IsNest, IsNumbering}}
use Rattle.lft_program.specs.declared.nesting.{nest.{Nest.Nest, Numbering.Numbering}, tables.Tables.Tables}
use Rattle.lft_program.proofs.{Counting.{base, declared_at}, Listing.{base_is, declared_from}, Nested.{one_number, instance_of}, Placed.thing_from}

-- the numbers of things of one kind
module _ {X : Type 0} (kind : ReactorTree → List X) (tree : FileTree) (tables : Tables) (nest : Nest) (n : IsNest tree tables nest) (limit : ℕ) (numbers : Numbering) (w : IsNumbering kind (reactors_of tree) nest.instances.items limit numbers) where
  pub first_at : (k : ℕ) (l : Located) → slice_get n.located k ≡ Some l → slice_get numbers.firsts.items k ≡ Some (base kind n.located k)
  first_at k l e =
      let i = instance_of tree tables nest n k l e in
      let f = get_there numbers.firsts.items k (let a = slice_get_within nest.instances.items k i.0 i.1 in let b = w.firsts.as_long in omega arith) in
      f.1 ∙ ap Some (w.firsts.each k f.0 f.1 ∙ sym (base_is kind (reactors_of tree) numbers.counts.items w.counts n.located nest.instances.items k n.instances))

  -- the number of the thing at a place of an instance
  pub number_at : (k place : ℕ) (l : Located) → slice_get n.located k ≡ Some l → port_at numbers.firsts.items k place ≡ Some (base kind n.located k + place)
  number_at k place l e = ap (option_map (λ first. first + place)) (first_at k l e)

module _ {X : Type 0} (kind : ReactorTree → List X) (name : X → List ℕ) where
  pub thing_forth : (located : List Located) (k place : ℕ) (l : Located) (x : X) → slice_get located k ≡ Some l → slice_get (kind l.inside.reactor) place ≡ Some x → slice_get (declared_things name (declared kind located)) (base kind located k + place) ≡ Some (thing_at l.path (name x))
  thing_forth located k place l x e f = mapped (λ d. thing_at d.located.path (name d.item)) (declared kind located) (base kind located k + place) (record { instance = k; located = l; place = place; item = x }) (declared_at kind located k place l x e f)

  -- where no reactor declares a name twice, no thing has two numbers
  pub distinct : (tree : FileTree) (tables : Tables) (nest : Nest) (n : IsNest tree tables nest) → ((k i j : ℕ) (l : Located) (x y : X) → slice_get n.located k ≡ Some l → slice_get (kind l.inside.reactor) i ≡ Some x → slice_get (kind l.inside.reactor) j ≡ Some y → name x ≡ name y → i ≡ j) → (p q : ℕ) (t : Thing) → slice_get (declared_things name (declared kind n.located)) p ≡ Some t → slice_get (declared_things name (declared kind n.located)) q ≡ Some t → p ≡ q
  distinct tree tables nest n once p q t e f =
      let a = thing_from name (declared kind n.located) p t e in
      let b = thing_from name (declared kind n.located) q t f in
      let at = declared_from kind n.located p a.0 a.1 in
      let bt = declared_from kind n.located q b.0 b.1 in
      let same : thing_at a.0.located.path (name a.0.item) ≡ thing_at b.0.located.path (name b.0.item) = a.2 ∙ sym b.2 in
      let number : a.0.instance ≡ b.0.instance = one_number tree tables nest n a.0.instance b.0.instance a.0.located b.0.located at.instance bt.instance (ap (λ u. u.path) same) in
      let there : slice_get n.located a.0.instance ≡ Some b.0.located = subst (λ k. slice_get n.located k ≡ Some b.0.located) (sym number) bt.instance in
      let instance : b.0.located ≡ a.0.located = (let z : Some b.0.located ≡ Some a.0.located = sym there ∙ at.instance in cc) in
      let item : slice_get (kind a.0.located.inside.reactor) b.0.place ≡ Some b.0.item = subst (λ i. slice_get (kind i.inside.reactor) b.0.place ≡ Some b.0.item) instance bt.place in
      let place : a.0.place ≡ b.0.place = once a.0.instance a.0.place b.0.place a.0.located a.0.item b.0.item at.instance at.place item (ap (λ u. u.name) same) in
      at.number ∙ ap (λ k. base kind n.located k + a.0.place) number ∙ ap (λ k. base kind n.located b.0.instance + k) place ∙ sym bt.number
