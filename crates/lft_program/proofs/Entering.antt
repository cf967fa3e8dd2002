-- A step to a contained instance, in the tree and by number.
use Rattle.std.proofs.Common.{◌≡◌, ℕ, List, sym, ap, ◌∙◌, Some, slice_get, map}
use Rattle.std.specs.Option.{option_and_then, option_map}
use Rattle.lft_tree.specs.Tree.{FileTree, ReactorTree, InstanceTree, reactors_of, instances_of}
use Rattle.lft_lists.proofs.Mapped.{option_map_some}
use Rattle.lft_resolve.specs.{inner.{Expansion.Contents.contained, Numbers.AreContents}, declared.expansion.walk.Contents.Contents}
use Rattle.lft_resolve.specs.Instances.{Inside, entered, given_in, reactor_named}
use Rattle.lft_resolve.proofs.ExpansionLemmas.Simulation.{Simulates}
use Rattle.lft_program.proofs.{Containing.{inner_at, number_at}, Zipping.then_some}

-- the instance's reactor has this number
abbrev pub HasNumber : List ReactorTree → Inside → ℕ → Type 0
HasNumber rs x n = slice_get rs n ≡ Some x.reactor

-- the instance that a place of one leads to
abbrev pub made_in : Inside → InstanceTree → ReactorTree → Inside
made_in x i r = record { reactor = r; values = map (given_in x i.given) r.parameters }

-- what a step in the tree came by
pub record Enters (tree : FileTree) (x : Inside) (k : ℕ) (y : Inside) : Type 0 where
  pub i : InstanceTree
  pub r : ReactorTree
  pub is_instance : slice_get (instances_of x.reactor) k ≡ Some i
  pub is_reactor : reactor_named (reactors_of tree) i.reactor ≡ Some r
  pub is_made : made_in x i r ≡ y

pub entered_by : (tree : FileTree) (x : Inside) (k : ℕ) (y : Inside) → entered tree x k ≡ Some y → Enters tree x k y
entered_by tree x k y e =
    let i = then_some (λ i. option_map (made_in x i) (reactor_named (reactors_of tree) i.reactor)) (slice_get (instances_of x.reactor) k) y e in
    let r = option_map_some (made_in x i.0) (reactor_named (reactors_of tree) i.0.reactor) y i.2 in
    record { i = i.0; r = r.0; is_instance = i.1; is_reactor = r.1; is_made = r.2 }

pub enters : (tree : FileTree) (x : Inside) (k : ℕ) (i : InstanceTree) (r : ReactorTree) → slice_get (instances_of x.reactor) k ≡ Some i → reactor_named (reactors_of tree) i.reactor ≡ Some r → entered tree x k ≡ Some (made_in x i r)
enters tree x k i r e f = ap (option_and_then (λ i. option_map (made_in x i) (reactor_named (reactors_of tree) i.reactor))) e ∙ ap (option_map (made_in x i)) f

module _ (tree : FileTree) (table : List Contents) (are : AreContents (reactors_of tree) table) where
  pub step_forth : (x : Inside) (n k : ℕ) (y : Inside) → HasNumber (reactors_of tree) x n → entered tree x k ≡ Some y → (m : ℕ) × (contained table n k ≡ Some m) × HasNumber (reactors_of tree) y m
  step_forth x n k y has e =
      let s = entered_by tree x k y e in
      let b = number_at (reactors_of tree) table are n k x.reactor s.i has s.is_instance in
      let same : b.2.0 ≡ s.r = (let f : Some b.2.0 ≡ Some s.r = sym b.2.1 ∙ s.is_reactor in cc) in
      (b.0, b.1, b.2.2 ∙ ap Some (same ∙ ap (λ z. z.reactor) s.is_made))

  pub step_back : (x : Inside) (n k m : ℕ) → HasNumber (reactors_of tree) x n → contained table n k ≡ Some m → (y : Inside) × (entered tree x k ≡ Some y) × HasNumber (reactors_of tree) y m
  step_back x n k m has e =
      let i = inner_at (reactors_of tree) table are n k m x.reactor has e in
      (made_in x i.0 i.2.0, enters tree x k i.0 i.2.0 i.1 i.2.1, i.2.2)

  -- the tree and the numbers go side by side
  pub numbers_go_along : Simulates (HasNumber (reactors_of tree)) (entered tree) (contained table)
  numbers_go_along = record {
    forth = λ x n k y has e. step_forth x n k y has e;
    back = λ x n k m has e. step_back x n k m has e;
  }
