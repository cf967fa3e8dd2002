-- Reactors of a tree that contain others, and their numbers.
use Rattle.std.proofs.Common.{◌≡◌, ℕ, List, sym, ap, ◌∙◌, subst, Some, slice_get}
use Rattle.std.specs.Option.{option_and_then}
use Rattle.lft_tree.specs.Tree.{ReactorTree, InstanceTree, instances_of}
use Rattle.lft_resolve.specs.inner.{Expansion.Contents.contained, Numbers.{AreContents, IsContents, IsReactorNumberOf}}
use Rattle.lft_resolve.specs.declared.expansion.walk.Contents.{Contents}
use Rattle.lft_resolve.proofs.{Files.AllZip-from, Directed.AllZip-to}
use Rattle.lft_program.proofs.Zipping.{then_some}

module _ (rs : List ReactorTree) (table : List Contents) (are : AreContents rs table) where
  -- what stands at a place of a reactor's contents is the number of its instance's reactor
  pub inner_at : (a k b : ℕ) (x : ReactorTree) → slice_get rs a ≡ Some x → contained table a k ≡ Some b → (i : InstanceTree) × (slice_get (instances_of x) k ≡ Some i) × IsReactorNumberOf rs i b
  inner_at a k b x at e =
      let c = then_some (λ c. slice_get c.instances.items k) (slice_get table a) b e in
      let r = AllZip-to (IsContents rs) rs table are a x at in
      let same : r.0 ≡ c.0 = (let s : Some r.0 ≡ Some c.0 = sym r.1 ∙ c.1 in cc) in
      AllZip-from (IsReactorNumberOf rs) (instances_of x) c.0.instances.items (subst (IsContents rs x) same r.2) k b c.2

  pub number_at : (a k : ℕ) (x : ReactorTree) (i : InstanceTree) → slice_get rs a ≡ Some x → slice_get (instances_of x) k ≡ Some i → (b : ℕ) × (contained table a k ≡ Some b) × IsReactorNumberOf rs i b
  number_at a k x i at e =
      let c = AllZip-to (IsContents rs) rs table are a x at in
      let b = AllZip-to (IsReactorNumberOf rs) (instances_of x) c.0.instances.items c.2 k i e in
      (b.0, ap (option_and_then (λ c. slice_get c.instances.items k)) c.1 ∙ b.1, b.2)
