-- Reactors that contain one another in a circle: by numbers, and in a file.
use Rattle.std.proofs.Common.{◌≡◌, ℕ, ◌-◌, List, length, Option, Some, None, refl, subst, arith, slice_get}
use Rattle.lft_tree.specs.Tree.{ReactorTree, InstanceTree, instances_of}
use Rattle.lft_resolve.specs.{declared.expansion.walk.Contents.Contents, Causes.{Holds, HoldsDeep, directly, RecursiveReactor}, Instances.reactor_named}
use Rattle.lft_resolve.specs.inner.Numbers.{IsReactorNumberOf, IsContents, AreContents}
use Rattle.lft_resolve.proofs.{Files.AllZip-from, Twice.Any-at}
use Rattle.lft_lists.{specs.{Walks.IsCircle as IsCircleOf, inner.Walking.Leads}, proofs.{Places.{get_there, same_some}, Walking.{circle_along, circle_back}}}
use Rattle.lft_validate.{specs.inner.{Circles.{instances_inside, instances_in}, Witnesses.{HoldsAt, IsCircle}}, proofs.Founding.deeper}

module _ (rs : List ReactorTree) (table : List Contents) (all : AreContents rs table) where
  held : (a b : ℕ) → Leads (instances_in table) a b → HoldsAt rs a b
  held a b (k, is) = by (slice_get table a) refl is
    where
      by : (o : Option Contents) → slice_get table a ≡ o → slice_get (instances_inside o) k ≡ Some b → HoldsAt rs a b
      by None e f = absurd (cc)
      by (Some c) e f =
          let outer : (r : ReactorTree) × (slice_get rs a ≡ Some r) × IsContents rs r c = AllZip-from (IsContents rs) rs table all a c e in
          let one : (i : InstanceTree) × (slice_get (instances_of outer.0) k ≡ Some i) × IsReactorNumberOf rs i b = AllZip-from (IsReactorNumberOf rs) (instances_of outer.0) c.instances.items outer.2 k b f in
          record {
            outer = outer.0;
            inner = one.2.0;
            is_outer = outer.1;
            is_inner = one.2.2;
            holds = Any-at (λ i. reactor_named rs i.reactor ≡ Some one.2.0) (instances_of outer.0) k one.0 one.1 one.2.1;
          }

  pub circle_from : (places : List ℕ) → IsCircleOf (Leads (instances_in table)) places → IsCircle rs places
  circle_from places round = circle_along (Leads (instances_in table)) (HoldsAt rs) places held round

-- the reactor with the first place has an instance of that with the second, at some depth
record DeepAt (rs : List ReactorTree) (a b : ℕ) : Type 0 where
  outer : ReactorTree
  inner : ReactorTree
  is_outer : slice_get rs a ≡ Some outer
  is_inner : slice_get rs b ≡ Some inner
  holds : HoldsDeep rs outer inner

module _ (rs : List ReactorTree) where
  one_deep : (a b : ℕ) → HoldsAt rs a b → DeepAt rs a b
  one_deep a b h = record { outer = h.outer; inner = h.inner; is_outer = h.is_outer; is_inner = h.is_inner; holds = directly h.holds }

  one_more : (a b c : ℕ) → DeepAt rs a b → HoldsAt rs b c → DeepAt rs a c
  one_more a b c d h =
      let same : h.outer ≡ d.inner = same_some (slice_get rs b) h.outer d.inner h.is_outer d.is_inner in
      record { outer = d.outer; inner = h.inner; is_outer = d.is_outer; is_inner = h.is_inner; holds = deeper rs d.outer d.inner h.inner d.holds (subst (λ r. Holds rs r h.inner) same h.holds) }

  -- a reactor of a circle contains itself
  pub circle_recursive : (places : List ℕ) → IsCircle rs places → RecursiveReactor rs
  unfolding RecursiveReactor
  circle_recursive places circle =
      let some = circle.some in
      let last = get_there places (length places - 1) (omega arith) in
      let d = circle_back (HoldsAt rs) (DeepAt rs) places one_deep one_more circle last.0 last.1 in
      let same : d.inner ≡ d.outer = same_some (slice_get rs last.0) d.inner d.outer d.is_inner d.is_outer in
      Any-at (λ r. HoldsDeep rs r r) rs last.0 d.outer d.is_outer (subst (λ r. HoldsDeep rs d.outer r) same d.holds)
