-- Where each reactor stands behind those that it contains, none contains itself.
use Rattle.std.proofs.Common.{◌≡◌, ℕ, zero, suc, ◌<◌, List, length, Some, slice_get, sym, ap, ◌∙◌, arith}
use Rattle.std.proofs.lemmas.Option.{slice_get_within}
use Rattle.lft_tree.specs.Tree.{ReactorTree, instances_of}
use Rattle.lft_resolve.specs.{declared.expansion.walk.Contents.Contents, inner.Numbers.{IsReactorNumberOf, IsContents, AreContents}}
use Rattle.lft_resolve.specs.{Causes.{Holds, HoldsDeep, directly, through, RecursiveReactor}, Instances.reactor_named}
use Rattle.lft_resolve.proofs.{Directed.AllZip-to, Twice.at-Any}
use Rattle.lft_lists.specs.inner.Walking.{IsOrder, Leads}
use Rattle.lft_validate.specs.inner.Circles.{instances_inside, instances_in}

-- one step more
pub deeper : (rs : List ReactorTree) (a b c : ReactorTree) → HoldsDeep rs a b → Holds rs b c → HoldsDeep rs a c
deeper rs a b c (directly h) last = through h (directly last)
deeper rs a b c (through h rest) last = through h (deeper rs _ b c rest last)

module _ (rs : List ReactorTree) (table : List Contents) (all : AreContents rs table) (order : List ℕ) (is_order : IsOrder (Leads (instances_in table)) (length table) order) where
  -- a reactor of which another one has an instance stands before it
  next : (i n : ℕ) (outer inner : ReactorTree) → slice_get order i ≡ Some n → slice_get rs n ≡ Some outer → Holds rs outer inner → (j : ℕ) × (m : ℕ) × (j < i) × (slice_get order j ≡ Some m) × (slice_get rs m ≡ Some inner)
  next i n outer inner stands at held =
      let one = at-Any (λ i. reactor_named rs i.reactor ≡ Some inner) (instances_of outer) held in
      let made = AllZip-to (IsContents rs) rs table all n outer at in
      let number = AllZip-to (IsReactorNumberOf rs) (instances_of outer) made.0.instances.items made.2 one.0 one.1 one.2 in
      let there : slice_get (instances_in table n) one.0 ≡ Some number.0 = ap (λ o. slice_get (instances_inside o) one.0) made.1 ∙ number.1 in
      let same : number.2.0 ≡ inner = (let e : Some number.2.0 ≡ Some inner = sym number.2.1 ∙ one.3 in cc) in
      let is_inner : slice_get rs number.0 ≡ Some inner = number.2.2 ∙ ap Some same in
      let also = AllZip-to (IsContents rs) rs table all number.0 inner is_inner in
      let j = is_order.behind i n number.0 stands (one.0, there) (slice_get_within table number.0 also.0 also.1) in
      (j.0, number.0, j.1, j.2, is_inner)

  deep : (i n : ℕ) (outer inner : ReactorTree) → slice_get order i ≡ Some n → slice_get rs n ≡ Some outer → HoldsDeep rs outer inner → (j : ℕ) × (m : ℕ) × (j < i) × (slice_get order j ≡ Some m) × (slice_get rs m ≡ Some inner)
  deep i n outer inner stands at (directly held) = next i n outer inner stands at held
  deep i n outer inner stands at (through {b = b} held rest) =
      let j = next i n outer b stands at held in
      let k = deep j.0 j.1 b inner j.3 j.4 rest in
      let l = j.2 in
      let m = k.2 in
      (k.0, k.1, omega arith, k.3, k.4)

  never : (most i n : ℕ) (r : ReactorTree) → i < most → slice_get order i ≡ Some n → slice_get rs n ≡ Some r → HoldsDeep rs r r → ⊥
  never zero i n r lt stands at held = absurd (omega arith)
  never (suc most) i n r lt stands at held = let j = deep i n r r stands at held in let l = j.2 in never most j.0 j.1 r (omega arith) j.3 j.4 held

  pub none_recursive : RecursiveReactor rs → ⊥
  unfolding RecursiveReactor
  none_recursive a =
      let one = at-Any (λ r. HoldsDeep rs r r) rs a in
      let made = AllZip-to (IsContents rs) rs table all one.0 one.1 one.2 in
      let stands = is_order.all one.0 (slice_get_within table one.0 made.0 made.1) in
      never (suc stands.0) stands.0 one.0 one.1 (omega arith) stands.1 one.2 one.3
