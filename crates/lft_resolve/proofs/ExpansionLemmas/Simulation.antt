-- Where two steps go side by side, the same paths exist.
use Rattle.std.proofs.Common.{◌≡◌, ℕ, List, [], ◌∷◌, refl, sym, ap, ◌∙◌, subst, Option, Some, None}
use Rattle.std.specs.Option.{option_and_then}
use Rattle.lft_resolve.specs.Expansion.Paths.{along, IsPreOrder}

-- what the one step reaches from a thing, the other reaches from what stands for it
pub record Simulates {X Y : Type 0} (R : X → Y → Type 0) (f : X → ℕ → Option X) (g : Y → ℕ → Option Y) : Type 0 where
  pub forth : (x : X) (y : Y) (k : ℕ) (x2 : X) → R x y → f x k ≡ Some x2 → (y2 : Y) × (g y k ≡ Some y2) × R x2 y2
  pub back : (x : X) (y : Y) (k : ℕ) (y2 : Y) → R x y → g y k ≡ Some y2 → (x2 : X) × (f x k ≡ Some x2) × R x2 y2

-- a first step and the rest
along_step : {X : Type 0} (f : X → ℕ → Option X) (x z : X) (k : ℕ) (path : List ℕ) → along f x (k ∷ path) ≡ Some z → (y : X) × (f x k ≡ Some y) × (along f y path ≡ Some z)
along_step {X} f x z k path e = go (f x k) refl
  where
    go : (o : Option X) → f x k ≡ o → (y : X) × (f x k ≡ Some y) × (along f y path ≡ Some z)
    go None g = absurd (let w : option_and_then (λ y. along f y path) None ≡ Some z = sym (ap (option_and_then (λ y. along f y path)) g) ∙ e in cc)
    go (Some y) g = (y, g, sym (ap (option_and_then (λ y. along f y path)) g) ∙ e)

pub along_forth : {X Y : Type 0} (R : X → Y → Type 0) (f : X → ℕ → Option X) (g : Y → ℕ → Option Y) → Simulates R f g → (x : X) (y : Y) (path : List ℕ) (x2 : X) → R x y → along f x path ≡ Some x2 → (y2 : Y) × (along g y path ≡ Some y2) × R x2 y2
along_forth R f g s x y [] x2 r e = let q : x ≡ x2 = cc in (y, refl, subst (λ z. R z y) q r)
along_forth R f g s x y (k ∷ path) x2 r e =
    let a = along_step f x x2 k path e in
    let b = s.forth x y k a.0 r a.1 in
    let c = along_forth R f g s a.0 b.0 path x2 b.2 a.2 in
    (c.0, ap (option_and_then (λ z. along g z path)) b.1 ∙ c.1, c.2)

pub along_back : {X Y : Type 0} (R : X → Y → Type 0) (f : X → ℕ → Option X) (g : Y → ℕ → Option Y) → Simulates R f g → (x : X) (y : Y) (path : List ℕ) (y2 : Y) → R x y → along g y path ≡ Some y2 → (x2 : X) × (along f x path ≡ Some x2) × R x2 y2
along_back R f g s x y [] y2 r e = let q : y ≡ y2 = cc in (x, refl, subst (λ z. R x z) q r)
along_back R f g s x y (k ∷ path) y2 r e =
    let a = along_step g y y2 k path e in
    let b = s.back x y k a.0 r a.1 in
    let c = along_back R f g s b.0 a.0 path y2 b.2 a.2 in
    (c.0, ap (option_and_then (λ z. along f z path)) b.1 ∙ c.1, c.2)

pub pre_order_back : {X Y : Type 0} (R : X → Y → Type 0) (f : X → ℕ → Option X) (g : Y → ℕ → Option Y) (x : X) (y : Y) (paths : List (List ℕ)) → Simulates R f g → R x y → IsPreOrder g y paths → IsPreOrder f x paths
pre_order_back R f g x y paths s r w = record {
  in_order = w.in_order;
  each = λ i p e. let a = w.each i p e in let b = along_back R f g s x y p a.0 r a.1 in (b.0, b.1);
  all = λ p e. let b = along_forth R f g s x y p e.0 r e.1 in w.all p (b.0, b.1);
}
