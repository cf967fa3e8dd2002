-- The instances of a tree are one list, and the reactor of each is one of the file.
use Rattle.std.proofs.Common.{◌≡◌, ℕ, suc, Bool, true, false, cond, List, [], ◌∷◌, map, find, slice_get, Some, refl, sym, ap, subst, ◌∙◌}
use Rattle.lft_lists.proofs.Places.{Some_same}
use Rattle.lft_tree.specs.Tree.{FileTree, ReactorTree, reactors_of}
use Rattle.lft_resolve.specs.{Expansion.Paths.{along, IsPreOrder}, Instances.{Inside, IsInside, is_called, entered, main_of, main_instance}}
use Rattle.lft_resolve.proofs.ExpansionLemmas.Unique.{pre_order_unique}
use Rattle.lft_program.{specs.Located.{Located, AreLocated}, proofs.{Zipping.then_some, Entering.entered_by}}

-- what is found stands in the list
found_in : {X : Type 0} (p : X → Bool) (xs : List X) (x : X) → find p xs ≡ Some x → (k : ℕ) × (slice_get xs k ≡ Some x)
found_in p [] x e = absurd (cc)
found_in {X} p (y ∷ xs) x e = by (p y) (λ f. found_in p xs x f) e
  where
    by : (b : Bool) → (find p xs ≡ Some x → (k : ℕ) × (slice_get xs k ≡ Some x)) → cond b (Some y) (find p xs) ≡ Some x → (k : ℕ) × (slice_get (y ∷ xs) k ≡ Some x)
    by true go e = (0, e)
    by false go e = let r = go e in (suc r.0, r.1)

-- the reactor is one of the file
abbrev pub InFile : FileTree → Inside → Type 0
InFile tree x = (n : ℕ) × (slice_get (reactors_of tree) n ≡ Some x.reactor)

below_in : (tree : FileTree) (x : Inside) (path : List ℕ) (y : Inside) → InFile tree x → along (entered tree) x path ≡ Some y → InFile tree y
below_in tree x [] y known e = subst (InFile tree) (Some_same x y e) known
below_in tree x (k ∷ path) y known e =
    let s = then_some (λ z. along (entered tree) z path) (entered tree x k) y e in
    let n = entered_by tree x k s.0 s.1 in
    below_in tree s.0 path y (found_in (λ r. is_called n.i.reactor r.name) (reactors_of tree) s.0.reactor (n.is_reactor ∙ ap (λ (z : Inside). Some z.reactor) n.is_made)) s.2

pub in_file : (tree : FileTree) (path : List ℕ) (x : Inside) → IsInside tree path x → InFile tree x
in_file tree path x (main, is, leads) = below_in tree (main_instance main) path x (found_in (λ r. r.is_main) (reactors_of tree) main is) leads

one_main : (tree : FileTree) (a b : ReactorTree) → main_of tree ≡ Some a → main_of tree ≡ Some b → a ≡ b
one_main tree a b e f = Some_same a b (sym e ∙ f)

-- a path leads to one instance
pub one_inside : (tree : FileTree) (path : List ℕ) (x y : Inside) → IsInside tree path x → IsInside tree path y → x ≡ y
one_inside tree path x y (a, is_a, e) (b, is_b, f) = Some_same x y (sym e ∙ ap (λ m. along (entered tree) (main_instance m) path) (one_main tree a b is_a is_b) ∙ f)

pub inside_at : (tree : FileTree) (all : List Located) → AreLocated tree all → (n : ℕ) (l : Located) → slice_get all n ≡ Some l → IsInside tree l.path l.inside
inside_at tree all are n l at = (are.main, are.is_main, are.inside n l at)

same_instances : (tree : FileTree) (xs ys : List Located) → map (λ l. l.path) xs ≡ map (λ l. l.path) ys → ((n : ℕ) (l : Located) → slice_get xs n ≡ Some l → IsInside tree l.path l.inside) → ((n : ℕ) (l : Located) → slice_get ys n ≡ Some l → IsInside tree l.path l.inside) → xs ≡ ys
same_instances tree [] [] paths f g = refl
same_instances tree [] (y ∷ ys) paths f g = absurd (cc)
same_instances tree (x ∷ xs) [] paths f g = absurd (cc)
same_instances tree (x ∷ xs) (y ∷ ys) paths f g =
    let path : x.path ≡ y.path = cc in
    let rest : map (λ (l : Located). l.path) xs ≡ map (λ (l : Located). l.path) ys = cc in
    let inside : x.inside ≡ y.inside = one_inside tree y.path x.inside y.inside (subst (λ p. IsInside tree p x.inside) path (f 0 x refl)) (g 0 y refl) in
    let head : x ≡ y = λ j. record { path = path j; inside = inside j } in
    let tail = same_instances tree xs ys rest (λ n. f (suc n)) (λ n. g (suc n)) in
    λ j. head j ∷ tail j

pub one_located : (tree : FileTree) (xs ys : List Located) → AreLocated tree xs → AreLocated tree ys → xs ≡ ys
one_located tree xs ys a b =
    let paths : List Located → List (List ℕ) = map (λ l. l.path) in
    let main : b.main ≡ a.main = one_main tree b.main a.main b.is_main a.is_main in
    let in_order : IsPreOrder (entered tree) (main_instance a.main) (paths ys) = subst (λ m. IsPreOrder (entered tree) (main_instance m) (paths ys)) main b.in_order in
    same_instances tree xs ys (pre_order_unique (entered tree) (main_instance a.main) (paths xs) (paths ys) a.in_order in_order) (inside_at tree xs a) (inside_at tree ys b)

-- no path has two numbers
