-- Lists that are mapped, filtered or numbered, in turn.
use Rattle.std.proofs.Common.{◌≡◌, ℕ, ◌+◌, List, [], ◌∷◌, ◌++◌, map, flat_map, filter_map, Option, Some, None, refl, ap, ◌∙◌}
use Rattle.std.specs.List.{AllZip, cons_option, enumerate_from}

-- a filter that keeps each item of a mapped list
pub all_mapped : {X Y Z : Type 0} (kind : Y → Option Z) (f : X → Y) (g : X → Z) → ((x : X) → kind (f x) ≡ Some (g x)) → (xs : List X) → filter_map kind (map f xs) ≡ map g xs
all_mapped kind f g kept [] = refl
all_mapped {X} {Y} {Z} kind f g kept (x ∷ xs) = ap (λ o. cons_option o (filter_map kind (map f xs))) (kept x) ∙ ap (λ (l : List Z). g x ∷ l) (all_mapped kind f g kept xs)

-- or none
pub none_mapped : {X Y Z : Type 0} (kind : Y → Option Z) (f : X → Y) → ((x : X) → kind (f x) ≡ None) → (xs : List X) → filter_map kind (map f xs) ≡ []
none_mapped kind f lost [] = refl
none_mapped kind f lost (x ∷ xs) = ap (λ o. cons_option o (filter_map kind (map f xs))) (lost x) ∙ none_mapped kind f lost xs

-- what asks for no number
pub unnumbered : {X Y : Type 0} (f : X → List Y) (i : ℕ) (xs : List X) → flat_map (λ (p : ℕ × X). f p.1) (enumerate_from i xs) ≡ flat_map f xs
unnumbered f i [] = refl
unnumbered f i (x ∷ xs) = ap (λ l. f x ++ l) (unnumbered f (i + 1) xs)

module _ {A B : Type 0} (R : A → B → Type 0) where
  pub zipped_append : (xs more : List A) (ys others : List B) → AllZip R xs ys → AllZip R more others → AllZip R (xs ++ more) (ys ++ others)
  zipped_append [] more [] others h k = k
  zipped_append [] more (y ∷ ys) others h k = absurd h
  zipped_append (x ∷ xs) more [] others h k = absurd h
  zipped_append (x ∷ xs) more (y ∷ ys) others h k = (h.0, zipped_append xs more ys others h.1 k)

  -- items of one list, seen in two ways
  pub zipped_maps : {C : Type 0} (f : C → A) (g : C → B) → ((c : C) → R (f c) (g c)) → (cs : List C) → AllZip R (map f cs) (map g cs)
  zipped_maps f g each [] = tt
  zipped_maps f g each (c ∷ cs) = (each c, zipped_maps f g each cs)

  -- items that go together have the same of what both have
  pub zipped_same : {C : Type 0} (f : A → C) (g : B → C) → ((a : A) (b : B) → R a b → f a ≡ g b) → (xs : List A) (ys : List B) → AllZip R xs ys → map f xs ≡ map g ys
  zipped_same f g same [] [] all = refl
  zipped_same f g same [] (y ∷ ys) all = absurd all
  zipped_same f g same (x ∷ xs) [] all = absurd all
  zipped_same {C} f g same (x ∷ xs) (y ∷ ys) all = ap (λ (c : C). c ∷ map f xs) (same x y all.0) ∙ ap (λ (l : List C). g y ∷ l) (zipped_same f g same xs ys all.1)
