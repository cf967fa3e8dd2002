-- Lists that are filtered, and lists of lists.
use Rattle.std.proofs.Common.{◌≡◌, inl, inr, All, Bool, true, List, [], ◌∷◌, ◌++◌, map, flat_map, filter_map, Option, Some, None, option_to_list, refl, ap, ◌∙◌}
use Rattle.std.specs.Prelude.{filter, if◌then◌else◌, unwrap_or}
use Rattle.std.{specs.List.cons_option, proofs.lemmas.{Grind.flat_map-append, List.Elements.filter-append}}
use Rattle.lft_lists.proofs.Members.{Mem, get_mem}
use Rattle.lft_program.proofs.FullNames.{all_at}

-- what is so of all is so of each
pub of_all : {X : Type 0} (P : X → Type 0) (xs : List X) → All P xs → (x : X) → Mem x xs → P x
of_all P xs all x k = let g = get_mem x xs k in all_at P xs all g.0 x g.1

-- what each stands for, where each stands for something
pub kept_or : {X Y : Type 0} (f : X → Option Y) (other : X → Y) (xs : List X) → ((x : X) → Mem x xs → f x ≡ None → ⊥) → map (λ x. unwrap_or (f x) (other x)) xs ≡ filter_map f xs
kept_or f other [] kept = refl
kept_or {X} {Y} f other (x ∷ xs) kept = go (f x) refl (kept_or f other xs (λ z m. kept z (inr m)))
  where
    go : (o : Option Y) → f x ≡ o → map (λ x. unwrap_or (f x) (other x)) xs ≡ filter_map f xs → unwrap_or o (other x) ∷ map (λ x. unwrap_or (f x) (other x)) xs ≡ cons_option o (filter_map f xs)
    go None e rest = absurd (kept x (inl refl) e)
    go (Some y) e rest = ap (λ (l : List Y). y ∷ l) rest

pub some_or : {Y : Type 0} (o : Option Y) (other : Y) → (o ≡ None → ⊥) → o ≡ Some (unwrap_or o other)
some_or None other kept = absurd (kept refl)
some_or (Some y) other kept = refl

-- a filter that all pass keeps all
pub all_pass : {X : Type 0} (p : X → Bool) (xs : List X) → ((x : X) → Mem x xs → p x ≡ true) → filter p xs ≡ xs
all_pass p [] pass = refl
all_pass {X} p (x ∷ xs) pass =
    ap (λ (b : Bool). if b then x ∷ filter p xs else filter p xs) (pass x (inl refl))
    ∙ ap (λ (l : List X). x ∷ l) (all_pass p xs (λ z m. pass z (inr m)))

-- a filter of many lists is that of each
pub filter-flat_map : {X Y : Type 0} (p : Y → Bool) (f : X → List Y) (xs : List X) → filter p (flat_map f xs) ≡ flat_map (λ x. filter p (f x)) xs
filter-flat_map p f [] = refl
filter-flat_map {X} {Y} p f (x ∷ xs) = filter-append p (f x) (flat_map f xs) ∙ ap (λ (l : List Y). filter p (f x) ++ l) (filter-flat_map p f xs)

-- lists of lists of lists
pub flat_map-flat_map : {X Y Z : Type 0} (f : Y → List Z) (g : X → List Y) (xs : List X) → flat_map f (flat_map g xs) ≡ flat_map (λ x. flat_map f (g x)) xs
flat_map-flat_map f g [] = refl
flat_map-flat_map {X} {Y} {Z} f g (x ∷ xs) = flat_map-append f (g x) (flat_map g xs) ∙ ap (λ (l : List Z). flat_map f (g x) ++ l) (flat_map-flat_map f g xs)

-- what is made of what a filter keeps
pub flat_kept : {X Y Z : Type 0} (f : X → Option Y) (g : Y → Z) (xs : List X) → flat_map (λ x. map g (option_to_list (f x))) xs ≡ map g (filter_map f xs)
flat_kept f g [] = refl
flat_kept {X} {Y} {Z} f g (x ∷ xs) = go (f x) (flat_kept f g xs)
  where
    go : (o : Option Y) → flat_map (λ x. map g (option_to_list (f x))) xs ≡ map g (filter_map f xs) → map g (option_to_list o) ++ flat_map (λ x. map g (option_to_list (f x))) xs ≡ map g (cons_option o (filter_map f xs))
    go None rest = rest
    go (Some y) rest = ap (λ (l : List Z). g y ∷ l) rest
