-- Things that instances declare, each with the place of its name among those of its reactor.
use Rattle.std.proofs.Common.{◌≡◌, ℕ, ◌+◌, ◌<◌, List, ◌++◌, length, slice_get, get_or, Some, All, AllPairs, ⊎_elim, sym, ap, ◌∙◌, arith}
use Rattle.std.proofs.lemmas.{Bool.cases_order, Option.{slice_get_within, slice_get-get_or}}
use Rattle.lft_lists.proofs.Places.{Some_same, get_append_cases}
use Rattle.lft_tree.specs.Tree.{ReactorTree}
use Rattle.lft_resolve.specs.Causes.{IsTwice}
use Rattle.lft_program.specs.{Located.Located, declared.naming.OwnName.OwnName}

-- ---- names that an instance has once

-- no two things of the list have one instance and one name
abbrev pub Once : List OwnName → Type 0
Once xs = (i j : ℕ) (a b : OwnName) → i < j → slice_get xs i ≡ Some a → slice_get xs j ≡ Some b → a.instance ≡ b.instance → a.name.now ≡ b.name.now → ⊥

-- nothing of the one list has instance and name with something of the other
abbrev pub Apart : List OwnName → List OwnName → Type 0
Apart xs ys = (i j : ℕ) (a b : OwnName) → slice_get xs i ≡ Some a → slice_get ys j ≡ Some b → a.instance ≡ b.instance → a.name.now ≡ b.name.now → ⊥

pub once_append : (xs ys : List OwnName) → Once xs → Once ys → Apart xs ys → Once (xs ++ ys)
once_append xs ys once_x once_y apart i j a b low at_a at_b instance name =
    ⊎_elim
    (λ p. ⊎_elim
    (λ q. once_x i j a b low p q instance name)
    (λ q. apart i q.0 a b p q.2 instance name)
    (get_append_cases xs ys j b at_b))
    (λ p. ⊎_elim
    (λ q. let within = slice_get_within xs j b q in let e : i ≡ length xs + p.0 = p.1 in absurd (omega arith))
    (λ q. let e : i ≡ length xs + p.0 = p.1 in let f : j ≡ length xs + q.0 = q.1 in once_y p.0 q.0 a b (omega arith) p.2 q.2 instance name)
    (get_append_cases xs ys j b at_b))
    (get_append_cases xs ys i a at_a)

pub apart_append : (xs ys zs : List OwnName) → Apart xs ys → Apart xs zs → Apart xs (ys ++ zs)
apart_append xs ys zs from_y from_z i j a b at_a at_b instance name =
    ⊎_elim
    (λ q. from_y i j a b at_a q instance name)
    (λ q. from_z i q.0 a b at_a q.2 instance name)
    (get_append_cases ys zs j b at_b)

pub append_apart : (xs ys zs : List OwnName) → Apart xs zs → Apart ys zs → Apart (xs ++ ys) zs
append_apart xs ys zs from_x from_y i j a b at_a at_b instance name =
    ⊎_elim
    (λ q. from_x i j a b q at_b instance name)
    (λ q. from_y q.0 j a b q.2 at_b instance name)
    (get_append_cases xs ys i a at_a)

-- ---- from places to the whole list

module _ {X : Type 0} where
  pub all_of : (P : X → Type 0) (xs : List X) → ((k : ℕ) (x : X) → slice_get xs k ≡ Some x → P x) → All P xs
  all_of P xs each k x within = each k (get_or xs k x) (slice_get-get_or xs k x within)

  pub pairs_of : (R : X → X → Type 0) (xs : List X) → ((i j : ℕ) (x y : X) → i < j → slice_get xs i ≡ Some x → slice_get xs j ≡ Some y → R x y) → AllPairs R xs
  pairs_of R xs each i j x low within = each i j (get_or xs i x) (get_or xs j x) low (slice_get-get_or xs i x (omega arith)) (slice_get-get_or xs j x within)

  pub each_append : (P : X → Type 0) (xs ys : List X) → ((k : ℕ) (x : X) → slice_get xs k ≡ Some x → P x) → ((k : ℕ) (x : X) → slice_get ys k ≡ Some x → P x) → (k : ℕ) (x : X) → slice_get (xs ++ ys) k ≡ Some x → P x
  each_append P xs ys each_x each_y k x at = ⊎_elim (λ p. each_x k x p) (λ p. each_y p.0 x p.2) (get_append_cases xs ys k x at)

-- ---- sites

-- where a name of the thing's reactor is the thing's own
pub record Site (located : List Located) (names : ReactorTree → List (List ℕ)) (d : OwnName) : Type 0 where
  pub at : Located
  pub place : ℕ
  pub there : slice_get located d.instance ≡ Some at
  pub name : slice_get (names at.inside.reactor) place ≡ Some d.name.now

-- each thing has a site, and no two have the same
pub record AreSites (located : List Located) (names : ReactorTree → List (List ℕ)) (xs : List OwnName) : Type 0 where
  pub site : (i : ℕ) (d : OwnName) → slice_get xs i ≡ Some d → Site located names d
  pub one : (i j : ℕ) (a b : OwnName) (at_a : slice_get xs i ≡ Some a) (at_b : slice_get xs j ≡ Some b) → a.instance ≡ b.instance → (site i a at_a).place ≡ (site j b at_b).place → i ≡ j

-- no name stands in both lists
abbrev pub AreApart : List (List ℕ) → List (List ℕ) → Type 0
AreApart us vs = (i j : ℕ) (name : List ℕ) → slice_get us i ≡ Some name → slice_get vs j ≡ Some name → ⊥

module _ (located : List Located) where
  -- the reactor of some instance
  abbrev pub Each : (ReactorTree → Type 0) → Type 0
  Each P = (n : ℕ) (l : Located) → slice_get located n ≡ Some l → P l.inside.reactor

  -- the place in the other one's reactor, where the two have one instance and one name
  same_place : (f g : ReactorTree → List (List ℕ)) (a b : OwnName) → (x : Site located f a) → (y : Site located g b) → a.instance ≡ b.instance → a.name.now ≡ b.name.now → slice_get (g x.at.inside.reactor) y.place ≡ Some a.name.now
  same_place f g a b x y instance name =
      let same : x.at ≡ y.at = Some_same x.at y.at (sym x.there ∙ ap (slice_get located) instance ∙ y.there) in
      ap (λ (l : Located). slice_get (g l.inside.reactor) y.place) same ∙ y.name ∙ ap Some (sym name)

  pub once_of : (names : ReactorTree → List (List ℕ)) (xs : List OwnName) → AreSites located names xs → Each (λ r. IsTwice (names r) → ⊥) → Once xs
  once_of names xs sites never i j a b low at_a at_b instance name =
      let x = sites.site i a at_a in
      let y = sites.site j b at_b in
      let other = same_place names names a b x y instance name in
      ⊎_elim
      (λ e. let same : i ≡ j = sites.one i j a b at_a at_b instance e in absurd (omega arith))
      (λ h. ⊎_elim
      (λ less. never a.instance x.at x.there (x.place, y.place, a.name.now, less, x.name, other))
      (λ more. never a.instance x.at x.there (y.place, x.place, a.name.now, more, other, x.name))
      h)
      (cases_order x.place y.place)

  pub apart_of : (f g : ReactorTree → List (List ℕ)) (xs ys : List OwnName) → AreSites located f xs → AreSites located g ys → Each (λ r. AreApart (f r) (g r)) → Apart xs ys
  apart_of f g xs ys in_x in_y never i j a b at_a at_b instance name =
      let x = in_x.site i a at_a in
      let y = in_y.site j b at_b in
      never a.instance x.at x.there x.place y.place a.name.now x.name (same_place f g a b x y instance name)

  pub names_of_sites : (P : List ℕ → Type 0) (names : ReactorTree → List (List ℕ)) (xs : List OwnName) → AreSites located names xs → Each (λ r. (k : ℕ) (name : List ℕ) → slice_get (names r) k ≡ Some name → P name) → (k : ℕ) (d : OwnName) → slice_get xs k ≡ Some d → P d.name.now
  names_of_sites P names xs sites each k d at =
      let x = sites.site k d at in
      each d.instance x.at x.there x.place d.name.now x.name

  pub within_sites : (names : ReactorTree → List (List ℕ)) (xs : List OwnName) → AreSites located names xs → (k : ℕ) (d : OwnName) → slice_get xs k ≡ Some d → d.instance < length located
  within_sites names xs sites k d at =
      let x = sites.site k d at in
      slice_get_within located d.instance x.at x.there
