-- The list of the things of one kind has the declarations of the instances in order.
use Rattle.std.proofs.Common.{◌≡◌, ℕ, zero, suc, ◌+◌, ◌<◌, List, [], ◌∷◌, length, length-append, refl, sym, ap, ◌∙◌, subst, arith, Some, Result, Ok, Err, IfOk, slice_get, take, map, flat_map, unwrap_or}
use Rattle.std.{specs.List.{AllZip, enumerate_from}, proofs.lemmas.{Option.slice_get_within, List.{length-map, FromFn.length-enumerate_from}}}
use Rattle.lft_lists.proofs.Mapped.{mapped, mapped_from}
use Rattle.lft_tree.specs.Tree.{FileTree, ReactorTree, reactors_of}
use Rattle.lft_resolve.specs.inner.Expansion.{Listing.AreThingsListed, Numbers.{count_of_things, things}}
use Rattle.lft_resolve.specs.declared.expansion.{numbering.Thing.Thing, walk.Instance.Instance}
use Rattle.lft_resolve.proofs.{Directed.AllZip-to, Flat.enumerated}
use Rattle.lft_program.specs.{Located.{Located, Declared, declared, declared_in}, inner.Nests.{IsInstanceOf, IsNest, IsNumbering, IsThingOf}}
use Rattle.lft_program.specs.declared.nesting.{nest.{Nest.Nest, Numbering.Numbering}, tables.Tables.Tables}
use Rattle.lft_program.proofs.{Counting.{base, total}, Elements.{From, flat_back}, Zipping.zip_of}

-- ---- where a declaration stands

-- the declaration at a number is one of the instance, at its place
pub record Stands {X : Type 0} (kind : ReactorTree → List X) (located : List Located) (k : ℕ) (d : Declared X) : Type 0 where
  pub instance : slice_get located d.instance ≡ Some d.located
  pub place : slice_get (kind d.located.inside.reactor) d.place ≡ Some d.item
  pub number : k ≡ base kind located d.instance + d.place

pub declared_from : {X : Type 0} (kind : ReactorTree → List X) (located : List Located) (k : ℕ) (d : Declared X) → slice_get (declared kind located) k ≡ Some d → Stands kind located k d
declared_from {X} kind located k d at =
    let f : From (declared_in kind) (enumerate_from 0 located) k d = flat_back (declared_in kind) (enumerate_from 0 located) k d at in
    let l = enumerated 0 located f.number f.element f.is_element in
    let P : ℕ × X → Declared X = λ p. record { instance = f.element.0; located = f.element.1; place = p.0; item = p.1 } in
    let m = mapped_from P (enumerate_from 0 (kind f.element.1.inside.reactor)) f.place d f.is_piece in
    let j = enumerated 0 (kind f.element.1.inside.reactor) f.place m.0 m.1 in
    let number : f.element.0 ≡ f.number = (let a : f.element.0 ≡ 0 + f.number = l.0 in omega arith) in
    let place : m.0.0 ≡ f.place = (let a : m.0.0 ≡ 0 + f.place = j.0 in omega arith) in
    subst (Stands kind located k) m.2 (record {
      instance = ap (slice_get located) number ∙ l.1;
      place = ap (slice_get (kind f.element.1.inside.reactor)) place ∙ j.1;
      number = f.is_at ∙ ap (λ i. base kind located i + f.place) (sym number) ∙ ap (λ i. base kind located f.element.0 + i) (sym place);
    })

-- ---- counted by reactor and counted by declaration

module _ {X : Type 0} (kind : ReactorTree → List X) (rs : List ReactorTree) (counts : List ℕ) (are : counts ≡ map (λ r. length (kind r)) rs) where
  pub count_is : (n : ℕ) (r : ReactorTree) → slice_get rs n ≡ Some r → count_of_things counts n ≡ length (kind r)
  count_is n r at = ap (λ l. unwrap_or (slice_get l n) 0) are ∙ ap (λ o. unwrap_or o 0) (mapped (λ r. length (kind r)) rs n r at)

  own : (i : ℕ) (l : Located) (instance : Instance) → IsInstanceOf rs l instance → length (declared_in kind (i, l)) ≡ count_of_things counts instance.reactor
  own i l instance is = length-map (enumerate_from 0 (kind l.inside.reactor)) _ ∙ length-enumerate_from 0 (kind l.inside.reactor) ∙ sym (count_is instance.reactor l.inside.reactor is)

  before : (i : ℕ) (located : List Located) (instances : List Instance) (n : ℕ) → AllZip (IsInstanceOf rs) located instances → total (declared_in kind) n (enumerate_from i located) ≡ things counts (take n instances)
  before i located instances zero all = refl
  before i [] [] (suc n) all = refl
  before i [] (x ∷ instances) (suc n) all = absurd all
  before i (l ∷ located) [] (suc n) all = absurd all
  before i (l ∷ located) (x ∷ instances) (suc n) all =
      let a : length (declared_in kind (i, l)) ≡ count_of_things counts x.reactor = own i l x all.0 in
      let b : total (declared_in kind) n (enumerate_from (i + 1) located) ≡ things counts (take n instances) = before (i + 1) located instances n all.1 in
      ap (λ k. k + total (declared_in kind) n (enumerate_from (i + 1) located)) a ∙ ap (λ k. count_of_things counts x.reactor + k) b

  pub base_is : (located : List Located) (instances : List Instance) (n : ℕ) → AllZip (IsInstanceOf rs) located instances → base kind located n ≡ things counts (take n instances)
  base_is located instances n all = before 0 located instances n all

  whole : (i : ℕ) (located : List Located) (instances : List Instance) → AllZip (IsInstanceOf rs) located instances → length (flat_map (declared_in kind) (enumerate_from i located)) ≡ things counts instances
  whole i [] [] all = refl
  whole i [] (x ∷ instances) all = absurd all
  whole i (l ∷ located) [] all = absurd all
  whole i (l ∷ located) (x ∷ instances) all =
      let a : length (declared_in kind (i, l)) ≡ count_of_things counts x.reactor = own i l x all.0 in
      let b = whole (i + 1) located instances all.1 in
      length-append (declared_in kind (i, l)) (flat_map (declared_in kind) (enumerate_from (i + 1) located)) ∙ ap (λ k. k + length (flat_map (declared_in kind) (enumerate_from (i + 1) located))) a ∙ ap (λ k. count_of_things counts x.reactor + k) b

  pub declared_long : (located : List Located) (instances : List Instance) → AllZip (IsInstanceOf rs) located instances → length (declared kind located) ≡ things counts instances
  declared_long located instances all = whole 0 located instances all

-- ---- the list by number

pub declared-length : {X : Type 0} (kind : ReactorTree → List X) (rs : List ReactorTree) (located : List Located) (instances : List Instance) (limit : ℕ) (n : Numbering) → AllZip (IsInstanceOf rs) located instances → IsNumbering kind rs instances limit n → length (declared kind located) ≡ things n.counts.items instances
declared-length kind rs located instances limit n all is = declared_long kind rs n.counts.items is.counts located instances all

pub listed : {X : Type 0} (kind : ReactorTree → List X) (rs : List ReactorTree) (located : List Located) (instances : List Instance) (limit : ℕ) (n : Numbering) (all : List Thing) → AllZip (IsInstanceOf rs) located instances → IsNumbering kind rs instances limit n → AreThingsListed n.counts.items instances all → AllZip IsThingOf (declared kind located) all
listed {X} kind rs located instances limit n all zipped is are = zip_of IsThingOf (declared kind located) all (declared-length kind rs located instances limit n zipped is ∙ sym are.as_long) each
  where
    each : (k : ℕ) (d : Declared X) (t : Thing) → slice_get (declared kind located) k ≡ Some d → slice_get all k ≡ Some t → IsThingOf d t
    each k d t at there =
        let s = declared_from kind located k d at in
        let i = AllZip-to (IsInstanceOf rs) located instances zipped d.instance d.located s.instance in
        let within : d.place < count_of_things n.counts.items i.0.reactor = (let l = slice_get_within (kind d.located.inside.reactor) d.place d.item s.place in let c = count_is kind rs n.counts.items is.counts i.0.reactor d.located.inside.reactor i.2 in omega arith) in
        let number : k ≡ things n.counts.items (take d.instance instances) + d.place = s.number ∙ ap (λ b. b + d.place) (base_is kind rs n.counts.items is.counts located instances d.instance zipped) in
        let e : Some t ≡ Some (record { instance = d.instance; place = d.place }) = sym there ∙ ap (slice_get all) number ∙ are.each d.instance d.place i.0 i.1 within in
        let same : t ≡ record { instance = d.instance; place = d.place } = cc in
        (ap (λ x. x.instance) same, ap (λ x. x.place) same)

-- the same of what a call answered about lists that are the nest's
pub listed_ok : {X V E : Type 0} (items : V → List Thing) (kind : ReactorTree → List X) (limit : ℕ) (nest : Nest) (n : Numbering) (instances : List Instance) (counts : List ℕ) (r : Result V E) → ((tree : FileTree) (tables : Tables) → IsNest tree tables nest → IsNumbering kind (reactors_of tree) nest.instances.items limit n) → instances ≡ nest.instances.items → counts ≡ n.counts.items → IfOk r (λ v. AreThingsListed counts instances (items v)) → IfOk r (λ v. (tree : FileTree) → (tables : Tables) → (w : IsNest tree tables nest) → AllZip IsThingOf (declared kind w.located) (items v))
listed_ok items kind limit nest n instances counts (Ok v) is e f are = λ tree tables w. listed kind (reactors_of tree) w.located nest.instances.items limit n (items v) w.instances (is tree tables w) (subst (λ l. AreThingsListed n.counts.items l (items v)) e (subst (λ l. AreThingsListed l instances (items v)) f are))
listed_ok items kind limit nest n instances counts (Err x) is e f are = are
