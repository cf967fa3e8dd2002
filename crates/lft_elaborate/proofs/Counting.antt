-- Counts of things, widths and places.
use Rattle.std.proofs.Common.{◌≡◌, ℕ, zero, suc, ◌+◌, ◌-◌, ◌*◌, ◌^◌, List, [], ◌∷◌, ◌++◌, map, min, Option, Some, None, refl, sym, ap, subst, ◌∙◌, arith}
use Rattle.std.{specs.Option.option_and_then, proofs.lemmas.List.map_push}
use Rattle.lft_whole.specs.declared.tree.{Count.Count, Reference.Reference, Term.Term, Width.Width}
use Rattle.lft_classes.specs.declared.shapes.{Shape.Shape, OwnThing.OwnThing}
use Rattle.lft_elaborate.specs.inner.Places.{AreMany, HasPlaces, HavePlaces, IsCount, IsSum, IsMany, IsWidth, KnownWidths, capped, known_count, how_many, how_many_inside, how_many_of, many, meaning_in_setting, how_many_places, how_many_meant, plus, sum_in, capped_product, total_count, width_by, width_in, written_width}
use Rattle.lft_elaborate.specs.inner.Values.{Valued, inside}
use Rattle.lft_elaborate.specs.declared.meanings.Meaning.{Meaning}
use Rattle.lft_whole.specs.declared.tree.Count.TheVariants as count
use Rattle.lft_elaborate.specs.declared.meanings.Meaning.TheVariants as meaning
use Rattle.lft_classes.specs.declared.shapes.OwnThing.TheVariants as thing

-- ---- what is more is known of

-- what is found by f is found by g too
and_then_more : {X Y : Type 0} (f g : X → Option Y) (o : Option X) (y : Y) → ((x : X) → f x ≡ Some y → g x ≡ Some y) → option_and_then f o ≡ Some y → option_and_then g o ≡ Some y
and_then_more f g None y h e = absurd (cc)
and_then_more f g (Some x) y h e = h x e

many_more : (a b : Option ℕ) (w : Option Width) (n : ℕ) → (a ≡ Some n → b ≡ Some n) → many a w ≡ Some n → many b w ≡ Some n
many_more a b None n h e = e
many_more a b (Some w) n h e = h e

times_more : (a b c d : Option ℕ) (n : ℕ) → ((k : ℕ) → a ≡ Some k → c ≡ Some k) → ((k : ℕ) → b ≡ Some k → d ≡ Some k) → capped_product a b ≡ Some n → capped_product c d ≡ Some n
times_more None b c d n h i e = absurd (cc)
times_more (Some x) None c d n h i e = absurd (cc)
times_more (Some x) (Some y) c d n h i e = ap (λ o. capped_product o d) (h x refl) ∙ ap (capped_product (Some x)) (i y refl) ∙ e

plus_more : (a b c d : Option ℕ) (n : ℕ) → ((k : ℕ) → a ≡ Some k → c ≡ Some k) → ((k : ℕ) → b ≡ Some k → d ≡ Some k) → plus a b ≡ Some n → plus c d ≡ Some n
plus_more None b c d n h i e = absurd (cc)
plus_more (Some x) None c d n h i e = absurd (cc)
plus_more (Some x) (Some y) c d n h i e = ap (λ o. plus o d) (h x refl) ∙ ap (plus (Some x)) (i y refl) ∙ e

total_more : {X : Type 0} (f g : X → Option ℕ) (xs : List X) (n : ℕ) → ((x : X) (k : ℕ) → f x ≡ Some k → g x ≡ Some k) → total_count (map f xs) ≡ Some n → total_count (map g xs) ≡ Some n
total_more f g [] n h e = e
total_more f g (x ∷ xs) n h e = plus_more (f x) (total_count (map f xs)) (g x) (total_count (map g xs)) n (h x) (λ k q. total_more f g xs k h q) e

module _ (shapes : List Shape) (f g : KnownWidths) (h : (t : Valued) (m n : ℕ) → f t m ≡ Some n → g t m ≡ Some n) where
  how_many_more : (t : Valued) (m n : ℕ) → how_many shapes f t m ≡ Some n → how_many shapes g t m ≡ Some n
  how_many_more t m n e = many_more (f t m) (g t m) (written_width shapes t m) n (h t m n) e

  how_many_of_more : (t : Valued) (x : OwnThing) (n : ℕ) → how_many_of shapes f t x ≡ Some n → how_many_of shapes g t x ≡ Some n
  how_many_of_more t (thing.Parameter p) n e = e
  how_many_of_more t (thing.Member m) n e = how_many_more t m n e

  inside_more : (t : Valued) (instance port n : ℕ) → how_many_inside shapes f t instance port ≡ Some n → how_many_inside shapes g t instance port ≡ Some n
  inside_more t instance port n e = and_then_more (λ u. how_many shapes f u port) (λ u. how_many shapes g u port) (inside shapes t instance) n (λ u. how_many_more u port n) e

  places_of_more : (t : Valued) (m : Meaning) (n : ℕ) → how_many_meant shapes f t m ≡ Some n → how_many_meant shapes g t m ≡ Some n
  places_of_more t (meaning.Own x) n e = how_many_of_more t x n e
  places_of_more t (meaning.Port i p) n e = times_more (how_many_inside shapes f t i p) (how_many shapes f t i) (how_many_inside shapes g t i p) (how_many shapes g t i) n (inside_more t i p) (how_many_more t i) e

  places_more : (t : Valued) (r : Reference) (n : ℕ) → how_many_places shapes f t r ≡ Some n → how_many_places shapes g t r ≡ Some n
  places_more t r n e = and_then_more (how_many_meant shapes f t) (how_many_meant shapes g t) (meaning_in_setting shapes t r) n (λ m. places_of_more t m n) e

  count_more : (t : Valued) (c : Count) (n : ℕ) → known_count shapes f t c ≡ Some n → known_count shapes g t c ≡ Some n
  count_more t (count.Number k) n e = e
  count_more t (count.Word w) n e = e
  count_more t (count.WidthOf r) n e = places_more t r n e
  count_more t count.Code n e = absurd (cc)
  count_more t count.Open n e = absurd (cc)

  sum_more : (t : Valued) (terms : List Term) (n : ℕ) → sum_in shapes f t terms ≡ Some n → sum_in shapes g t terms ≡ Some n
  sum_more t terms n e = total_more (λ (term : Term). known_count shapes f t term.count) (λ (term : Term). known_count shapes g t term.count) terms n (λ term. count_more t term.count) e

  width_by_more : (t : Valued) (m n : ℕ) → width_by shapes f t m ≡ Some n → width_by shapes g t m ≡ Some n
  width_by_more t m n e = and_then_more (λ (w : Width). sum_in shapes f t w.terms.items) (λ (w : Width). sum_in shapes g t w.terms.items) (written_width shapes t m) n (λ w. sum_more t w.terms.items n) e

-- a width is found at any greater depth too
pub deeper : (shapes : List Shape) (d e : ℕ) (t : Valued) (m n : ℕ) → width_in shapes d t m ≡ Some n → width_in shapes (d + e) t m ≡ Some n
deeper shapes zero e t m n q = absurd (cc)
deeper shapes (suc d) e t m n q =
    let s : suc d + e ≡ suc (d + e) = omega arith in
    subst (λ k. width_in shapes k t m ≡ Some n) (sym s) (width_by_more shapes (width_in shapes d) (width_in shapes (d + e)) (deeper shapes d e) t m n q)

pub deeper_right : (shapes : List Shape) (d e : ℕ) (t : Valued) (m n : ℕ) → width_in shapes e t m ≡ Some n → width_in shapes (d + e) t m ≡ Some n
deeper_right shapes d e t m n q = let s : e + d ≡ d + e = omega arith in subst (λ k. width_in shapes k t m ≡ Some n) s (deeper shapes e d t m n q)

-- a member is so many at any greater depth too, so it is so many once
pub one_count : (shapes : List Shape) (t : Valued) (m d e a b : ℕ) → how_many shapes (width_in shapes d) t m ≡ Some a → how_many shapes (width_in shapes e) t m ≡ Some b → a ≡ b
one_count shapes t m d e a b p q =
    let x : how_many shapes (width_in shapes (d + e)) t m ≡ Some a = how_many_more shapes (width_in shapes d) (width_in shapes (d + e)) (deeper shapes d e) t m a p in
    let y : how_many shapes (width_in shapes (d + e)) t m ≡ Some b = how_many_more shapes (width_in shapes e) (width_in shapes (d + e)) (deeper_right shapes d e) t m b q in
    cc

-- ---- sums

capped_assoc : (most b c n : ℕ) → min (b + min (c + n) most) most ≡ min (min (b + c) most + n) most
capped_assoc most b c n = omega arith

plus_none : (a : Option ℕ) (n : ℕ) → plus a None ≡ Some n → ⊥
plus_none None n e = cc
plus_none (Some x) n e = cc

-- a count more at the end
pub total_push : (xs : List (Option ℕ)) (a n : ℕ) → total_count xs ≡ Some a → total_count (xs ++ Some n ∷ []) ≡ Some (capped (a + n))
total_push [] a n e = let z : 0 ≡ a = cc in let s : n + 0 ≡ a + n = omega arith in ap (λ k. Some (capped k)) s
total_push (None ∷ xs) a n e = absurd (cc)
total_push (Some b ∷ xs) a n e = go (λ c q. total_push xs c n q) (total_count xs) refl e
  where
    go : ((c : ℕ) → total_count xs ≡ Some c → total_count (xs ++ Some n ∷ []) ≡ Some (capped (c + n))) → (o : Option ℕ) → total_count xs ≡ o → plus (Some b) o ≡ Some a → plus (Some b) (total_count (xs ++ Some n ∷ [])) ≡ Some (capped (a + n))
    go more None q p = absurd (plus_none (Some b) a p)
    go more (Some c) q p =
        let is : capped (b + c) ≡ a = cc in
        ap (plus (Some b)) (more c q) ∙ ap Some (capped_assoc (2 ^ 64 - 1) b c n) ∙ ap (λ k. Some (capped (k + n))) is

-- ---- places, terms and widths

-- of a thing of the reactor itself
pub own_places : (shapes : List Shape) (t : Valued) (r : Reference) (x : OwnThing) (n : ℕ) → meaning_in_setting shapes t r ≡ Some (meaning.Own x) → AreMany shapes t x n → HasPlaces shapes t r n
own_places shapes t r x n is (d, p) = (d, ap (option_and_then (how_many_meant shapes (width_in shapes d) t)) is ∙ p)

-- of a port of an instance
pub port_places : (shapes : List Shape) (t u : Valued) (r : Reference) (i p n k : ℕ) → meaning_in_setting shapes t r ≡ Some (meaning.Port i p) → inside shapes t i ≡ Some u → IsMany shapes u p n → IsMany shapes t i k → HasPlaces shapes t r (capped (n * k))
port_places shapes t u r i p n k is is_inside (d, a) (e, b) =
    let x : how_many shapes (width_in shapes (d + e)) u p ≡ Some n = how_many_more shapes (width_in shapes d) (width_in shapes (d + e)) (deeper shapes d e) u p n a in
    let y : how_many shapes (width_in shapes (d + e)) t i ≡ Some k = how_many_more shapes (width_in shapes e) (width_in shapes (d + e)) (deeper_right shapes d e) t i k b in
    (d + e, ap (option_and_then (how_many_meant shapes (width_in shapes (d + e)) t)) is ∙ ap (λ o. capped_product (option_and_then (λ v. how_many shapes (width_in shapes (d + e)) v p) o) (how_many shapes (width_in shapes (d + e)) t i)) is_inside ∙ ap (λ o. capped_product o (how_many shapes (width_in shapes (d + e)) t i)) x ∙ ap (capped_product (Some n)) y)

pub no_places : (shapes : List Shape) (t : Valued) → HavePlaces shapes t [] 0
no_places shapes t = (0, refl)

pub places_push : (shapes : List Shape) (t : Valued) (rs : List Reference) (r : Reference) (a n : ℕ) → HavePlaces shapes t rs a → HasPlaces shapes t r n → HavePlaces shapes t (rs ++ r ∷ []) (capped (a + n))
places_push shapes t rs r a n (d, p) (e, q) =
    let f : Reference → Option ℕ = how_many_places shapes (width_in shapes (d + e)) t in
    let x : total_count (map f rs) ≡ Some a = total_more (how_many_places shapes (width_in shapes d) t) f rs a (places_more shapes (width_in shapes d) (width_in shapes (d + e)) (deeper shapes d e) t) p in
    let y : f r ≡ Some n = places_more shapes (width_in shapes e) (width_in shapes (d + e)) (deeper_right shapes d e) t r n q in
    (d + e, ap total_count (map_push f rs r) ∙ ap (λ o. total_count (map f rs ++ o ∷ [])) y ∙ total_push (map f rs) a n x)

pub no_terms : (shapes : List Shape) (t : Valued) → IsSum shapes t [] 0
no_terms shapes t = (0, refl)

pub terms_push : (shapes : List Shape) (t : Valued) (terms : List Term) (term : Term) (a n : ℕ) → IsSum shapes t terms a → IsCount shapes t term.count n → IsSum shapes t (terms ++ term ∷ []) (capped (a + n))
terms_push shapes t terms term a n (d, p) (e, q) =
    let f : Term → Option ℕ = λ x. known_count shapes (width_in shapes (d + e)) t x.count in
    let x : total_count (map f terms) ≡ Some a = sum_more shapes (width_in shapes d) (width_in shapes (d + e)) (deeper shapes d e) t terms a p in
    let y : f term ≡ Some n = count_more shapes (width_in shapes e) (width_in shapes (d + e)) (deeper_right shapes d e) t term.count n q in
    (d + e, ap total_count (map_push f terms term) ∙ ap (λ o. total_count (map f terms ++ o ∷ [])) y ∙ total_push (map f terms) a n x)

pub sum_width : (shapes : List Shape) (t : Valued) (m : ℕ) (w : Width) (n : ℕ) → written_width shapes t m ≡ Some w → IsSum shapes t w.terms.items n → IsWidth shapes t m n
sum_width shapes t m w n is (d, e) = (suc d, ap (option_and_then (λ (v : Width). sum_in shapes (width_in shapes d) t v.terms.items)) is ∙ e)
