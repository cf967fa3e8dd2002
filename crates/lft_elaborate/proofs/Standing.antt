-- What stands in a setting, by its number and by what it is.
use Rattle.std.proofs.Common.{◌≡◌, ℕ, zero, suc, ◌*◌, List, [], ◌∷◌, ◌++◌, Option, Some, None, slice_get, refl, sym, ap, subst, ◌∙◌}
use Rattle.std.specs.Prelude.{IfSome, is_some, false, unwrap_or}
use Rattle.std.specs.Option.{option_and_then}
use Rattle.lft_elaborate.specs.inner.{Channels.Channels.joined, Noted.{AreMade, IsNumberOf, SettingsTable, noted_at, table, GoesOn, GoesOnIf}}
use Rattle.lft_elaborate.specs.inner.Places.{AreMany, HasPlaces, HasWidth, HavePlaces, IsCount, IsSum, HasPairs, IsMany, IsWidth, capped, many, meaning_in_setting, member_in, plus, sum_in, capped_product, width_in, written_width}
use Rattle.lft_elaborate.specs.inner.{Settings.{setting_at, setting_in, shape_at, valued}, Widths.{member_at, width_at, found_width}, Values.{Valued, inside}}
use Rattle.lft_elaborate.specs.declared.settings.{Setting.Setting, Settings.Settings}
use Rattle.lft_elaborate.proofs.{Counting.{own_places, port_places, sum_width, terms_push}, Keeping.{goes_if, setting_from, setting_of_number}}
use Rattle.lft_whole.specs.declared.tree.{Connection.Connection, Count.Count, Reference.Reference, Term.Term, Width.Width}
use Rattle.lft_classes.specs.{Shapes.width_of, declared.shapes.{Inherited.Inherited, Shape.Shape, OwnThing.OwnThing}}
use Rattle.lft_lists.proofs.Places.{same_some}
use Rattle.lft_elaborate.specs.declared.meanings.Meaning.TheVariants as meaning
use Rattle.lft_classes.specs.declared.shapes.OwnThing.TheVariants as thing

-- ---- by number and by what it is

pub shape_there : (s : Settings) (k : ℕ) (t : Valued) → setting_at s k ≡ Some t → shape_at s k ≡ slice_get s.shapes.items t.shape
shape_there s k t at =
    let x = setting_from s.settings.items k t at in
    ap (option_and_then (λ (u : Setting). slice_get s.shapes.items u.shape)) x.1 ∙ ap (λ (v : Valued). slice_get s.shapes.items v.shape) x.2

pub member_there : (s : Settings) (k m : ℕ) (t : Valued) → setting_at s k ≡ Some t → member_at s k m ≡ member_in s.shapes.items t m
member_there s k m t at = ap (option_and_then (λ (shape : Shape). slice_get shape.members.items m)) (shape_there s k t at)

pub width_there : (s : Settings) (k m : ℕ) (t : Valued) → setting_at s k ≡ Some t → width_at s k m ≡ written_width s.shapes.items t m
width_there s k m t at = ap (option_and_then (λ (found : Inherited). width_of found.member.now)) (member_there s k m t at)

-- what was found is the width
pub found_is_width : (s : Settings) (k m n : ℕ) (t : Valued) → AreMade (table s) → setting_at s k ≡ Some t → found_width s k m ≡ Some n → IsWidth s.shapes.items t m n
found_is_width s k m n t made at e =
    let x = setting_from s.settings.items k t at in
    let noted : noted_at x.0.widths.items m ≡ Some n = sym (ap (option_and_then (λ (u : Setting). noted_at u.widths.items m)) x.1) ∙ e in
    subst (λ (v : Valued). IsWidth s.shapes.items v m n) x.2 ((made.noted k x.0 x.1).widths m n noted)

-- ---- how many there are

-- a member without a width has none at any depth
no_width : (shapes : List Shape) (t : Valued) (m n depth : ℕ) → written_width shapes t m ≡ None → width_in shapes depth t m ≡ Some n → ⊥
no_width shapes t m n zero q e = cc
no_width shapes t m n (suc d) q e = let none : width_in shapes (suc d) t m ≡ None = ap (option_and_then (λ (w : Width). sum_in shapes (width_in shapes d) t w.terms.items)) q in cc

wide_many : (shapes : List Shape) (t : Valued) (m n depth : ℕ) (w : Option Width) → written_width shapes t m ≡ w → width_in shapes depth t m ≡ Some n → many (width_in shapes depth t m) w ≡ Some n
wide_many shapes t m n depth None q e = absurd (no_width shapes t m n depth q e)
wide_many shapes t m n depth (Some w) q e = e

-- where no width is written, none is found
pub none_written : (s : Settings) (k m : ℕ) (t : Valued) → setting_at s k ≡ Some t → is_some (width_at s k m) ≡ false → written_width s.shapes.items t m ≡ None
none_written s k m t at e = sym (width_there s k m t at) ∙ none (width_at s k m) e
  where
    none : (o : Option Width) → is_some o ≡ false → o ≡ None
    none None e = refl
    none (Some w) e = absurd (cc)

-- a member is as many as its width says, or one
pub width_many : (shapes : List Shape) (t : Valued) (m : ℕ) (width : Option ℕ) → HasWidth shapes t m width → IsMany shapes t m (unwrap_or width 1)
width_many shapes t m None none = (0, ap (many None) none)
width_many shapes t m (Some n) (depth, e) = (depth, wide_many shapes t m n depth (written_width shapes t m) refl e)

-- ---- where settings are made in between

-- where a member stands, a setting does
pub standing : (s : Settings) (k m : ℕ) (i : Inherited) → member_at s k m ≡ Some i → (t : Valued) × (setting_at s k ≡ Some t)
standing s k m i e = go (slice_get s.settings.items k) refl e
  where
    go : (o : Option Setting) → slice_get s.settings.items k ≡ o → option_and_then (λ shape. slice_get shape.members.items m) (option_and_then (λ (u : Setting). slice_get s.shapes.items u.shape) o) ≡ Some i → (t : Valued) × (setting_at s k ≡ Some t)
    go None q f = absurd (cc)
    go (Some x) q f = (valued x, setting_of_number s.settings.items k x q)

module _ (t0 t1 : SettingsTable) (goes : GoesOn t0 t1) (setting : ℕ) (t : Valued) (made : AreMade t0) (at : setting_in t0.settings setting ≡ Some t) where
  -- what is counted later is counted of the same shapes
  pub many_then : (thing : OwnThing) (n : ℕ) → ((u : Valued) → AreMade t1 → setting_in t1.settings setting ≡ Some u → AreMany t1.shapes u thing n) → AreMany t0.shapes t thing n
  many_then thing n many = subst (λ shapes. AreMany shapes t thing n) goes.shapes (many t (goes.made made) (goes.stays setting t at))

  pub places_then : (r : Reference) (n : ℕ) → ((u : Valued) → AreMade t1 → setting_in t1.settings setting ≡ Some u → HasPlaces t1.shapes u r n) → HasPlaces t0.shapes t r n
  places_then r n places = subst (λ shapes. HasPlaces shapes t r n) goes.shapes (places t (goes.made made) (goes.stays setting t at))

  pub all_then : (rs : List Reference) (n : ℕ) → ((u : Valued) → AreMade t1 → setting_in t1.settings setting ≡ Some u → HavePlaces t1.shapes u rs n) → HavePlaces t0.shapes t rs n
  all_then rs n places = subst (λ shapes. HavePlaces shapes t rs n) goes.shapes (places t (goes.made made) (goes.stays setting t at))

  pub count_then : (c : Count) (n : ℕ) → ((u : Valued) → AreMade t1 → setting_in t1.settings setting ≡ Some u → IsCount t1.shapes u c n) → IsCount t0.shapes t c n
  count_then c n count = subst (λ shapes. IsCount shapes t c n) goes.shapes (count t (goes.made made) (goes.stays setting t at))

-- a width that was found is one in the settings that there are then
pub width_then : (t0 t1 : SettingsTable) → GoesOn t0 t1 → (setting m n : ℕ) (w : Width) (t : Valued) → setting_in t0.settings setting ≡ Some t → written_width t0.shapes t m ≡ Some w → AreMade t0 → (AreMade t0 → setting_in t0.settings setting ≡ Some t → IsSum t0.shapes t w.terms.items n) → (u : Valued) → setting_in t1.settings setting ≡ Some u → IsWidth t1.shapes u m n
width_then t0 t1 goes setting m n w t at is made sum u there =
    let same : t ≡ u = same_some (setting_in t1.settings setting) t u (goes.stays setting t at) there in
    subst (λ (v : Valued). IsWidth t1.shapes v m n) same (subst (λ shapes. IsWidth shapes t m n) (sym goes.shapes) (sum_width t0.shapes t m w n is (sum made at)))

-- ---- counts that may not be known yet

-- how many places a thing of the reactor itself has, if its count is known
pub own_count : (t0 t1 : SettingsTable) → GoesOn t0 t1 → (setting : ℕ) (r : Reference) (x : OwnThing) (a : Option ℕ) → ((u : Valued) → setting_in t1.settings setting ≡ Some u → meaning_in_setting t1.shapes u r ≡ Some (meaning.Own x)) → IfSome a (λ n. (u : Valued) → AreMade t1 → setting_in t1.settings setting ≡ Some u → AreMany t1.shapes u x n) → IfSome a (λ n. (t : Valued) → AreMade t0 → setting_in t0.settings setting ≡ Some t → HasPlaces t0.shapes t r n)
own_count t0 t1 goes setting r x None is many = tt
own_count t0 t1 goes setting r x (Some n) is many = λ t made at. places_then t0 t1 goes setting t made at r n (λ u made_one there. own_places t1.shapes u r x n (is u there) (many u made_one there))

-- how many a port of an instance has, if both counts are known
pub port_times : (t0 t1 : SettingsTable) → GoesOn t0 t1 → (setting inner : ℕ) (r : Reference) (i p : ℕ) (a b : Option ℕ) → ((u : Valued) → setting_in t1.settings setting ≡ Some u → meaning_in_setting t1.shapes u r ≡ Some (meaning.Port i p)) → ((u : Valued) → AreMade t1 → setting_in t1.settings setting ≡ Some u → IsNumberOf t1.settings (inside t1.shapes u i) (Some inner)) → IfSome a (λ n. (v : Valued) → AreMade t1 → setting_in t1.settings inner ≡ Some v → IsMany t1.shapes v p n) → IfSome b (λ k. (u : Valued) → AreMade t1 → setting_in t1.settings setting ≡ Some u → IsMany t1.shapes u i k) → IfSome (capped_product a b) (λ n. (t : Valued) → AreMade t0 → setting_in t0.settings setting ≡ Some t → HasPlaces t0.shapes t r n)
port_times t0 t1 goes setting inner r i p None b is enters ports members = tt
port_times t0 t1 goes setting inner r i p (Some n) None is enters ports members = tt
port_times t0 t1 goes setting inner r i p (Some n) (Some k) is enters ports members = λ t made at. places_then t0 t1 goes setting t made at r (capped (n * k)) (λ u made_one there.
    let e = enters u made_one there in
    port_places t1.shapes u e.0 r i p n k (is u there) e.1 (ports e.0 made_one e.2) (members u made_one there))

-- how many terms are together with one more, if both counts are known
pub terms_plus : (t0 t1 : SettingsTable) → GoesOn t0 t1 → (setting : ℕ) (terms : List Term) (term : Term) (a b : Option ℕ) → IfSome a (λ n. (t : Valued) → AreMade t0 → setting_in t0.settings setting ≡ Some t → IsSum t0.shapes t terms n) → IfSome b (λ n. (u : Valued) → AreMade t1 → setting_in t1.settings setting ≡ Some u → IsCount t1.shapes u term.count n) → IfSome (plus a b) (λ n. (t : Valued) → AreMade t0 → setting_in t0.settings setting ≡ Some t → IsSum t0.shapes t (terms ++ term ∷ []) n)
terms_plus t0 t1 goes setting terms term None b sum count = tt
terms_plus t0 t1 goes setting terms term (Some a) None sum count = tt
terms_plus t0 t1 goes setting terms term (Some a) (Some n) sum count = λ t made at. terms_push t0.shapes t terms term a n (sum t made at) (count_then t0 t1 goes setting t made at term.count n count)

-- a width is noted once its terms are counted
pub close_goes : (s : Settings) (t1 t2 : SettingsTable) → GoesOn (table s) t1 → (k m : ℕ) (i : Inherited) (w : Width) (all : Option ℕ) → member_at s k m ≡ Some i → width_of i.member.now ≡ Some w → IfSome all (λ n. (t : Valued) → AreMade (table s) → setting_at s k ≡ Some t → IsSum s.shapes.items t w.terms.items n) → GoesOnIf (IfSome all (λ n. (u : Valued) → setting_in t1.settings k ≡ Some u → IsWidth t1.shapes u m n)) t1 t2 → GoesOn (table s) t2
close_goes s t1 t2 goes k m i w all there wide sum closes = goes_if _ (table s) t1 t2 goes closes (λ made. holds made all sum)
  where
    t : (t : Valued) × (setting_at s k ≡ Some t)
    t = standing s k m i there

    written : written_width s.shapes.items t.0 m ≡ Some w
    written = ap (option_and_then (λ (found : Inherited). width_of found.member.now)) (sym (member_there s k m t.0 t.1) ∙ there) ∙ wide

    holds : AreMade (table s) → (o : Option ℕ) → IfSome o (λ n. (t : Valued) → AreMade (table s) → setting_at s k ≡ Some t → IsSum s.shapes.items t w.terms.items n) → IfSome o (λ n. (u : Valued) → setting_in t1.settings k ≡ Some u → IsWidth t1.shapes u m n)
    holds made None h = tt
    holds made (Some n) h = width_then (table s) t1 goes k m n w t.0 t.1 written made (h t.0)

-- ---- how many places and pairs there are

pub port_channels : (t0 t1 t2 : SettingsTable) → GoesOn t0 t1 → GoesOn t1 t2 → (setting inner : ℕ) (t : Valued) → AreMade t0 → setting_in t0.settings setting ≡ Some t → (r : Reference) (i p n k : ℕ) → ((u : Valued) → setting_in t1.settings setting ≡ Some u → meaning_in_setting t1.shapes u r ≡ Some (meaning.Port i p)) → ((u : Valued) → AreMade t1 → setting_in t1.settings setting ≡ Some u → IsNumberOf t1.settings (inside t1.shapes u i) (Some inner)) → ((v : Valued) → AreMade t1 → setting_in t1.settings inner ≡ Some v → IsMany t1.shapes v p n) → ((u : Valued) → AreMade t2 → setting_in t2.settings setting ≡ Some u → IsMany t2.shapes u i k) → HasPlaces t0.shapes t r (capped (n * k))
port_channels t0 t1 t2 one two setting inner t made at r i p n k is enters ports members = places_then t0 t1 one setting t made at r (capped (n * k)) (λ u made_one there.
    let e = enters u made_one there in
    port_places t1.shapes u e.0 r i p n k (is u there) e.1 (ports e.0 made_one e.2) (many_then t1 t2 two setting u made_one there (thing.Member i) k members))

pub pairs_are : (t0 t1 : SettingsTable) → GoesOn t0 t1 → (setting : ℕ) (t : Valued) → AreMade t0 → setting_in t0.settings setting ≡ Some t → (c : Connection) (ls rs : List Reference) (left right n : ℕ) → ls ≡ c.sources.items → rs ≡ c.destinations.items → ((u : Valued) → AreMade t0 → setting_in t0.settings setting ≡ Some u → HavePlaces t0.shapes u ls left) → ((u : Valued) → AreMade t1 → setting_in t1.settings setting ≡ Some u → HavePlaces t1.shapes u rs right) → n ≡ joined left right c.is_broadcast → HasPairs t0.shapes t c n
pairs_are t0 t1 goes setting t made at c ls rs left right n ls_are rs_are sources destinations pairs = record {
  left = left;
  right = right;
  sources = subst (λ (l : List Reference). HavePlaces t0.shapes t l left) ls_are (sources t made at);
  destinations = subst (λ (l : List Reference). HavePlaces t0.shapes t l right) rs_are (all_then t0 t1 goes setting t made at rs right destinations);
  pairs = pairs;
}
