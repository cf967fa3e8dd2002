-- The settings that are reached.
use Rattle.std.proofs.Common.{◌≡◌, ℕ, zero, suc, ◌+◌, ◌<◌, ◌≤◌, ◌⊎◌, inl, inr, Bool, true, false, List, [], ◌∷◌, length, map, Option, Some, None, slice_get, refl, sym, ap, subst, ◌∙◌, arith}
use Rattle.std.specs.Prelude.{IfNone, IfSome, option_map, unwrap_or}
use Rattle.std.{specs.Option.option_and_then, proofs.lemmas.{Bool.cases_lt, Option.slice_get_within}}
use Rattle.lft_lists.proofs.Places.{Some_same, get_there, same_some}
use Rattle.lft_classes.{specs.{declared.shapes.{Shape.Shape, Inherited.Inherited}, inner.Walks.Has}, proofs.Walking.{none_of, some_of}}
use Rattle.lft_elaborate.specs.inner.{Places.{AreMany, member_in}, Widths.member_at, Noted.{GoesOn, AreMade, AreSettings, IsNumberOf, SettingsTable, noted_for}}
use Rattle.lft_elaborate.specs.inner.Settings.{setting_at, setting_in, shape_at, valued}
use Rattle.lft_elaborate.specs.inner.Used.{AreMarked, HasInner, IsNumberIn, HasNumber, Stay, is_marked, AreUsed, IsIn, IsReached, main, within, is_instance, is_instance_in}
use Rattle.lft_elaborate.specs.inner.Values.{Valued, inside, main_setting}
use Rattle.lft_elaborate.specs.declared.settings.{Settings.Settings, Setting.Setting}
use Rattle.lft_elaborate.proofs.{Standing.{member_there, shape_there}, Counting.one_count, Keeping.setting_from}
use Rattle.lft_whole.specs.declared.tree.Member.{Member}
use Rattle.lft_classes.specs.declared.shapes.OwnThing.TheVariants as thing

-- how far the list of those that are reached has come: what is in the first ones stands in it
pub record Using (s : SettingsTable) (used : List ℕ) (marks : List Bool) (done : ℕ) : Type 0 where
  pub main : slice_get used 0 ≡ Some 0
  pub marked : AreMarked used marks
  pub reached : (k : ℕ) → Has used k → (t : Valued) × (setting_in s.settings k ≡ Some t) × IsReached s.shapes t
  pub inner : (i k : ℕ) (t : Valued) → i < done → slice_get used i ≡ Some k → setting_in s.settings k ≡ Some t → HasInner s used t

-- settings with other numbers are others
same_numbers : {X : Type 0} (xs ys : List X) → map (λ v. Some v) xs ≡ map (λ v. Some v) ys → xs ≡ ys
same_numbers [] [] e = refl
same_numbers [] (y ∷ ys) e = absurd (cc)
same_numbers (x ∷ xs) [] e = absurd (cc)
same_numbers {X} (x ∷ xs) (y ∷ ys) e =
    let head : x ≡ y = cc in
    let rest : map {B = Option X} (λ v. Some v) xs ≡ map (λ v. Some v) ys = cc in
    let tail : xs ≡ ys = same_numbers xs ys rest in
    cc

pub one_number : (s : SettingsTable) → AreMade s → (k l : ℕ) (t : Valued) → setting_in s.settings k ≡ Some t → setting_in s.settings l ≡ Some t → k ≡ l
one_number s a k l t p q =
    let x = setting_from s.settings k t p in
    let y = setting_from s.settings l t q in
    let same : valued x.0 ≡ valued y.0 = x.2 ∙ sym y.2 in
    let shape : x.0.shape ≡ y.0.shape = ap (λ (v : Valued). v.shape) same in
    let values : x.0.values.items ≡ y.0.values.items = same_numbers x.0.values.items y.0.values.items (ap (λ (v : Valued). v.values) same) in
    let found : noted_for s.known y.0.shape y.0.values.items ≡ Some k = sym (ap (noted_for s.known y.0.shape) values) ∙ sym (ap (λ n. noted_for s.known n x.0.values.items) shape) ∙ a.once k x.0 x.1 in
    Some_same k l (sym found ∙ a.once l y.0 y.1)

-- the first one
begun_marked : AreMarked (0 ∷ []) (true ∷ [])
begun_marked = record { listed = listed; marked = marked; once = once }
  where
    listed : (k : ℕ) → is_marked (true ∷ []) k ≡ true → Has (0 ∷ []) k
    listed zero e = (0, refl)
    listed (suc k) e = absurd (cc)

    marked : (k : ℕ) → Has (0 ∷ []) k → is_marked (true ∷ []) k ≡ true
    marked k (zero, e) = let z : 0 ≡ k = Some_same 0 k e in subst (λ i. is_marked (true ∷ []) i ≡ true) z refl
    marked k (suc i, e) = absurd (cc)

    once : (i j k : ℕ) → slice_get (0 ∷ []) i ≡ Some k → slice_get (0 ∷ []) j ≡ Some k → i ≡ j
    once zero zero k e f = refl
    once zero (suc j) k e f = absurd (cc)
    once (suc i) j k e f = absurd (cc)

pub using_begun : (s : SettingsTable) → AreSettings s → Using s (0 ∷ []) (true ∷ []) 0
using_begun s a = record {
  main = refl;
  marked = begun_marked;
  reached = λ k h. let z : k ≡ 0 = only k h.0 h.1 in (a.main.0, subst (λ i. setting_in s.settings i ≡ Some a.main.0) (sym z) a.main.2, main a.main.1);
  inner = λ i k t l e f. absurd (omega arith);
}
  where
    only : (k i : ℕ) → slice_get (0 ∷ []) i ≡ Some k → k ≡ 0
    only k zero e = sym (Some_same 0 k e)
    only k (suc i) e = absurd (cc)

-- the settings in one more stand in the list
module _ (old new : SettingsTable) (used more : List ℕ) (marks new_marks : List Bool) (place setting : ℕ) (goes : GoesOn old new) (u : Using old used marks place) (at : slice_get used place ≡ Some setting) (marked : AreMarked more new_marks) (stay : Stay used more) (all : (t : Valued) → setting_in old.settings setting ≡ Some t → HasInner new more t) (only : (t : Valued) → setting_in old.settings setting ≡ Some t → (k : ℕ) → Has more k → Has used k ⊎ ((m : ℕ) × IsNumberIn old.shapes new.settings t m k)) where
  old_reached : (t : Valued) → IsReached old.shapes t → IsReached new.shapes t
  old_reached t r = subst (λ shapes. IsReached shapes t) (sym goes.shapes) r

  reached_more : (k : ℕ) → Has more k → (t : Valued) × (setting_in new.settings k ≡ Some t) × IsReached new.shapes t
  reached_more k h =
      let here = u.reached setting (place, at) in
      elim (only here.0 here.1 k h) [
        | inl was ↦ let t = u.reached k was in (t.0, goes.stays k t.0 t.1, old_reached t.0 t.2)
        | inr p ↦ (p.1.0, p.1.2, old_reached p.1.0 (within p.0 here.2 p.1.1))
      ]

  inner_old : (t : Valued) → HasInner old used t → HasInner new more t
  inner_old t has m v is =
      let found = has m v (subst (λ shapes. IsIn shapes t m v) goes.shapes is) in
      (found.0, (found.1.0, stay found.1.0 found.0 found.1.1), goes.stays found.0 v found.2)

  inner_more : (i k : ℕ) (t : Valued) → i < place + 1 → slice_get more i ≡ Some k → setting_in new.settings k ≡ Some t → HasInner new more t
  inner_more i k t l e f = elim (cases_lt i place) [
    | inl before ↦
        let there : i < length used = (let w : place < length used = slice_get_within used place setting at in omega arith) in
        let was = get_there used i there in
        let same : was.0 ≡ k = same_some (slice_get more i) was.0 k (stay i was.0 was.1) e in
        let r = u.reached was.0 (i, was.1) in
        let is : r.0 ≡ t = same_some (setting_in new.settings k) r.0 t (subst (λ j. setting_in new.settings j ≡ Some r.0) same (goes.stays was.0 r.0 r.1)) f in
        inner_old t (subst (HasInner old used) is (u.inner i was.0 r.0 before was.1 r.1))
    | inr past ↦
        let here : i ≡ place = omega arith in
        let same : setting ≡ k = same_some (slice_get more place) setting k (stay place setting at) (subst (λ j. slice_get more j ≡ Some k) here e) in
        let r = u.reached setting (place, at) in
        let is : r.0 ≡ t = same_some (setting_in new.settings k) r.0 t (subst (λ j. setting_in new.settings j ≡ Some r.0) same (goes.stays setting r.0 r.1)) f in
        subst (HasInner new more) is (all r.0 r.1)
  ]

  pub using_more : Using new more new_marks (place + 1)
  using_more = record { main = stay 0 0 u.main; marked = marked; reached = reached_more; inner = inner_more }

-- at the end all are there
module _ (s : SettingsTable) (used : List ℕ) (marks : List Bool) (done : ℕ) (a : AreSettings s) (u : Using s used marks done) (end : length used ≤ done) where
  all_reached : (t : Valued) → IsReached s.shapes t → (k : ℕ) × Has used k × (setting_in s.settings k ≡ Some t)
  all_reached t (main e) = let same : a.main.0 ≡ t = same_some (main_setting s.shapes) a.main.0 t a.main.1 e in (0, (0, u.main), subst (λ v. setting_in s.settings 0 ≡ Some v) same a.main.2)
  all_reached t (within {t = around} m r is) =
      let k = all_reached around r in
      u.inner k.1.0 k.0 around (let w : k.1.0 < length used = slice_get_within used k.1.0 k.0 k.1.1 in omega arith) k.1.1 k.2 m t is

  pub using_all : AreUsed s used
  using_all = record {
    main = u.main;
    reached = u.reached;
    all = all_reached;
    once = λ i j k l t p q at_k at_l. let same : k ≡ l = one_number s a.made k l t at_k at_l in u.marked.once i j k p (subst (λ n. slice_get used j ≡ Some n) (sym same) q);
  }

-- ---- what is in a member

-- of none there is no setting
pub none_in : (shapes : List Shape) (t u : Valued) (m count : ℕ) → AreMany shapes t (thing.Member m) count → count ≡ 0 → IsIn shapes t m u → ⊥
none_in shapes t u m count many empty is =
    let same : is.count ≡ count = one_count shapes t m is.many.0 many.0 is.count count is.many.1 many.1 in
    let some = is.some in
    omega (arith, same, empty, some)

module _ (t0 t1 t2 : SettingsTable) (one : GoesOn t0 t1) (setting m count : ℕ) (inner : Option ℕ) (instance : (t : Valued) → setting_in t0.settings setting ≡ Some t → is_instance_in t0.shapes t m ≡ true) (many : (t : Valued) → AreMade t0 → setting_in t0.settings setting ≡ Some t → AreMany t0.shapes t (thing.Member m) count) (inside_is : (t : Valued) → AreMade t1 → setting_in t1.settings setting ≡ Some t → IsNumberOf t2.settings (inside t1.shapes t m) inner) where
  number_is : (t : Valued) → AreMade t0 → setting_in t0.settings setting ≡ Some t → IsNumberOf t2.settings (inside t0.shapes t m) inner
  number_is t made at = subst (λ shapes. IsNumberOf t2.settings (inside shapes t m) inner) one.shapes (inside_is t (one.made made) (one.stays setting t at))

  pub inside_some : 0 < count → IfSome inner (λ k. (t : Valued) → AreMade t0 → setting_in t0.settings setting ≡ Some t → IsNumberIn t0.shapes t2.settings t m k)
  inside_some some = some_of (λ k. (t : Valued) → AreMade t0 → setting_in t0.settings setting ≡ Some t → IsNumberIn t0.shapes t2.settings t m k) inner (λ k is t made at. let n = subst (IsNumberOf t2.settings (inside t0.shapes t m)) is (number_is t made at) in (n.0, record { instance = instance t at; is_inside = n.1; count = count; many = many t made at; some = some }, n.2))

  pub inside_none : IfNone inner ((t u : Valued) → AreMade t0 → setting_in t0.settings setting ≡ Some t → IsIn t0.shapes t m u → ⊥)
  inside_none = none_of ((t u : Valued) → AreMade t0 → setting_in t0.settings setting ≡ Some t → IsIn t0.shapes t m u → ⊥) inner (λ none t u made at is. let n : inside t0.shapes t m ≡ None = subst (IsNumberOf t2.settings (inside t0.shapes t m)) none (number_is t made at) in let e = is.is_inside in cc)

pub has_inside : (t0 t1 : SettingsTable) (t u : Valued) (m inner : ℕ) (used : List ℕ) → IsNumberIn t0.shapes t1.settings t m inner → IsIn t0.shapes t m u → (inner < length t1.settings → Has used inner) → HasNumber t1 used u
has_inside t0 t1 t u m inner used (v, is_v, at) is has =
    let same : v ≡ u = same_some (inside t0.shapes t m) v u is_v.is_inside is.is_inside in
    let x = setting_from t1.settings inner v at in
    (inner, has (slice_get_within t1.settings inner x.0 x.1), subst (λ (w : Valued). setting_in t1.settings inner ≡ Some w) same at)

pub number_or : (shapes : List Shape) (settings : List Setting) (t : Valued) (m inner k : ℕ) (used : List ℕ) → IsNumberIn shapes settings t m inner → Has used k ⊎ (k ≡ inner) → Has used k ⊎ IsNumberIn shapes settings t m k
number_or shapes settings t m inner k used n (inl was) = inl was
number_or shapes settings t m inner k used n (inr same) = inr (subst (IsNumberIn shapes settings t m) (sym same) n)

-- ---- instances by number

pub instance_there : (s : Settings) (k m : ℕ) (t : Valued) → setting_at s k ≡ Some t → (o : Option Member) → o ≡ option_map (λ (f : Inherited). f.member.now) (member_at s k m) → unwrap_or (option_map is_instance o) false ≡ is_instance_in s.shapes.items t m
instance_there s k m t at o e = ap (λ (p : Option Member). unwrap_or (option_map is_instance p) false) (e ∙ ap (option_map (λ (f : Inherited). f.member.now)) (member_there s k m t at)) ∙ go (member_in s.shapes.items t m)
  where
    go : (q : Option Inherited) → unwrap_or (option_map is_instance (option_map (λ (f : Inherited). f.member.now) q)) false ≡ unwrap_or (option_map (λ (f : Inherited). is_instance f.member.now) q) false
    go None = refl
    go (Some f) = refl

-- an instance stands among the members
pub instance_within : (s : Settings) (k m : ℕ) (t : Valued) → setting_at s k ≡ Some t → is_instance_in s.shapes.items t m ≡ true → (shape : Shape) × (shape_at s k ≡ Some shape) × (m < length shape.members.items)
instance_within s k m t at is = go (slice_get s.shapes.items t.shape) refl is
  where
    low : (shape : Shape) (q : Option Inherited) → slice_get shape.members.items m ≡ q → unwrap_or (option_map (λ (f : Inherited). is_instance f.member.now) q) false ≡ true → m < length shape.members.items
    low shape None e i = absurd (cc)
    low shape (Some f) e i = slice_get_within shape.members.items m f e

    go : (o : Option Shape) → slice_get s.shapes.items t.shape ≡ o → unwrap_or (option_map (λ (f : Inherited). is_instance f.member.now) (option_and_then (λ (shape : Shape). slice_get shape.members.items m) o)) false ≡ true → (shape : Shape) × (shape_at s k ≡ Some shape) × (m < length shape.members.items)
    go None e i = absurd (cc)
    go (Some shape) e i = (shape, shape_there s k t at ∙ e, low shape (slice_get shape.members.items m) refl i)

pub not_instance : (shapes : List Shape) (t u : Valued) (m : ℕ) → is_instance_in shapes t m ≡ false → IsIn shapes t m u → ⊥
not_instance shapes t u m e is = let i = is.instance in cc

-- ---- one member more

module _ (t0 t1 t2 : SettingsTable) (one : GoesOn t0 t1) (two : GoesOn t1 t2) where
  pub inner_step : (used more : List ℕ) (t : Valued) (n : ℕ) → Stay used more → ((m : ℕ) (u : Valued) → m < n → IsIn t0.shapes t m u → HasNumber t1 used u) → ((u : Valued) → IsIn t1.shapes t n u → HasNumber t2 more u) → (m : ℕ) (u : Valued) → m < n + 1 → IsIn t0.shapes t m u → HasNumber t2 more u
  inner_step used more t n stay before here m u low is = elim (cases_lt m n) [
    | inl less ↦ let k = before m u less is in (k.0, (k.1.0, stay k.1.0 k.0 k.1.1), two.stays k.0 u k.2)
    | inr past ↦ let same : m ≡ n = omega arith in here u (subst (λ shapes. IsIn shapes t n u) (sym one.shapes) (subst (λ j. IsIn t0.shapes t j u) same is))
  ]

  pub only_step : (first used more : List ℕ) (t : Valued) (n : ℕ) → ((k : ℕ) → Has used k → Has first k ⊎ ((m : ℕ) × IsNumberIn t0.shapes t1.settings t m k)) → ((k : ℕ) → Has more k → Has used k ⊎ IsNumberIn t1.shapes t2.settings t n k) → (k : ℕ) → Has more k → Has first k ⊎ ((m : ℕ) × IsNumberIn t0.shapes t2.settings t m k)
  only_step first used more t n before here k h = elim (here k h) [
    | inl was ↦ elim (before k was) [
      | inl old ↦ inl old
      | inr p ↦ inr (p.0, (p.1.0, p.1.1, two.stays k p.1.0 p.1.2))
    ]
    | inr new ↦ inr (n, subst (λ shapes. IsNumberIn shapes t2.settings t n k) one.shapes new)
  ]

-- the settings that are used stay so
pub used_goes : (t0 t1 : SettingsTable) → GoesOn t0 t1 → (used : List ℕ) → AreUsed t0 used → AreUsed t1 used
used_goes t0 t1 g used u = record {
  main = u.main;
  reached = λ k h. let r = u.reached k h in (r.0, g.stays k r.0 r.1, subst (λ shapes. IsReached shapes r.0) (sym g.shapes) r.2);
  all = λ t r. let k = u.all t (subst (λ shapes. IsReached shapes t) g.shapes r) in (k.0, k.1, g.stays k.0 t k.2);
  once = λ i j k l t p q at_k at_l.
      let a = u.reached k (i, p) in
      let b = u.reached l (j, q) in
      let same_a : a.0 ≡ t = same_some (setting_in t1.settings k) a.0 t (g.stays k a.0 a.1) at_k in
      let same_b : b.0 ≡ t = same_some (setting_in t1.settings l) b.0 t (g.stays l b.0 b.1) at_l in
      u.once i j k l t p q (subst (λ (v : Valued). setting_in t0.settings k ≡ Some v) same_a a.1) (subst (λ (v : Valued). setting_in t0.settings l ≡ Some v) same_b b.1);
}
