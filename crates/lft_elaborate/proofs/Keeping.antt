-- What stays where settings are made and noted.
use Rattle.std.proofs.Common.{◌≡◌, ◌≢◌, ℕ, zero, suc, ◌<◌, ℤ, ◌⊎◌, inl, inr, Bool, true, false, cond, List, [], ◌∷◌, ◌++◌, length, map, replicate, Option, Some, None, slice_get, slice_set, refl, sym, ap, subst, ◌∙◌, arith}
use Rattle.std.specs.Prelude.{Vec, option_map}
use Rattle.std.specs.{Global.Global, BTreeMap.{BTreeMap, get_by, is_at}, Map.lookup, Cmp.Lexicographic.slice_cmp}
use Rattle.std.specs.{FinMap.{int_cmp-IsAntisymmetric, slice_cmp-IsAntisymmetric}, Option.{option_and_then, option_or}, Ordering.{int_cmp, is_eq}}
use Rattle.std.specs.declared.cmp.Ordering.{Ordering, TheVariants.{Less, Equal, Greater}}
use Rattle.std.proofs.lemmas.{Bool.cases_eq, Cmp.{int_cmp_total, lists_total, tied_itself}, List.map_push, Option.{option_and_then_some, slice_get_within}}
use Rattle.lft_lists.proofs.Mapped.{mapped, mapped_from}
use Rattle.lft_lists.proofs.Places.{get_last, get_push, get_push_cases, get_there, get_unwritten, get_write_cases, get_written, length_written, same_some}
use Rattle.lft_classes.specs.{declared.{shapes.{Child.Child, Shape.Shape}, scopes.Class.Class}, inner.{Built.{cores, first_class}, Shapes.child_at}}
use Rattle.lft_classes.proofs.Rows.{map_written}
use Rattle.lft_elaborate.specs.declared.settings.{Setting.Setting, Settings.Settings}
use Rattle.lft_elaborate.specs.inner.Noted.{Adds, GoesOn, GoesOnIf, AreMade, AreSettings, IsNoted, IsNumberOf, Known, SettingsTable, found_inside, noted_at, noted_for, only_inside, table}
use Rattle.lft_elaborate.specs.inner.{Values.{IsUnsized, Valued, inside, main_setting, setting_of, values_inside}, Settings.{setting_in, valued}}
use Rattle.lft_elaborate.proofs.Valuing.{alike, is_given}

-- ---- what stays

-- each setting stays under its number
abbrev pub Stays : List Setting → List Setting → Type 0
Stays old new = (k : ℕ) (t : Valued) → setting_in old k ≡ Some t → setting_in new k ≡ Some t

pub number_stays : (old new : List Setting) → Stays old new → (t : Option Valued) (k : Option ℕ) → IsNumberOf old t k → IsNumberOf new t k
number_stays old new stays t None e = e
number_stays old new stays t (Some k) n = (n.0, n.1, stays k n.0 n.2)

pub noted_stays : (shapes : List Shape) (old new : List Setting) (s : Setting) → Stays old new → IsNoted shapes old s → IsNoted shapes new s
noted_stays shapes old new s stays n = record { widths = n.widths; inner = λ m k e. number_stays old new stays (inside shapes (valued s) m) (Some k) (n.inner m k e) }

pub goes_nowhere : (t : SettingsTable) → GoesOn t t
goes_nowhere t = record { shapes = refl; stays = λ k u e. e; made = λ a. a }

pub goes_further : (one two three : SettingsTable) → GoesOn one two → GoesOn two three → GoesOn one three
goes_further one two three a b = record {
  shapes = b.shapes ∙ a.shapes;
  stays = λ k t e. b.stays k t (a.stays k t e);
  made = λ m. b.made (a.made m);
}

-- where nothing in the table differs
pub goes_same : (old new : SettingsTable) → new ≡ old → GoesOn old new
goes_same old new e = subst (GoesOn old) (sym e) (goes_nowhere old)

-- where what is noted now is so
pub goes_if : (P : Type 0) (one two three : SettingsTable) → GoesOn one two → GoesOnIf P two three → (AreMade one → P) → GoesOn one three
goes_if P one two three a b holds = record {
  shapes = b.shapes ∙ a.shapes;
  stays = λ k t e. b.stays k t (a.stays k t e);
  made = λ m. b.made (holds m) (a.made m);
}

-- the settings stay those of a program
pub goes_settings : (old new : SettingsTable) → GoesOn old new → AreSettings old → AreSettings new
goes_settings old new g a = record {
  main = subst (λ shapes. IsNumberOf new.settings (main_setting shapes) (Some 0)) (sym g.shapes) (number_stays old.settings new.settings g.stays (main_setting old.shapes) (Some 0) a.main);
  made = g.made a.made;
}

-- the setting of a number, and the one that stands there
pub setting_from : (settings : List Setting) (k : ℕ) (t : Valued) → setting_in settings k ≡ Some t → (s : Setting) × (slice_get settings k ≡ Some s) × (valued s ≡ t)
setting_from settings k t e = mapped_from valued settings k t e

pub setting_of_number : (settings : List Setting) (k : ℕ) (s : Setting) → slice_get settings k ≡ Some s → setting_in settings k ≡ Some (valued s)
setting_of_number settings k s e = mapped valued settings k s e

-- ---- a setting is written over, with the same shape and values

module _ (P : Type 0) (old : SettingsTable) (k : ℕ) (s new_s : Setting) (is : slice_get old.settings k ≡ Some s) (shape : new_s.shape ≡ s.shape) (values : new_s.values ≡ s.values) (noted : P → IsNoted old.shapes old.settings s → IsNoted old.shapes old.settings new_s) where
  written : List Setting
  written = slice_set old.settings k new_s

  same_valued : valued new_s ≡ valued s
  same_valued = ap (λ n. record { shape = n; values = map (λ v. Some v) new_s.values.items }) shape ∙ ap (λ (vs : Vec ℤ Global). record { shape = s.shape; values = map (λ v. Some v) vs.items }) values

  same_settings : map valued written ≡ map valued old.settings
  unfolding written
  same_settings = map_written valued old.settings k s new_s is same_valued

  stays_written : Stays old.settings written
  stays_written j t e = ap (λ l. slice_get l j) same_settings ∙ e

  made_written : P → AreMade old → AreMade (record old { settings = written })
  unfolding written
  made_written holds a = record {
    noted = λ j t e. noted_stays old.shapes old.settings written t stays_written (elim (get_write_cases old.settings k j new_s t (slice_get_within old.settings k s is) e) [
      | inl w ↦ subst (IsNoted old.shapes old.settings) w.1 (noted holds (a.noted k s is))
      | inr w ↦ a.noted j t w.1
    ]);
    known_long = a.known_long;
    only_long = a.only_long;
    known = λ shape j q e. stays_written j _ (a.known shape j q e);
    once = λ j t e. elim (get_write_cases old.settings k j new_s t (slice_get_within old.settings k s is) e) [
      | inl w ↦ subst (λ (x : Setting). noted_for old.known x.shape x.values.items ≡ Some j) w.1 (ap (λ n. noted_for old.known n new_s.values.items) shape ∙ ap (λ (vs : Vec ℤ Global). noted_for old.known s.shape vs.items) values ∙ subst (λ i. noted_for old.known s.shape s.values.items ≡ Some i) (sym w.0) (a.once k s is))
      | inr w ↦ a.once j t w.1
    ];
    only = λ around u m j e f. stays_written j u (a.only around u m j e f);
  }

  pub goes_written : GoesOnIf P old (record old { settings = slice_set old.settings k new_s })
  unfolding written
  goes_written = record { shapes = refl; stays = stays_written; made = made_written }

-- ---- one setting more

exact_values : (xs ys : List ℤ) → is_eq (slice_cmp int_cmp xs ys) ≡ true → xs ≡ ys
exact_values xs ys e = go (slice_cmp int_cmp xs ys) refl e
  where
    go : (o : Ordering) → slice_cmp int_cmp xs ys ≡ o → is_eq o ≡ true → xs ≡ ys
    go Less q h = absurd (cc)
    go Equal q h = slice_cmp-IsAntisymmetric int_cmp-IsAntisymmetric xs ys q
    go Greater q h = absurd (cc)

same_values : (xs : List ℤ) → is_eq (slice_cmp int_cmp xs xs) ≡ true
same_values xs = ap is_eq (tied_itself (lists_total int_cmp_total) xs)

-- what a map has under values
abbrev under : List ℤ → BTreeMap (Vec ℤ Global) ℕ → Option ℕ
under values m = get_by (λ k. slice_cmp int_cmp values k.items) m

-- the map has one entry more
abbrev pub IsPut : BTreeMap (Vec ℤ Global) ℕ → BTreeMap (Vec ℤ Global) ℕ → List ℤ → ℕ → Type 0
IsPut m n values number = (q : Vec ℤ Global) → get_by (λ k. slice_cmp int_cmp q.items k.items) n ≡ cond (is_eq (slice_cmp int_cmp values q.items)) (Some number) (get_by (λ k. slice_cmp int_cmp q.items k.items) m)

module _ (old mid : SettingsTable) (shape : ℕ) (values : List ℤ) (adds : Adds old mid shape values) (m n : BTreeMap (Vec ℤ Global) ℕ) (there : slice_get old.known shape ≡ Some m) (put : IsPut m n values (length old.settings)) (new : noted_for old.known shape values ≡ None) where
  more : List Setting
  more = old.settings ++ adds.fresh ∷ []

  known : Known
  known = slice_set old.known shape n

  stays_more : Stays old.settings more
  unfolding more
  stays_more j t e = ap (λ l. slice_get l j) (map_push valued old.settings adds.fresh) ∙ get_push (map valued old.settings) (valued adds.fresh) j t e

  within : shape < length old.known
  within = slice_get_within old.known shape m there

  -- what is found under a shape and values
  found_there : (q : Vec ℤ Global) → noted_for known shape q.items ≡ cond (is_eq (slice_cmp int_cmp values q.items)) (Some (length old.settings)) (noted_for old.known shape q.items)
  unfolding known
  found_there q = ap (option_and_then (under q.items)) (get_written old.known shape n within) ∙ put q ∙ ap (λ (o : Option (BTreeMap (Vec ℤ Global) ℕ)). cond (is_eq (slice_cmp int_cmp values q.items)) (Some (length old.settings)) (option_and_then (under q.items) o)) (sym there)

  found_elsewhere : (other : ℕ) (q : List ℤ) → other ≢ shape → noted_for known other q ≡ noted_for old.known other q
  unfolding known
  found_elsewhere other q apart = ap (option_and_then (under q)) (get_unwritten old.known shape other n apart)

  fresh_valued : valued adds.fresh ≡ record { shape = shape; values = map (λ v. Some v) values }
  fresh_valued = ap (λ k. record { shape = k; values = map (λ v. Some v) adds.fresh.values.items }) adds.shape_is ∙ ap (λ vs. record { shape = shape; values = map (λ v. Some v) vs }) adds.values_are

  last_setting : setting_in more (length old.settings) ≡ Some (record { shape = shape; values = map (λ v. Some v) values })
  unfolding more
  last_setting = setting_of_number (old.settings ++ adds.fresh ∷ []) (length old.settings) adds.fresh (get_last old.settings adds.fresh) ∙ ap Some fresh_valued

  on_test : (b : Bool) (o : Option ℕ) (k : ℕ) → cond b (Some (length old.settings)) o ≡ Some k → ((b ≡ true) × (length old.settings ≡ k)) ⊎ ((b ≡ false) × (o ≡ Some k))
  on_test true o k e = let q : length old.settings ≡ k = cc in inl (refl, q)
  on_test false o k e = inr (refl, e)

  known_here : AreMade old → (k : ℕ) (q : Vec ℤ Global) → noted_for known shape q.items ≡ Some k → setting_in more k ≡ Some (record { shape = shape; values = map (λ v. Some v) q.items })
  known_here a k q e = elim (on_test (is_eq (slice_cmp int_cmp values q.items)) (noted_for old.known shape q.items) k (sym (found_there q) ∙ e)) [
    | inl w ↦ subst (λ i. setting_in more i ≡ Some (record { shape = shape; values = map (λ v. Some v) q.items })) w.1 (last_setting ∙ ap (λ vs. Some (record { shape = shape; values = map (λ v. Some v) vs })) (exact_values values q.items w.0))
    | inr w ↦ stays_more k (record { shape = shape; values = map (λ v. Some v) q.items }) (a.known shape k q w.1)
  ]

  known_more : AreMade old → (other k : ℕ) (q : Vec ℤ Global) → noted_for known other q.items ≡ Some k → setting_in more k ≡ Some (record { shape = other; values = map (λ v. Some v) q.items })
  known_more a other k q e = elim (cases_eq other shape) [
    | inl same ↦ subst (λ i. setting_in more k ≡ Some (record { shape = i; values = map (λ v. Some v) q.items })) (sym same) (known_here a k q (subst (λ i. noted_for known i q.items ≡ Some k) same e))
    | inr apart ↦ stays_more k (record { shape = other; values = map (λ v. Some v) q.items }) (a.known other k q (sym (found_elsewhere other q.items apart) ∙ e))
  ]

  once_here : AreMade old → (k : ℕ) (q : Vec ℤ Global) → noted_for old.known shape q.items ≡ Some k → noted_for known shape q.items ≡ Some k
  once_here a k q e = go (is_eq (slice_cmp int_cmp values q.items)) refl
    where
      go : (b : Bool) → is_eq (slice_cmp int_cmp values q.items) ≡ b → noted_for known shape q.items ≡ Some k
      go true h = let f : noted_for old.known shape q.items ≡ None = sym (ap (noted_for old.known shape) (exact_values values q.items h)) ∙ new in absurd (cc)
      go false h = found_there q ∙ ap (λ b. cond b (Some (length old.settings)) (noted_for old.known shape q.items)) h ∙ e

  once_old : AreMade old → (k : ℕ) (s : Setting) → slice_get old.settings k ≡ Some s → noted_for known s.shape s.values.items ≡ Some k
  once_old a k s e = elim (cases_eq s.shape shape) [
    | inl same ↦ subst (λ i. noted_for known i s.values.items ≡ Some k) (sym same) (once_here a k s.values (subst (λ i. noted_for old.known i s.values.items ≡ Some k) same (a.once k s e)))
    | inr apart ↦ found_elsewhere s.shape s.values.items apart ∙ a.once k s e
  ]

  once_fresh : noted_for known adds.fresh.shape adds.fresh.values.items ≡ Some (length old.settings)
  once_fresh =
      let test : is_eq (slice_cmp int_cmp values adds.fresh.values.items) ≡ true = subst (λ vs. is_eq (slice_cmp int_cmp values vs) ≡ true) (sym adds.values_are) (same_values values) in
      ap (λ i. noted_for known i adds.fresh.values.items) adds.shape_is ∙ found_there adds.fresh.values ∙ ap (λ b. cond b (Some (length old.settings)) (noted_for old.known shape adds.fresh.values.items)) test

  noted_fresh : IsNoted old.shapes more adds.fresh
  noted_fresh = record {
    widths = λ m k e. let n : noted_at adds.fresh.widths.items m ≡ None = adds.no_widths m in absurd (cc);
    inner = λ m k e. let n : noted_at adds.fresh.inner.items m ≡ None = adds.no_inner m in absurd (cc);
  }

  made_more : AreMade old → AreMade (record old { settings = more; known = known })
  unfolding more known
  made_more a = record {
    noted = λ k s e. elim (get_push_cases old.settings adds.fresh k s e) [
      | inl was ↦ noted_stays old.shapes old.settings more s stays_more (a.noted k s was)
      | inr last ↦ subst (IsNoted old.shapes more) last.1 noted_fresh
    ];
    known_long = length_written old.known shape n ∙ a.known_long;
    only_long = a.only_long;
    known = known_more a;
    once = λ k s e. elim (get_push_cases old.settings adds.fresh k s e) [
      | inl was ↦ once_old a k s was
      | inr last ↦ subst (λ (x : Setting). noted_for known x.shape x.values.items ≡ Some k) last.1 (once_fresh ∙ ap Some (sym last.0))
    ];
    only = λ around u m k e f. stays_more k u (a.only around u m k e f);
  }

  pub goes_added : GoesOn old (record mid { known = slice_set mid.known shape n })
  unfolding more known
  goes_added =
      let is : record mid { known = slice_set mid.known shape n } ≡ record old { settings = more; known = known } = ap (λ (t : SettingsTable). record t { known = slice_set t.known shape n }) adds.settings in
      subst (GoesOn old) (sym is) (record { shapes = refl; stays = stays_more; made = made_more })

pub added_number : (old mid : SettingsTable) (shape : ℕ) (values : List ℤ) → Adds old mid shape values → setting_in mid.settings (length old.settings) ≡ Some (record { shape = shape; values = map (λ v. Some v) values })
added_number old mid shape values adds =
    let last = setting_of_number (old.settings ++ adds.fresh ∷ []) (length old.settings) adds.fresh (get_last old.settings adds.fresh) in
    let is : valued adds.fresh ≡ record { shape = shape; values = map (λ v. Some v) values } = ap (λ k. record { shape = k; values = map (λ v. Some v) adds.fresh.values.items }) adds.shape_is ∙ ap (λ vs. record { shape = shape; values = map (λ v. Some v) vs }) adds.values_are in
    ap (λ (t : SettingsTable). setting_in t.settings (length old.settings)) adds.settings ∙ last ∙ ap Some is

-- one setting more, where that can't be
pub goes_never : (old mid : SettingsTable) (shape : ℕ) (values : List ℤ) → Adds old mid shape values → (AreMade old → ⊥) → GoesOn old mid
goes_never old mid shape values adds never = record {
  shapes = ap (λ (t : SettingsTable). t.shapes) adds.settings;
  stays = λ k u e. ap (λ (t : SettingsTable). setting_in t.settings k) adds.settings ∙ ap (λ l. slice_get l k) (map_push valued old.settings adds.fresh) ∙ get_push (map valued old.settings) (valued adds.fresh) k u e;
  made = λ a. absurd (never a);
}

pub no_number : (settings : List Setting) (k : ℕ) (t : Valued) → settings ≡ [] → setting_in settings k ≡ Some t → ⊥
no_number settings k t empty at = let e : setting_in [] k ≡ Some t = subst (λ l. setting_in l k ≡ Some t) empty at in cc

-- ---- nothing is noted yet

pub none_noted : (n m : ℕ) → noted_at (replicate n None) m ≡ None
none_noted zero m = refl
none_noted (suc n) zero = refl
none_noted (suc n) (suc m) = none_noted n m

pub none_known : (known : Known) (m : BTreeMap (Vec ℤ Global) ℕ) → m.entries ≡ [] → ((shape : ℕ) (q : List ℤ) → noted_for known shape q ≡ None) → (shape : ℕ) (q : List ℤ) → noted_for (known ++ m ∷ []) shape q ≡ None
none_known [] m empty h zero q = ap (λ es. lookup (is_at (λ (k : Vec ℤ Global). slice_cmp int_cmp q k.items)) es) empty
none_known [] m empty h (suc shape) q = refl
none_known (n ∷ ns) m empty h zero q = h zero q
none_known (n ∷ ns) m empty h (suc shape) q = none_known ns m empty (λ s. h (suc s)) shape q

pub made_none : (t : SettingsTable) → t.settings ≡ [] → length t.known ≡ length t.shapes → length t.only ≡ length t.shapes → ((shape : ℕ) (q : List ℤ) → noted_for t.known shape q ≡ None) → ((shape : ℕ) → noted_at t.only shape ≡ None) → AreMade t
made_none t empty known_long only_long known only = record {
  noted = λ k s e. let f : slice_get {X = Setting} [] k ≡ Some s = subst (λ l. slice_get l k ≡ Some s) empty e in absurd (cc);
  known_long = known_long;
  only_long = only_long;
  known = λ shape k q e. let n = known shape q.items in absurd (cc);
  once = λ k s e. let f : slice_get {X = Setting} [] k ≡ Some s = subst (λ l. slice_get l k ≡ Some s) empty e in absurd (cc);
  only = λ around u m k e f. let n = only u.shape in absurd (cc);
}

-- what is noted at a place
pub noted_put : (list : List (Option ℕ)) (i v m k : ℕ) → noted_at (slice_set list i (Some v)) m ≡ Some k → ((m ≡ i) × (v ≡ k)) ⊎ (noted_at list m ≡ Some k)
noted_put [] i v m k e = inr e
noted_put (x ∷ xs) zero v zero k e = let q : v ≡ k = cc in inl (refl, q)
noted_put (x ∷ xs) zero v (suc m) k e = inr e
noted_put (x ∷ xs) (suc i) v zero k e = inr e
noted_put (x ∷ xs) (suc i) v (suc m) k e = up (noted_put xs i v m k e)
  where
    up : ((m ≡ i) × (v ≡ k)) ⊎ (noted_at xs m ≡ Some k) → ((suc m ≡ suc i) × (v ≡ k)) ⊎ (noted_at xs m ≡ Some k)
    up (inl a) = inl (ap suc a.0, a.1)
    up (inr b) = inr b

-- ---- what is noted for an instance

noted_below : (list : List (Option ℕ)) (n k : ℕ) → noted_at list n ≡ Some k → n < length list
noted_below list n k e = option_and_then_some (λ (o : Option ℕ). o) (slice_get list n) k e (λ o at _. slice_get_within list n o at)

-- what is noted for a shape is the setting of each instance of it
pub only_is_inside : (t : SettingsTable) (around : Valued) (m k : ℕ) (outer : Shape) (child : Child) → AreMade t → slice_get t.shapes around.shape ≡ Some outer → child_at outer.children.items m ≡ Some child → noted_at t.only child.shape ≡ Some k → IsNumberOf t.settings (inside t.shapes around m) (Some k)
only_is_inside t around m k outer child a there is e =
    let low : child.shape < length t.shapes = (let l : child.shape < length t.only = noted_below t.only child.shape k e in let s = a.only_long in omega arith) in
    let inner = get_there t.shapes child.shape low in
    let u : Valued = record { shape = child.shape; values = values_inside outer around.values child.given.items inner.0 } in
    let found : inside t.shapes around m ≡ Some u = ap (option_and_then (λ (o : Shape). option_and_then (setting_of t.shapes o around.values) (child_at o.children.items m))) there ∙ ap (option_and_then (setting_of t.shapes outer around.values)) is ∙ ap (option_map (λ (i : Shape). record { shape = child.shape; values = values_inside outer around.values child.given.items i })) inner.1 in
    (u, found, a.only around u m k found e)

found_or : (o p : Option ℕ) (k : ℕ) → option_or o p ≡ Some k → (o ≡ Some k) ⊎ (p ≡ Some k)
found_or None p k e = inr e
found_or (Some j) p k e = inl e

pub found_is_inside : (s : Settings) (setting member k : ℕ) (around : Valued) → AreMade (table s) → found_inside s setting member ≡ Some k → setting_in s.settings.items setting ≡ Some around → IsNumberOf s.settings.items (inside s.shapes.items around member) (Some k)
found_is_inside s setting member k around a e at =
    let x = setting_from s.settings.items setting around at in
    let f : option_or (noted_at x.0.inner.items member) (only_inside s x.0.shape member) ≡ Some k = sym (ap (option_and_then (λ (t : Setting). option_or (noted_at t.inner.items member) (only_inside s t.shape member))) x.1) ∙ e in
    subst (λ (v : Valued). IsNumberOf s.settings.items (inside s.shapes.items v member) (Some k)) x.2 (elim (found_or (noted_at x.0.inner.items member) (only_inside s x.0.shape member) k f) [
      | inl own ↦ (a.noted setting x.0 x.1).inner member k own
      | inr one ↦
          option_and_then_some (λ (outer : Shape). option_and_then (λ (child : Child). noted_at s.only.items child.shape) (child_at outer.children.items member)) (slice_get s.shapes.items x.0.shape) k one (λ outer there g.
          option_and_then_some (λ (child : Child). noted_at s.only.items child.shape) (child_at outer.children.items member) k g (λ child is h.
          only_is_inside (table s) (valued x.0) member k outer child a there is h))
    ])

-- ---- what is in an instance

-- the setting of a number, where one stands there
pub is_valued : (settings : List Setting) (k : ℕ) (x : Setting) (t : Valued) → slice_get settings k ≡ Some x → setting_in settings k ≡ Some t → valued x ≡ t
is_valued settings k x t is at = same_some (setting_in settings k) (valued x) t (setting_of_number settings k x is) at

module _ (shapes : List Shape) (settings : List Setting) (k m : ℕ) (x : Setting) (t : Valued) (is : slice_get settings k ≡ Some x) (at : setting_in settings k ≡ Some t) where
  over : inside shapes t m ≡ option_and_then (λ (o : Shape). option_and_then (setting_of shapes o (valued x).values) (child_at o.children.items m)) (slice_get shapes x.shape)
  over = ap (λ (v : Valued). inside shapes v m) (sym (is_valued settings k x t is at))

  pub there_inside : (outer : Shape) (child : Child) (inner : Shape) → slice_get shapes x.shape ≡ Some outer → child_at outer.children.items m ≡ Some child → slice_get shapes child.shape ≡ Some inner → inside shapes t m ≡ Some (record { shape = child.shape; values = values_inside outer (map (λ v. Some v) x.values.items) child.given.items inner })
  there_inside outer child inner e f g = over ∙ ap (option_and_then (λ (o : Shape). option_and_then (setting_of shapes o (valued x).values) (child_at o.children.items m))) e ∙ ap (option_and_then (setting_of shapes outer (valued x).values)) f ∙ ap (option_map (λ (i : Shape). record { shape = child.shape; values = values_inside outer (valued x).values child.given.items i })) g

  pub is_inside : (outer : Shape) (child : Child) (inner : Shape) (vs : List ℤ) → slice_get shapes x.shape ≡ Some outer → child_at outer.children.items m ≡ Some child → slice_get shapes child.shape ≡ Some inner → map (λ v. Some v) vs ≡ values_inside outer (map (λ v. Some v) x.values.items) child.given.items inner → inside shapes t m ≡ Some (record { shape = child.shape; values = map (λ v. Some v) vs })
  is_inside outer child inner vs e f g values = there_inside outer child inner e f g ∙ ap (λ vs. Some (record { shape = child.shape; values = vs })) (sym values)

-- ---- the setting in an instance is made and noted

pub first_shape : (shapes : List Shape) (class : Class) → first_class (cores shapes) ≡ Some class → (main : Shape) × (slice_get shapes 0 ≡ Some main)
first_shape [] class e = absurd (cc)
first_shape (x ∷ xs) class e = (x, refl)

module _ (t0 t1 t2 t3 t4 : SettingsTable) (setting member inner : ℕ) (v : Valued) (g01 : GoesOn t0 t1) (g12 : GoesOn t1 t2) (low : setting < length t0.settings) (is : (t : Valued) → setting_in t0.settings setting ≡ Some t → Some v ≡ inside t0.shapes t member) (number : AreMade t1 → setting_in t2.settings inner ≡ Some v) (g23 : GoesOnIf ((t u : Valued) (m : ℕ) → inside t2.shapes t m ≡ Some u → u.shape ≡ v.shape → IsUnsized t2.shapes v.shape → setting_in t2.settings inner ≡ Some u) t2 t3) (g34 : GoesOnIf ((t : Valued) → setting_in t3.settings setting ≡ Some t → IsNumberOf t3.settings (inside t3.shapes t member) (Some inner)) t3 t4) where
  around : (x : Setting) × (slice_get t0.settings setting ≡ Some x)
  around = get_there t0.settings setting low

  here : setting_in t0.settings setting ≡ Some (valued around.0)
  here = setting_of_number t0.settings setting around.0 around.1

  found : inside t0.shapes (valued around.0) member ≡ Some v
  found = sym (is (valued around.0) here)

  g02 : GoesOn t0 t2
  g02 = goes_further t0 t1 t2 g01 g12

  one_setting : AreMade t0 → (t u : Valued) (m : ℕ) → inside t2.shapes t m ≡ Some u → u.shape ≡ v.shape → IsUnsized t2.shapes v.shape → setting_in t2.settings inner ≡ Some u
  one_setting made t u m e same unsized =
      let e0 : inside t0.shapes t m ≡ Some u = subst (λ shapes. inside shapes t m ≡ Some u) g02.shapes e in
      let none : IsUnsized t0.shapes u.shape = subst (IsUnsized t0.shapes) (sym same) (subst (λ shapes. IsUnsized shapes v.shape) g02.shapes unsized) in
      let one : u ≡ v = alike t0.shapes u v (is_given t0.shapes t m u e0) (is_given t0.shapes (valued around.0) member v found) same none in
      number (g01.made made) ∙ ap Some (sym one)

  g03 : GoesOn t0 t3
  g03 = goes_if _ t0 t2 t3 g02 g23 one_setting

  is_noted : AreMade t0 → (t : Valued) → setting_in t3.settings setting ≡ Some t → IsNumberOf t3.settings (inside t3.shapes t member) (Some inner)
  is_noted made t at =
      let same : valued around.0 ≡ t = same_some (setting_in t3.settings setting) (valued around.0) t (g03.stays setting (valued around.0) here) at in
      (v, subst (λ (w : Valued). inside t3.shapes w member ≡ Some v) same (subst (λ shapes. inside shapes (valued around.0) member ≡ Some v) (sym g03.shapes) found), g23.stays inner v (number (g01.made made)))

  pub inside_goes : GoesOn t0 t4
  inside_goes = goes_if _ t0 t3 t4 g03 g34 is_noted
