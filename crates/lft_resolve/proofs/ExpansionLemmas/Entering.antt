-- What parameters are given, from the last on.
use Rattle.std.proofs.Common.{◌≡◌, ◌≢◌, ℕ, zero, suc, ◌+◌, ◌<◌, ◌≤◌, ◌⊎◌, inl, inr, true, false, eqb, cond, List, [], ◌∷◌, ◌++◌, length, refl, sym, ap, ◌∙◌, subst, arith, Option, Some, None, slice_get, slice_set, drop, find, length-append}
use Rattle.std.specs.{List.enumerate_from, Option.{option_map_or, option_map, option_and_then}}
use Rattle.std.proofs.lemmas.{Bool.{cases_lt, Decides.eqb_tells}, Option.slice_get_within, List.{length-map, FromFn.length-enumerate_from}}
use Rattle.lft_lists.proofs.{Mapped.{mapped, enumerate_at}, Places.{get_there, get_written, get_unwritten, length_written, get_push_cases, same_some}}
use Rattle.lft_resolve.specs.declared.expansion.{walk.{Contents.Contents, Instance.Instance}, settings.{Given.Given, Parameters.Parameters}}
use Rattle.lft_resolve.specs.Expansion.Paths.{along}
use Rattle.lft_resolve.specs.inner.Expansion.Contents.{contained, IsInstanceAtPath}
use Rattle.lft_resolve.specs.inner.Expansion.Values.{clock_in, value_in, values_in, defaults_of, given_by, entered, HaveValues, LeadToValues}
use Rattle.lft_resolve.proofs.ExpansionLemmas.Orders.{along_at, along_kid}

-- each parameter has its value
pub record AreEntered (outer : List ℕ) (given : List Given) (defaults values : List ℕ) : Type 0 where
  pub as_long : length values ≡ length defaults
  pub each : (place default : ℕ) → slice_get defaults place ≡ Some default → slice_get values place ≡ Some (value_in outer given place default)

same_list : {X : Type 0} (xs ys : List X) → length xs ≡ length ys → ((k : ℕ) (x : X) → slice_get ys k ≡ Some x → slice_get xs k ≡ Some x) → xs ≡ ys
same_list [] [] l e = refl
same_list [] (y ∷ ys) l e = absurd (omega arith)
same_list (x ∷ xs) [] l e = absurd (omega arith)
same_list (x ∷ xs) (y ∷ ys) l e = let q : Some x ≡ Some y = e 0 y refl in let r : xs ≡ ys = same_list xs ys (omega arith) (λ k z f. e (suc k) z f) in cc

pub length_values : (outer : List ℕ) (given : List Given) (defaults : List ℕ) → length (values_in outer given defaults) ≡ length defaults
length_values outer given defaults = length-map (enumerate_from 0 defaults) (λ d. value_in outer given d.0 d.1) ∙ length-enumerate_from 0 defaults

-- so the values are those of the definition
pub entered_is : (outer : List ℕ) (given : List Given) (defaults values : List ℕ) → AreEntered outer given defaults values → values ≡ values_in outer given defaults
entered_is outer given defaults values w = same_list values (values_in outer given defaults) (w.as_long ∙ sym (length-enumerate_from 0 defaults) ∙ sym (length-map (enumerate_from 0 defaults) value)) each
  where
    value : ℕ × ℕ → ℕ
    value d = value_in outer given d.0 d.1

    each : (k v : ℕ) → slice_get (values_in outer given defaults) k ≡ Some v → slice_get values k ≡ Some v
    each k v e =
        let l = slice_get_within (values_in outer given defaults) k v e in
        let a = length-map (enumerate_from 0 defaults) value in
        let b = length-enumerate_from 0 defaults in
        let d = get_there defaults k (omega arith) in
        let f : slice_get (values_in outer given defaults) k ≡ Some (value (0 + k, d.0)) = mapped value (enumerate_from 0 defaults) k (0 + k, d.0) (enumerate_at 0 defaults k d.0 d.1) in
        let z : 0 + k ≡ k = omega arith in
        let g : Some (value (0 + k, d.0)) ≡ Some (value_in outer given k d.0) = ap (λ j. Some (value_in outer given j d.0)) z in
        w.each k d.0 d.1 ∙ sym g ∙ sym f ∙ e

drop_at : {X : Type 0} (xs : List X) (k : ℕ) (x : X) → slice_get xs k ≡ Some x → drop k xs ≡ x ∷ drop (k + 1) xs
drop_at [] k x e = absurd (cc)
drop_at (y ∷ xs) zero x e = let q : y ≡ x = cc in ap (λ z. z ∷ xs) q
drop_at (y ∷ xs) (suc k) x e = let q : suc (k + 1) ≡ suc k + 1 = omega arith in drop_at xs k x e ∙ ap (λ n. x ∷ drop n (y ∷ xs)) q

value_first : (outer : List ℕ) (given : List Given) (g : Given) (place default : ℕ) → g.place ≡ place → value_in outer (g ∷ given) place default ≡ clock_in outer g.clock
value_first outer given g place default e = go (eqb_tells g.place place)
  where
    go : ((eqb g.place place ≡ true) × (g.place ≡ place)) ⊎ ((eqb g.place place ≡ false) × (g.place ≢ place)) → value_in outer (g ∷ given) place default ≡ clock_in outer g.clock
    go (inl t) = ap (λ b. option_map_or (λ h. clock_in outer h.clock) (cond b (Some g) (find (λ h. eqb h.place place) given)) default) t.0
    go (inr f) = absurd (f.1 e)

value_later : (outer : List ℕ) (given : List Given) (g : Given) (place default : ℕ) → g.place ≢ place → value_in outer (g ∷ given) place default ≡ value_in outer given place default
value_later outer given g place default n = go (eqb_tells g.place place)
  where
    go : ((eqb g.place place ≡ true) × (g.place ≡ place)) ⊎ ((eqb g.place place ≡ false) × (g.place ≢ place)) → value_in outer (g ∷ given) place default ≡ value_in outer given place default
    go (inl t) = absurd (n t.1)
    go (inr f) = ap (λ b. option_map_or (λ h. clock_in outer h.clock) (cond b (Some g) (find (λ h. eqb h.place place) given)) default) f.0

-- one more is given, before the others
entered_first : (outer : List ℕ) (given : List Given) (defaults own : List ℕ) (g : Given) → AreEntered outer given defaults own → g.place < length own → AreEntered outer (g ∷ given) defaults (slice_set own g.place (clock_in outer g.clock))
entered_first outer given defaults own g w l = record {
  as_long = length_written own g.place (clock_in outer g.clock) ∙ w.as_long;
  each = λ place default e. each place default e (eqb_tells g.place place);
}
  where
    each : (place default : ℕ) → slice_get defaults place ≡ Some default → ((eqb g.place place ≡ true) × (g.place ≡ place)) ⊎ ((eqb g.place place ≡ false) × (g.place ≢ place)) → slice_get (slice_set own g.place (clock_in outer g.clock)) place ≡ Some (value_in outer (g ∷ given) place default)
    each place default e (inl t) = subst (λ k. slice_get (slice_set own g.place (clock_in outer g.clock)) k ≡ Some (value_in outer (g ∷ given) place default)) t.1 (get_written own g.place (clock_in outer g.clock) l ∙ ap Some (sym (value_first outer given g place default t.1)))
    each place default e (inr f) = get_unwritten own g.place place (clock_in outer g.clock) (λ q. f.1 (sym q)) ∙ w.each place default e ∙ ap Some (sym (value_later outer given g place default f.1))

entered_past : (outer : List ℕ) (given : List Given) (defaults own : List ℕ) (g : Given) → AreEntered outer given defaults own → length own ≤ g.place → AreEntered outer (g ∷ given) defaults own
entered_past outer given defaults own g w l = record {
  as_long = w.as_long;
  each = λ place default e. w.each place default e ∙ ap Some (sym (value_later outer given g place default (λ q. let k = slice_get_within defaults place default e in let s = w.as_long in omega arith)));
}

pub entered_more : (outer : List ℕ) (given : List Given) (defaults own : List ℕ) (k : ℕ) (g : Given) → slice_get given k ≡ Some g → AreEntered outer (drop (k + 1) given) defaults own → g.place < length own → AreEntered outer (drop k given) defaults (slice_set own g.place (clock_in outer g.clock))
entered_more outer given defaults own k g e w l = rw (drop_at given k g e) (entered_first outer (drop (k + 1) given) defaults own g w l)

pub entered_skip : (outer : List ℕ) (given : List Given) (defaults own : List ℕ) (k : ℕ) (g : Given) → slice_get given k ≡ Some g → AreEntered outer (drop (k + 1) given) defaults own → length own ≤ g.place → AreEntered outer (drop k given) defaults own
entered_skip outer given defaults own k g e w l = rw (drop_at given k g e) (entered_past outer (drop (k + 1) given) defaults own g w l)

-- the values of the first instances
pub record Valued (table : List Parameters) (instances : List Instance) (rows : List (List ℕ)) (number : ℕ) : Type 0 where
  pub as_long : length rows ≡ number
  pub main : (i : Instance) (own : List ℕ) → slice_get instances 0 ≡ Some i → slice_get rows 0 ≡ Some own → own ≡ defaults_of table i.reactor
  pub later : (n : ℕ) (i above : Instance) (own outer : List ℕ) → 0 < n → slice_get instances n ≡ Some i → slice_get instances i.parent ≡ Some above → slice_get rows n ≡ Some own → slice_get rows i.parent ≡ Some outer → own ≡ values_in outer (given_by table above.reactor i.place) (defaults_of table i.reactor)

-- the main instance
pub valued_main : (table : List Parameters) (instances : List Instance) (rows : List (List ℕ)) (number : ℕ) (i : Instance) (own : List ℕ) → Valued table instances rows number → number ≡ 0 → slice_get instances number ≡ Some i → own ≡ defaults_of table i.reactor → Valued table instances (rows ++ own ∷ []) (number + 1)
valued_main table instances rows number i own w z e o = record {
  as_long = length-append rows (own ∷ []) ∙ ap (λ k. k + 1) w.as_long;
  main = λ j mine f g. elim (get_push_cases rows own 0 mine g) [ inl a ↦ w.main j mine f a | inr a ↦ sym a.1 ∙ o ∙ ap (λ x. defaults_of table x.reactor) (same_some (slice_get instances 0) i j (subst (λ k. slice_get instances k ≡ Some i) z e) f) ];
  later = λ n j above mine outer l f a g h. absurd (let k = slice_get_within (rows ++ own ∷ []) n mine g in let s = length-append rows (own ∷ []) in let t = w.as_long in omega arith);
}

-- a later instance, after its parent
pub valued_later : (table : List Parameters) (instances : List Instance) (rows : List (List ℕ)) (number : ℕ) (i above : Instance) (own outer : List ℕ) → ((n : ℕ) (j : Instance) → slice_get instances n ≡ Some j → 0 < n → j.parent < n) → Valued table instances rows number → 0 < number → slice_get instances number ≡ Some i → slice_get instances i.parent ≡ Some above → slice_get rows i.parent ≡ Some outer → own ≡ values_in outer (given_by table above.reactor i.place) (defaults_of table i.reactor) → Valued table instances (rows ++ own ∷ []) (number + 1)
valued_later table instances rows number i above own outer before w l e a o t = record {
  as_long = length-append rows (own ∷ []) ∙ ap (λ k. k + 1) w.as_long;
  main = λ j mine f g. elim (get_push_cases rows own 0 mine g) [ inl b ↦ w.main j mine f b | inr b ↦ absurd (let s = w.as_long in let q : 0 ≡ length rows = b.0 in omega arith) ];
  later = λ n j up mine theirs k f b g h. later n j up mine theirs k f b (get_push_cases rows own n mine g) (get_push_cases rows own j.parent theirs h);
}
  where
    later : (n : ℕ) (j up : Instance) (mine theirs : List ℕ) → 0 < n → slice_get instances n ≡ Some j → slice_get instances j.parent ≡ Some up → (slice_get rows n ≡ Some mine) ⊎ ((n ≡ length rows) × (own ≡ mine)) → (slice_get rows j.parent ≡ Some theirs) ⊎ ((j.parent ≡ length rows) × (own ≡ theirs)) → mine ≡ values_in theirs (given_by table up.reactor j.place) (defaults_of table j.reactor)
    later n j up mine theirs k f b (inl g) (inl h) = w.later n j up mine theirs k f b g h
    later n j up mine theirs k f b (inl g) (inr h) = absurd (let p = before n j f k in let q = slice_get_within rows n mine g in let r : j.parent ≡ length rows = h.0 in omega arith)
    later n j up mine theirs k f b (inr g) (inr h) = absurd (let p = before n j f k in let q : n ≡ length rows = g.0 in let r : j.parent ≡ length rows = h.0 in omega arith)
    later n j up mine theirs k f b (inr g) (inl h) =
        let s : n ≡ number = g.0 ∙ w.as_long in
        let same : i ≡ j = same_some (slice_get instances number) i j e (subst (λ x. slice_get instances x ≡ Some j) s f) in
        let higher : above ≡ up = same_some (slice_get instances j.parent) above up (subst (λ x. slice_get instances x.parent ≡ Some above) same a) b in
        let further : outer ≡ theirs = same_some (slice_get rows j.parent) outer theirs (subst (λ x. slice_get rows x.parent ≡ Some outer) same o) h in
        sym g.1 ∙ t ∙ ap (λ x. values_in outer (given_by table above.reactor x.place) (defaults_of table x.reactor)) same ∙ ap (λ x. values_in outer (given_by table x.reactor j.place) (defaults_of table j.reactor)) higher ∙ ap (λ x. values_in x (given_by table up.reactor j.place) (defaults_of table j.reactor)) further

pub valued_end : (table : List Parameters) (instances : List Instance) (rows : List (List ℕ)) (number : ℕ) → Valued table instances rows number → number ≡ length instances → HaveValues table instances rows
valued_end table instances rows number w e = record { as_long = w.as_long ∙ e; main = w.main; later = w.later }

-- along its path one comes to each instance's values
pub lead_to_values : (contents : List Contents) (table : List Parameters) (main : ℕ) (instances : List Instance) (values : List (List ℕ)) → HaveValues table instances values → LeadToValues contents table main instances values
lead_to_values contents table main instances values h w n i path own e p r = below (n + 1) n i path own (omega arith) e p r
  where
    Root : ℕ × List ℕ
    Root = (main, defaults_of table main)

    from_main : (i : Instance) (path own : List ℕ) → along (contained contents) main path ≡ Some i.reactor → path ≡ [] → own ≡ defaults_of table i.reactor → along (entered contents table) Root path ≡ Some (i.reactor, own)
    from_main i path own l z o =
        let a : along (contained contents) main [] ≡ Some i.reactor = ap (along (contained contents) main) (sym z) ∙ l in
        let b : main ≡ i.reactor = cc in
        ap (along (entered contents table) Root) z ∙ ap (λ m. Some (m, defaults_of table m)) b ∙ ap (λ v. Some (i.reactor, v)) (sym o)

    inner : (r z place : ℕ) → along (contained contents) r (place ∷ []) ≡ Some z → (o : Option ℕ) → contained contents r place ≡ o → contained contents r place ≡ Some z
    inner r z place l None f = absurd (let g : option_and_then (λ y. along (contained contents) y []) None ≡ Some z = sym (ap (option_and_then (λ y. along (contained contents) y [])) f) ∙ l in cc)
    inner r z place l (Some y) f = let g : option_and_then (λ y. along (contained contents) y []) (Some y) ≡ Some z = sym (ap (option_and_then (λ y. along (contained contents) y [])) f) ∙ l in let q : y ≡ z = cc in f ∙ ap Some q

    below : (bound n : ℕ) (i : Instance) (path own : List ℕ) → n < bound → slice_get instances n ≡ Some i → slice_get w.paths n ≡ Some path → slice_get values n ≡ Some own → along (entered contents table) Root path ≡ Some (i.reactor, own)
    below zero n i path own l e p r = absurd (omega arith)
    below (suc bound) n i path own l e p r = go (cases_lt 0 n) (λ m. below bound m)
      where
        at : IsInstanceAtPath contents main w.paths n i path
        at = w.each n i path e p

        go : (0 < n) ⊎ (n ≤ 0) → ((m : ℕ) (j : Instance) (q mine : List ℕ) → m < bound → slice_get instances m ≡ Some j → slice_get w.paths m ≡ Some q → slice_get values m ≡ Some mine → along (entered contents table) Root q ≡ Some (j.reactor, mine)) → along (entered contents table) Root path ≡ Some (i.reactor, own)
        go (inr z) rest =
            let n0 : n ≡ 0 = omega arith in
            from_main i path own at.leads (at.first n0) (h.main i own (subst (λ k. slice_get instances k ≡ Some i) n0 e) (subst (λ k. slice_get values k ≡ Some own) n0 r))
        go (inl k) rest =
            let up = at.later k in
            let long = w.as_long in
            let rows = h.as_long in
            let b : i.parent < n = up.1 in
            let within = slice_get_within instances n i e in
            let above = get_there instances i.parent (omega arith) in
            let outer = get_there values i.parent (omega arith) in
            let led = rest i.parent above.0 up.0 outer.0 (omega arith) above.1 up.2 outer.1 in
            let plain : along (contained contents) main up.0 ≡ Some above.0.reactor = (w.each i.parent above.0 up.0 above.1 up.2).leads in
            let last : along (contained contents) above.0.reactor (i.place ∷ []) ≡ Some i.reactor = sym (along_at (contained contents) main above.0.reactor up.0 (i.place ∷ []) plain) ∙ ap (along (contained contents) main) up.3 ∙ at.leads in
            let step : contained contents above.0.reactor i.place ≡ Some i.reactor = inner above.0.reactor i.reactor i.place last (contained contents above.0.reactor i.place) refl in
            let own_is : own ≡ values_in outer.0 (given_by table above.0.reactor i.place) (defaults_of table i.reactor) = h.later n i above.0 own outer.0 k e above.1 r outer.1 in
            let turn : entered contents table (above.0.reactor, outer.0) i.place ≡ Some (i.reactor, own) = ap (option_map (λ r. (r, values_in outer.0 (given_by table above.0.reactor i.place) (defaults_of table r)))) step ∙ ap (λ v. Some (i.reactor, v)) (sym own_is) in
            ap (along (entered contents table) Root) (sym up.3) ∙ along_kid (entered contents table) Root (above.0.reactor, outer.0) (i.reactor, own) up.0 i.place led turn
