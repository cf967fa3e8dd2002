-- A setting fits its instance, and what is inside fits what is inside.
use Rattle.std.proofs.Common.{◌≡◌, ℕ, ℤ, zero, suc, ◌+◌, ◌<◌, pos, Bool, true, false, List, length, map, Option, Some, None, option_map, slice_get, refl, sym, ap, ◌∙◌, arith}
use Rattle.std.specs.Prelude.{find, if◌then◌else◌, string_bytes}
use Rattle.std.specs.{Option.option_and_then, List.range_with_len}
use Rattle.lft_lists.proofs.{Mapped.mapped, Places.{Some_same, get_there}}
use Rattle.lft_whole.specs.declared.sources.source.SourceFile.{SourceFile}
use Rattle.lft_whole.specs.declared.tree.{Assignment.Assignment, Expression.Expression, Instance.Instance, Parameter.Parameter, WrittenValue.WrittenValue}
use Rattle.lft_classes.specs.declared.shapes.{Child.Child, InheritedParameter.InheritedParameter, Shape.Shape, OwnThing.OwnThing}
use Rattle.lft_classes.specs.inner.{Built.located_parameters, Shapes.{child_at, thing_named}}
use Rattle.lft_elaborate.specs.Channels.Channels.{below}
use Rattle.lft_elaborate.specs.inner.Values.{Valued, chosen, default_at, default_written, given_to, inside, is_sized, literal, main_setting, main_value, number_in, number_of, setting_of, value_inside}
use Rattle.lft_same.specs.Expanded.Instances.{Inside, default_of, value_given_in, value_or_default, inside_of, main_class_instance, read_in, value_named}
use Rattle.lft_same.specs.Expanded.Reactors.{class_named, is_named, parameters_of}
use Rattle.lft_same.specs.inner.Fits.Fits.{Fits, IsShapeOf}
use Rattle.lft_same.proofs.FitsLemmas.{Giving.IsGivenBy, MemberNames.value_found}
use Rattle.lft_program.proofs.Zipping.{then_some}
use Rattle.lft_whole.specs.declared.tree.WrittenValue.TheVariants as value
use Rattle.lft_classes.specs.declared.shapes.OwnThing.TheVariants as thing

-- a number that is written or named is that of the value that is read
pub number_fits : (files : List SourceFile) (shapes : List Shape) (t : Valued) (x : Inside) (fits : Fits files shapes t x) (v : WrittenValue) (n : ℤ) → number_in fits.shape t.values v ≡ Some n → (w : WrittenValue) × (read_in files x v ≡ Some w) × (literal w ≡ Some n)
number_fits files shapes t x fits (value.Word q) n e =
    let th = then_some (number_of fits.shape t.values) (thing_named fits.shape (string_bytes q)) n e in
    go th.0 th.1 th.2
  where
    sized : (p : ℕ) (b : Bool) → is_sized fits.shape p ≡ b → (if b then option_and_then (λ v. v) (slice_get t.values p) else None) ≡ Some n → (is_sized fits.shape p ≡ true) × (slice_get t.values p ≡ Some (Some n))
    sized p false is f = absurd (cc)
    sized p true is f = let o = then_some (λ (v : Option ℤ). v) (slice_get t.values p) n f in (is, o.1 ∙ ap Some o.2)

    go : (th : OwnThing) → thing_named fits.shape (string_bytes q) ≡ Some th → number_of fits.shape t.values th ≡ Some n → (w : WrittenValue) × (value_named files x (string_bytes q) ≡ Some w) × (literal w ≡ Some n)
    go (thing.Member m) is f = absurd (cc)
    go (thing.Parameter p) is f =
        let s = sized p (is_sized fits.shape p) refl f in
        let w = fits.numbers p n s.0 s.1 in
        (w.0, value_found files fits.shape x fits.of_class (string_bytes q) p (Some w.0) is w.1, w.2)
number_fits files shapes t x fits (value.Number negative count unit) n e = (value.Number negative count unit, refl, e)
number_fits files shapes t x fits value.Code n e = absurd (cc)
number_fits files shapes t x fits value.Other n e = absurd (cc)

-- the number at a place of numbers below a count
row : {X : Type 0} (f : ℕ → X) (n p : ℕ) (x : X) → slice_get (map f (below n)) p ≡ Some x → (p < n) × (f p ≡ x)
row {X} f n p x at = go 0 n p at
  where
    at_place : (a n p : ℕ) (x : X) → slice_get (map f (range_with_len a n)) p ≡ Some x → (p < n) × (f (a + p) ≡ x)
    at_place a zero p x e = absurd (cc)
    at_place a (suc n) zero x e = (omega arith, ap f (let z : a + 0 ≡ a = omega arith in z) ∙ Some_same (f a) x e)
    at_place a (suc n) (suc p) x e = let r = at_place (a + 1) n p x e in let l : p < n = r.0 in (omega arith, ap f (let z : a + suc p ≡ a + 1 + p = omega arith in z) ∙ r.1)

    go : (a n p : ℕ) → slice_get (map f (range_with_len 0 n)) p ≡ Some x → (p < n) × (f p ≡ x)
    go a n p e = let r = at_place 0 n p x e in (r.0, ap f (let z : p ≡ 0 + p = omega arith in z) ∙ r.1)

-- a parameter of a shape is that of the reactor
pub parameter_is : (files : List SourceFile) (shape : Shape) (c : ℕ × ℕ) → IsShapeOf files shape c → (p : ℕ) (ip : InheritedParameter) → slice_get shape.parameters.items p ≡ Some ip → slice_get (parameters_of files c) p ≡ Some ip.parameter.now
parameter_is files shape c is p ip at = ap (λ l. slice_get l p) (sym is.parameters) ∙ mapped (λ (z : ℕ × Parameter). z.1) (located_parameters shape.parameters.items) p (ip.file, ip.parameter.now) (mapped (λ (z : InheritedParameter). (z.file, z.parameter.now)) shape.parameters.items p ip at)

-- a default that is a number
default_is : (shape : Shape) (p : ℕ) (ip : InheritedParameter) (n : ℤ) → slice_get shape.parameters.items p ≡ Some ip → default_at shape p ≡ Some n → (v : WrittenValue) × (default_of ip.parameter.now ≡ Some v) × (literal v ≡ Some n)
default_is shape p ip n at e =
    let v = then_some literal (default_written shape p) n e in
    (v.0, sym (ap (option_and_then (λ (found : InheritedParameter). option_map (λ (x : Expression). x.value) found.parameter.now.default)) at) ∙ v.1, v.2)

-- what is inside fits
pub inside_fits : (files : List SourceFile) (shapes : List Shape) (t u : Valued) (x : Inside) (fits : Fits files shapes t x) (m : ℕ) (child : Child) (inner : Shape) (file : ℕ) (i : Instance) (c : ℕ × ℕ) → inside shapes t m ≡ Some u → child_at fits.shape.children.items m ≡ Some child → slice_get shapes child.shape ≡ Some inner → class_named files file (string_bytes i.reactor.text) ≡ Some c → IsShapeOf files inner c → IsGivenBy inner child i → (y : Inside) × (inside_of files x (file, i) ≡ Some y) × Fits files shapes u y
inside_fits files shapes t u x fits m child inner file i c in_u is_child is_inner means of_inner given = (y, is_y, record { shape = inner; is_shape = ap (λ (v : Valued). slice_get shapes v.shape) (sym is_u) ∙ is_inner; of_class = of_inner; numbers = numbers })
  where
    made : ℕ × ℕ → Inside
    made c = record { class = c; values = map (value_given_in files x i.given.items) (parameters_of files c) }

    y : Inside
    y = record { class = c; values = map (value_given_in files x i.given.items) (parameters_of files c) }

    is_y : inside_of files x (file, i) ≡ Some y
    is_y = ap (option_map (λ c. record { class = c; values = map (value_given_in files x i.given.items) (parameters_of files c) })) means

    v : Valued
    v = record { shape = child.shape; values = map (value_inside fits.shape t.values child.given.items inner) (below (length inner.parameters.items)) }

    is_u : v ≡ u
    is_u = Some_same v u (sym (ap (option_and_then (λ outer. option_and_then (setting_of shapes outer t.values) (child_at outer.children.items m))) fits.is_shape ∙ ap (option_and_then (setting_of shapes fits.shape t.values)) is_child ∙ ap (option_map (λ inner. record { shape = child.shape; values = map (value_inside fits.shape t.values child.given.items inner) (below (length inner.parameters.items)) })) is_inner) ∙ in_u)

    sized : (p : ℕ) (n : ℤ) (b : Bool) → b ≡ true → (if b then chosen fits.shape t.values (given_to child.given.items p) (default_at inner p) else Some (pos 0)) ≡ Some n → chosen fits.shape t.values (given_to child.given.items p) (default_at inner p) ≡ Some n
    sized p n true is e = e
    sized p n false is e = absurd (cc)

    picked : (p : ℕ) (n : ℤ) (ip : InheritedParameter) → slice_get inner.parameters.items p ≡ Some ip → (o : Option Assignment) → given_to child.given.items p ≡ option_map (λ a. a.value.value) o → chosen fits.shape t.values (given_to child.given.items p) (default_at inner p) ≡ Some n → (w : WrittenValue) × (value_or_default files x ip.parameter.now o ≡ Some w) × (literal w ≡ Some n)
    picked p n ip at None g e = default_is inner p ip n at (sym (ap (λ o. chosen fits.shape t.values o (default_at inner p)) g) ∙ e)
    picked p n ip at (Some a) g e = number_fits files shapes t x fits a.value.value n (sym (ap (λ o. chosen fits.shape t.values o (default_at inner p)) g) ∙ e)

    numbers : (p : ℕ) (n : ℤ) → is_sized inner p ≡ true → slice_get u.values p ≡ Some (Some n) → (w : WrittenValue) × (slice_get y.values p ≡ Some (Some w)) × (literal w ≡ Some n)
    numbers p n is at =
        let r = row (value_inside fits.shape t.values child.given.items inner) (length inner.parameters.items) p (Some n) (ap (λ (z : Valued). slice_get z.values p) is_u ∙ at) in
        let ip = get_there inner.parameters.items p r.0 in
        let e : chosen fits.shape t.values (given_to child.given.items p) (default_at inner p) ≡ Some n = sized p n (is_sized inner p) is r.1 in
        let w = picked p n ip.0 ip.1 (find (λ a. is_named (string_bytes ip.0.parameter.now.name.text) a.name) i.given.items) (given p ip.0 ip.1) e in
        (w.0, mapped (value_given_in files x i.given.items) (parameters_of files c) p ip.0.parameter.now (parameter_is files inner c of_inner p ip.0 ip.1) ∙ ap Some w.1, w.2)

-- the setting of the main reactor fits the main instance
pub main_fits : (files : List SourceFile) (shapes : List Shape) (t : Valued) (main : Shape) (c : ℕ × ℕ) → main_setting shapes ≡ Some t → slice_get shapes 0 ≡ Some main → IsShapeOf files main c → Fits files shapes t (main_class_instance files c)
main_fits files shapes t main c is_t is_main of_main = record { shape = main; is_shape = ap (λ (z : Valued). slice_get shapes z.shape) (sym is_v) ∙ is_main; of_class = of_main; numbers = numbers }
  where
    v : Valued
    v = record { shape = 0; values = map (main_value main) (below (length main.parameters.items)) }

    is_v : v ≡ t
    is_v = Some_same v t (sym (ap (option_map (λ main. record { shape = 0; values = map (main_value main) (below (length main.parameters.items)) })) is_main) ∙ is_t)

    sized : (p : ℕ) (n : ℤ) (b : Bool) → b ≡ true → (if b then default_at main p else Some (pos 0)) ≡ Some n → default_at main p ≡ Some n
    sized p n true is e = e
    sized p n false is e = absurd (cc)

    numbers : (p : ℕ) (n : ℤ) → is_sized main p ≡ true → slice_get t.values p ≡ Some (Some n) → (w : WrittenValue) × (slice_get (map default_of (parameters_of files c)) p ≡ Some (Some w)) × (literal w ≡ Some n)
    numbers p n is at =
        let r = row (main_value main) (length main.parameters.items) p (Some n) (ap (λ (z : Valued). slice_get z.values p) is_v ∙ at) in
        let ip = get_there main.parameters.items p r.0 in
        let w = default_is main p ip.0 n ip.1 (sized p n (is_sized main p) is r.1) in
        (w.0, mapped default_of (parameters_of files c) p ip.0.parameter.now (parameter_is files main c of_main p ip.0 ip.1) ∙ ap Some w.1, w.2)
