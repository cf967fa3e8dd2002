-- Numbers of parameters, and what is in instances.
use Rattle.std.proofs.Common.{◌≡◌, ℕ, zero, suc, ◌+◌, ◌-◌, ◌<◌, ◌≤◌, inl, inr, ℤ, replicate, false, List, [], ◌∷◌, ◌++◌, length, map, drop, get_or, Option, Some, None, option_map, slice_get, slice_set, w64, to_z, of_z, refl, sym, ap, subst, ◌∙◌, arith}
use Rattle.std.specs.Prelude.{FitsSigned, if◌then◌else◌}
use Rattle.std.specs.{Borrow.Bor, Option.option_and_then}
use Rattle.std.proofs.lemmas.{List.{map_push, FromFn.map-range_with_len_more}, Bool.Decides.eqb_tells, Int.to_z-of_z}
use Rattle.std.proofs.lemmas.Option.{option_and_then_some, slice_get-map}
use Rattle.std.proofs.Math.Seq.{drop-cons, drop-length}
use Rattle.lft_lists.proofs.{Mapped.{mapped_at, option_map_some}, Places.{Some_same, get_unwritten, get_written, same_some}}
use Rattle.lft_elaborate.specs.{Channels.Channels.below, inner.Values.{IsUnsized, Valued, given_to, inside, is_sized, setting_of, value_inside, values_inside}}
use Rattle.lft_whole.specs.declared.tree.{Expression.Expression, WrittenValue.WrittenValue}
use Rattle.lft_classes.{specs.{declared.shapes.{Child.Child, GivenValue.GivenValue, Shape.Shape}, inner.Shapes.child_at}, proofs.Rows.map_alike}

-- one more of a list that is made by number
pub numbered_more : {X Y : Type 0} (g : X → Y) (f : ℕ → Y) (xs : List X) (x : X) (p : ℕ) → map g xs ≡ map f (below p) → f p ≡ g x → map g (xs ++ x ∷ []) ≡ map f (below (p + 1))
numbered_more g f xs x p so_far is =
    let e : 0 + p ≡ p = omega arith in
    map_push g xs x ∙ ap (λ l. l ++ g x ∷ []) so_far ∙ ap (λ y. map f (below p) ++ y ∷ []) (sym is) ∙ sym (map-range_with_len_more f 0 p p e)

-- what is seen of values that are given
abbrev seen : Option (Bor Expression) → Option WrittenValue
seen found = option_map (λ value. value.now.value) found

all_same : {X Y : Type 0} (f : X → Y) (n p : ℕ) (x : X) → p < n → slice_get (map f (replicate n x)) p ≡ Some (f x)
all_same f zero p x l = absurd (omega arith)
all_same f (suc n) zero x l = refl
all_same f (suc n) (suc p) x l = all_same f n p x (omega arith)

-- nothing is noted yet
pub given_none : (table : List (Option (Bor Expression))) (count n : ℕ) (gs : List GivenValue) → table ≡ replicate count None → n ≡ length gs → (p : ℕ) → p < count → slice_get (map seen table) p ≡ Some (given_to (drop n gs) p)
given_none table count n gs empty end p within =
    let none : drop n gs ≡ [] = ap (λ k. drop k gs) end ∙ drop-length gs in
    ap (λ l. slice_get (map seen l) p) empty ∙ all_same seen count p None within ∙ ap (λ l. Some (given_to l p)) (sym none)

-- one more is noted, from the last on
pub given_put : (table : List (Option (Bor Expression))) (count place : ℕ) (gs : List GivenValue) (g : GivenValue) → length table ≡ count → 0 < place → place ≤ length gs → g ≡ get_or gs (place - 1) g → g.parameter < length table → ((p : ℕ) → p < count → slice_get (map seen table) p ≡ Some (given_to (drop place gs) p)) → (p : ℕ) → p < count → slice_get (map seen (slice_set table g.parameter (Some g.value))) p ≡ Some (given_to (drop (place - 1) gs) p)
given_put table count place gs g long some within is there so_far p in_count =
    let one : suc (place - 1) ≡ place = omega arith in
    let first : drop (place - 1) gs ≡ g ∷ drop place gs = drop-cons gs (place - 1) g (omega arith) ∙ ap (λ x. x ∷ drop (suc (place - 1)) gs) (sym is) ∙ ap (λ k. g ∷ drop k gs) one in
    let shown : slice_get (map seen (slice_set table g.parameter (Some g.value))) p ≡ option_map seen (slice_get (slice_set table g.parameter (Some g.value)) p) = slice_get-map seen (slice_set table g.parameter (Some g.value)) p in
    elim (eqb_tells g.parameter p) [
      | inl same ↦
          let here : slice_get (slice_set table g.parameter (Some g.value)) p ≡ Some (Some g.value) = subst (λ k. slice_get (slice_set table g.parameter (Some g.value)) k ≡ Some (Some g.value)) same.1 (get_written table g.parameter (Some g.value) there) in
          let test : given_to (g ∷ drop place gs) p ≡ Some g.value.now.value = ap (λ b. if b then Some g.value.now.value else given_to (drop place gs) p) same.0 in
          shown ∙ ap (option_map seen) here ∙ ap Some (sym test) ∙ ap (λ l. Some (given_to l p)) (sym first)
      | inr other ↦
          let away : slice_get (slice_set table g.parameter (Some g.value)) p ≡ slice_get table p = get_unwritten table g.parameter p (Some g.value) (λ e. other.1 (sym e)) in
          let test : given_to (g ∷ drop place gs) p ≡ given_to (drop place gs) p = ap (λ b. if b then Some g.value.now.value else given_to (drop place gs) p) other.0 in
          shown ∙ ap (option_map seen) away ∙ sym (slice_get-map seen table p) ∙ so_far p in_count ∙ ap Some (sym test) ∙ ap (λ l. Some (given_to l p)) (sym first)
    ]

-- what is read of the table
pub given_read : (table : List (Option (Bor Expression))) (gs : List GivenValue) (p : ℕ) (v : Option (Bor Expression)) → p < length table → v ≡ get_or table p v → slice_get (map seen table) p ≡ Some (given_to gs p) → seen v ≡ given_to gs p
given_read table gs p v within is there = Some_same (seen v) (given_to gs p) (sym (mapped_at seen table p v within (sym is)) ∙ there)

-- a number more of a list that is made by number
pub number_pushed : (f : ℕ → Option ℤ) (vs now : List ℤ) (x : ℤ) (p : ℕ) → FitsSigned w64 x → now ≡ vs ++ to_z w64 (of_z w64 x) ∷ [] → map (λ v. Some v) vs ≡ map f (below p) → f p ≡ Some x → map (λ v. Some v) now ≡ map f (below (p + 1))
number_pushed f vs now x p fits is so_far at = ap (map (λ v. Some v)) (is ∙ ap (λ v. vs ++ v ∷ []) (to_z-of_z w64 x fits)) ∙ numbered_more (λ v. Some v) f vs x p so_far at

value_alike : (outer other : Shape) (vs ws : List (Option ℤ)) (gs hs : List GivenValue) (inner : Shape) (p : ℕ) → is_sized inner p ≡ false → value_inside outer vs gs inner p ≡ value_inside other ws hs inner p
value_alike outer other vs ws gs hs inner p e = rw e refl

-- what is in an instance has the numbers that this gives it
pub record IsGiven (shapes : List Shape) (u : Valued) : Type 0 where
  pub outer : Shape
  pub values : List (Option ℤ)
  pub given : List GivenValue
  pub inner : Shape
  pub is_inner : slice_get shapes u.shape ≡ Some inner
  pub are_given : values_inside outer values given inner ≡ u.values

is_given_child : (shapes : List Shape) (outer : Shape) (values : List (Option ℤ)) (child : Child) (u : Valued) → setting_of shapes outer values child ≡ Some u → IsGiven shapes u
is_given_child shapes outer values child u e =
    let x = option_map_some (λ (inner : Shape). record { shape = child.shape; values = values_inside outer values child.given.items inner }) (slice_get shapes child.shape) u e in
    record {
      outer = outer;
      values = values;
      given = child.given.items;
      inner = x.0;
      is_inner = subst (λ (w : Valued). slice_get shapes w.shape ≡ Some x.0) x.2 x.1;
      are_given = ap (λ (w : Valued). w.values) x.2;
    }

pub is_given : (shapes : List Shape) (t : Valued) (m : ℕ) (u : Valued) → inside shapes t m ≡ Some u → IsGiven shapes u
is_given shapes t m u e =
    option_and_then_some (λ (outer : Shape). option_and_then (setting_of shapes outer t.values) (child_at outer.children.items m)) (slice_get shapes t.shape) u e (λ outer _ f.
    option_and_then_some (setting_of shapes outer t.values) (child_at outer.children.items m) u f (λ child _ g. is_given_child shapes outer t.values child u g))

-- of a shape of which no width needs a parameter all instances have one setting
pub alike : (shapes : List Shape) (u v : Valued) → IsGiven shapes u → IsGiven shapes v → u.shape ≡ v.shape → IsUnsized shapes u.shape → u ≡ v
alike shapes u v a b same none =
    let one : a.inner ≡ b.inner = same_some (slice_get shapes u.shape) a.inner b.inner a.is_inner (ap (slice_get shapes) same ∙ b.is_inner) in
    let values : values_inside a.outer a.values a.given a.inner ≡ values_inside b.outer b.values b.given a.inner = map_alike (value_inside a.outer a.values a.given a.inner) (value_inside b.outer b.values b.given a.inner) (below (length a.inner.parameters.items)) (λ p m. value_alike a.outer b.outer a.values b.values a.given b.given a.inner p (none a.inner p a.is_inner)) in
    let all : u.values ≡ v.values = sym a.are_given ∙ values ∙ ap (values_inside b.outer b.values b.given) one ∙ b.are_given in
    ap (λ s. record { shape = s; values = u.values }) same ∙ ap (λ vs. record { shape = v.shape; values = vs }) all
