-- What an instance gives, it gives to each parameter once.
use Rattle.std.proofs.Common.{◌≡◌, ◌≢◌, ℕ, zero, suc, eqb, ◌+◌, ◌⊎◌, inl, inr, Bool, true, false, List, [], ◌∷◌, ◌++◌, length, Option, Some, None, slice_get, refl, sym, ap, subst, ◌∙◌, arith}
use Rattle.std.specs.Prelude.{if◌then◌else◌, string_bytes}
use Rattle.std.proofs.lemmas.{Bool.Decides.eqb_tells, List.length-append}
use Rattle.lft_lists.proofs.{Members.{Mem, contains_mem, get_mem, mem_cases, mem_contains, mem_get, mem_left, mem_right}, Places.Some_same}
use Rattle.lft_whole.specs.declared.tree.{Assignment.Assignment, Instance.Instance, WrittenValue.WrittenValue}
use Rattle.lft_classes.specs.declared.shapes.{Child.Child, GivenValue.GivenValue, InheritedParameter.InheritedParameter, Shape.Shape, OwnThing.OwnThing}
use Rattle.lft_classes.specs.inner.{Built.AreGiven, Circles.GivesOnce, Shapes.thing_named}
use Rattle.lft_elaborate.specs.inner.Values.{given_to}
use Rattle.lft_lower.specs.inner.Needed.{GivesEachOnce}
use Rattle.lft_same.{specs.inner.Fits.Fits.IsShapeOf, proofs.FitsLemmas.Giving.{to_none, unique}}
use Rattle.lft_classes.specs.declared.shapes.OwnThing.TheVariants as thing

-- nothing is given to the parameter
abbrev Absent : ℕ → List GivenValue → Type 0
Absent p gs = (g : GivenValue) → Mem g gs → g.parameter ≡ p → ⊥

none_given : (gs : List GivenValue) (p : ℕ) → Absent p gs → given_to gs p ≡ None
none_given [] p absent = refl
none_given (g ∷ gs) p absent = go (eqb_tells g.parameter p) (none_given gs p (λ h m. absent h (inr m)))
  where
    go : ((eqb g.parameter p ≡ true) × (g.parameter ≡ p)) ⊎ ((eqb g.parameter p ≡ false) × ((g.parameter ≡ p) → ⊥)) → given_to gs p ≡ None → given_to (g ∷ gs) p ≡ None
    go (inl same) rest = absurd (absent g (inl refl) same.1)
    go (inr other) rest = ap (λ (b : Bool). if b then Some g.value.now.value else given_to gs p) other.0 ∙ rest

-- where an item stands in a list
split : (g : GivenValue) (gs : List GivenValue) → Mem g gs → (front : List GivenValue) × (back : List GivenValue) × (gs ≡ front ++ g ∷ back)
split g [] m = absurd m
split g (h ∷ gs) (inl e) = ([], gs, ap (λ z. z ∷ gs) e)
split g (h ∷ gs) (inr m) = let s = split g gs m in (h ∷ s.0, s.1, ap (λ (l : List GivenValue). h ∷ l) s.2)

-- what stands in the list with one more stands in that without it, or is that one
without : (g z : GivenValue) (front back : List GivenValue) → Mem z (front ++ g ∷ back) → (g ≡ z) ⊎ Mem z (front ++ back)
without g z front back m = go (mem_cases z front (g ∷ back) m)
  where
    go : Mem z front ⊎ ((g ≡ z) ⊎ Mem z back) → (g ≡ z) ⊎ Mem z (front ++ back)
    go (inl k) = inr (mem_left z front back k)
    go (inr (inl e)) = inl e
    go (inr (inr k)) = inr (mem_right z front back k)

put_back : (front back : List GivenValue) (g : GivenValue) → GivesEachOnce (front ++ back) → Absent g.parameter (front ++ back) → GivesEachOnce (front ++ g ∷ back)
put_back [] back g once absent = (none_given back g.parameter absent, once)
put_back (h ∷ front) back g once absent = (none_given (front ++ g ∷ back) h.parameter (λ z m e. go z e (without g z front back m)), put_back front back g once.1 (λ z m. absent z (inr m)))
  where
    go : (z : GivenValue) → z.parameter ≡ h.parameter → (g ≡ z) ⊎ Mem z (front ++ back) → ⊥
    go z e (inl same) = absent h (inl refl) (sym e ∙ ap (λ (k : GivenValue). k.parameter) (sym same))
    go z e (inr m) = to_none (front ++ back) h.parameter z once.0 m e

one_less : (n : ℕ) (front back : List GivenValue) (g : GivenValue) → length (front ++ g ∷ back) ≡ suc n → length (front ++ back) ≡ n
one_less n front back g e =
    let a : length (front ++ g ∷ back) ≡ length front + suc (length back) = length-append front (g ∷ back) in
    let b : length (front ++ back) ≡ length front + length back = length-append front back in
    omega (arith, a, b, e)

-- of so many written as are given, each is given
abbrev AreMatched : (Assignment → ℕ) → List Assignment → List GivenValue → Type 0
AreMatched f ws gs = (a : Assignment) → Mem a ws → (g : GivenValue) × Mem g gs × (g.parameter ≡ f a)

-- each is written once
abbrev AreApart : (Assignment → ℕ) → List Assignment → Type 0
AreApart f ws = (i j : ℕ) (a b : Assignment) → slice_get ws i ≡ Some a → slice_get ws j ≡ Some b → f a ≡ f b → i ≡ j

-- then nothing is given twice, and nothing else is given
abbrev AreThese : (Assignment → ℕ) → List Assignment → List GivenValue → Type 0
AreThese f ws gs = GivesEachOnce gs × ((g : GivenValue) → Mem g gs → (a : Assignment) × Mem a ws × (f a ≡ g.parameter))

one_more : (f : Assignment → ℕ) (a : Assignment) (ws : List Assignment) (gs : List GivenValue) → length gs ≡ suc (length ws) → AreApart f (a ∷ ws) → AreMatched f (a ∷ ws) gs → ((hs : List GivenValue) → length hs ≡ length ws → AreApart f ws → AreMatched f ws hs → AreThese f ws hs) → AreThese f (a ∷ ws) gs
one_more f a ws gs e one has before = (subst GivesEachOnce (sym k.2) (put_back k.0 k.1 g.0 rest.0 absent), λ z m. back z (without g.0 z k.0 k.1 (subst (Mem z) k.2 m)))
  where
    g : (g : GivenValue) × Mem g gs × (g.parameter ≡ f a)
    g = has a (inl refl)

    k : (front : List GivenValue) × (back : List GivenValue) × (gs ≡ front ++ g.0 ∷ back)
    k = split g.0 gs g.1

    differs : (b : Assignment) → Mem b ws → f a ≡ f b → ⊥
    differs b m same = let j = get_mem b ws m in let n : 0 ≡ suc j.0 = one 0 (suc j.0) a b refl j.1 same in omega (arith, n)

    other : AreMatched f ws (k.0 ++ k.1)
    other b m = let h = has b (inr m) in go h.0 h.2 (without g.0 h.0 k.0 k.1 (subst (Mem h.0) k.2 h.1))
      where
        go : (z : GivenValue) → z.parameter ≡ f b → (g.0 ≡ z) ⊎ Mem z (k.0 ++ k.1) → (z : GivenValue) × Mem z (k.0 ++ k.1) × (z.parameter ≡ f b)
        go z is (inl same) = absurd (differs b m (sym g.2 ∙ ap (λ (q : GivenValue). q.parameter) same ∙ is))
        go z is (inr l) = (z, l, is)

    rest : AreThese f ws (k.0 ++ k.1)
    rest = before (k.0 ++ k.1) (one_less (length ws) k.0 k.1 g.0 (ap length (sym k.2) ∙ e)) (λ i j b c at is same. let n : suc i ≡ suc j = one (suc i) (suc j) b c at is same in omega (arith, n)) other

    absent : Absent g.0.parameter (k.0 ++ k.1)
    absent z m same = let b = rest.1 z m in differs b.0 b.1 (sym g.2 ∙ sym same ∙ sym b.2)

    back : (z : GivenValue) → (g.0 ≡ z) ⊎ Mem z (k.0 ++ k.1) → (b : Assignment) × Mem b (a ∷ ws) × (f b ≡ z.parameter)
    back z (inl same) = (a, inl refl, sym g.2 ∙ ap (λ (q : GivenValue). q.parameter) same)
    back z (inr m) = let b = rest.1 z m in (b.0, inr b.1, b.2)

all_once : (f : Assignment → ℕ) (ws : List Assignment) (gs : List GivenValue) → length gs ≡ length ws → AreApart f ws → AreMatched f ws gs → AreThese f ws gs
all_once f [] [] e one has = (tt, λ g m. absurd m)
all_once f [] (g ∷ gs) e one has = absurd (cc)
all_once f (a ∷ ws) gs e one has = one_more f a ws gs e one has (λ hs l o h. all_once f ws hs l o h)

-- the parameter that a thing is, or 0
abbrev parameter_number : Option OwnThing → ℕ
parameter_number (Some (thing.Parameter p)) = p
parameter_number (Some (thing.Member p)) = 0
parameter_number None = 0

-- so each parameter is given one value at most
pub given_once : (files : List _) (inner : Shape) (c : ℕ × ℕ) → IsShapeOf files inner c → (child : Child) (i : Instance) → GivesOnce i.given.items → AreGiven (thing_named inner) i.given.items child.given.items → GivesEachOnce child.given.items
given_once files inner c is child i once are = (all_once number i.given.items child.given.items are.count one has).0
  where
    number : Assignment → ℕ
    number a = parameter_number (thing_named inner (string_bytes a.name.text))

    known : (a : Assignment) → Mem a i.given.items → (g : GivenValue) × Mem g child.given.items × (thing_named inner (string_bytes a.name.text) ≡ Some (thing.Parameter g.parameter))
    known a m = let g = are.all a (mem_contains a i.given.items m) in (g.0, contains_mem g.0 child.given.items g.1, g.2.0)

    has : (a : Assignment) → Mem a i.given.items → (g : GivenValue) × Mem g child.given.items × (g.parameter ≡ number a)
    has a m = let g = known a m in (g.0, g.1, ap parameter_number (sym g.2))

    one : (j k : ℕ) (a b : Assignment) → slice_get i.given.items j ≡ Some a → slice_get i.given.items k ≡ Some b → number a ≡ number b → j ≡ k
    one j k a b at there same =
        let g = known a (mem_get i.given.items j a at) in
        let h = known b (mem_get i.given.items k b there) in
        let e : g.0.parameter ≡ h.0.parameter = ap parameter_number (sym g.2) ∙ same ∙ ap parameter_number h.2 in
        let p = (is.names (string_bytes a.name.text) (thing.Parameter g.0.parameter)).0 g.2 in
        let q = (is.names (string_bytes b.name.text) (thing.Parameter h.0.parameter)).0 h.2 in
        let s : p.0 ≡ q.0 = Some_same p.0 q.0 (sym p.1 ∙ ap (slice_get inner.parameters.items) e ∙ q.1) in
        unique i.given.items once j k a b at there (sym p.2 ∙ ap (λ (z : InheritedParameter). string_bytes z.parameter.now.name.text) s ∙ q.2)
