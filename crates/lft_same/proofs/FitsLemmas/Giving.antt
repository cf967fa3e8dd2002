-- What is noted for the parameters of an instance is what `new` gives them.
use Rattle.std.proofs.Common.{◌≡◌, ◌<◌, ◌⊎◌, inl, inr, ℕ, Bool, true, false, List, [], ◌∷◌, Option, Some, None, option_map, slice_get, refl, sym, ap, ◌∙◌, arith}
use Rattle.std.specs.Prelude.{cond, find, if◌then◌else◌, string_bytes}
use native.Mathlib.Decide.{dec_lt}
use Rattle.std.proofs.lemmas.{Bool.Decides.eqb_tells, Slice.Eq.bytes_eq-Decides}
use Rattle.lft_lists.proofs.{Members.{Mem, contains_mem, get_mem, mem_contains}, Places.Some_same}
use Rattle.lft_whole.specs.declared.sources.source.SourceFile.{SourceFile}
use Rattle.lft_whole.specs.declared.tree.{Assignment.Assignment, Expression.Expression, Instance.Instance, WrittenValue.WrittenValue}
use Rattle.lft_classes.specs.declared.shapes.{Child.Child, GivenValue.GivenValue, InheritedParameter.InheritedParameter, Shape.Shape}
use Rattle.lft_classes.specs.inner.{Shapes.thing_named, Built.AreGiven, Circles.GivesOnce}
use Rattle.lft_elaborate.specs.inner.Values.{given_to}
use Rattle.lft_same.{specs.{Expanded.Reactors.is_named, inner.Fits.Fits.IsShapeOf}, proofs.FitsLemmas.ClassNames.named_so}
use Rattle.lft_classes.specs.declared.shapes.OwnThing.TheVariants as thing

-- what is given to a parameter is noted
pub to_some : (gs : List GivenValue) (p : ℕ) (v : WrittenValue) → given_to gs p ≡ Some v → (g : GivenValue) × Mem g gs × (g.parameter ≡ p) × (g.value.now.value ≡ v)
to_some [] p v e = absurd (cc)
to_some (g ∷ gs) p v e = elim (eqb_tells g.parameter p) [
  | inl same ↦ (g, inl refl, same.1, Some_same g.value.now.value v (sym (ap (λ (b : Bool). if b then Some g.value.now.value else given_to gs p) same.0) ∙ e))
  | inr other ↦ let r = to_some gs p v (sym (ap (λ (b : Bool). if b then Some g.value.now.value else given_to gs p) other.0) ∙ e) in (r.0, inr r.1, r.2, r.3)
]

pub to_none : (gs : List GivenValue) (p : ℕ) (g : GivenValue) → given_to gs p ≡ None → Mem g gs → g.parameter ≡ p → ⊥
to_none [] p g e m is = absurd m
to_none (h ∷ gs) p g e m is = elim (eqb_tells h.parameter p) [
  | inl same ↦ (let s : Some h.value.now.value ≡ None = sym (ap (λ (b : Bool). if b then Some h.value.now.value else given_to gs p) same.0) ∙ e in cc)
  | inr other ↦ go other.1 (to_none gs p g (sym (ap (λ (b : Bool). if b then Some h.value.now.value else given_to gs p) other.0) ∙ e)) m
]
  where
    go : ((h.parameter ≡ p) → ⊥) → (Mem g gs → g.parameter ≡ p → ⊥) → (h ≡ g) ⊎ Mem g gs → ⊥
    go differs rest (inl q) = differs (ap (λ (k : GivenValue). k.parameter) q ∙ is)
    go differs rest (inr n) = rest n is

-- what a search finds, and what it doesn't
pub find_some : {X : Type 0} (p : X → Bool) (xs : List X) (x : X) → find p xs ≡ Some x → Mem x xs × (p x ≡ true)
find_some p [] x e = absurd (cc)
find_some {X} p (y ∷ xs) x e = go (p y) refl e (find_some p xs x)
  where
    go : (b : Bool) → p y ≡ b → cond b (Some y) (find p xs) ≡ Some x → (find p xs ≡ Some x → Mem x xs × (p x ≡ true)) → Mem x (y ∷ xs) × (p x ≡ true)
    go true t f rest = let s : y ≡ x = Some_same y x f in (inl s, ap p (sym s) ∙ t)
    go false t f rest = let r = rest f in (inr r.0, r.1)

pub find_none : {X : Type 0} (p : X → Bool) (xs : List X) (x : X) → find p xs ≡ None → Mem x xs → p x ≡ true → ⊥
find_none p [] x e m t = absurd m
find_none {X} p (y ∷ xs) x e m t = go (p y) refl e m (find_none p xs x)
  where
    go : (b : Bool) → p y ≡ b → cond b (Some y) (find p xs) ≡ None → (y ≡ x) ⊎ Mem x xs → (find p xs ≡ None → Mem x xs → p x ≡ true → ⊥) → ⊥
    go true u f k rest = let s : Some y ≡ None = f in cc
    go false u f (inl q) rest = let s : false ≡ true = sym u ∙ ap p q ∙ t in cc
    go false u f (inr k) rest = rest f k t

-- what is noted for each parameter is what is written for its name
abbrev pub IsGivenBy : Shape → Child → Instance → Type 0
IsGivenBy inner child i = (p : ℕ) (ip : InheritedParameter) → slice_get inner.parameters.items p ≡ Some ip → given_to child.given.items p ≡ option_map (λ a. a.value.value) (find (λ a. is_named (string_bytes ip.parameter.now.name.text) a.name) i.given.items)

-- no name is given two values
pub unique : (given : List Assignment) → GivesOnce given → (j k : ℕ) (a b : Assignment) → slice_get given j ≡ Some a → slice_get given k ≡ Some b → string_bytes a.name.text ≡ string_bytes b.name.text → j ≡ k
unique given gives j k a b at is same = go (dec_lt j k) (dec_lt k j)
  where
    go : Dec (j < k) → Dec (k < j) → j ≡ k
    go (yes lt) d = absurd (gives b.name.at (record { one = j; first = a; is_first = at; other = k; second = b; is_second = is; later = lt; same = same; stands = refl }))
    go (no n) (yes gt) = absurd (gives a.name.at (record { one = k; first = b; is_first = is; other = j; second = a; is_second = at; later = gt; same = sym same; stands = refl }))
    go (no n) (no m) = omega arith

-- so each parameter has what is written for it
pub given_by : (files : List SourceFile) (inner : Shape) (c : ℕ × ℕ) → IsShapeOf files inner c → (child : Child) (i : Instance) → GivesOnce i.given.items → AreGiven (thing_named inner) i.given.items child.given.items → IsGivenBy inner child i
given_by files inner c is child i once are p ip at = go (find (λ a. is_named (string_bytes ip.parameter.now.name.text) a.name) i.given.items) refl
  where
    q : List ℕ
    q = string_bytes ip.parameter.now.name.text

    means : thing_named inner (string_bytes ip.parameter.now.name.text) ≡ Some (thing.Parameter p)
    means = (is.names (string_bytes ip.parameter.now.name.text) (thing.Parameter p)).1 (ip, at, refl)

    -- what is noted for the parameter is written for its name
    named_p : (g : GivenValue) → Mem g child.given.items → g.parameter ≡ p → (a : Assignment) × Mem a i.given.items × (string_bytes a.name.text ≡ string_bytes ip.parameter.now.name.text) × (g.value.now ≡ a.value)
    named_p g m e =
        let a = are.each g (mem_contains g child.given.items m) in
        let h = (is.names (string_bytes a.0.name.text) (thing.Parameter g.parameter)).0 a.2.0 in
        let s : Some h.0 ≡ Some ip = sym h.1 ∙ ap (slice_get inner.parameters.items) e ∙ at in
        let t : h.0 ≡ ip = cc in
        (a.0, contains_mem a.0 i.given.items a.1, sym h.2 ∙ ap (λ (z : InheritedParameter). string_bytes z.parameter.now.name.text) t, a.2.1)

    one : (a b : Assignment) → Mem a i.given.items → Mem b i.given.items → string_bytes a.name.text ≡ string_bytes b.name.text → a ≡ b
    one a b m n e =
        let j = get_mem a i.given.items m in
        let k = get_mem b i.given.items n in
        let s : j.0 ≡ k.0 = unique i.given.items once j.0 k.0 a b j.1 k.1 e in
        Some_same a b (sym j.1 ∙ ap (slice_get i.given.items) s ∙ k.1)

    go : (o : Option Assignment) → find (λ a. is_named (string_bytes ip.parameter.now.name.text) a.name) i.given.items ≡ o → given_to child.given.items p ≡ option_map (λ a. a.value.value) o
    go None e = lost (given_to child.given.items p) refl
      where
        lost : (v : Option WrittenValue) → given_to child.given.items p ≡ v → v ≡ None
        lost None f = refl
        lost (Some v) f =
            let g = to_some child.given.items p v f in
            let a = named_p g.0 g.1 g.2 in
            absurd (find_none (λ a. is_named (string_bytes ip.parameter.now.name.text) a.name) i.given.items a.0 e a.1 ((bytes_eq-Decides (string_bytes ip.parameter.now.name.text) (string_bytes a.0.name.text)).1 (sym a.2)))
    go (Some a) e = found (given_to child.given.items p) refl
      where
        f : Mem a i.given.items × (is_named (string_bytes ip.parameter.now.name.text) a.name ≡ true)
        f = find_some (λ a. is_named (string_bytes ip.parameter.now.name.text) a.name) i.given.items a e

        so : string_bytes a.name.text ≡ string_bytes ip.parameter.now.name.text
        so = named_so (string_bytes ip.parameter.now.name.text) a.name f.1

        found : (v : Option WrittenValue) → given_to child.given.items p ≡ v → v ≡ Some a.value.value
        found None h =
            let g = are.all a (mem_contains a i.given.items f.0) in
            let s : Some (thing.Parameter g.0.parameter) ≡ Some (thing.Parameter p) = sym g.2.0 ∙ ap (thing_named inner) so ∙ means in
            let t : g.0.parameter ≡ p = cc in
            absurd (to_none child.given.items p g.0 h (contains_mem g.0 child.given.items g.1) t)
        found (Some v) h =
            let g = to_some child.given.items p v h in
            let b = named_p g.0 g.1 g.2 in
            let s : b.0 ≡ a = one b.0 a b.1 f.0 (b.2 ∙ sym so) in
            ap Some (sym g.3 ∙ ap (λ (z : Expression). z.value) b.3 ∙ ap (λ (z : Assignment). z.value.value) s)
