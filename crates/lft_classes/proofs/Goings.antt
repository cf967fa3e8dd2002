-- What stays where shapes are made.
use Rattle.std.proofs.Common.{◌≡◌, ◌⊎◌, ◌+◌, ◌<◌, ◌≤◌, ℕ, inl, inr, List, [], ◌∷◌, ◌++◌, Option, Some, None, length, option_map, slice_get, slice_set, refl, sym, ap, subst, ◌∙◌, arith}
use Rattle.std.{specs.Option.option_and_then, proofs.lemmas.{List.length-map, Bool.cases_lt, Option.{option_and_then_some, slice_get_within}}}
use Rattle.lft_lists.proofs.Mapped.{mapped, mapped_from, option_map_some}
use Rattle.lft_lists.proofs.Places.{get_last, get_left, get_push, get_there, get_unwritten, get_written, get_push_cases, get_write_cases, same_some}
use Rattle.lft_classes.specs.declared.{making.Making.Making, scopes.{Class.Class, ReactorNames.ReactorNames}, shapes.{Child.Child, Shape.Shape}}
use Rattle.lft_classes.specs.inner.Below.{IsBelow, itself}
use Rattle.lft_classes.specs.inner.Makings.{AddsShape, AreMadeShapes, AreShapes, GoesOnMaking, HasChildren, IsOfClass, KeepsBut, KeepsNoted, SetsOne}
use Rattle.lft_classes.specs.inner.Built.{Core, IsBuilt, AreBuilt, AreInside, AreNoted, IsChildInstance, IsNoted, core, cores, first_class}
use Rattle.lft_classes.specs.inner.Shapes.{child_at, child_in, inside, tables}

-- the shapes of the one are among those of the other, at the same places
abbrev pub Kept : List Core → List Core → Type 0
Kept cs ds = (i : ℕ) (c : Core) → slice_get cs i ≡ Some c → slice_get ds i ≡ Some c

pub class_kept : (cs ds : List Core) (s r : ℕ) → Kept cs ds → IsOfClass cs s r → IsOfClass ds s r
class_kept cs ds s r kept is = record { core = is.core; is_core = kept s is.core is.is_core; is_of = is.is_of }

pub inside_kept : (scopes : ReactorNames) (cs ds : List Core) (s k : ℕ) (child : Child) → Kept cs ds → IsChildInstance scopes cs s k child → IsChildInstance scopes ds s k child
inside_kept scopes cs ds s k child kept is = record {
  outer = is.outer;
  is_outer = kept s is.outer is.is_outer;
  member = is.member;
  is_member = is.is_member;
  inner = is.inner;
  is_inner = kept child.shape is.inner is.is_inner;
  means = is.means;
  gives = is.gives;
}

-- in one more in which nothing is noted there is nothing
pub inside_push : (rows : List (List (Option Child))) (s k : ℕ) (child : Child) → child_in (rows ++ [] ∷ []) s k ≡ Some child → child_in rows s k ≡ Some child
inside_push rows s k child e = option_and_then_some (λ (children : List (Option Child)). child_at children k) (slice_get (rows ++ [] ∷ []) s) child e (λ (children : List (Option Child)) at is. elim (get_push_cases rows [] s children at) [
  | inl old ↦ ap (option_and_then (λ (cs : List (Option Child)). child_at cs k)) old ∙ is
  | inr last ↦ absurd (let none = ap (λ (cs : List (Option Child)). child_at cs k) last.1 ∙ is in cc)
])

-- the child of which the number of the shape is noted
pub noted_child : (rows : List (List (Option Child))) (s k t : ℕ) → inside rows s k ≡ Some t → (child : Child) × (child_in rows s k ≡ Some child) × (child.shape ≡ t)
noted_child rows s k t e = option_map_some (λ (c : Child). c.shape) (child_in rows s k) t e

pub goes_nowhere : (needs : ℕ → Type 0) (m : Making) → GoesOnMaking needs m m
goes_nowhere needs m = record { scopes = refl; main = refl; made = λ first n all. all; kept = λ i c e. e }

pub goes_weaker : (needs more : ℕ → Type 0) (old new : Making) → ((first : ℕ) → more first → AreMadeShapes old.scopes first old → needs first) → GoesOnMaking needs old new → GoesOnMaking more old new
goes_weaker needs more old new f g = record { scopes = g.scopes; main = g.main; made = λ first m all. g.made first (f first m all) all; kept = g.kept }

module _ (old new : Making) (class : Class) (number : ℕ) (a : AddsShape old new class number) where
  added_kept : Kept (cores old.shapes.items) (cores new.shapes.items)
  added_kept i c e = ap (λ l. slice_get l i) a.shapes ∙ get_push (cores old.shapes.items) a.fresh i c e

  pub added_class : IsOfClass (cores new.shapes.items) number class.number
  added_class =
      let long : number ≡ length (cores old.shapes.items) = a.number_is ∙ sym (length-map old.shapes.items core) in
      record { core = a.fresh; is_core = ap (slice_get (cores new.shapes.items)) long ∙ ap (λ l. slice_get l (length (cores old.shapes.items))) a.shapes ∙ get_last (cores old.shapes.items) a.fresh; is_of = ap (λ (c : Class). c.number) a.is_of }

  split : (i : ℕ) (c : Core) → slice_get (cores new.shapes.items) i ≡ Some c → (slice_get (cores old.shapes.items) i ≡ Some c) ⊎ ((i ≡ length (cores old.shapes.items)) × (a.fresh ≡ c))
  split i c at = get_push_cases (cores old.shapes.items) a.fresh i c (ap (λ l. slice_get l i) (sym a.shapes) ∙ at)

  added_made : (first : ℕ) → IsBelow old.scopes first class.number → AreMadeShapes old.scopes first old → AreMadeShapes old.scopes first new
  added_made first below all = record {
    shapes = record {
      built = λ i c at. elim (split i c at) [ inl was ↦ all.shapes.built i c was | inr last ↦ subst (IsBuilt old.scopes) last.1 a.built ];
      below = λ i c at. elim (split i c at) [ inl was ↦ all.shapes.below i c was | inr last ↦ subst (IsBelow old.scopes first) (sym (ap (λ (d : Class). d.number) a.is_of) ∙ ap (λ (d : Core). d.class.number) last.1) below ];
      inside = λ s k child e. inside_kept old.scopes (cores old.shapes.items) (cores new.shapes.items) s k child added_kept (all.shapes.inside s k child (inside_push (tables old.shapes.items) s k child (ap (λ rows. child_in rows s k) (sym a.empty) ∙ e)));
    };
    known = λ r s e. elim (a.knows r s e) [
      | inl was ↦ class_kept (cores old.shapes.items) (cores new.shapes.items) s r added_kept (all.known r s was)
      | inr this ↦ subst (λ n. IsOfClass (cores new.shapes.items) n r) (sym this.1) (subst (IsOfClass (cores new.shapes.items) number) (sym this.0) added_class)
    ];
  }

  pub goes_added : GoesOnMaking (λ first. IsBelow old.scopes first class.number) old new
  goes_added = record { scopes = a.scopes; main = a.main; made = added_made; kept = added_kept }

-- one step after the other
pub goes_further : (needs : ℕ → Type 0) (one two three : Making) → GoesOnMaking needs one two → GoesOnMaking needs two three → GoesOnMaking needs one three
goes_further needs one two three a b = record {
  scopes = b.scopes ∙ a.scopes;
  main = b.main ∙ a.main;
  made = λ first n all. subst (λ s. AreMadeShapes s first three) a.scopes (b.made first n (subst (λ s. AreMadeShapes s first two) (sym a.scopes) (a.made first n all)));
  kept = λ i c e. b.kept i c (a.kept i c e);
}

-- what is noted in one shape
pub sets_one : (old : List Shape) (number : ℕ) (y : Shape) (children : List (Option Child)) → number < length old → y.children.items ≡ children → SetsOne old (slice_set old number y) number children
sets_one old number y children within is s k child e =
    let rows : Shape → List (Option Child) = λ x. x.children.items in
    option_and_then_some (λ (cs : List (Option Child)). child_at cs k) (slice_get (tables (slice_set old number y)) s) child e (λ (cs : List (Option Child)) at there.
    let from = mapped_from rows (slice_set old number y) s cs at in
    elim (get_write_cases old number s y from.0 within from.1) [
      | inl this ↦ inr (this.0, ap (λ (l : List (Option Child)). child_at l k) (sym is ∙ ap rows this.1 ∙ from.2) ∙ there)
      | inr other ↦ inl (ap (option_and_then (λ (l : List (Option Child)). child_at l k)) (mapped rows old s from.0 other.1 ∙ ap Some from.2) ∙ there)
    ])

pub set_made : (scopes : ReactorNames) (first : ℕ) (old new : Making) (number : ℕ) (children : List (Option Child)) → new.known ≡ old.known → cores new.shapes.items ≡ cores old.shapes.items → SetsOne old.shapes.items new.shapes.items number children → AreMadeShapes scopes first old → ((k : ℕ) (child : Child) → child_at children k ≡ Some child → IsChildInstance scopes (cores old.shapes.items) number k child) → AreMadeShapes scopes first new
set_made scopes first old new number children known same sets all is = record {
  shapes = record {
    built = subst (AreBuilt scopes) (sym same) all.shapes.built;
    below = λ i c at. all.shapes.below i c (ap (λ l. slice_get l i) (sym same) ∙ at);
    inside = λ s k child e. subst (λ cs. IsChildInstance scopes cs s k child) (sym same) (elim (sets s k child e) [
      | inl was ↦ all.shapes.inside s k child was
      | inr this ↦ subst (λ m. IsChildInstance scopes (cores old.shapes.items) m k child) (sym this.0) (is k child this.1)
    ]);
  };
  known = λ r s e. subst (λ cs. IsOfClass cs s r) (sym same) (all.known r s (ap (λ v. slice_get v.items r) (sym known) ∙ e));
}

-- one child more, which is in its member
pub child_push : (Q : ℕ → Child → Type 0) (children : List (Option Child)) (o : Option Child) (number : ℕ) → length children ≡ number → ((k : ℕ) (child : Child) → child_at children k ≡ Some child → Q k child) → ((child : Child) → o ≡ Some child → Q number child) → (k : ℕ) (child : Child) → child_at (children ++ o ∷ []) k ≡ Some child → Q k child
child_push Q children o number long before is k child e = option_and_then_some (λ (x : Option Child). x) (slice_get (children ++ o ∷ []) k) child e (λ x at there. elim (get_push_cases children o k x at) [
  | inl old ↦ before k child (ap (option_and_then (λ (y : Option Child). y)) old ∙ there)
  | inr last ↦ subst (λ n. Q n child) (sym (last.0 ∙ long)) (is child (last.1 ∙ there))
])

-- of none all are made
pub none_made : (m : Making) (first : ℕ) → cores m.shapes.items ≡ [] → tables m.shapes.items ≡ [] → ((r s : ℕ) → slice_get m.known.items r ≡ Some (Some s) → ⊥) → AreMadeShapes m.scopes first m
none_made m first empty bare none = record {
  shapes = record {
    built = subst (AreBuilt m.scopes) (sym empty) (λ i c at. absurd (cc));
    below = subst (λ cs. (i : ℕ) (c : Core) → slice_get cs i ≡ Some c → IsBelow m.scopes first c.class.number) (sym empty) (λ i c at. absurd (cc));
    inside = subst (AreInside m.scopes (cores m.shapes.items)) (sym bare) (λ s k child e. absurd (cc));
  };
  known = λ r s e. absurd (none r s e);
}

-- after the first one others are made
pub made : (before one all : Making) (class : Class) (number : ℕ) → AreMadeShapes before.scopes class.number before → AddsShape before one class number → GoesOnMaking (λ first. Unit {0}) one all → AreShapes before.scopes class.number (cores all.shapes.items) (tables all.shapes.items)
made before one all class number given a g =
    let begun = (goes_added before one class number a).made class.number itself given in
    let ended = g.made class.number tt (subst (λ s. AreMadeShapes s class.number one) (sym a.scopes) begun) in
    subst (λ s. AreShapes s class.number (cores all.shapes.items) (tables all.shapes.items)) a.scopes ended.shapes

pub made_first : (before one all : Making) (class : Class) (number : ℕ) → cores before.shapes.items ≡ [] → AddsShape before one class number → GoesOnMaking (λ first. Unit {0}) one all → first_class (cores all.shapes.items) ≡ Some class
made_first before one all class number empty a g =
    let one_is : slice_get (cores one.shapes.items) 0 ≡ Some a.fresh = ap (λ l. slice_get l 0) (a.shapes ∙ ap (λ l. l ++ a.fresh ∷ []) empty) in
    ap (option_map (λ (c : Core). c.class)) (g.kept 0 a.fresh one_is) ∙ ap Some a.is_of

-- what is noted stays where a shape is put behind others
pub inside_left : (rows more : List (List (Option Child))) (s k t : ℕ) → inside rows s k ≡ Some t → inside (rows ++ more) s k ≡ Some t
inside_left rows more s k t e =
    let number_of : Child → ℕ = λ c. c.shape in
    let child = option_map_some number_of (option_and_then (λ cs. child_at cs k) (slice_get rows s)) t e in
    option_and_then_some (λ cs. child_at cs k) (slice_get rows s) child.0 child.1 (λ cs at there. ap (λ o. option_map number_of (option_and_then (λ l. child_at l k) o)) (get_left rows more s cs at) ∙ ap (option_map number_of) there ∙ ap Some child.2)

pub added_keeps : (old new : Making) (class : Class) (number : ℕ) → AddsShape old new class number → KeepsNoted old.shapes.items new.shapes.items
added_keeps old new class number a s k t e = ap (λ rows. inside rows s k) a.empty ∙ inside_left (tables old.shapes.items) ([] ∷ []) s k t e

-- what is noted in the others stays
pub sets_but : (old : List Shape) (number : ℕ) (y : Shape) → KeepsBut old (slice_set old number y) number
sets_but old number y s k t apart e =
    let rows : Shape → List (Option Child) = λ x. x.children.items in
    let same : slice_get (slice_set old number y) s ≡ slice_get old s = get_unwritten old number s y apart in
    let number_of : Child → ℕ = λ c. c.shape in
    let child = option_map_some number_of (option_and_then (λ cs. child_at cs k) (slice_get (tables old) s)) t e in
    option_and_then_some (λ cs. child_at cs k) (slice_get (tables old) s) child.0 child.1 (λ cs at there.
    let from = mapped_from rows old s cs at in
    ap (λ o. option_map number_of (option_and_then (λ l. child_at l k) o)) (mapped rows (slice_set old number y) s from.0 (same ∙ from.1) ∙ ap Some from.2) ∙ ap (option_map number_of) there ∙ ap Some child.2)

-- and the one has what is noted
pub sets_children : (old : List Shape) (number : ℕ) (y : Shape) (children : List (Option Child)) → number < length old → y.children.items ≡ children → HasChildren (slice_set old number y) number children
sets_children old number y children within is k t e =
    let rows : Shape → List (Option Child) = λ x. x.children.items in
    let number_of : Child → ℕ = λ c. c.shape in
    ap (λ o. option_map number_of (option_and_then (λ l. child_at l k) o)) (mapped rows (slice_set old number y) number y (get_written old number y within) ∙ ap Some is) ∙ e

-- what is noted stays noted
pub noted_kept : (scopes : ReactorNames) (old new : List (List (Option Child))) (s : ℕ) (c : Core) → ((k t : ℕ) → inside old s k ≡ Some t → inside new s k ≡ Some t) → IsNoted scopes old s c → IsNoted scopes new s c
noted_kept scopes old new s c kept is k n m at means = let t = is k n m at means in (t.0, kept k t.0 t.1)

-- a shape is noted in an instance, where none is for want of one alone
pub noted_in : (children : List (Option Child)) (k : ℕ) (N : Type 0) → k < length children → (slice_get children k ≡ Some None → N → ⊥) → N → (child : Child) × (child_at children k ≡ Some child)
noted_in children k N within none is = of there.0 there.1
  where
    there : (o : Option Child) × (slice_get children k ≡ Some o)
    there = get_there children k within

    of : (o : Option Child) → slice_get children k ≡ Some o → (child : Child) × (child_at children k ≡ Some child)
    of (Some child) at = (child, ap (option_and_then (λ o. o)) at)
    of None at = absurd (none at is)

-- one shape more in which all is noted
pub noted_more : (scopes : ReactorNames) (old new : List Shape) (number : ℕ) (here : Core) → slice_get (cores old) number ≡ Some here → Kept (cores old) (cores new) → KeepsBut old new number → ((s : ℕ) (c : Core) → s < number → slice_get (cores old) s ≡ Some c → IsNoted scopes (tables old) s c) → IsNoted scopes (tables new) number here → (s : ℕ) (c : Core) → s < number + 1 → slice_get (cores new) s ≡ Some c → IsNoted scopes (tables new) s c
noted_more scopes old new number here at kept but before is s c lt there = elim (cases_lt s number) [
  | inl l ↦ (
      let within = slice_get_within (cores old) number here at in
      let was = get_there (cores old) s (omega (arith, l, within)) in
      let same : was.0 ≡ c = same_some (slice_get (cores new) s) was.0 c (kept s was.0 was.1) there in
      subst (IsNoted scopes (tables new) s) same (noted_kept scopes (tables old) (tables new) s was.0 (λ k t e. but s k t (λ e2. omega (arith, l, e2)) e) (before s was.0 l was.1))
      )
  | inr g ↦ (
      let e : number ≡ s = omega (arith, lt, g) in
      let same : here ≡ c = same_some (slice_get (cores new) number) here c (kept number here at) (ap (slice_get (cores new)) e ∙ there) in
      subst (λ n. IsNoted scopes (tables new) n c) e (subst (IsNoted scopes (tables new) number) same is)
      )
]

-- behind the last one there is none
pub noted_all : (scopes : ReactorNames) (shapes : List Shape) (number : ℕ) → slice_get shapes number ≡ None → ((s : ℕ) (c : Core) → s < number → slice_get (cores shapes) s ≡ Some c → IsNoted scopes (tables shapes) s c) → AreNoted scopes (cores shapes) (tables shapes)
noted_all scopes shapes number none before s c at = before s c (below (cases_lt s number)) at
  where
    below : (s < number) ⊎ (number ≤ s) → s < number
    below (inl l) = l
    below (inr g) =
        let within = slice_get_within (cores shapes) s c at in
        let long = length-map shapes core in
        let there = get_there shapes number (omega (arith, within, long, g)) in
        absurd (let e = sym none ∙ there.1 in cc)
