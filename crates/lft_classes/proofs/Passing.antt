-- What a member of a shape needs.
use Rattle.std.proofs.Common.{◌≡◌, ◌↔◌, ◌⊎◌, ◌≤◌, ℕ, zero, suc, Bool, true, false, inl, inr, Contains, List, [], ◌∷◌, Option, Some, None, String, length, replicate, slice_get, string_bytes, refl, sym, ap, subst, ◌∙◌, arith}
use Rattle.std.{specs.Global.Global, proofs.lemmas.Option.slice_get_within}
use Rattle.lft_lists.proofs.Places.{at_contains, contains_at, get_same, get_there, length_same, same_some}
use Rattle.lft_whole.specs.declared.tree.{Assignment.Assignment, Expression.Expression, Instance.Instance, Member.Member, Term.Term, Width.Width}
use Rattle.lft_classes.specs.{declared.shapes.{Child.Child, Inherited.Inherited, Shape.Shape}, Needs.{IsWord, Names, Need, Times, Widths, times_of_member}}
use Rattle.lft_classes.specs.inner.Needs.{AreNeedMarks, HasNeed, IsParameterIn, IsPassed, IsPassedIn, IsTimeIn, Marks, NamesNumber, NamesParameter, PassesOn, IsMarkedNeeded, IsParameter}
use Rattle.lft_classes.specs.inner.Shapes.{child_at}
use Rattle.lft_classes.specs.Shapes.{width_of}
use Rattle.lft_classes.proofs.Marking.{AnyBelow}
use Rattle.lft_whole.specs.declared.tree.Count.TheVariants as count
use Rattle.lft_whole.specs.declared.tree.Member.TheVariants as member
use Rattle.lft_whole.specs.declared.tree.WrittenValue.TheVariants as value
use Rattle.lft_classes.specs.declared.shapes.OwnThing.TheVariants as thing

-- a name is that of one parameter
pub one_number : (shape : Shape) (q : List ℕ) (m n : ℕ) → IsParameter shape q m → IsParameter shape q n → m ≡ n
one_number shape q m n a b = let e : Some (thing.Parameter m) ≡ Some (thing.Parameter n) = sym a ∙ b in cc

-- an expression is one name
one_word : (e : Expression) (p q : List ℕ) → IsWord e p → IsWord e q → p ≡ q
one_word e p q a b =
    let same : value.Word a.word ≡ value.Word b.word = sym a.is_word ∙ b.is_word in
    let word : a.word ≡ b.word = cc in
    sym a.is_name ∙ ap string_bytes word ∙ b.is_name

-- so it is one parameter
one_meant : (shape : Shape) (e : Expression) (m n : ℕ) → IsParameterIn shape e m → IsParameterIn shape e n → m ≡ n
one_meant shape e m n a b = one_number shape b.0 m n (subst (λ q. IsParameter shape q m) (one_word e a.0 b.0 a.1 b.1) a.2) b.2

-- a time that is a parameter
pub time_one : (shape : Shape) (time : Option Expression) (e : Expression) (parameter : ℕ) → time ≡ Some e → IsParameterIn shape e parameter → (n : ℕ) → (n ≡ parameter) ↔ IsTimeIn shape time n
time_one shape time e parameter is means n = (
  λ same. (e, is, subst (IsParameterIn shape e) (sym same) means),
  λ h. one_meant shape e n parameter (subst (λ x. IsParameterIn shape x n) (same_some time h.0 e h.1 is) h.2) means,
)

-- one that is none
pub time_none : (shape : Shape) (time : Option Expression) (e : Expression) → time ≡ Some e → ((n : ℕ) → IsParameterIn shape e n → ⊥) → (n : ℕ) → IsTimeIn shape time n → ⊥
time_none shape time e is none n h = none n (subst (λ x. IsParameterIn shape x n) (same_some time h.0 e h.1 is) h.2)

-- the term is the parameter
abbrev pub IsTermIn : Shape → ℕ → Term → ℕ → Type 0
IsTermIn shape i term n = (word : String Global) × (term.count ≡ count.Word word) × IsParameter shape (string_bytes word) n

-- one that is written as a word
pub term_one : (shape : Shape) (i : ℕ) (term : Term) (word : String Global) (parameter : ℕ) → term.count ≡ count.Word word → IsParameter shape (string_bytes word) parameter → (n : ℕ) → (n ≡ parameter) ↔ IsTermIn shape i term n
term_one shape i term word parameter is named n = (
  λ e. (word, is, subst (IsParameter shape (string_bytes word)) (sym e) named),
  λ h. (
      let both : count.Word h.0 ≡ count.Word word = sym h.1 ∙ is in
      let same : h.0 ≡ word = cc in
      one_number shape (string_bytes word) n parameter (subst (λ (w : String Global). IsParameter shape (string_bytes w) n) same h.2) named
      ),
)

-- the terms of a width that are parameters are those that it names
pub terms_name : (shape : Shape) (width : Option Width) (w : Width) → width ≡ Some w → (n : ℕ) → ((i : ℕ) × ((term : Term) × (slice_get w.terms.items i ≡ Some term) × IsTermIn shape i term n)) ↔ NamesParameter shape width n
terms_name shape width w is n = (
  λ h. (w, is, (string_bytes h.1.2.0, record { which = h.0; term = h.1.0; is_term = h.1.1; word = h.1.2.0; is_word = h.1.2.1; is_name = refl }, h.1.2.2)),
  λ g. (
      let at : Names w g.2.0 = subst (λ v. Names v g.2.0) (same_some width g.0 w g.1 is) g.2.1 in
      (at.which, (at.term, at.is_term, (at.word, at.is_word, subst (λ q. IsParameter shape q n) (sym at.is_name) g.2.2)))
      ),
)

-- what is given to one that is marked, or isn't
pub passed_one : (need : Need) (shape inner : Shape) (assignment : Assignment) (needed parameter : ℕ) (flag : Bool) → IsParameter inner (string_bytes assignment.name.text) needed → IsParameterIn shape assignment.value parameter → (flag ≡ true) ↔ IsMarkedNeeded need inner needed → (n : ℕ) → ((flag ≡ true) × (n ≡ parameter)) ↔ IsPassed need shape inner assignment n
passed_one need shape inner assignment needed parameter flag is means same n = (
  λ h. (needed, is, same.0 h.0, subst (IsParameterIn shape assignment.value) (sym h.1) means),
  λ g. (same.1 (subst (IsMarkedNeeded need inner) (one_number inner (string_bytes assignment.name.text) g.0 needed g.1 is) g.2), one_meant shape assignment.value n parameter g.3 means),
)

-- what a width names is named by the member
width_named : (shape : Shape) (m : Member) (width : Option Width) (n : ℕ) → width_of m ≡ width → NamesParameter shape width n ↔ NamesNumber Widths shape m n
width_named shape m width n has = (λ h. (h.2.0, h.2.2, (h.0, has ∙ h.1, h.2.1)), λ g. (g.2.0, sym has ∙ g.2.1, (g.0, g.2.2, g.1)))

-- one of these times is the parameter
abbrev pub IsAmong : Shape → List (Option Expression) → ℕ → Type 0
IsAmong shape times n = (time : Expression) × Contains times (Some time) × IsParameterIn shape time n

-- of the times of a member
time_named : (shape : Shape) (m : Member) (times : List (Option Expression)) (n : ℕ) → times_of_member m ≡ times → IsAmong shape times n ↔ NamesNumber Times shape m n
time_named shape m times n has = (
  λ h. (h.2.0, h.2.2, (h.0, subst (λ ts. Contains ts (Some h.0)) (sym has) h.1, h.2.1)),
  λ g. (g.2.0, subst (λ ts. Contains ts (Some g.2.0)) has g.2.1, (g.0, g.2.2, g.1)),
)

-- there are none
pub among_none : (shape : Shape) (n : ℕ) → IsAmong shape [] n → ⊥
among_none shape n h = let within = h.1.1 in omega (arith, within)

-- two
pub among_two : (shape : Shape) (one other : Option Expression) (n : ℕ) → (IsTimeIn shape one n ⊎ IsTimeIn shape other n) ↔ IsAmong shape (one ∷ other ∷ []) n
among_two shape one other n = (there, back)
  where
    times : List (Option Expression)
    times = one ∷ other ∷ []

    there : IsTimeIn shape one n ⊎ IsTimeIn shape other n → IsAmong shape times n
    there (inl h) = (h.0, contains_at times 0 (Some h.0) (ap Some h.1), h.2)
    there (inr h) = (h.0, contains_at times 1 (Some h.0) (ap Some h.1), h.2)

    split : (e : Expression) → (i : ℕ) × (slice_get times i ≡ Some (Some e)) → IsParameterIn shape e n → IsTimeIn shape one n ⊎ IsTimeIn shape other n
    split e (zero, at) is = inl (e, cc, is)
    split e (suc zero, at) is = inr (e, cc, is)
    split e (suc (suc i), at) is = absurd (cc)

    back : IsAmong shape times n → IsTimeIn shape one n ⊎ IsTimeIn shape other n
    back g = split g.0 (at_contains times (Some g.0) g.1) g.2

-- a member that is no instance needs what it names
named_alone : (need : Need) (shapes : List Shape) (shape : Shape) (k : ℕ) (m : Member) (n : ℕ) → ((i : Instance) → m ≡ member.Instance i → ⊥) → NamesNumber need shape m n ↔ HasNeed need shapes shape k m n
named_alone need shapes shape k m n none = (λ h. inl h, λ g. elim g [ inl is ↦ is | inr passes ↦ absurd (none passes.instance passes.is_instance) ])

-- an instance of which the shape is known
pub passes_on : (need : Need) (shapes : List Shape) (shape : Shape) (k : ℕ) (instance : Instance) (child : Child) (inner : Shape) (n : ℕ) → child_at shape.children.items k ≡ Some child → slice_get shapes child.shape ≡ Some inner → IsPassedIn need shape inner instance.given.items n ↔ PassesOn need shapes shape k (member.Instance instance) n
passes_on need shapes shape k instance child inner n is found = (
  λ h. record { instance = instance; is_instance = refl; child = child; is_child = is; inner = inner; is_inner = found; is_passed = h },
  λ g. (
      let e = g.is_instance in
      let same : instance ≡ g.instance = cc in
      let one = same_some (child_at shape.children.items k) g.child child g.is_child is in
      let two = same_some (slice_get shapes child.shape) g.inner inner (subst (λ (c : Child). slice_get shapes c.shape ≡ Some g.inner) one g.is_inner) found in
      subst (λ x. IsPassedIn need shape x instance.given.items n) two (subst (λ (i : Instance). IsPassedIn need shape g.inner i.given.items n) (sym same) g.is_passed)
      ),
)

-- one of which no shape is known
abbrev pub HasNone : List Shape → Shape → ℕ → Type 0
HasNone shapes shape k = (child : Child) (inner : Shape) → child_at shape.children.items k ≡ Some child → slice_get shapes child.shape ≡ Some inner → ⊥

-- as where there is no such shape
pub none_inside : (shapes : List Shape) (shape : Shape) (k : ℕ) (child : Child) → child_at shape.children.items k ≡ Some child → slice_get shapes child.shape ≡ None → HasNone shapes shape k
none_inside shapes shape k child is lacks other inner at found =
    let same = same_some (child_at shape.children.items k) other child at is in
    let e : None ≡ Some inner = sym lacks ∙ subst (λ (c : Child). slice_get shapes c.shape ≡ Some inner) same found in
    absurd (cc)

-- what an instance needs for widths
pub inside_widths : (shapes : List Shape) (shape : Shape) (k : ℕ) (instance : Instance) (child : Child) (inner : Shape) → child_at shape.children.items k ≡ Some child → slice_get shapes child.shape ≡ Some inner → (n : ℕ) → (NamesParameter shape instance.width n ⊎ IsPassedIn Widths shape inner instance.given.items n) ↔ HasNeed Widths shapes shape k (member.Instance instance) n
inside_widths shapes shape k instance child inner is found n = (there, back)
  where
    there : NamesParameter shape instance.width n ⊎ IsPassedIn Widths shape inner instance.given.items n → HasNeed Widths shapes shape k (member.Instance instance) n
    there (inl h) = inl ((width_named shape (member.Instance instance) instance.width n refl).0 h)
    there (inr h) = inr ((passes_on Widths shapes shape k instance child inner n is found).0 h)

    back : HasNeed Widths shapes shape k (member.Instance instance) n → NamesParameter shape instance.width n ⊎ IsPassedIn Widths shape inner instance.given.items n
    back (inl g) = inl ((width_named shape (member.Instance instance) instance.width n refl).1 g)
    back (inr g) = inr ((passes_on Widths shapes shape k instance child inner n is found).1 g)

-- and for times
pub inside_times : (shapes : List Shape) (shape : Shape) (k : ℕ) (instance : Instance) (child : Child) (inner : Shape) → child_at shape.children.items k ≡ Some child → slice_get shapes child.shape ≡ Some inner → (n : ℕ) → IsPassedIn Times shape inner instance.given.items n ↔ HasNeed Times shapes shape k (member.Instance instance) n
inside_times shapes shape k instance child inner is found n = (λ h. inr ((passes_on Times shapes shape k instance child inner n is found).0 h), back)
  where
    back : HasNeed Times shapes shape k (member.Instance instance) n → IsPassedIn Times shape inner instance.given.items n
    back (inl g) = absurd (among_none shape n ((time_named shape (member.Instance instance) [] n refl).1 g))
    back (inr g) = (passes_on Times shapes shape k instance child inner n is found).1 g

-- where no shape is known it needs what its width names
pub outside_widths : (shapes : List Shape) (shape : Shape) (k : ℕ) (instance : Instance) → HasNone shapes shape k → (n : ℕ) → NamesParameter shape instance.width n ↔ HasNeed Widths shapes shape k (member.Instance instance) n
outside_widths shapes shape k instance none n = (λ h. inl ((width_named shape (member.Instance instance) instance.width n refl).0 h), back)
  where
    back : HasNeed Widths shapes shape k (member.Instance instance) n → NamesParameter shape instance.width n
    back (inl g) = (width_named shape (member.Instance instance) instance.width n refl).1 g
    back (inr g) = absurd (none g.child g.inner g.is_child g.is_inner)

-- and nothing for times
pub outside_times : (shapes : List Shape) (shape : Shape) (k : ℕ) (instance : Instance) → HasNone shapes shape k → (n : ℕ) → HasNeed Times shapes shape k (member.Instance instance) n → ⊥
outside_times shapes shape k instance none n (inl g) = among_none shape n ((time_named shape (member.Instance instance) [] n refl).1 g)
outside_times shapes shape k instance none n (inr g) = none g.child g.inner g.is_child g.is_inner

-- the needs of a member that is no instance, by its width
pub width_needed : (shapes : List Shape) (shape : Shape) (k : ℕ) (m : Member) (width : Option Width) → width_of m ≡ width → ((i : Instance) → m ≡ member.Instance i → ⊥) → (n : ℕ) → NamesParameter shape width n ↔ HasNeed Widths shapes shape k m n
width_needed shapes shape k m width has none n =
    let a = width_named shape m width n has in
    let b = named_alone Widths shapes shape k m n none in
    (λ h. b.0 (a.0 h), λ g. a.1 (b.1 g))

-- by its times
pub time_needed : (shapes : List Shape) (shape : Shape) (k : ℕ) (m : Member) (times : List (Option Expression)) → times_of_member m ≡ times → ((i : Instance) → m ≡ member.Instance i → ⊥) → (n : ℕ) → IsAmong shape times n ↔ HasNeed Times shapes shape k m n
time_needed shapes shape k m times has none n =
    let a = time_named shape m times n has in
    let b = named_alone Times shapes shape k m n none in
    (λ h. b.0 (a.0 h), λ g. a.1 (b.1 g))

-- what is marked, where nothing was
pub marked_all : (need : Need) (shapes : List Shape) (shape : Shape) (count bound : ℕ) (old new : List Bool) → count ≡ length shape.parameters.items → old ≡ replicate count false → length shape.members.items ≤ bound → Marks (AnyBelow (λ k (m : Inherited). HasNeed need shapes shape k m.member.now) shape.members.items bound) old new → AreNeedMarks need shapes shape new
marked_all need shapes shape count bound old new long none all a = record {
  count = a.count ∙ ap length none ∙ length_same count false ∙ long;
  each = λ n at. (elim (a.each n at) [
    | inl was ↦ (let e : true ≡ false = get_same count n false true (subst (λ l. slice_get l n ≡ Some true) none was) in absurd (cc))
    | inr h ↦ (h.0, (h.1.0, h.1.2, h.1.3))
  ]);
  all = λ n k m was at is_member needs. (
      let within = slice_get_within new n was at in
      let there = get_there old n (omega (arith, within, a.count)) in
      let before = slice_get_within shape.members.items k m is_member in
      a.all n there.0 there.1 (k, (m, omega (arith, before, all), is_member, needs)));
}
