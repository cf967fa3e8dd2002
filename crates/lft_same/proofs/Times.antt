-- Core instances have the times of the instances that they stand for.
use Rattle.std.proofs.Common.{◌≡◌, ℕ, zero, suc, eqb, ◌⊎◌, inl, inr, Bool, true, false, List, [], ◌∷◌, length, map, Option, Some, None, Contains, IsSomeAnd, IfSome, ◌≤◌, filter_map, option_map, slice_get, refl, sym, ap, subst, ◌∙◌}
use Rattle.std.specs.Prelude.{◌&&◌, bytes_eq, find, if◌then◌else◌, is_some, not, string_bytes, unwrap_or}
use Rattle.std.{specs.{List.cons_option, Option.{option_and_then, option_map_or}}, proofs.lemmas.{Bool.Decides.eqb_tells, Slice.Eq.bytes_eq-Decides}}
use Rattle.lft_lists.proofs.{Mapped.{mapped, option_map_some}, Members.{Mem, contains_mem, get_mem, mem_contains, mem_from_filter, mem_from_map}}
use Rattle.lft_lists.proofs.Places.{Some_same, same_some}
use Rattle.lft_tree.specs.{Tree.{AssignmentTree, ParameterTree, ReactorTree, TimeTree, Written, Named, nanoseconds}, declared.tree.Time.Time}
use Rattle.lft_resolve.specs.Causes.{longest}
use Rattle.lft_resolve.specs.Instances.{Inside as CoreInside, given_in as core_given_in, given_or_default as core_given_or_default, main_instance as core_main, time_in as core_time_in, value_of}
use Rattle.lft_program.{proofs.{FullNames.all_at, Zipping.then_some}, specs.Flattening.time_or_zero}
use Rattle.lft_whole.specs.declared.sources.source.SourceFile.{SourceFile}
use Rattle.lft_whole.specs.declared.tree.{Assignment.Assignment, Expression.Expression, Instance.Instance, WrittenValue.WrittenValue}
use Rattle.lft_classes.specs.declared.shapes.{Child.Child, GivenValue.GivenValue, InheritedParameter.InheritedParameter, Shape.Shape}
use Rattle.lft_classes.specs.inner.{Built.AreGiven, Circles.GivesOnce, Shapes.{child_at, thing_named}}
use Rattle.lft_classes.proofs.Rows.{map_alike}
use Rattle.lft_elaborate.specs.inner.{Meanings.shape_inside, Values.{Valued, given_to, inside, main_setting, main_values as main_values_of}}
use Rattle.lft_elaborate.specs.{Values.is_forever, Channels.Channels.below}
use Rattle.lft_lower.specs.inner.Meanings.Meanings.{Here}
use Rattle.lft_lower.specs.inner.Lowered.{AreTimesGiven, IsGiven, IsPeriod, IsRead, assigned, given_times, period_at, time_at, time_given}
use Rattle.lft_lower.specs.inner.Needed.{GivesEachOnce, GivesNeeded, is_bare, is_needed, is_timed}
use Rattle.lft_lower.specs.inner.Reactors.{AreShapesOfFiles, HasDefault, IsDefault, default_time, parameter_tree, timed_parameter, timed_parameters}
use Rattle.lft_lower.specs.inner.Times.{IsTime, IsWrittenTime, time_for, time_of_value}
use Rattle.lft_same.specs.Expanded.Instances.{Inside, default_of, value_given_in, value_or_default, inside_of, main_class_instance, period_in, read_in, time_of, value_named, time_written_in as whole_time_in}
use Rattle.lft_same.specs.Expanded.{Reactors.{Class, class_named, is_named, main_of, members_of, parameters_of}, Taken.{IsPeriodIn, IsTimeIn, IsTimeValue}}
use Rattle.lft_same.specs.inner.{Fits.Fits.{Fits, IsShapeOf}, Times.{HasParameterTimes, HaveTimeValues, IsKnown, time_named}}
use Rattle.lft_same.proofs.FitsLemmas.{Fitting.parameter_is, Giving.{IsGivenBy, find_some, to_some}, Once.given_once, MemberNames.value_found}
use Rattle.lft_same.proofs.FitsLemmas.Nested.{given_law, main_law}
use Rattle.lft_whole.specs.declared.tree.Member.TheVariants as member
use Rattle.lft_whole.specs.declared.tree.WrittenValue.TheVariants as value
use Rattle.lft_classes.specs.declared.shapes.OwnThing.TheVariants as thing

-- ---- reading

-- the value of a parameter where each has the value of its name
value_by : (f : List ℕ → ℕ) (ps : List ParameterTree) (q : List ℕ) → Mem q (map (λ p. p.name) ps) → value_of ps (map (λ p. f p.name) ps) q ≡ f q
value_by f [] q m = absurd m
value_by f (p ∷ ps) q m = go (bytes_eq q p.name) refl m (value_by f ps q)
  where
    go : (b : Bool) → bytes_eq q p.name ≡ b → (p.name ≡ q) ⊎ Mem q (map (λ p. p.name) ps) → (Mem q (map (λ p. p.name) ps) → value_of ps (map (λ p. f p.name) ps) q ≡ f q) → (if b then f p.name else value_of ps (map (λ p. f p.name) ps) q) ≡ f q
    go true e n rest = ap f (sym ((bytes_eq-Decides q p.name).0 e))
    go false e (inl s) rest = absurd (let t : false ≡ true = sym e ∙ (bytes_eq-Decides q p.name).1 (sym s) in cc)
    go false e (inr n) rest = rest n

-- a time that is written out
time_is : (v : WrittenValue) (t : Time) → time_of_value v ≡ Some t → nanoseconds t ≡ time_of v
time_is (value.Number false count (Some unit)) t e = let s : Some (record { count = count; unit = Some unit }) ≡ Some t = e in ap nanoseconds (sym (Some_same (record { count = count; unit = Some unit }) t s))
time_is (value.Number false zero None) t e = let s : Some (record { count = 0; unit = None }) ≡ Some t = e in ap nanoseconds (sym (Some_same (record { count = 0; unit = None }) t s))
time_is (value.Number false (suc n) None) t e = absurd (cc)
time_is (value.Number true n unit) t e = absurd (cc)
time_is (value.Word q) t e = absurd (cc)
time_is value.Code t e = absurd (cc)
time_is value.Other t e = absurd (cc)

-- what becomes of a value is read as its time
read_time : (files : List SourceFile) (x : Inside) (core : CoreInside) (v : WrittenValue) (t : TimeTree) → HasParameterTimes files x core → time_for v ≡ Some t → IsKnown core.reactor.parameters t → core_time_in core t ≡ option_map_or time_of (read_in files x v) 0
read_time files x core (value.Word q) t has e known =
    let s : Named (string_bytes q) ≡ t = Some_same (Named (string_bytes q)) t e in
    let k : Contains (map (λ p. p.name) core.reactor.parameters) (string_bytes q) = subst (IsKnown core.reactor.parameters) (sym s) known in
    ap (core_time_in core) (sym s) ∙ ap (λ vs. value_of core.reactor.parameters vs (string_bytes q)) has ∙ value_by (time_named files x) core.reactor.parameters (string_bytes q) (contains_mem (string_bytes q) (map (λ p. p.name) core.reactor.parameters) k)
read_time files x core (value.Number negative n unit) t has e known =
    let w = option_map_some Written (time_of_value (value.Number negative n unit)) t e in
    ap (core_time_in core) (sym w.2) ∙ time_is (value.Number negative n unit) w.0 w.1
read_time files x core value.Code t has e known = absurd (cc)
read_time files x core value.Other t has e known = absurd (cc)

-- what can be read as a time becomes one
pub becomes : (shape : Shape) (v : WrittenValue) → IsTime shape v → (t : TimeTree) × (time_for v ≡ Some t)
becomes shape (value.Word q) is = (Named (string_bytes q), refl)
becomes shape (value.Number negative n unit) is = go (time_of_value (value.Number negative n unit)) is
  where
    go : (o : Option Time) → IsSomeAnd o (λ time. nanoseconds time ≤ longest) → (t : TimeTree) × (option_map Written o ≡ Some t)
    go None is = absurd is
    go (Some t) is = (Written t, refl)
becomes shape value.Code is = absurd is
becomes shape value.Other is = absurd is

pub time_law : (files : List SourceFile) (x : Inside) (core : CoreInside) (shape : Shape) (e : Option Expression) → HasParameterTimes files x core → IsRead shape e → ((t : TimeTree) → time_at e ≡ Some t → IsKnown core.reactor.parameters t) → time_or_zero core (time_at e) ≡ whole_time_in files x e
time_law files x core shape None has is known = refl
time_law files x core shape (Some e) has is known =
    let t = becomes shape e.value is in
    ap (time_or_zero core) t.1 ∙ read_time files x core e.value t.0 has t.1 (known t.0 t.1)

pub period_law : (files : List SourceFile) (x : Inside) (core : CoreInside) (shape : Shape) (e : Option Expression) → HasParameterTimes files x core → IsPeriod shape e → ((t : TimeTree) → period_at e ≡ Some t → IsKnown core.reactor.parameters t) → time_or_zero core (period_at e) ≡ period_in files x e
period_law files x core shape None has is known = refl
period_law files x core shape (Some e) has is known = go (is_forever e.value) refl is known
  where
    go : (b : Bool) → is_forever e.value ≡ b → (b ≡ false → IsTime shape e.value) → ((t : TimeTree) → (if b then None else time_for e.value) ≡ Some t → IsKnown core.reactor.parameters t) → time_or_zero core (if b then None else time_for e.value) ≡ (if b then 0 else whole_time_in files x (Some e))
    go true f is known = refl
    go false f is known = time_law files x core shape (Some e) has (is refl) known

-- ---- what is given

module _ (outer inner : Shape) (n : ℕ) (ip : InheritedParameter) (at : slice_get inner.parameters.items n ≡ Some ip) (timed : is_timed inner n ≡ true) (alone : (k : ℕ) (other : InheritedParameter) → slice_get inner.parameters.items k ≡ Some other → string_bytes ip.parameter.now.name.text ≡ string_bytes other.parameter.now.name.text → k ≡ n) where
  abbrev q : List ℕ
  q = string_bytes ip.parameter.now.name.text

  abbrev given_tree : InheritedParameter → TimeTree → AssignmentTree
  given_tree p time = record { name = string_bytes p.parameter.now.name.text; value = time }

  -- what is found for a value that is given
  abbrev IsFound : Option WrittenValue → Option AssignmentTree → Type 0
  IsFound None a = a ≡ None
  IsFound (Some v) a = (t : TimeTree) × (time_for v ≡ Some t) × (a ≡ Some (given_tree ip t))

  -- a time is given to a parameter
  of_parameter : (g : GivenValue) (a : AssignmentTree) → time_given inner g ≡ Some a → (p : InheritedParameter) × (slice_get inner.parameters.items g.parameter ≡ Some p) × (a.name ≡ string_bytes p.parameter.now.name.text)
  of_parameter g a e = go (is_timed inner g.parameter) e
    where
      go : (b : Bool) → (if b then assigned inner g else None) ≡ Some a → (p : InheritedParameter) × (slice_get inner.parameters.items g.parameter ≡ Some p) × (a.name ≡ string_bytes p.parameter.now.name.text)
      go false f = absurd (cc)
      go true f =
          let p = then_some (λ (p : InheritedParameter). option_map (given_tree p) (time_for g.value.now.value)) (slice_get inner.parameters.items g.parameter) a f in
          let t = option_map_some (given_tree p.0) (time_for g.value.now.value) a p.2 in
          (p.0, p.1, ap (λ (z : AssignmentTree). z.name) (sym t.2))

  found : (gs : List GivenValue) → ((g : GivenValue) → Mem g gs → IsGiven outer inner g) → IsFound (given_to gs n) (find (λ a. bytes_eq q a.name) (filter_map (time_given inner) gs))
  found [] each = refl
  found (g ∷ gs) each = by (eqb_tells g.parameter n) (found gs (λ h m. each h (inr m)))
    where
      past : ((g.parameter ≡ n) → ⊥) → (o : Option AssignmentTree) → time_given inner g ≡ o → IsFound (given_to gs n) (find (λ a. bytes_eq q a.name) (filter_map (time_given inner) gs)) → IsFound (given_to gs n) (find (λ a. bytes_eq q a.name) (cons_option o (filter_map (time_given inner) gs)))
      past differs None e rest = rest
      past differs (Some a) e rest = go (bytes_eq q a.name) refl
        where
          p : (p : InheritedParameter) × (slice_get inner.parameters.items g.parameter ≡ Some p) × (a.name ≡ string_bytes p.parameter.now.name.text)
          p = of_parameter g a e

          go : (b : Bool) → bytes_eq q a.name ≡ b → IsFound (given_to gs n) (if b then Some a else find (λ a. bytes_eq q a.name) (filter_map (time_given inner) gs))
          go false f = rest
          go true f = absurd (differs (alone g.parameter p.0 p.1 ((bytes_eq-Decides q a.name).0 f ∙ p.2)))

      here : (if true then Some g.value.now.value else given_to gs n) ≡ given_to (g ∷ gs) n → g.parameter ≡ n → IsFound (given_to (g ∷ gs) n) (find (λ a. bytes_eq q a.name) (filter_map (time_given inner) (g ∷ gs)))
      here is e = go (time_for g.value.now.value) refl
        where
          marked : is_timed inner g.parameter ≡ true
          marked = ap (is_timed inner) e ∙ timed

          assigned_is : assigned inner g ≡ option_map (given_tree ip) (time_for g.value.now.value)
          assigned_is = ap (option_and_then (λ (p : InheritedParameter). option_map (given_tree p) (time_for g.value.now.value))) (ap (slice_get inner.parameters.items) e ∙ at)

          given_is : time_given inner g ≡ assigned inner g
          given_is = ap (λ (b : Bool). if b then assigned inner g else None) marked

          go : (o : Option TimeTree) → time_for g.value.now.value ≡ o → IsFound (given_to (g ∷ gs) n) (find (λ a. bytes_eq q a.name) (filter_map (time_given inner) (g ∷ gs)))
          go None f = absurd (let s : is_some (assigned inner g) ≡ false = ap is_some (assigned_is ∙ ap (option_map (given_tree ip)) f) in let t = (each g (inl refl) marked).0 in let u : false ≡ true = sym s ∙ t in cc)
          go (Some t) f = subst (λ o. IsFound o (find (λ a. bytes_eq q a.name) (filter_map (time_given inner) (g ∷ gs)))) is (t, f, ap (λ o. find (λ (a : AssignmentTree). bytes_eq q a.name) (cons_option o (filter_map (time_given inner) gs))) (given_is ∙ assigned_is ∙ ap (option_map (given_tree ip)) f) ∙ ap (λ (b : Bool). if b then Some (given_tree ip t) else find (λ a. bytes_eq q a.name) (filter_map (time_given inner) gs)) ((bytes_eq-Decides q q).1 refl))

      by : ((eqb g.parameter n ≡ true) × (g.parameter ≡ n)) ⊎ ((eqb g.parameter n ≡ false) × ((g.parameter ≡ n) → ⊥)) → IsFound (given_to gs n) (find (λ a. bytes_eq q a.name) (filter_map (time_given inner) gs)) → IsFound (given_to (g ∷ gs) n) (find (λ a. bytes_eq q a.name) (filter_map (time_given inner) (g ∷ gs)))
      by (inl same) rest = here (ap (λ (b : Bool). if b then Some g.value.now.value else given_to gs n) (sym same.0)) same.1
      by (inr other) rest = subst (λ (b : Bool). IsFound (if b then Some g.value.now.value else given_to gs n) (find (λ a. bytes_eq q a.name) (filter_map (time_given inner) (g ∷ gs)))) (sym other.0) (past other.1 (time_given inner g) refl rest)

-- ---- the parameters of a core reactor

abbrev with_default : InheritedParameter → Time → ParameterTree
with_default ip time = record { name = string_bytes ip.parameter.now.name.text; default = time }

-- a parameter is that of a shape, and a time is read from it
record IsTimed (shape : Shape) (p : ParameterTree) : Type 0 where
  n : ℕ
  ip : InheritedParameter
  at : slice_get shape.parameters.items n ≡ Some ip
  timed : is_timed shape n ≡ true
  name : p.name ≡ string_bytes ip.parameter.now.name.text
  default : nanoseconds p.default ≡ option_map_or time_of (default_of ip.parameter.now) 0

is_timed_one : (shape : Shape) (p : ParameterTree) → Mem p (timed_parameters shape) → IsTimed shape p
is_timed_one shape p stands = go m.0 (is_timed shape m.0) refl m.2
  where
    m : (n : ℕ) × Mem n (below (length shape.parameters.items)) × (timed_parameter shape n ≡ Some p)
    m = mem_from_filter (timed_parameter shape) (below (length shape.parameters.items)) p stands

    default_is : (e : Option Expression) (t : Time) → default_time e ≡ Some t → nanoseconds t ≡ option_map_or time_of (option_map (λ e. e.value) e) 0
    default_is None t e = let s : Some (record { count = 0; unit = None }) ≡ Some t = e in ap nanoseconds (sym (Some_same (record { count = 0; unit = None }) t s))
    default_is (Some v) t e = time_is v.value t e

    go : (n : ℕ) (b : Bool) → is_timed shape n ≡ b → (if b then option_and_then parameter_tree (slice_get shape.parameters.items n) else None) ≡ Some p → IsTimed shape p
    go n false is f = absurd (cc)
    go n true is f =
        let ip = then_some parameter_tree (slice_get shape.parameters.items n) p f in
        let t = option_map_some (with_default ip.0) (default_time ip.0.parameter.now.default) p ip.2 in
        record {
          n = n;
          ip = ip.0;
          at = ip.1;
          timed = is;
          name = ap (λ (z : ParameterTree). z.name) (sym t.2);
          default = ap (λ (z : ParameterTree). nanoseconds z.default) (sym t.2) ∙ default_is ip.0.parameter.now.default t.0 t.1;
        }

module _ (files : List SourceFile) (shape : Shape) (x : Inside) (is : IsShapeOf files shape x.class) where
  -- a parameter has the value at its place
  value_there : (p : ParameterTree) (one : IsTimed shape p) (v : Option WrittenValue) → slice_get x.values one.n ≡ Some v → time_named files x p.name ≡ option_map_or time_of v 0
  value_there p one v has = ap (λ o. option_map_or time_of o 0) (ap (value_named files x) one.name ∙ value_found files shape x is (string_bytes one.ip.parameter.now.name.text) one.n v ((is.names (string_bytes one.ip.parameter.now.name.text) (thing.Parameter one.n)).1 (one.ip, one.at, refl)) has)

  alone : (n : ℕ) (ip : InheritedParameter) → slice_get shape.parameters.items n ≡ Some ip → (k : ℕ) (other : InheritedParameter) → slice_get shape.parameters.items k ≡ Some other → string_bytes ip.parameter.now.name.text ≡ string_bytes other.parameter.now.name.text → k ≡ n
  alone n ip at k other there same =
      let a : thing_named shape (string_bytes ip.parameter.now.name.text) ≡ Some (thing.Parameter n) = (is.names (string_bytes ip.parameter.now.name.text) (thing.Parameter n)).1 (ip, at, refl) in
      let b : thing_named shape (string_bytes other.parameter.now.name.text) ≡ Some (thing.Parameter k) = (is.names (string_bytes other.parameter.now.name.text) (thing.Parameter k)).1 (other, there, refl) in
      let s : Some (thing.Parameter k) ≡ Some (thing.Parameter n) = sym b ∙ ap (thing_named shape) (sym same) ∙ a in cc

-- ---- the laws

abbrev written_name : InheritedParameter → List ℕ
written_name ip = string_bytes ip.parameter.now.name.text

-- the instance of a reactor that `new` makes
abbrev pub made_of : List SourceFile → Inside → Instance → Class → Inside
made_of files x i c = record { class = c; values = map (value_given_in files x i.given.items) (parameters_of files c) }

-- the parameters of the reactor that `new` names have the times of what is given to them
inner_times : (files : List SourceFile) (outer inner : Shape) (x : Inside) (core : CoreInside) (child : Child) (i : Instance) (c : Class) → IsShapeOf files inner c → HasParameterTimes files x core → IsGivenBy inner child i → ((g : GivenValue) → Mem g child.given.items → IsGiven outer inner g) → ((a : AssignmentTree) → Contains (given_times inner child) a → IsKnown core.reactor.parameters a.value) → (p : ParameterTree) → Mem p (timed_parameters inner) → core_given_in core (given_times inner child) p ≡ time_named files (made_of files x i c) p.name
inner_times files outer inner x core child i c of_inner has given_by gives known p stands = named ∙ picked (find (λ a. is_named (written_name one.ip) a.name) i.given.items) refl ∙ sym value_is
  where
    one : IsTimed inner p
    one = is_timed_one inner p stands

    named : core_given_in core (given_times inner child) p ≡ core_given_or_default core p (find (λ a. bytes_eq (written_name one.ip) a.name) (given_times inner child))
    named = ap (λ n. core_given_or_default core p (find (λ (a : AssignmentTree). bytes_eq n a.name) (given_times inner child))) one.name

    value_is : time_named files (made_of files x i c) p.name ≡ option_map_or time_of (value_given_in files x i.given.items one.ip.parameter.now) 0
    value_is = value_there files inner (made_of files x i c) of_inner p one (value_given_in files x i.given.items one.ip.parameter.now) (mapped (value_given_in files x i.given.items) (parameters_of files c) one.n one.ip.parameter.now (parameter_is files inner c of_inner one.n one.ip one.at))

    is_found : IsFound outer inner one.n one.ip one.at one.timed (alone files inner (made_of files x i c) of_inner one.n one.ip one.at) (given_to child.given.items one.n) (find (λ a. bytes_eq (written_name one.ip) a.name) (given_times inner child))
    is_found = found outer inner one.n one.ip one.at one.timed (alone files inner (made_of files x i c) of_inner one.n one.ip one.at) child.given.items gives

    picked : (o : Option Assignment) → find (λ a. is_named (written_name one.ip) a.name) i.given.items ≡ o → core_given_or_default core p (find (λ a. bytes_eq (written_name one.ip) a.name) (given_times inner child)) ≡ option_map_or time_of (value_or_default files x one.ip.parameter.now (find (λ a. is_named (written_name one.ip) a.name) i.given.items)) 0
    picked None e =
        let g : given_to child.given.items one.n ≡ None = given_by one.n one.ip one.at ∙ ap (option_map (λ (a : Assignment). a.value.value)) e in
        let f : find (λ a. bytes_eq (written_name one.ip) a.name) (given_times inner child) ≡ None = subst (λ o. IsFound outer inner one.n one.ip one.at one.timed (alone files inner (made_of files x i c) of_inner one.n one.ip one.at) o (find (λ a. bytes_eq (written_name one.ip) a.name) (given_times inner child))) g is_found in
        ap (core_given_or_default core p) f ∙ one.default ∙ ap (λ o. option_map_or time_of (value_or_default files x one.ip.parameter.now o) 0) (sym e)
    picked (Some a) e =
        let g : given_to child.given.items one.n ≡ Some a.value.value = given_by one.n one.ip one.at ∙ ap (option_map (λ (a : Assignment). a.value.value)) e in
        let f : (t : TimeTree) × (time_for a.value.value ≡ Some t) × (find (λ a. bytes_eq (written_name one.ip) a.name) (given_times inner child) ≡ Some (given_tree outer inner one.n one.ip one.at one.timed (alone files inner (made_of files x i c) of_inner one.n one.ip one.at) one.ip t)) = subst (λ o. IsFound outer inner one.n one.ip one.at one.timed (alone files inner (made_of files x i c) of_inner one.n one.ip one.at) o (find (λ a. bytes_eq (written_name one.ip) a.name) (given_times inner child))) g is_found in
        let b : AssignmentTree = record { name = (written_name one.ip); value = f.0 } in
        let k : IsKnown core.reactor.parameters f.0 = known b (mem_contains b (given_times inner child) (find_some (λ (a : AssignmentTree). bytes_eq (written_name one.ip) a.name) (given_times inner child) b f.2).0) in
        ap (core_given_or_default core p) f.2 ∙ read_time files x core a.value.value f.0 has f.1 k ∙ ap (λ o. option_map_or time_of (value_or_default files x one.ip.parameter.now o) 0) (sym e)

-- the first shape is of the main reactor
main_shape : (files : List SourceFile) (shapes : List Shape) (shape : Shape) (c : Class) → AreShapesOfFiles files shapes → slice_get shapes 0 ≡ Some shape → main_of files ≡ Some c → IsShapeOf files shape c
main_shape files shapes shape c (scopes, n, is, same) first main = subst (λ d. IsShapeOf files shape d) (same_some (main_of files) fits.0 c fits.1 main) (subst (λ s. IsShapeOf files s fits.0) (same_some (slice_get n.shapes.items 0) fits.2.shape shape fits.2.is_shape at_first) fits.2.of_class)
  where
    at_first : slice_get n.shapes.items 0 ≡ Some shape
    at_first = ap (λ l. slice_get l 0) same ∙ first

    t : (t : Valued) × (main_setting n.shapes.items ≡ Some t)
    t = (record { shape = 0; values = main_values_of shape }, ap (option_map (λ main. record { shape = 0; values = main_values_of main })) at_first)

    fits : (d : Class) × (main_of files ≡ Some d) × Fits files n.shapes.items t.0 (main_class_instance files d)
    fits = main_law files scopes n is t.0 t.1

pub main_times : (files : List SourceFile) (shapes : List Shape) (shape : Shape) (c : Class) (r : ReactorTree) → AreShapesOfFiles files shapes → slice_get shapes 0 ≡ Some shape → main_of files ≡ Some c → r.parameters ≡ timed_parameters shape → HasParameterTimes files (main_class_instance files c) (core_main r)
main_times files shapes shape c r are first main parameters = map_alike (λ (p : ParameterTree). nanoseconds p.default) (λ p. time_named files (main_class_instance files c) p.name) r.parameters (λ p m. each p (subst (Mem p) parameters m))
  where
    of_main : IsShapeOf files shape c
    of_main = main_shape files shapes shape c are first main

    each : (p : ParameterTree) → Mem p (timed_parameters shape) → nanoseconds p.default ≡ time_named files (main_class_instance files c) p.name
    each p m =
        let one = is_timed_one shape p m in
        one.default ∙ sym (value_there files shape (main_class_instance files c) of_main p one (default_of one.ip.parameter.now) (mapped default_of (parameters_of files c) one.n one.ip.parameter.now (parameter_is files shape c of_main one.n one.ip one.at)))

-- an instance is made of the reactor of the shape in it, with what is given
pub record IsInsideGiven (files : List SourceFile) (x y : Inside) (child : Child) (shape : Shape) (i : Instance) : Type 0 where
  pub class : Class
  pub of_inner : IsShapeOf files shape class
  pub given_by : IsGivenBy shape child i
  pub once : GivesEachOnce child.given.items
  pub gives : GivesOnce i.given.items × AreGiven (thing_named shape) i.given.items child.given.items
  pub made : made_of files x i class ≡ y

pub inside_given : (files : List SourceFile) (h : Here) (t u : Valued) (x y : Inside) (m file : ℕ) (i : Instance) → AreShapesOfFiles files h.settings.shapes.items → slice_get h.settings.shapes.items t.shape ≡ Some h.shape → Fits files h.settings.shapes.items t x → slice_get (members_of files x.class) m ≡ Some (file, member.Instance i) → inside h.settings.shapes.items t m ≡ Some u → inside_of files x (file, i) ≡ Some y → (child : Child) (shape : Shape) → child_at h.shape.children.items m ≡ Some child → shape_inside h.settings.shapes.items h.shape m ≡ Some shape → IsInsideGiven files x y child shape i
inside_given files h t u x y m file i (scopes, n, is, same) is_shape fits at in_u is_y child shape is_child is_inner = record { class = law.4; of_inner = of_inner; given_by = given_by; once = given_once files shape law.4 of_inner child i gives.0 gives.1; gives = gives; made = made_is }
  where
    here : Fits files n.shapes.items t x
    here = subst (λ l. Fits files l t x) (sym same) fits

    law : (child : Child) × (child_at here.shape.children.items m ≡ Some child) × (inner : Shape) × (slice_get n.shapes.items child.shape ≡ Some inner) × (c : Class) × (class_named files file (string_bytes i.reactor.text) ≡ Some c) × IsShapeOf files inner c × IsGivenBy inner child i × GivesOnce i.given.items × AreGiven (thing_named inner) i.given.items child.given.items
    law = given_law files scopes n is t u x m file i here at (ap (λ l. inside l t m) same ∙ in_u)

    outer_same : here.shape ≡ h.shape
    outer_same = same_some (slice_get n.shapes.items t.shape) here.shape h.shape here.is_shape (ap (λ l. slice_get l t.shape) same ∙ is_shape)

    child_same : law.0 ≡ child
    child_same = same_some (child_at h.shape.children.items m) law.0 child (ap (λ (s : Shape). child_at s.children.items m) (sym outer_same) ∙ law.1) is_child

    shape_at : slice_get h.settings.shapes.items child.shape ≡ Some shape
    shape_at = sym (ap (option_and_then (λ (c : Child). slice_get h.settings.shapes.items c.shape)) is_child) ∙ is_inner

    shape_same : law.2 ≡ shape
    shape_same = same_some (slice_get h.settings.shapes.items child.shape) law.2 shape (ap (λ l. slice_get l child.shape) (sym same) ∙ ap (λ (c : Child). slice_get n.shapes.items c.shape) (sym child_same) ∙ law.3) shape_at

    of_inner : IsShapeOf files shape law.4
    of_inner = subst (λ s. IsShapeOf files s law.4) shape_same law.6

    given_by : IsGivenBy shape child i
    given_by = subst (λ s. IsGivenBy s child i) shape_same (subst (λ c. IsGivenBy law.2 c i) child_same law.7)

    gives : GivesOnce i.given.items × AreGiven (thing_named shape) i.given.items child.given.items
    gives = (law.8, subst (λ (s : Shape). AreGiven (thing_named s) i.given.items child.given.items) shape_same (subst (λ (c : Child). AreGiven (thing_named law.2) i.given.items c.given.items) child_same law.9))

    made_is : made_of files x i law.4 ≡ y
    made_is = Some_same (made_of files x i law.4) y (sym (ap (option_map (made_of files x i)) law.5) ∙ is_y)

pub inside_times : (files : List SourceFile) (h : Here) (t u : Valued) (x y : Inside) (core : CoreInside) (m file : ℕ) (i : Instance) (inner : Shape) (r : ReactorTree) (given : List AssignmentTree) → AreShapesOfFiles files h.settings.shapes.items → slice_get h.settings.shapes.items t.shape ≡ Some h.shape → Fits files h.settings.shapes.items t x → slice_get (members_of files x.class) m ≡ Some (file, member.Instance i) → inside h.settings.shapes.items t m ≡ Some u → inside_of files x (file, i) ≡ Some y → HasParameterTimes files x core → AreTimesGiven h m given → ((a : AssignmentTree) → Contains given a → IsKnown core.reactor.parameters a.value) → shape_inside h.settings.shapes.items h.shape m ≡ Some inner → r.parameters ≡ timed_parameters inner → HasParameterTimes files y (record { reactor = r; values = map (core_given_in core given) r.parameters })
inside_times files h t u x y core m file i inner r given are is_shape fits at in_u is_y has (child, shape, is_child, is_inner, needed, gives, given_is) known inner_is parameters =
    let g = inside_given files h t u x y m file i are is_shape fits at in_u is_y child shape is_child is_inner in
    let inner_same : inner ≡ shape = same_some (shape_inside h.settings.shapes.items h.shape m) inner shape inner_is is_inner in
    subst (λ z. map (core_given_in core given) r.parameters ≡ map (λ p. time_named files z p.name) r.parameters) g.made (map_alike (core_given_in core given) (λ p. time_named files (made_of files x i g.class) p.name) r.parameters (λ p k. ap (λ l. core_given_in core l p) given_is ∙ inner_times files h.shape shape x core child i g.class g.of_inner has g.given_by (λ z k. let j = get_mem z child.given.items k in all_at (IsGiven h.shape shape) child.given.items gives j.0 z j.1) (subst (λ l. (a : AssignmentTree) → Contains l a → IsKnown core.reactor.parameters a.value) given_is known) p (subst (Mem p) (parameters ∙ ap timed_parameters inner_same) k)))

-- ---- values that are times

-- a time that is written out is one
written_time : (v : WrittenValue) → IsWrittenTime v → IsTimeValue v
written_time (value.Number false count (Some unit)) is = is
written_time (value.Number false zero None) is = tt
written_time (value.Number false (suc n) None) is = absurd is
written_time (value.Number true n unit) is = absurd is
written_time (value.Word q) is = absurd is
written_time value.Code is = absurd is
written_time value.Other is = absurd is

-- what can be read as a time has one as value
pub time_read : (files : List SourceFile) (x : Inside) (ps : List ParameterTree) (shape : Shape) (v : WrittenValue) → HaveTimeValues files x ps → IsTime shape v → ((t : TimeTree) → time_for v ≡ Some t → IsKnown ps t) → IsSomeAnd (read_in files x v) IsTimeValue
time_read files x ps shape (value.Word q) has is known =
    let m = mem_from_map (λ (p : ParameterTree). p.name) ps (string_bytes q) (contains_mem (string_bytes q) (map (λ (p : ParameterTree). p.name) ps) (known (Named (string_bytes q)) refl)) in
    subst (λ n. IsSomeAnd (value_named files x n) IsTimeValue) m.2 (has m.0 (mem_contains m.0 ps m.1))
time_read files x ps shape (value.Number negative n unit) has is known = written_time (value.Number negative n unit) is
time_read files x ps shape value.Code has is known = absurd is
time_read files x ps shape value.Other has is known = absurd is

pub time_is_in : (files : List SourceFile) (x : Inside) (ps : List ParameterTree) (shape : Shape) (e : Option Expression) → HaveTimeValues files x ps → IsRead shape e → ((t : TimeTree) → time_at e ≡ Some t → IsKnown ps t) → IsTimeIn files x e
time_is_in files x ps shape None has is known = tt
time_is_in files x ps shape (Some e) has is known = time_read files x ps shape e.value has is known

pub period_is_in : (files : List SourceFile) (x : Inside) (ps : List ParameterTree) (shape : Shape) (e : Option Expression) → HaveTimeValues files x ps → IsPeriod shape e → ((t : TimeTree) → period_at e ≡ Some t → IsKnown ps t) → IsPeriodIn files x e
period_is_in files x ps shape None has is known = tt
period_is_in files x ps shape (Some e) has is known = go (is_forever e.value) refl is known
  where
    go : (b : Bool) → is_forever e.value ≡ b → (b ≡ false → IsTime shape e.value) → ((t : TimeTree) → (if b then None else time_for e.value) ≡ Some t → IsKnown ps t) → is_forever e.value ≡ false → IsTimeIn files x (Some e)
    go true f is known = λ other. absurd (let z : true ≡ false = sym f ∙ other in cc)
    go false f is known = λ other. time_read files x ps shape e.value has (is refl) known

module _ (files : List SourceFile) (shape : Shape) (x : Inside) (is : IsShapeOf files shape x.class) where
  -- the value of a parameter is the one at its place
  value_at : (p : ParameterTree) (one : IsTimed shape p) (v : Option WrittenValue) → slice_get x.values one.n ≡ Some v → value_named files x p.name ≡ v
  value_at p one v has = ap (value_named files x) one.name ∙ value_found files shape x is (string_bytes one.ip.parameter.now.name.text) one.n v ((is.names (string_bytes one.ip.parameter.now.name.text) (thing.Parameter one.n)).1 (one.ip, one.at, refl)) has

-- a default is a time, or it is left out
default_time_is : (main : Bool) (shape : Shape) (p : ParameterTree) (one : IsTimed shape p) → HasDefault main shape one.n → (o : Option Expression) → one.ip.parameter.now.default ≡ o → (o ≡ None → main ≡ false → ⊥) → IsSomeAnd (option_map (λ (e : Expression). e.value) o) IsTimeValue
default_time_is main shape p one has o e left = go o e left (subst (λ z. IsDefault main z) e (here.1))
  where
    here : (one.ip.parameter.now.is_time ≡ true) × IsDefault main one.ip.parameter.now.default
    here = subst (λ (z : Option InheritedParameter). IfSome z (λ q. (q.parameter.now.is_time ≡ true) × IsDefault main q.parameter.now.default)) one.at (has one.timed)

    go : (o : Option Expression) → one.ip.parameter.now.default ≡ o → (o ≡ None → main ≡ false → ⊥) → IsDefault main o → IsSomeAnd (option_map (λ (e : Expression). e.value) o) IsTimeValue
    go None e left is = absurd (left refl is)
    go (Some v) e left is = written_time v.value is

-- the parameters of the main reactor have times
pub main_values : (files : List SourceFile) (shapes : List Shape) (shape : Shape) (c : Class) (r : ReactorTree) → AreShapesOfFiles files shapes → slice_get shapes 0 ≡ Some shape → main_of files ≡ Some c → r.parameters ≡ timed_parameters shape → (main : Bool) → main ≡ true → ((n : ℕ) → HasDefault main shape n) → HaveTimeValues files (main_class_instance files c) r.parameters
main_values files shapes shape c r are first main parameters is_main main_true defaults p m = subst (λ o. IsSomeAnd o IsTimeValue) (sym value_is) (default_time_is is_main shape p one (defaults one.n) one.ip.parameter.now.default refl (λ e f. let z : true ≡ false = sym main_true ∙ f in cc))
  where
    of_main : IsShapeOf files shape c
    of_main = main_shape files shapes shape c are first main

    one : IsTimed shape p
    one = is_timed_one shape p (subst (Mem p) parameters (contains_mem p r.parameters m))

    value_is : value_named files (main_class_instance files c) p.name ≡ default_of one.ip.parameter.now
    value_is = value_at files shape (main_class_instance files c) of_main p one (default_of one.ip.parameter.now) (mapped default_of (parameters_of files c) one.n one.ip.parameter.now (parameter_is files shape c of_main one.n one.ip one.at))

-- so have those of the reactor that `new` names
inner_values : (files : List SourceFile) (outer inner : Shape) (x : Inside) (ps : List ParameterTree) (child : Child) (i : Instance) (c : Class) (main : Bool) → IsShapeOf files inner c → HaveTimeValues files x ps → IsGivenBy inner child i → ((g : GivenValue) → Mem g child.given.items → IsGiven outer inner g) → ((a : AssignmentTree) → Contains (given_times inner child) a → IsKnown ps a.value) → GivesEachOnce child.given.items → GivesNeeded inner child → ((n : ℕ) → HasDefault main inner n) → (p : ParameterTree) → Mem p (timed_parameters inner) → IsSomeAnd (value_named files (made_of files x i c) p.name) IsTimeValue
inner_values files outer inner x ps child i c main of_inner has given_by gives known once needed defaults p stands = subst (λ o. IsSomeAnd o IsTimeValue) (sym value_is) (picked (find (λ a. is_named (written_name one.ip) a.name) i.given.items) refl)
  where
    one : IsTimed inner p
    one = is_timed_one inner p stands

    value_is : value_named files (made_of files x i c) p.name ≡ value_given_in files x i.given.items one.ip.parameter.now
    value_is = value_at files inner (made_of files x i c) of_inner p one (value_given_in files x i.given.items one.ip.parameter.now) (mapped (value_given_in files x i.given.items) (parameters_of files c) one.n one.ip.parameter.now (parameter_is files inner c of_inner one.n one.ip one.at))

    is_found : IsFound outer inner one.n one.ip one.at one.timed (alone files inner (made_of files x i c) of_inner one.n one.ip one.at) (given_to child.given.items one.n) (find (λ a. bytes_eq (written_name one.ip) a.name) (given_times inner child))
    is_found = found outer inner one.n one.ip one.at one.timed (alone files inner (made_of files x i c) of_inner one.n one.ip one.at) child.given.items gives

    bare : one.ip.parameter.now.default ≡ None → is_needed inner one.n ≡ true
    bare e =
        let a : is_bare one.ip ≡ true = ap (λ (o : Option Expression). not (is_some o)) e in
        ap (λ o. unwrap_or (option_map is_bare o) false && is_timed inner one.n) one.at ∙ ap (λ b. b && is_timed inner one.n) a ∙ one.timed

    picked : (o : Option Assignment) → find (λ a. is_named (written_name one.ip) a.name) i.given.items ≡ o → IsSomeAnd (value_or_default files x one.ip.parameter.now o) IsTimeValue
    picked None e =
        let g : given_to child.given.items one.n ≡ None = given_by one.n one.ip one.at ∙ ap (option_map (λ (a : Assignment). a.value.value)) e in
        default_time_is main inner p one (defaults one.n) one.ip.parameter.now.default refl (λ lacks _. needed once (one.n, bare lacks, g))
    picked (Some a) e =
        let g : given_to child.given.items one.n ≡ Some a.value.value = given_by one.n one.ip one.at ∙ ap (option_map (λ (a : Assignment). a.value.value)) e in
        let f : (t : TimeTree) × (time_for a.value.value ≡ Some t) × (find (λ a. bytes_eq (written_name one.ip) a.name) (given_times inner child) ≡ Some (given_tree outer inner one.n one.ip one.at one.timed (alone files inner (made_of files x i c) of_inner one.n one.ip one.at) one.ip t)) = subst (λ o. IsFound outer inner one.n one.ip one.at one.timed (alone files inner (made_of files x i c) of_inner one.n one.ip one.at) o (find (λ a. bytes_eq (written_name one.ip) a.name) (given_times inner child))) g is_found in
        let b : AssignmentTree = record { name = (written_name one.ip); value = f.0 } in
        let k : IsKnown ps f.0 = known b (mem_contains b (given_times inner child) (find_some (λ (a : AssignmentTree). bytes_eq (written_name one.ip) a.name) (given_times inner child) b f.2).0) in
        let s = to_some child.given.items one.n a.value.value g in
        let is_time : IsTime outer a.value.value = subst (IsTime outer) s.3 (gives s.0 s.1 (ap (is_timed inner) s.2 ∙ one.timed)).1 in
        time_read files x ps outer a.value.value has is_time (λ t h. subst (IsKnown ps) (Some_same f.0 t (sym f.1 ∙ h)) k)

pub inside_values : (files : List SourceFile) (h : Here) (t u : Valued) (x y : Inside) (ps : List ParameterTree) (m file : ℕ) (i : Instance) (inner : Shape) (r : ReactorTree) (given : List AssignmentTree) (main : Bool) → AreShapesOfFiles files h.settings.shapes.items → slice_get h.settings.shapes.items t.shape ≡ Some h.shape → Fits files h.settings.shapes.items t x → slice_get (members_of files x.class) m ≡ Some (file, member.Instance i) → inside h.settings.shapes.items t m ≡ Some u → inside_of files x (file, i) ≡ Some y → HaveTimeValues files x ps → AreTimesGiven h m given → ((a : AssignmentTree) → Contains given a → IsKnown ps a.value) → shape_inside h.settings.shapes.items h.shape m ≡ Some inner → r.parameters ≡ timed_parameters inner → ((n : ℕ) → HasDefault main inner n) → HaveTimeValues files y r.parameters
inside_values files h t u x y ps m file i inner r given main are is_shape fits at in_u is_y has (child, shape, is_child, is_inner, needed, gives, given_is) known inner_is parameters defaults p k =
    let g = inside_given files h t u x y m file i are is_shape fits at in_u is_y child shape is_child is_inner in
    let inner_same : inner ≡ shape = same_some (shape_inside h.settings.shapes.items h.shape m) inner shape inner_is is_inner in
    subst (λ z. IsSomeAnd (value_named files z p.name) IsTimeValue) g.made (inner_values files h.shape shape x ps child i g.class main g.of_inner has g.given_by (λ z k. let j = get_mem z child.given.items k in all_at (IsGiven h.shape shape) child.given.items gives j.0 z j.1) (subst (λ l. (a : AssignmentTree) → Contains l a → IsKnown ps a.value) given_is known) g.once needed (subst (λ z. (n : ℕ) → HasDefault main z n) inner_same defaults) p (subst (Mem p) (parameters ∙ ap timed_parameters inner_same) (contains_mem p r.parameters k)))
