-- What the steps of a run answer, one step after another; and that runs of legal rows answer for their effects alone.
use Rattle.std.proofs.Common.{◌≡◌, ℕ, zero, suc, ◌+◌, ◌≤◌, ◌==◌, ◌⊎◌, inl, inr, List, [], ◌∷◌, ◌++◌, length, map, take, add-one, append-nil, refl, sym, ap, ap₂, ◌∙◌, subst, arith, Option, Some, None, slice_get, filter_map, Bool, true, false, cond, ◌&&◌, unwrap_or, eq-eqb}
use Rattle.std.specs.{BTreeMap.{BTreeMap, is_at}, Cmp.{IsTotalOrder, nat_cmp_is, Lexicographic.pointwise}, Bool.Decides, List.{last_or, cons_option}}
use Rattle.std.specs.{Map.lookup, Ordering.{is_eq, nat_cmp, ordering_then}, declared.cmp.Ordering.{Ordering, TheVariants.Equal}}
use Rattle.std.proofs.lemmas.Bool.{cases_eq, eqb-true, false_from_ne_true, Decides.{Decides-eqb, Decides-and, Decides-like}}
use Rattle.std.proofs.lemmas.{Cmp.{nat_cmp_total, then_total, on_total}, Map.Lookups.{btree_map_from_get, btree_map_eq-Decides, exact_unsigned, exact_pairs}}
use Rattle.std.proofs.lemmas.List.{length_push}
use Rattle.lft_lists.proofs.{Members.{Mem, mem_from_filter, get_mem}, Picked.{kept_more, take_next}, Places.get_last}
use Rattle.lft_tag.{specs.declared.Tag.Tag, proofs.Comparing.not_equal}
use Rattle.lft_ir.specs.declared.parts.{Name.{Name, TheVariants.{Port, Action}}, Value.Value}
use Rattle.lft_ir.specs.declared.steps.row.{Row.Row, Step.{Step, TheVariants.{Start, Read, Write, Schedule, Stop, End}}}
use Rattle.lft_model.specs.{Plans.{PlanParts, IsSoundPlan}, Presence.{value_written, value_scheduled}}
use Rattle.lft_model.specs.{Runs.{Answer, outcome_of, request_of, effects_of, steps_of, Outcome.{Written, Scheduled}}, Breaches.Legal}
use Rattle.lft_model.proofs.{Steps.{RowOf, step_mem, written_some, scheduled_some}, Legality.ordered, Kept.declared_write, Reached.declared_schedule}
use Rattle.lft_rows.{specs.inner.Answers.Answers.answer_of, proofs.AnswersLemmas.Stepping.{last_stays, last_changes}}
use Rattle.lft_pair.specs.inner.Answering.{writing, scheduling, last_to, SameWritten, SameScheduled, SameAnswers, AreWritten, AreScheduled, place_cmp}
use Rattle.lft_pair.proofs.Maps.{map_get}

-- what a step writes to a port, by the port and the value that it names
abbrev written_as : ℕ → Option (ℕ × Value) → Option Value
written_as p None = None
written_as p (Some x) = cond (p == x.0) (Some x.1) None

written_is : (p : ℕ) (s : Step) → value_written p s ≡ written_as p (writing s)
written_is p Start = refl
written_is p (Read n v) = refl
written_is p (Write (Port q) v) = refl
written_is p (Write (Action b) v) = refl
written_is p (Schedule n v d) = refl
written_is p Stop = refl
written_is p End = refl

pub written_none : (p : ℕ) (steps : List Step) (i : ℕ) (s : Step) (old : Option Value) → slice_get steps i ≡ Some s → writing s ≡ None → old ≡ last_to (take i steps) p → old ≡ last_to (take (i + 1) steps) p
written_none p steps i s old here e so_far = last_stays (value_written p) steps i s old None here (sym (written_is p s ∙ ap (written_as p) e)) refl so_far

-- a value is put under the port that a step writes
pub written_put : (p q : ℕ) (v : Value) (steps : List Step) (i : ℕ) (s : Step) (old new : Option Value) → slice_get steps i ≡ Some s → writing s ≡ Some (q, v) → new ≡ cond (is_eq (nat_cmp q p)) (Some v) old → old ≡ last_to (take i steps) p → new ≡ last_to (take (i + 1) steps) p
written_put p q v steps i s old new here e put so_far = go (cases_eq p q)
  where
    go : (p ≡ q) ⊎ (p ≡ q → ⊥) → new ≡ last_to (take (i + 1) steps) p
    go (inl z) =
        let t : is_eq (nat_cmp q p) ≡ true = ap is_eq (sym (nat_cmp_is q p Equal (sym z))) in
        let b : (p == q) ≡ true = eq-eqb p q z in
        let now : Some v ≡ value_written p s = sym (written_is p s ∙ ap (written_as p) e ∙ ap (λ (c : Bool). cond c (Some v) None) b) in
        put ∙ ap (λ (c : Bool). cond c (Some v) old) t ∙ last_changes (value_written p) steps i s (Some v) here now refl
    go (inr d) =
        let t : is_eq (nat_cmp q p) ≡ false = not_equal (nat_cmp q p) (λ z. d (sym (exact_unsigned q p z))) in
        let b : (p == q) ≡ false = false_from_ne_true (p == q) (λ z. d (eqb-true p q z)) in
        let now : None ≡ value_written p s = sym (written_is p s ∙ ap (written_as p) e ∙ ap (λ (c : Bool). cond c (Some v) None) b) in
        put ∙ ap (λ (c : Bool). cond c (Some v) old) t ∙ last_stays (value_written p) steps i s old None here now refl so_far

-- what a step schedules for an action, by the action that it names and what it schedules for it
abbrev scheduled_as : ℕ → Option (ℕ × (ℕ × Value)) → Option (ℕ × Value)
scheduled_as a None = None
scheduled_as a (Some x) = cond (a == x.0) (Some x.1) None

scheduled_is : (a : ℕ) (s : Step) → value_scheduled a s ≡ scheduled_as a (scheduling s)
scheduled_is a Start = refl
scheduled_is a (Read n v) = refl
scheduled_is a (Write n v) = refl
scheduled_is a (Schedule (Port q) v d) = refl
scheduled_is a (Schedule (Action b) v d) = refl
scheduled_is a Stop = refl
scheduled_is a End = refl

-- what some steps schedule for an action
abbrev pub scheduled_for : List Step → ℕ → List (ℕ × Value)
scheduled_for steps a = filter_map (value_scheduled a) steps

module _ (steps : List Step) (i : ℕ) (s : Step) (here : slice_get steps i ≡ Some s) where
  pub scheduled_none : (a : ℕ) → scheduling s ≡ None → scheduled_for (take (i + 1) steps) a ≡ scheduled_for (take i steps) a
  scheduled_none a e = kept_more (value_scheduled a) steps i s None here (sym (scheduled_is a s ∙ ap (scheduled_as a) e)) ∙ append-nil (scheduled_for (take i steps) a)

  scheduled_same : (a b : ℕ) (x : ℕ × Value) → scheduling s ≡ Some (b, x) → a ≡ b → scheduled_for (take (i + 1) steps) a ≡ scheduled_for (take i steps) a ++ x ∷ []
  scheduled_same a b x e z =
      let t : (a == b) ≡ true = eq-eqb a b z in
      kept_more (value_scheduled a) steps i s (Some x) here (sym (scheduled_is a s ∙ ap (scheduled_as a) e ∙ ap (λ (c : Bool). cond c (Some x) None) t))

  scheduled_other : (a b : ℕ) (x : ℕ × Value) → scheduling s ≡ Some (b, x) → (a ≡ b → ⊥) → scheduled_for (take (i + 1) steps) a ≡ scheduled_for (take i steps) a
  scheduled_other a b x e d =
      let t : (a == b) ≡ false = false_from_ne_true (a == b) (λ z. d (eqb-true a b z)) in
      kept_more (value_scheduled a) steps i s None here (sym (scheduled_is a s ∙ ap (scheduled_as a) e ∙ ap (λ (c : Bool). cond c (Some x) None) t)) ∙ append-nil (scheduled_for (take i steps) a)

pub get_unpushed : {X : Type 0} (xs : List X) (y : X) (k : ℕ) → (k ≡ length xs → ⊥) → slice_get (xs ++ y ∷ []) k ≡ slice_get xs k
get_unpushed [] y zero d = absurd (d refl)
get_unpushed [] y (suc k) d = refl
get_unpushed (x ∷ xs) y zero d = refl
get_unpushed (x ∷ xs) y (suc k) d = get_unpushed xs y k (λ e. d (ap suc e))

module _ (steps : List Step) (i : ℕ) (s : Step) (here : slice_get steps i ≡ Some s) (b j : ℕ) (x : ℕ × Value) (e : scheduling s ≡ Some (b, x)) (count : j ≡ length (scheduled_for (take i steps) b)) where
  -- an event is put under the action that a step schedules, and the place past those before
  pub scheduled_put : (a k : ℕ) (old new : Option (ℕ × Value)) → new ≡ cond (is_eq (place_cmp (b, j) (a, k))) (Some x) old → old ≡ slice_get (scheduled_for (take i steps) a) k → new ≡ slice_get (scheduled_for (take (i + 1) steps) a) k
  scheduled_put a k old new put so_far = go (cases_eq a b) (cases_eq k j)
    where
      apart : (b ≡ a → j ≡ k → ⊥) → new ≡ old
      apart d =
          let t : is_eq (place_cmp (b, j) (a, k)) ≡ false = not_equal (place_cmp (b, j) (a, k)) (λ z. let q = exact_pairs nat_cmp nat_cmp exact_unsigned exact_unsigned (b, j) (a, k) z in d (ap (λ (y : ℕ × ℕ). y.0) q) (ap (λ (y : ℕ × ℕ). y.1) q)) in
          put ∙ ap (λ (c : Bool). cond c (Some x) old) t

      go : (a ≡ b) ⊎ (a ≡ b → ⊥) → (k ≡ j) ⊎ (k ≡ j → ⊥) → new ≡ slice_get (scheduled_for (take (i + 1) steps) a) k
      go (inr d) z = apart (λ p q. d (sym p)) ∙ so_far ∙ ap (λ (l : List (ℕ × Value)). slice_get l k) (sym (scheduled_other steps i s here a b x e d))
      go (inl z) (inl w) =
          let first : Equal ≡ nat_cmp b a = nat_cmp_is b a Equal (sym z) in
          let second : Equal ≡ nat_cmp j k = nat_cmp_is j k Equal (sym w) in
          let t : is_eq (place_cmp (b, j) (a, k)) ≡ true = sym (ap is_eq second ∙ ap (λ (r : Ordering). is_eq (ordering_then r (nat_cmp j k))) first) in
          let at : k ≡ length (scheduled_for (take i steps) a) = w ∙ count ∙ ap (λ (c : ℕ). length (scheduled_for (take i steps) c)) (sym z) in
          put ∙ ap (λ (c : Bool). cond c (Some x) old) t ∙ sym (ap (λ (l : List (ℕ × Value)). slice_get l k) (scheduled_same steps i s here a b x e z) ∙ ap (λ (c : ℕ). slice_get (scheduled_for (take i steps) a ++ x ∷ []) c) at ∙ get_last (scheduled_for (take i steps) a) x)
      go (inl z) (inr d) =
          let past : k ≡ length (scheduled_for (take i steps) a) → ⊥ = λ q. d (q ∙ ap (λ (c : ℕ). length (scheduled_for (take i steps) c)) z ∙ sym count) in
          apart (λ p q. d (sym q)) ∙ so_far ∙ sym (ap (λ (l : List (ℕ × Value)). slice_get l k) (scheduled_same steps i s here a b x e z) ∙ get_unpushed (scheduled_for (take i steps) a) x k past)

  pub count_put : (a : ℕ) (old new : Option ℕ) → new ≡ cond (is_eq (nat_cmp b a)) (Some (j + 1)) old → unwrap_or old 0 ≡ length (scheduled_for (take i steps) a) → unwrap_or new 0 ≡ length (scheduled_for (take (i + 1) steps) a)
  count_put a old new put so_far = go (cases_eq a b)
    where
      go : (a ≡ b) ⊎ (a ≡ b → ⊥) → unwrap_or new 0 ≡ length (scheduled_for (take (i + 1) steps) a)
      go (inl z) =
          let t : is_eq (nat_cmp b a) ≡ true = ap is_eq (sym (nat_cmp_is b a Equal (sym z))) in
          let one : new ≡ Some (j + 1) = put ∙ ap (λ (c : Bool). cond c (Some (j + 1)) old) t in
          let long : length (scheduled_for (take (i + 1) steps) a) ≡ length (scheduled_for (take i steps) a) + 1 = ap length (scheduled_same steps i s here a b x e z) ∙ length_push (scheduled_for (take i steps) a) x in
          ap (λ (o : Option ℕ). unwrap_or o 0) one ∙ ap (λ (c : ℕ). c + 1) (count ∙ ap (λ (c : ℕ). length (scheduled_for (take i steps) c)) (sym z)) ∙ sym long
      go (inr d) =
          let t : is_eq (nat_cmp b a) ≡ false = not_equal (nat_cmp b a) (λ z. d (sym (exact_unsigned b a z))) in
          ap (λ (o : Option ℕ). unwrap_or o 0) (put ∙ ap (λ (c : Bool). cond c (Some (j + 1)) old) t) ∙ so_far ∙ ap length (sym (scheduled_other steps i s here a b x e d))

-- a filter keeps no more than it is given
pub few : {X Y : Type 0} (h : X → Option Y) (xs : List X) (i : ℕ) → length (filter_map h (take i xs)) ≤ i
few h xs zero = omega arith
few h [] (suc i) = omega arith
few {X} {Y} h (x ∷ xs) (suc i) = go (h x) (few h xs i)
  where
    go : (o : Option Y) → length (filter_map h (take i xs)) ≤ i → length (cons_option o (filter_map h (take i xs))) ≤ suc i
    go None l = omega arith
    go (Some y) l = omega arith

-- what `==` says of two maps, where it decides whether keys and values are the same
pub entries_decide : {K X : Type 0} {E : K → K → Bool} {F : X → X → Bool} (m n : BTreeMap K X) (r : Bool) → r ≡ pointwise (λ (p q : K × X). E p.0 q.0 && F p.1 q.1) m.entries n.entries → ((a b : K) → Decides (E a b) (a ≡ b)) → ((a b : X) → Decides (F a b) (a ≡ b)) → Decides r (m.entries ≡ n.entries)
entries_decide m n r e keys values = btree_map_eq-Decides keys values m n r e

same_pair : {A B : Type 0} (a b : A × B) → a.0 ≡ b.0 → a.1 ≡ b.1 → a ≡ b
same_pair {A} {B} a b p q = let pair : A → B → A × B = λ x y. (x, y) in ap₂ pair p q

both_decide : {A B : Type 0} (E : A → A → Bool) (F : B → B → Bool) → ((x y : A) → Decides (E x y) (x ≡ y)) → ((x y : B) → Decides (F x y) (x ≡ y)) → (a b : A × B) → Decides (E a.0 b.0 && F a.1 b.1) (a ≡ b)
both_decide {A} {B} E F d e a b = Decides-like (E a.0 b.0 && F a.1 b.1) (λ p. same_pair a b p.0 p.1) (λ q. (ap (λ (z : A × B). z.0) q, ap (λ (z : A × B). z.1) q)) (Decides-and (E a.0 b.0) (F a.1 b.1) (d a.0 b.0) (e a.1 b.1))

-- the same, where keys are pairs of numbers, and numbers with values stand under them
pub pairs_decide : {V : Value → Value → Bool} (m n : BTreeMap (ℕ × ℕ) (ℕ × Value)) (r : Bool) → r ≡ pointwise (λ (p q : (ℕ × ℕ) × (ℕ × Value)). ((p.0.0 == q.0.0) && (p.0.1 == q.0.1)) && ((p.1.0 == q.1.0) && V p.1.1 q.1.1)) m.entries n.entries → ((a b : Value) → Decides (V a b) (a ≡ b)) → Decides r (m.entries ≡ n.entries)
pairs_decide {V} m n r e values = entries_decide {E = λ x y. (x.0 == y.0) && (x.1 == y.1)} {F = λ x y. (x.0 == y.0) && V x.1 y.1} m n r e (both_decide ◌==◌ ◌==◌ Decides-eqb Decides-eqb) (both_decide ◌==◌ V Decides-eqb values)

-- equal maps are maps of the same
pub written_decides : (mine theirs : List Step) (m n : BTreeMap ℕ Value) (r : Bool) → AreWritten mine m → AreWritten theirs n → Decides r (m.entries ≡ n.entries) → Decides r (SameWritten mine theirs)
written_decides mine theirs m n r a b d = (
  λ t p. sym (a.each p) ∙ ap (λ (es : List (ℕ × Value)). lookup (is_at (nat_cmp p)) es) (d.0 t) ∙ b.each p,
  λ same. d.1 (btree_map_from_get nat_cmp_total m n a.ordered b.ordered (λ q. a.each q ∙ same q ∙ sym (b.each q)) exact_unsigned),
)

same_gets : {X : Type 0} (xs ys : List X) → ((k : ℕ) → slice_get xs k ≡ slice_get ys k) → xs ≡ ys
same_gets [] [] f = refl
same_gets [] (y ∷ ys) f = let e = f 0 in absurd (cc)
same_gets (x ∷ xs) [] f = let e = f 0 in absurd (cc)
same_gets (x ∷ xs) (y ∷ ys) f = let e = f 0 in let q : xs ≡ ys = same_gets xs ys (λ k. f (suc k)) in cc

place_cmp_total : IsTotalOrder place_cmp
place_cmp_total = then_total (on_total (λ (x : ℕ × ℕ). x.0) nat_cmp_total) (on_total (λ (x : ℕ × ℕ). x.1) nat_cmp_total)

pub scheduled_decides : (mine theirs : List Step) (m n : BTreeMap (ℕ × ℕ) (ℕ × Value)) (r : Bool) → AreScheduled mine m → AreScheduled theirs n → Decides r (m.entries ≡ n.entries) → Decides r (SameScheduled mine theirs)
scheduled_decides mine theirs m n r x y d = (
  λ t a. same_gets (scheduled_for mine a) (scheduled_for theirs a) (λ k. sym (x.each a k) ∙ ap (λ (es : List ((ℕ × ℕ) × (ℕ × Value))). lookup (is_at (place_cmp (a, k))) es) (d.0 t) ∙ y.each a k),
  λ same. d.1 (btree_map_from_get place_cmp_total m n x.ordered y.ordered (λ q. x.each q.0 q.1 ∙ ap (λ (l : List (ℕ × Value)). slice_get l q.1) (same q.0) ∙ sym (y.each q.0 q.1)) (exact_pairs nat_cmp nat_cmp exact_unsigned exact_unsigned)),
)

-- one step more that is the same
pub same_more : (mine theirs : List Step) (i : ℕ) (x y : Step) → slice_get mine i ≡ Some x → slice_get theirs i ≡ Some y → x ≡ y → take i mine ≡ take i theirs → take (i + 1) mine ≡ take (i + 1) theirs
same_more mine theirs i x y p q e so_far = ap (λ (k : ℕ). take k mine) (add-one i) ∙ take_next mine i x p ∙ ap (λ (l : List Step). l ++ x ∷ []) so_far ∙ ap (λ (z : Step). take i theirs ++ z ∷ []) e ∙ sym (ap (λ (k : ℕ). take k theirs) (add-one i) ∙ take_next theirs i y q)

pub all_same : (mine theirs : List Step) (b : Bool) → request_of mine ≡ request_of theirs → SameWritten mine theirs → Decides b (SameScheduled mine theirs) → Decides b (SameAnswers mine theirs)
all_same mine theirs b s w d = (λ t. record { stops = s; written = w; scheduled = d.0 t }, λ a. d.1 a.scheduled)

-- what answers the same for each port and action does so for any effects
pub same_effects : (effects : List Name) (mine theirs : List Step) → SameAnswers mine theirs → answer_of effects mine ≡ answer_of effects theirs
same_effects effects mine theirs same = let o = each effects in let p : request_of mine ≡ request_of theirs = same.stops in cc
  where
    one : (n : Name) → outcome_of mine n ≡ outcome_of theirs n
    one (Port p) = ap Written (same.written p)
    one (Action a) = ap Scheduled (same.scheduled a)

    each : (ns : List Name) → map (outcome_of mine) ns ≡ map (outcome_of theirs) ns
    each [] = refl
    each (n ∷ ns) = let e = one n in let q = each ns in cc

-- the steps of a run of legal rows write and schedule effects alone
module _ (plan : PlanParts) (good : IsSoundPlan plan) (t : List Row) (legal : Legal plan t) (g : Tag) (r : ℕ) where
  none_or : {X : Type 0} {P : Type 0} (xs : List X) → ((x : X) → Mem x xs → P) → (xs ≡ []) ⊎ P
  none_or [] f = inl refl
  none_or (x ∷ xs) f = inr (f x (inl refl))

  pub written_effect : (p : ℕ) → (filter_map (value_written p) (steps_of t g r) ≡ []) ⊎ Mem (Port p) (effects_of plan.program r)
  written_effect p = none_or (filter_map (value_written p) (steps_of t g r)) found
    where
      found : (v : Value) → Mem v (filter_map (value_written p) (steps_of t g r)) → Mem (Port p) (effects_of plan.program r)
      found v m =
          let s = mem_from_filter (value_written p) (steps_of t g r) v m in
          let o : RowOf t g r s.0 = step_mem t g r s.0 s.1 in
          subst (λ (c : ℕ). Mem (Port p) (effects_of plan.program c)) o.reaction_is (declared_write plan good.sound t (ordered plan t legal) o.place o.row p v o.is_row (o.step_is ∙ written_some p s.0 v s.2))

  pub scheduled_effect : (a : ℕ) → (scheduled_for (steps_of t g r) a ≡ []) ⊎ Mem (Action a) (effects_of plan.program r)
  scheduled_effect a = none_or (scheduled_for (steps_of t g r) a) found
    where
      found : (y : ℕ × Value) → Mem y (scheduled_for (steps_of t g r) a) → Mem (Action a) (effects_of plan.program r)
      found y m =
          let s = mem_from_filter (value_scheduled a) (steps_of t g r) y m in
          let o : RowOf t g r s.0 = step_mem t g r s.0 s.1 in
          subst (λ (c : ℕ). Mem (Action a) (effects_of plan.program c)) o.reaction_is (declared_schedule plan good t (ordered plan t legal) o.place o.row a y.0 y.1 o.is_row (o.step_is ∙ scheduled_some a s.0 y s.2))

-- so two runs of legal rows that answer the same for their effects answer the same for each port and action
pub same_from_effects : (plan : PlanParts) → IsSoundPlan plan → (t s : List Row) → Legal plan t → Legal plan s → (g : Tag) (r : ℕ) → answer_of (effects_of plan.program r) (steps_of t g r) ≡ answer_of (effects_of plan.program r) (steps_of s g r) → SameAnswers (steps_of t g r) (steps_of s g r)
same_from_effects plan good t s first second g r e = record { stops = ap (λ (a : Answer). a.stops) e; written = λ p. port p (written_effect plan good t first g r p) (written_effect plan good s second g r p); scheduled = λ a. action a (scheduled_effect plan good t first g r a) (scheduled_effect plan good s second g r a) }
  where
    effect : (n : Name) → Mem n (effects_of plan.program r) → outcome_of (steps_of t g r) n ≡ outcome_of (steps_of s g r) n
    effect n m = let k = get_mem n (effects_of plan.program r) m in map_get (outcome_of (steps_of t g r)) (outcome_of (steps_of s g r)) (effects_of plan.program r) k.0 n (ap (λ (a : Answer). a.outcomes) e) k.1

    port : (p : ℕ) → (filter_map (value_written p) (steps_of t g r) ≡ []) ⊎ Mem (Port p) (effects_of plan.program r) → (filter_map (value_written p) (steps_of s g r) ≡ []) ⊎ Mem (Port p) (effects_of plan.program r) → last_to (steps_of t g r) p ≡ last_to (steps_of s g r) p
    port p (inl a) (inl b) = ap (λ (l : List Value). last_or None l) (a ∙ sym b)
    port p (inr m) b = let q : Written (last_to (steps_of t g r) p) ≡ Written (last_to (steps_of s g r) p) = effect (Port p) m in cc
    port p (inl a) (inr m) = let q : Written (last_to (steps_of t g r) p) ≡ Written (last_to (steps_of s g r) p) = effect (Port p) m in cc

    action : (a : ℕ) → (scheduled_for (steps_of t g r) a ≡ []) ⊎ Mem (Action a) (effects_of plan.program r) → (scheduled_for (steps_of s g r) a ≡ []) ⊎ Mem (Action a) (effects_of plan.program r) → scheduled_for (steps_of t g r) a ≡ scheduled_for (steps_of s g r) a
    action a (inl x) (inl y) = x ∙ sym y
    action a (inr m) y = let q : Scheduled (scheduled_for (steps_of t g r) a) ≡ Scheduled (scheduled_for (steps_of s g r) a) = effect (Action a) m in cc
    action a (inl x) (inr m) = let q : Scheduled (scheduled_for (steps_of t g r) a) ≡ Scheduled (scheduled_for (steps_of s g r) a) = effect (Action a) m in cc
