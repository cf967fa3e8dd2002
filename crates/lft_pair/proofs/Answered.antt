-- What a run answered for each port and each action, one row after another.
use Rattle.std.proofs.Common.{◌≡◌, ℕ, ◌+◌, ◌==◌, ◌⊎◌, inl, inr, List, [], ◌∷◌, ◌++◌, length, take, append-nil, refl, sym, ap, ◌∙◌, Option, Some, None, slice_get, Bool, true, false, cond, option_map, unwrap_or, eq-eqb}
use Rattle.std.specs.{Cmp.nat_cmp_is, Ordering.{is_eq, nat_cmp, ordering_then}, declared.cmp.Ordering.{Ordering, TheVariants.Equal}}
use Rattle.std.proofs.lemmas.{Bool.{cases_eq, eqb-true, false_from_ne_true}, Map.Lookups.{exact_unsigned, exact_pairs}, List.length_push}
use Rattle.lft_lists.proofs.{Picked.kept_more, Places.get_last}
use Rattle.lft_tag.proofs.Comparing.{not_equal}
use Rattle.lft_ir.specs.declared.{parts.Name.TheVariants.{Port, Action}, steps.row.Step.{Step, TheVariants.{Start, Read, Write, Schedule, Stop, End}}}
use Rattle.lft_rows.proofs.AnswersLemmas.Stepping.{last_stays, last_changes}
use Rattle.lft_pair.specs.inner.{Answering.place_cmp, Answered.{writing, action_scheduled}}
use Rattle.lft_pair.specs.declared.contrasting.contrasts.{Placed.Placed, LastWrite.LastWrite, Scheduling.Scheduling}
use Rattle.lft_pair.specs.Runs.{write, write_of, last_write, scheduling, scheduling_of, schedulings}
use Rattle.lft_pair.proofs.Answering.{get_unpushed}

-- what is found for one number, by the number that it stands under
abbrev under : {Y : Type 0} → ℕ → Option (ℕ × Y) → Option Y
under p None = None
under p (Some x) = cond (p == x.0) (Some x.1) None

map_cond : {X Y : Type 0} (f : X → Y) (b : Bool) (x : X) → option_map f (cond b (Some x) None) ≡ cond b (Some (f x)) None
map_cond f true x = refl
map_cond f false x = refl

write_is : (p : ℕ) (x : Placed) → write_of p x ≡ under p (writing x)
write_is p x = by x.row x.step
  where
    by : (i : ℕ) (s : Step) → write_of p (record { row = i; step = s }) ≡ under p (writing (record { row = i; step = s }))
    by i Start = refl
    by i (Read n v) = refl
    by i (Write (Port q) v) = map_cond (write i) (p == q) v
    by i (Write (Action b) v) = refl
    by i (Schedule n v d) = refl
    by i Stop = refl
    by i End = refl

scheduling_is : (a : ℕ) (x : Placed) → scheduling_of a x ≡ under a (action_scheduled x)
scheduling_is a x = by x.row x.step
  where
    by : (i : ℕ) (s : Step) → scheduling_of a (record { row = i; step = s }) ≡ under a (action_scheduled (record { row = i; step = s }))
    by i Start = refl
    by i (Read n v) = refl
    by i (Write n v) = refl
    by i (Schedule (Port q) v d) = refl
    by i (Schedule (Action b) v d) = map_cond (scheduling i) (a == b) (d, v)
    by i Stop = refl
    by i End = refl

module _ (run : List Placed) (i : ℕ) (x : Placed) (here : slice_get run i ≡ Some x) where
  pub write_none : (p : ℕ) (old : Option LastWrite) → writing x ≡ None → old ≡ last_write (take i run) p → old ≡ last_write (take (i + 1) run) p
  write_none p old e so_far = last_stays (write_of p) run i x old None here (sym (write_is p x ∙ ap (under p) e)) refl so_far

  -- a write is put under the port that a row writes
  pub write_put : (p q : ℕ) (w : LastWrite) (old new : Option LastWrite) → writing x ≡ Some (q, w) → new ≡ cond (is_eq (nat_cmp q p)) (Some w) old → old ≡ last_write (take i run) p → new ≡ last_write (take (i + 1) run) p
  write_put p q w old new e put so_far = go (cases_eq p q)
    where
      go : (p ≡ q) ⊎ (p ≡ q → ⊥) → new ≡ last_write (take (i + 1) run) p
      go (inl z) =
          let t : is_eq (nat_cmp q p) ≡ true = ap is_eq (sym (nat_cmp_is q p Equal (sym z))) in
          let b : (p == q) ≡ true = eq-eqb p q z in
          let now : Some w ≡ write_of p x = sym (write_is p x ∙ ap (under p) e ∙ ap (λ (c : Bool). cond c (Some w) None) b) in
          put ∙ ap (λ (c : Bool). cond c (Some w) old) t ∙ last_changes (write_of p) run i x (Some w) here now refl
      go (inr d) =
          let t : is_eq (nat_cmp q p) ≡ false = not_equal (nat_cmp q p) (λ z. d (sym (exact_unsigned q p z))) in
          let b : (p == q) ≡ false = false_from_ne_true (p == q) (λ z. d (eqb-true p q z)) in
          let now : None ≡ write_of p x = sym (write_is p x ∙ ap (under p) e ∙ ap (λ (c : Bool). cond c (Some w) None) b) in
          put ∙ ap (λ (c : Bool). cond c (Some w) old) t ∙ last_stays (write_of p) run i x old None here now refl so_far

  pub scheduling_none : (a : ℕ) → action_scheduled x ≡ None → schedulings (take (i + 1) run) a ≡ schedulings (take i run) a
  scheduling_none a e = kept_more (scheduling_of a) run i x None here (sym (scheduling_is a x ∙ ap (under a) e)) ∙ append-nil (schedulings (take i run) a)

  scheduling_same : (a b : ℕ) (y : Scheduling) → action_scheduled x ≡ Some (b, y) → a ≡ b → schedulings (take (i + 1) run) a ≡ schedulings (take i run) a ++ y ∷ []
  scheduling_same a b y e z =
      let t : (a == b) ≡ true = eq-eqb a b z in
      kept_more (scheduling_of a) run i x (Some y) here (sym (scheduling_is a x ∙ ap (under a) e ∙ ap (λ (c : Bool). cond c (Some y) None) t))

  scheduling_other : (a b : ℕ) (y : Scheduling) → action_scheduled x ≡ Some (b, y) → (a ≡ b → ⊥) → schedulings (take (i + 1) run) a ≡ schedulings (take i run) a
  scheduling_other a b y e d =
      let t : (a == b) ≡ false = false_from_ne_true (a == b) (λ z. d (eqb-true a b z)) in
      kept_more (scheduling_of a) run i x None here (sym (scheduling_is a x ∙ ap (under a) e ∙ ap (λ (c : Bool). cond c (Some y) None) t)) ∙ append-nil (schedulings (take i run) a)

module _ (run : List Placed) (i : ℕ) (x : Placed) (here : slice_get run i ≡ Some x) (b j : ℕ) (y : Scheduling) (e : action_scheduled x ≡ Some (b, y)) (count : j ≡ length (schedulings (take i run) b)) where
  -- a scheduling is put under its action, and the place past those before
  pub scheduling_put : (a k : ℕ) (old new : Option Scheduling) → new ≡ cond (is_eq (place_cmp (b, j) (a, k))) (Some y) old → old ≡ slice_get (schedulings (take i run) a) k → new ≡ slice_get (schedulings (take (i + 1) run) a) k
  scheduling_put a k old new put so_far = go (cases_eq a b) (cases_eq k j)
    where
      apart : (b ≡ a → j ≡ k → ⊥) → new ≡ old
      apart d =
          let t : is_eq (place_cmp (b, j) (a, k)) ≡ false = not_equal (place_cmp (b, j) (a, k)) (λ z. let q = exact_pairs nat_cmp nat_cmp exact_unsigned exact_unsigned (b, j) (a, k) z in d (ap (λ (u : ℕ × ℕ). u.0) q) (ap (λ (u : ℕ × ℕ). u.1) q)) in
          put ∙ ap (λ (c : Bool). cond c (Some y) old) t

      go : (a ≡ b) ⊎ (a ≡ b → ⊥) → (k ≡ j) ⊎ (k ≡ j → ⊥) → new ≡ slice_get (schedulings (take (i + 1) run) a) k
      go (inr d) z = apart (λ p q. d (sym p)) ∙ so_far ∙ ap (λ (l : List Scheduling). slice_get l k) (sym (scheduling_other run i x here a b y e d))
      go (inl z) (inl w) =
          let first : Equal ≡ nat_cmp b a = nat_cmp_is b a Equal (sym z) in
          let second : Equal ≡ nat_cmp j k = nat_cmp_is j k Equal (sym w) in
          let t : is_eq (place_cmp (b, j) (a, k)) ≡ true = sym (ap is_eq second ∙ ap (λ (r : Ordering). is_eq (ordering_then r (nat_cmp j k))) first) in
          let at : k ≡ length (schedulings (take i run) a) = w ∙ count ∙ ap (λ (c : ℕ). length (schedulings (take i run) c)) (sym z) in
          put ∙ ap (λ (c : Bool). cond c (Some y) old) t ∙ sym (ap (λ (l : List Scheduling). slice_get l k) (scheduling_same run i x here a b y e z) ∙ ap (λ (c : ℕ). slice_get (schedulings (take i run) a ++ y ∷ []) c) at ∙ get_last (schedulings (take i run) a) y)
      go (inl z) (inr d) =
          let past : k ≡ length (schedulings (take i run) a) → ⊥ = λ q. d (q ∙ ap (λ (c : ℕ). length (schedulings (take i run) c)) z ∙ sym count) in
          apart (λ p q. d (sym q)) ∙ so_far ∙ sym (ap (λ (l : List Scheduling). slice_get l k) (scheduling_same run i x here a b y e z) ∙ get_unpushed (schedulings (take i run) a) y k past)

  pub count_put : (a : ℕ) (old new : Option ℕ) → new ≡ cond (is_eq (nat_cmp b a)) (Some (j + 1)) old → unwrap_or old 0 ≡ length (schedulings (take i run) a) → unwrap_or new 0 ≡ length (schedulings (take (i + 1) run) a)
  count_put a old new put so_far = go (cases_eq a b)
    where
      go : (a ≡ b) ⊎ (a ≡ b → ⊥) → unwrap_or new 0 ≡ length (schedulings (take (i + 1) run) a)
      go (inl z) =
          let t : is_eq (nat_cmp b a) ≡ true = ap is_eq (sym (nat_cmp_is b a Equal (sym z))) in
          let one : new ≡ Some (j + 1) = put ∙ ap (λ (c : Bool). cond c (Some (j + 1)) old) t in
          let long : length (schedulings (take (i + 1) run) a) ≡ length (schedulings (take i run) a) + 1 = ap length (scheduling_same run i x here a b y e z) ∙ length_push (schedulings (take i run) a) y in
          ap (λ (o : Option ℕ). unwrap_or o 0) one ∙ ap (λ (c : ℕ). c + 1) (count ∙ ap (λ (c : ℕ). length (schedulings (take i run) c)) (sym z)) ∙ sym long
      go (inr d) =
          let t : is_eq (nat_cmp b a) ≡ false = not_equal (nat_cmp b a) (λ z. d (sym (exact_unsigned b a z))) in
          ap (λ (o : Option ℕ). unwrap_or o 0) (put ∙ ap (λ (c : Bool). cond c (Some (j + 1)) old) t) ∙ so_far ∙ ap length (sym (scheduling_other run i x here a b y e d))
