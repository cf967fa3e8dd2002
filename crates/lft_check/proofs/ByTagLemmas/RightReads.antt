-- Whether a run read its inputs, one after another.
use Rattle.std.proofs.Common.{◌≡◌, ℕ, ◌≤◌, inl, inr, List, [], ◌∷◌, length, refl, sym, ap, ◌∙◌, subst, arith, Bool, true, false, ◌↔◌, Option, Some, None, IfSome, IfNone, slice_get, filter_map, map, unwrap_or, option_map, not}
use Rattle.std.specs.List.{last_or, AllZip}
use Rattle.lft_ir.proofs.{Origins.origin_unique, Naming.input_known}
use Rattle.lft_ir.specs.{Parts.{Parts, inputs}, Sound.{IsSound, IsNameOf}}
use Rattle.lft_ir.specs.declared.parts.{Value.Value, Name.{Name, TheVariants.{Port, Action}}, Reaction.Reaction}
use Rattle.lft_ir.specs.declared.steps.row.{Row.Row, Step.TheVariants.{Start, Read}}
use Rattle.lft_tag.specs.declared.Tag.{Tag}
use Rattle.lft_model.specs.{Plans.PlanParts, Presence.{At, IsPresent, Shows, Inputs, Collision, written, events_of}}
use Rattle.lft_model.specs.Runs.{read_of, steps_of, inputs_of, reads_at}
use Rattle.lft_model.proofs.Places.{tag_discrete}
use Rattle.lft_lists.proofs.Members.{Mem, mem_get, get_mem, contains_mem}
use Rattle.lft_check.specs.inner.ByTag.Reads.{IsRightRead, MissesInput, TellsWrongRead}

-- without a collision a name shows one thing
module _ (plan : PlanParts) (t : List Row) (g : Tag) (no_clash : ¬ Collision plan t g) where
  one_value : (n : Name) (v w : Value) → At plan t g n v → At plan t g n w → v ≡ w
  one_value (Port p) v w a b = go (tag_discrete a.0 b.0)
    where
      go : Dec (a.0 ≡ b.0) → v ≡ w
      go (yes e) =
          let o = origin_unique a.1.is_origin b.1.is_origin in
          let x : last_or None (filter_map (written a.0 a.1.origin) t) ≡ Some v = a.1.is_last in
          let y : last_or None (filter_map (written b.0 b.1.origin) t) ≡ Some w = b.1.is_last in
          let z : last_or None (filter_map (written a.0 a.1.origin) t) ≡ last_or None (filter_map (written b.0 b.1.origin) t) = ap (λ (h : Tag). last_or None (filter_map (written h a.1.origin) t)) e ∙ ap (λ (q : ℕ). last_or None (filter_map (written b.0 q) t)) o.0 in
          cc
      go (no e) = absurd (no_clash (Port p, record { first = a.0; second = b.0; first_value = v; second_value = w; is_first = a.1; is_second = b.1; differ = e }))
  one_value (Action a) v w x y = go (events_of plan t g a) (λ l. no_clash (Action a, l)) (contains_mem v (events_of plan t g a) x) (contains_mem w (events_of plan t g a) y)
    where
      go : (vs : List Value) → ¬ (2 ≤ length vs) → Mem v vs → Mem w vs → v ≡ w
      go [] n p q = absurd p
      go (x ∷ []) n (inl p) (inl q) = sym p ∙ q
      go (x ∷ []) n (inl p) (inr q) = absurd q
      go (x ∷ []) n (inr p) q = absurd p
      go (x ∷ y ∷ ys) n p q = absurd (n (omega arith))

  -- what was read is right exactly where it is the value that was found
  pub right_same : (n : Name) (read found : Option Value) → IfSome found (λ v. At plan t g n v) → IfNone found (¬ IsPresent plan t g n) → (read ≡ found) ↔ Shows plan t g n read
  right_same n read found some none = (λ e. subst (λ o. Shows plan t g n o) (sym e) (shown found some none), λ s. same read found s some none)
    where
      shown : (o : Option Value) → IfSome o (λ v. At plan t g n v) → IfNone o (¬ IsPresent plan t g n) → Shows plan t g n o
      shown None some none = none
      shown (Some v) some none = some

      same : (read found : Option Value) → Shows plan t g n read → IfSome found (λ v. At plan t g n v) → IfNone found (¬ IsPresent plan t g n) → read ≡ found
      same None None s some none = refl
      same None (Some v) s some none = absurd (s (v, some))
      same (Some v) None s some none = absurd (none (v, s))
      same (Some v) (Some w) s some none = ap Some (one_value n v w s some)

zip_from : {X Y : Type 0} (P : X → Y → Type 0) (f : X → Y) (xs : List X) → AllZip P xs (map f xs) → (x : X) → Mem x xs → P x (f x)
zip_from P f [] h x m = absurd m
zip_from P f (y ∷ ys) h x (inl e) = subst (λ z. P z (f z)) e h.0
zip_from P f (y ∷ ys) h x (inr m) = zip_from P f ys h.1 x m

-- the reads of a reaction and its inputs
module _ (plan : PlanParts) (t : List Row) (g : Tag) (r : ℕ) (names : List Name) (x : Reaction) (is_reaction : slice_get plan.program.reactions r ≡ Some x) (own : names ≡ inputs x) where
  pub own_inputs : inputs_of plan.program r ≡ inputs x
  own_inputs = ap (λ (o : Option Reaction). unwrap_or (option_map inputs o) []) is_reaction

  not_each : (ns : List Name) → ((n : Name) → Mem n ns → ¬ ¬ Shows plan t g n (read_of (steps_of t g r) n)) → ¬ ¬ AllZip (Shows plan t g) ns (map (read_of (steps_of t g r)) ns)
  not_each [] h none = none tt
  not_each (n ∷ ns) h none = h n (inl refl) (λ p. not_each ns (λ m e. h m (inr e)) (λ ps. none (p, ps)))

  -- where no input is read wrongly, all are read rightly, as far as what follows from it is false
  pub not_all_right : ((k : ℕ) (n : Name) → slice_get names k ≡ Some n → ¬ ¬ IsRightRead plan t g r n) → ¬ ¬ Inputs plan t g r (reads_at plan t g r)
  not_all_right h none = not_each (inputs x) each (λ ps. none (record { reaction = x; is_reaction = is_reaction; each = subst (λ (ns : List Name). AllZip (Shows plan t g) (inputs x) (map (read_of (steps_of t g r)) ns)) (sym own_inputs) ps }))
    where
      each : (n : Name) → Mem n (inputs x) → ¬ ¬ Shows plan t g n (read_of (steps_of t g r) n)
      each n e = let p = get_mem n names (subst (λ xs. Mem n xs) (sym own) e) in h p.0 n p.1

  pub wrong_read : (k : ℕ) (n : Name) → slice_get names k ≡ Some n → ¬ IsRightRead plan t g r n → ¬ Inputs plan t g r (reads_at plan t g r)
  wrong_read k n e d o =
      let a : Some o.reaction ≡ Some x = sym o.is_reaction ∙ is_reaction in
      let b : o.reaction ≡ x = cc in
      let z = subst (λ (y : Reaction). AllZip (Shows plan t g) (inputs y) (reads_at plan t g r)) b o.each in
      d (zip_from (Shows plan t g) (read_of (steps_of t g r)) (inputs x) (subst (λ (ns : List Name). AllZip (Shows plan t g) (inputs x) (map (read_of (steps_of t g r)) ns)) own_inputs z) n (subst (λ xs. Mem n xs) own (mem_get names k n e)))

-- the input at a place
pub input_at : (program : Parts) → IsSound program → (r : ℕ) (x : Reaction) → slice_get program.reactions r ≡ Some x → (names : List Name) → names ≡ inputs x → (k : ℕ) (n : Name) → slice_get names k ≡ Some n → IsNameOf program n
input_at program sound r x e names own k n q = input_known program sound r x e n (subst (λ xs. Mem n xs) own (mem_get names k n q))

-- a row that starts a run tells of a wrong read where its run misses an input
pub tells_start : (plan : PlanParts) (t : List Row) (g : Tag) (row : Row) (b : Bool) → row.step ≡ Start → (b ≡ true) ↔ MissesInput plan t g row.reaction → (b ≡ true) ↔ TellsWrongRead plan t g row
tells_start plan t g row b start misses = (λ e. inl (start, misses.0 e), back)
  where
    back : TellsWrongRead plan t g row → b ≡ true
    back (inl p) = misses.1 p.1
    back (inr p) = let z : Start ≡ Read p.0 p.1 = sym start ∙ p.2 in absurd (cc)

-- a row that reads tells of one where it reads what isn't present
pub tells_read : (plan : PlanParts) (t : List Row) (g : Tag) → ¬ Collision plan t g → (row : Row) (n : Name) (v : Value) (found : Option Value) (b : Bool) → row.step ≡ Read n v → (b ≡ true) ↔ (Some v ≡ found) → IfSome found (λ w. At plan t g n w) → IfNone found (¬ IsPresent plan t g n) → (not b ≡ true) ↔ TellsWrongRead plan t g row
tells_read plan t g no_clash row n v found b reads same some none = (λ e. inr (n, v, reads, λ a. to b e (same.1 ((right_same plan t g no_clash n (Some v) found some none).1 a))), λ w. from b refl w)
  where
    to : (c : Bool) → not c ≡ true → c ≡ true → ⊥
    to true e f = absurd (cc)
    to false e f = absurd (cc)

    its : (m : Name) (w : Value) → row.step ≡ Read m w → (n ≡ m) × (v ≡ w)
    its m w e = let z : Read n v ≡ Read m w = sym reads ∙ e in (cc, cc)

    from : (c : Bool) → b ≡ c → TellsWrongRead plan t g row → not b ≡ true
    from false e w = ap not e
    from true e (inl p) = let z : Start ≡ Read n v = sym p.0 ∙ reads in absurd (cc)
    from true e (inr p) =
        let q = its p.0 p.1 p.2 in
        let at : At plan t g n v = (right_same plan t g no_clash n (Some v) found some none).0 (same.0 e) in
        absurd (p.3 (subst (λ (w : Value). At plan t g p.0 w) q.1 (subst (λ (m : Name). At plan t g m v) q.0 at)))
