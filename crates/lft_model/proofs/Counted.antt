-- The ended runs schedule no more events than the trace does: each row belongs to one run.
use Rattle.std.proofs.Common.{◌≡◌, ◌≢◌, ℕ, zero, suc, ◌+◌, ◌<◌, ◌≤◌, ◌⊎◌, inl, inr, List, [], ◌∷◌, ◌++◌, length, length-append, map, refl, sym, ap, ◌∙◌, subst, arith, Bool, true, false, cond, ◌&&◌, ◌==◌, eqb-true, eq-eqb, ne_eqb, Option, Some, None, slice_get, filter_map, flat_map, option_and_then, AllPairs, get_or}
use Rattle.std.{specs.List.{cons_option, zip}, proofs.lemmas.List.Elements.filter_map-append}
use native.Mathlib.Decide.{ℕ_discrete}
use Rattle.lft_tag.{specs.{declared.Tag.Tag, Tags.{same_tag, after}}, proofs.Order.{same_tag_refl, same_tag_true}}
use Rattle.lft_lists.proofs.Members.{Mem, mem_get, get_mem, mem_from_filter, none_nil, zip-map, filter_map-flat_map, filter_map-map, filter_map-filter_map}
use Rattle.lft_ir.specs.declared.parts.{Value.Value, Name.{Name, TheVariants.{Port, Action}}}
use Rattle.lft_ir.specs.declared.steps.row.{Row.Row, Step.{Step, TheVariants.{Start, Read, Write, Schedule, Stop, End}}}
use Rattle.lft_model.specs.{Plans.PlanParts, Presence.{scheduled, value_scheduled}}
use Rattle.lft_model.specs.Runs.{Run, Outcome, inputs_of, effects_of, reads_at, run_at, ended_by, by_ends, rows_of_run, rows_of, read_step, write_step, step_of, steps_of, outcome_of, schedule_steps, closing_steps, request_of}
use Rattle.lft_model.proofs.Steps.{in_reads, in_writes, both_true, some_scheduled}

abbrev pub Key : Type 0
Key = Tag × ℕ

-- a filter kept to the rows of one run, and to the others
abbrev pub of_run : Key → Row → Bool
of_run k row = same_tag k.0 row.tag && (k.1 == row.reaction)

abbrev pub only : {Y : Type 0} → Key → (Row → Option Y) → Row → Option Y
only k f row = cond (of_run k row) (f row) None

abbrev pub without : {Y : Type 0} → Key → (Row → Option Y) → Row → Option Y
without k f row = cond (of_run k row) None (f row)

abbrev pub count : {Y : Type 0} → (Row → Option Y) → List Row → ℕ
count f t = length (filter_map f t)

count_split : {Y : Type 0} (k : Key) (f : Row → Option Y) (t : List Row) → count f t ≡ count (only k f) t + count (without k f) t
count_split k f [] = refl
count_split {Y} k f (x ∷ xs) = go (of_run k x) (f x) (count_split k f xs)
  where
    go : (b : Bool) (o : Option Y) → count f xs ≡ count (only k f) xs + count (without k f) xs → length (cons_option o (filter_map f xs)) ≡ length (cons_option (cond b o None) (filter_map (only k f) xs)) + length (cons_option (cond b None o) (filter_map (without k f) xs))
    go true None e = e
    go false None e = e
    go true (Some y) e = omega arith
    go false (Some y) e = omega arith

filter_same : {Y : Type 0} (f h : Row → Option Y) → ((x : Row) → f x ≡ h x) → (t : List Row) → filter_map f t ≡ filter_map h t
filter_same f h e [] = refl
filter_same f h e (x ∷ xs) = let p : f x ≡ h x = e x in rw (p, filter_same f h e xs) refl

only_without : {Y : Type 0} (j k : Key) (f : Row → Option Y) → ¬ (j ≡ k) → (x : Row) → only j f x ≡ only j (without k f) x
only_without {Y} j k f n x = go (of_run j x) refl (of_run k x) refl
  where
    go : (b : Bool) → of_run j x ≡ b → (c : Bool) → of_run k x ≡ c → cond b (f x) None ≡ cond b (cond c None (f x)) None
    go false p c q = refl
    go true p false q = refl
    go true p true q =
        let a = both_true (same_tag j.0 x.tag) (j.1 == x.reaction) p in
        let b = both_true (same_tag k.0 x.tag) (k.1 == x.reaction) q in
        let s : j.0 ≡ k.0 = same_tag_true j.0 x.tag a.0 ∙ sym (same_tag_true k.0 x.tag b.0) in
        let r : j.1 ≡ k.1 = eqb-true j.1 x.reaction a.1 ∙ sym (eqb-true k.1 x.reaction b.1) in
        let e : j ≡ k = ap (λ (g : Tag). (g, j.1)) s ∙ ap (λ (m : ℕ). (k.0, m)) r in
        absurd (n e)

-- no key twice
abbrev pub Apart : List Key → Type 0
Apart [] = Unit {0}
Apart (k ∷ ks) = ((j : Key) → Mem j ks → ¬ (j ≡ k)) × Apart ks

abbrev pub total : {Y : Type 0} → (Row → Option Y) → List Row → List Key → ℕ
total f t [] = 0
total f t (k ∷ ks) = count (only k f) t + total f t ks

total_without : {Y : Type 0} (f : Row → Option Y) (t : List Row) (k : Key) (ks : List Key) → ((j : Key) → Mem j ks → ¬ (j ≡ k)) → total f t ks ≡ total (without k f) t ks
total_without f t k [] n = refl
total_without f t k (j ∷ ks) n =
    let a : count (only j f) t ≡ count (only j (without k f)) t = ap length (filter_same (only j f) (only j (without k f)) (only_without j k f (n j (inl refl))) t) in
    let b : total f t ks ≡ total (without k f) t ks = total_without f t k ks (λ i m. n i (inr m)) in
    omega arith

pub total_within : {Y : Type 0} (f : Row → Option Y) (t : List Row) (ks : List Key) → Apart ks → total f t ks ≤ count f t
total_within f t [] a = omega arith
total_within f t (k ∷ ks) a =
    let s : count f t ≡ count (only k f) t + count (without k f) t = count_split k f t in
    let r : total (without k f) t ks ≤ count (without k f) t = total_within (without k f) t ks a.1 in
    let e : total f t ks ≡ total (without k f) t ks = total_without f t k ks a.0 in
    omega arith

-- no name twice
abbrev pub NamesApart : List Name → Type 0
NamesApart [] = Unit {0}
NamesApart (n ∷ ns) = ((m : Name) → Mem m ns → ¬ (m ≡ n)) × NamesApart ns

pub get_or_get : {X : Type 0} (xs : List X) (k : ℕ) (x d : X) → slice_get xs k ≡ Some x → (k < length xs) × (get_or xs k d ≡ x)
get_or_get [] k x d e = absurd (cc)
get_or_get (y ∷ ys) zero x d e = (omega arith, (cc))
get_or_get (y ∷ ys) (suc k) x d e = let r = get_or_get ys k x d e in let l : k < length ys = r.0 in (omega arith, r.1)

pub names_apart : (ns : List Name) → AllPairs (λ m n. m ≢ n) ns → NamesApart ns
names_apart [] a = tt
names_apart (n ∷ ns) a = (first, names_apart ns (λ i j d l k. a (suc i) (suc j) d (omega arith) (omega arith)))
  where
    first : (m : Name) → Mem m ns → ¬ (m ≡ n)
    first m q e =
        let k = get_mem m ns q in
        let r = get_or_get ns k.0 m n k.1 in
        let l : k.0 < length ns = r.0 in
        a 0 (suc k.0) n (omega arith) (omega arith) (sym e ∙ sym r.1)

-- the schedulings of one run
module _ (g : Tag) (a min : ℕ) (t : List Row) (h : Tag) (c : ℕ) where
  due : ℕ × Value → Option Value
  due x = cond (same_tag g (after h (min + x.0))) (Some x.1) None

  by_step : Step → Option Value
  by_step s = option_and_then due (value_scheduled a s)

  steps_only : filter_map by_step (steps_of t h c) ≡ filter_map (only (h, c) (scheduled g a min)) t
  unfolding by_step due
  steps_only = filter_map-filter_map (step_of h c) by_step (only (h, c) (scheduled g a min)) same t
    where
      same : (x : Row) → only (h, c) (scheduled g a min) x ≡ option_and_then by_step (step_of h c x)
      same x = go (of_run (h, c) x) refl
        where
          go : (b : Bool) → of_run (h, c) x ≡ b → cond b (scheduled g a min x) None ≡ option_and_then by_step (cond b (Some x.step) None)
          go false e = refl
          go true e = let p : h ≡ x.tag = same_tag_true h x.tag (both_true (same_tag h x.tag) (c == x.reaction) e).0 in ap (λ (k : Tag). option_and_then (λ (y : ℕ × Value). cond (same_tag g (after k (min + y.0))) (Some y.1) None) (value_scheduled a x.step)) (sym p)

  again : filter_map by_step (map (λ (y : ℕ × Value). Schedule (Action a) y.1 y.0) (filter_map (value_scheduled a) (steps_of t h c))) ≡ filter_map by_step (steps_of t h c)
  unfolding by_step due
  again = filter_map-map (λ (y : ℕ × Value). Schedule (Action a) y.1 y.0) by_step (filter_map (value_scheduled a) (steps_of t h c)) ∙ filter_map-filter_map (value_scheduled a) (λ (y : ℕ × Value). by_step (Schedule (Action a) y.1 y.0)) by_step same (steps_of t h c)
    where
      same : (s : Step) → by_step s ≡ option_and_then (λ (y : ℕ × Value). by_step (Schedule (Action a) y.1 y.0)) (value_scheduled a s)
      same s = go (value_scheduled a s) refl
        where
          go : (o : Option (ℕ × Value)) → value_scheduled a s ≡ o → option_and_then due o ≡ option_and_then (λ (y : ℕ × Value). by_step (Schedule (Action a) y.1 y.0)) o
          go None e = refl
          go (Some y) e = ap (λ o. option_and_then due o) (sym (some_scheduled a y.0 y.1))

  other_action : (b : ℕ) → ¬ (a ≡ b) → (xs : List (ℕ × Value)) → filter_map by_step (map (λ (y : ℕ × Value). Schedule (Action b) y.1 y.0) xs) ≡ []
  unfolding by_step due
  other_action b n [] = refl
  other_action b n (y ∷ ys) = let z : (a == b) ≡ false = ne_eqb a b n in rw z (other_action b n ys)

  -- the schedulings among the rows of some effects
  parts : List Name → List Step
  parts ns = flat_map schedule_steps (map (λ (n : Name). (n, outcome_of (steps_of t h c) n)) ns)

  none_there : (ns : List Name) → ¬ Mem (Action a) ns → filter_map by_step (parts ns) ≡ []
  unfolding parts
  none_there [] n = refl
  none_there (Port p ∷ ns) n = none_there ns (λ m. n (inr m))
  none_there (Action b ∷ ns) n =
      let one = map (λ (y : ℕ × Value). Schedule (Action b) y.1 y.0) (filter_map (value_scheduled b) (steps_of t h c)) in
      let x : filter_map by_step one ≡ [] = other_action b (λ e. n (inl (ap Action (sym e)))) (filter_map (value_scheduled b) (steps_of t h c)) in
      filter_map-append by_step one (parts ns) ∙ ap (λ ys. ys ++ filter_map by_step (parts ns)) x ∙ none_there ns (λ m. n (inr m))

  once : (ns : List Name) → NamesApart ns → length (filter_map by_step (parts ns)) ≤ length (filter_map by_step (steps_of t h c))
  unfolding parts
  once [] d = omega arith
  once (Port p ∷ ns) d = once ns d.1
  once (Action b ∷ ns) d = go (ℕ_discrete a b) (once ns d.1)
    where
      one : List Step
      one = map (λ (y : ℕ × Value). Schedule (Action b) y.1 y.0) (filter_map (value_scheduled b) (steps_of t h c))

      go : Dec (a ≡ b) → length (filter_map by_step (parts ns)) ≤ length (filter_map by_step (steps_of t h c)) → length (filter_map by_step (one ++ parts ns)) ≤ length (filter_map by_step (steps_of t h c))
      go (yes e) r =
          let x : filter_map by_step (parts ns) ≡ [] = none_there ns (λ m. d.0 (Action a) m (ap Action e)) in
          let y : filter_map by_step one ≡ filter_map by_step (steps_of t h c) = subst (λ (k : ℕ). filter_map by_step (map (λ (y : ℕ × Value). Schedule (Action k) y.1 y.0) (filter_map (value_scheduled k) (steps_of t h c))) ≡ filter_map by_step (steps_of t h c)) e again in
          let z : length (filter_map by_step (one ++ parts ns)) ≡ length (filter_map by_step one) + length (filter_map by_step (parts ns)) = ap length (filter_map-append by_step one (parts ns)) ∙ length-append (filter_map by_step one) (filter_map by_step (parts ns)) in
          let xl : length (filter_map by_step (parts ns)) ≡ 0 = ap length x in
          let yl : length (filter_map by_step one) ≡ length (filter_map by_step (steps_of t h c)) = ap length y in
          omega arith
      go (no n) r =
          let x : filter_map by_step one ≡ [] = other_action b n (filter_map (value_scheduled b) (steps_of t h c)) in
          let xl : length (filter_map by_step one) ≡ 0 = ap length x in
          let z : length (filter_map by_step (one ++ parts ns)) ≡ length (filter_map by_step one) + length (filter_map by_step (parts ns)) = ap length (filter_map-append by_step one (parts ns)) ∙ length-append (filter_map by_step one) (filter_map by_step (parts ns)) in
          omega arith

  some_part : (ns : List Name) → Mem (Action a) ns → length (filter_map by_step (steps_of t h c)) ≤ length (filter_map by_step (parts ns))
  unfolding parts
  some_part [] m = absurd m
  some_part (Port p ∷ ns) (inl e) = absurd (cc)
  some_part (Port p ∷ ns) (inr m) = some_part ns m
  some_part (Action b ∷ ns) (inl e) =
      let one = map (λ (y : ℕ × Value). Schedule (Action b) y.1 y.0) (filter_map (value_scheduled b) (steps_of t h c)) in
      let q : b ≡ a = cc in
      let y : filter_map by_step one ≡ filter_map by_step (steps_of t h c) = subst (λ (k : ℕ). filter_map by_step (map (λ (y : ℕ × Value). Schedule (Action k) y.1 y.0) (filter_map (value_scheduled k) (steps_of t h c))) ≡ filter_map by_step (steps_of t h c)) (sym q) again in
      let z : length (filter_map by_step (one ++ parts ns)) ≡ length (filter_map by_step one) + length (filter_map by_step (parts ns)) = ap length (filter_map-append by_step one (parts ns)) ∙ length-append (filter_map by_step one) (filter_map by_step (parts ns)) in
      let yl : length (filter_map by_step one) ≡ length (filter_map by_step (steps_of t h c)) = ap length y in
      omega arith
  some_part (Action b ∷ ns) (inr m) =
      let one = map (λ (y : ℕ × Value). Schedule (Action b) y.1 y.0) (filter_map (value_scheduled b) (steps_of t h c)) in
      let z : length (filter_map by_step (one ++ parts ns)) ≡ length (filter_map by_step one) + length (filter_map by_step (parts ns)) = ap length (filter_map-append by_step one (parts ns)) ∙ length-append (filter_map by_step one) (filter_map by_step (parts ns)) in
      let r : length (filter_map by_step (steps_of t h c)) ≤ length (filter_map by_step (parts ns)) = some_part ns m in
      omega arith

  module _ (plan : PlanParts) where
    run_length : length (filter_map (scheduled g a min) (rows_of_run plan.program (run_at plan t h c))) ≡ length (filter_map by_step (parts (effects_of plan.program c)))
    unfolding by_step due parts
    run_length =
        let rd = Start ∷ filter_map read_step (zip (inputs_of plan.program c) (reads_at plan t h c)) in
        let wr = filter_map write_step (zip (effects_of plan.program c) (map (outcome_of (steps_of t h c)) (effects_of plan.program c))) in
        let sc = flat_map schedule_steps (zip (effects_of plan.program c) (map (outcome_of (steps_of t h c)) (effects_of plan.program c))) in
        let cl = closing_steps (request_of (steps_of t h c)) in
        let e0 : filter_map (scheduled g a min) (rows_of_run plan.program (run_at plan t h c)) ≡ filter_map by_step (rd ++ wr ++ sc ++ cl) = filter_map-map (λ (s : Step). let r : Row = record { worker = 0; tag = h; reaction = c; step = s } in r) (scheduled g a min) (rd ++ wr ++ sc ++ cl) in
        let e1 : filter_map by_step (rd ++ wr ++ sc ++ cl) ≡ filter_map by_step (rd ++ wr ++ sc) ++ filter_map by_step cl = filter_map-append by_step (rd ++ wr ++ sc) cl in
        let e2 : filter_map by_step (rd ++ wr ++ sc) ≡ filter_map by_step (rd ++ wr) ++ filter_map by_step sc = filter_map-append by_step (rd ++ wr) sc in
        let e3 : filter_map by_step (rd ++ wr) ≡ filter_map by_step rd ++ filter_map by_step wr = filter_map-append by_step rd wr in
        let l1 : length (filter_map by_step (rd ++ wr ++ sc) ++ filter_map by_step cl) ≡ length (filter_map by_step (rd ++ wr ++ sc)) + length (filter_map by_step cl) = length-append (filter_map by_step (rd ++ wr ++ sc)) (filter_map by_step cl) in
        let l2 : length (filter_map by_step (rd ++ wr) ++ filter_map by_step sc) ≡ length (filter_map by_step (rd ++ wr)) + length (filter_map by_step sc) = length-append (filter_map by_step (rd ++ wr)) (filter_map by_step sc) in
        let l3 : length (filter_map by_step rd ++ filter_map by_step wr) ≡ length (filter_map by_step rd) + length (filter_map by_step wr) = length-append (filter_map by_step rd) (filter_map by_step wr) in
        let k0 : length (filter_map (scheduled g a min) (rows_of_run plan.program (run_at plan t h c))) ≡ length (filter_map by_step (rd ++ wr ++ sc ++ cl)) = ap length e0 in
        let k1 : length (filter_map by_step (rd ++ wr ++ sc ++ cl)) ≡ length (filter_map by_step (rd ++ wr ++ sc) ++ filter_map by_step cl) = ap length e1 in
        let k2 : length (filter_map by_step (rd ++ wr ++ sc)) ≡ length (filter_map by_step (rd ++ wr) ++ filter_map by_step sc) = ap length e2 in
        let k3 : length (filter_map by_step (rd ++ wr)) ≡ length (filter_map by_step rd ++ filter_map by_step wr) = ap length e3 in
        let z0 : length (filter_map by_step cl) ≡ 0 = no_closing (request_of (steps_of t h c)) in
        let z1 : length (filter_map by_step rd) ≡ 0 = ap length (none_nil by_step (filter_map read_step (zip (inputs_of plan.program c) (reads_at plan t h c))) no_read) in
        let z2 : length (filter_map by_step wr) ≡ 0 = ap length (none_nil by_step wr no_write) in
        let z3 : length (filter_map by_step sc) ≡ length (filter_map by_step (parts (effects_of plan.program c))) = ap (λ (zs : List (Name × Outcome)). length (filter_map by_step (flat_map schedule_steps zs))) (zip-map (outcome_of (steps_of t h c)) (effects_of plan.program c)) in
        omega arith
      where
        no_closing : (b : Bool) → length (filter_map by_step (closing_steps b)) ≡ 0
        no_closing true = refl
        no_closing false = refl

        no_read : (j : ℕ) (y : Step) → slice_get (filter_map read_step (zip (inputs_of plan.program c) (reads_at plan t h c))) j ≡ Some y → by_step y ≡ None
        no_read j y e = let r = in_reads (zip (inputs_of plan.program c) (reads_at plan t h c)) y (mem_get (filter_map read_step (zip (inputs_of plan.program c) (reads_at plan t h c))) j y e) in ap (λ (s : Step). by_step s) r.2

        no_write : (j : ℕ) (y : Step) → slice_get (filter_map write_step (zip (effects_of plan.program c) (map (outcome_of (steps_of t h c)) (effects_of plan.program c)))) j ≡ Some y → by_step y ≡ None
        no_write j y e = let r = in_writes (effects_of plan.program c) (steps_of t h c) y (mem_get (filter_map write_step (zip (effects_of plan.program c) (map (outcome_of (steps_of t h c)) (effects_of plan.program c)))) j y e) in ap (λ (s : Step). by_step s) r.is_step

    pub run_bound : NamesApart (effects_of plan.program c) → length (filter_map (scheduled g a min) (rows_of_run plan.program (run_at plan t h c))) ≤ count (only (h, c) (scheduled g a min)) t
    run_bound apart =
        let z3 : length (filter_map (scheduled g a min) (rows_of_run plan.program (run_at plan t h c))) ≡ length (filter_map by_step (parts (effects_of plan.program c))) = run_length in
        let z4 : length (filter_map by_step (parts (effects_of plan.program c))) ≤ length (filter_map by_step (steps_of t h c)) = once (effects_of plan.program c) apart in
        let z5 : length (filter_map by_step (steps_of t h c)) ≡ count (only (h, c) (scheduled g a min)) t = ap length steps_only in
        omega arith

    pub run_cover : Mem (Action a) (effects_of plan.program c) → count (only (h, c) (scheduled g a min)) t ≤ length (filter_map (scheduled g a min) (rows_of_run plan.program (run_at plan t h c)))
    run_cover m =
        let z3 : length (filter_map (scheduled g a min) (rows_of_run plan.program (run_at plan t h c))) ≡ length (filter_map by_step (parts (effects_of plan.program c))) = run_length in
        let z4 : length (filter_map by_step (steps_of t h c)) ≤ length (filter_map by_step (parts (effects_of plan.program c))) = some_part (effects_of plan.program c) m in
        let z5 : length (filter_map by_step (steps_of t h c)) ≡ count (only (h, c) (scheduled g a min)) t = ap length steps_only in
        omega arith

-- all runs together
abbrev pub end_key : Row → Step → Option Key
end_key row End = Some (row.tag, row.reaction)
end_key row Start = None
end_key row (Read n v) = None
end_key row (Write n v) = None
end_key row (Schedule n v d) = None
end_key row Stop = None

-- no two rows have one key
abbrev pub OneKey : List Row → Type 0
OneKey xs = (i j : ℕ) (x y : Row) (k : Key) → slice_get xs i ≡ Some x → slice_get xs j ≡ Some y → end_key x x.step ≡ Some k → end_key y y.step ≡ Some k → i ≡ j

keys_apart : (xs : List Row) → OneKey xs → Apart (filter_map (λ x. end_key x x.step) xs)
keys_apart [] o = tt
keys_apart (x ∷ xs) o = go (end_key x x.step) refl (keys_apart xs (λ i j y z k e f p q. let s : suc i ≡ suc j = o (suc i) (suc j) y z k e f p q in omega arith))
  where
    other : (k : Key) → end_key x x.step ≡ Some k → (j : Key) → Mem j (filter_map (λ x. end_key x x.step) xs) → ¬ (j ≡ k)
    other k e j m q =
        let r = mem_from_filter (λ (x : Row). end_key x x.step) xs j m in
        let p = get_mem r.0 xs r.1 in
        let s : 0 ≡ suc p.0 = o 0 (suc p.0) x r.0 k refl p.1 e (r.2 ∙ ap Some q) in
        omega arith

    go : (b : Option Key) → end_key x x.step ≡ b → Apart (filter_map (λ x. end_key x x.step) xs) → Apart (cons_option b (filter_map (λ x. end_key x x.step) xs))
    go None e r = r
    go (Some k) e r = (other k e, r)

module _ (plan : PlanParts) (t : List Row) (g : Tag) (a min : ℕ) (distinct : (c : ℕ) → NamesApart (effects_of plan.program c)) where
  abbrev shown : Run → List Value
  shown u = filter_map (scheduled g a min) (rows_of_run plan.program u)

  bound_all : (xs : List Row) → length (flat_map shown (filter_map (λ x. ended_by plan t x x.step) xs)) ≤ total (scheduled g a min) t (filter_map (λ x. end_key x x.step) xs)
  bound_all [] = omega arith
  bound_all (x ∷ xs) = go x.step (bound_all xs)
    where
      go : (s : Step) → length (flat_map shown (filter_map (λ x. ended_by plan t x x.step) xs)) ≤ total (scheduled g a min) t (filter_map (λ x. end_key x x.step) xs) → length (flat_map shown (cons_option (ended_by plan t x s) (filter_map (λ x. ended_by plan t x x.step) xs))) ≤ total (scheduled g a min) t (cons_option (end_key x s) (filter_map (λ x. end_key x x.step) xs))
      go Start r = r
      go (Read n v) r = r
      go (Write n v) r = r
      go (Schedule n v d) r = r
      go Stop r = r
      go End r =
          let one = shown (run_at plan t x.tag x.reaction) in
          let rest = flat_map shown (filter_map (λ x. ended_by plan t x x.step) xs) in
          let l : length (one ++ rest) ≡ length one + length rest = length-append one rest in
          let b : length one ≤ count (only (x.tag, x.reaction) (scheduled g a min)) t = run_bound g a min t x.tag x.reaction plan (distinct x.reaction) in
          omega arith

  pub rows_bound : (xs : List Row) → OneKey xs → length (filter_map (scheduled g a min) (rows_of plan.program (filter_map (λ x. ended_by plan t x x.step) xs))) ≤ length (filter_map (scheduled g a min) t)
  rows_bound xs o =
      let e : length (filter_map (scheduled g a min) (rows_of plan.program (filter_map (λ x. ended_by plan t x x.step) xs))) ≡ length (flat_map shown (filter_map (λ x. ended_by plan t x x.step) xs)) = ap length (filter_map-flat_map (rows_of_run plan.program) (scheduled g a min) (filter_map (λ x. ended_by plan t x x.step) xs)) in
      let b : length (flat_map shown (filter_map (λ x. ended_by plan t x x.step) xs)) ≤ total (scheduled g a min) t (filter_map (λ x. end_key x x.step) xs) = bound_all xs in
      let w : total (scheduled g a min) t (filter_map (λ x. end_key x x.step) xs) ≤ count (scheduled g a min) t = total_within (scheduled g a min) t (filter_map (λ x. end_key x x.step) xs) (keys_apart xs o) in
      omega arith

-- where every row that counts has its run among the keys, the runs count them all
count_less : {Y : Type 0} (f h : Row → Option Y) → ((x : Row) → (f x ≡ h x) ⊎ (f x ≡ None)) → (t : List Row) → count f t ≤ count h t
count_less f h e [] = omega arith
count_less {Y} f h e (x ∷ xs) = go (e x) (count_less f h e xs)
  where
    over : (o : Option Y) → count f xs ≤ count h xs → length (cons_option o (filter_map f xs)) ≤ length (cons_option o (filter_map h xs))
    over None l = l
    over (Some y) l = omega arith

    wide : (o : Option Y) → count f xs ≤ count h xs → length (filter_map f xs) ≤ length (cons_option o (filter_map h xs))
    wide None l = l
    wide (Some y) l = omega arith

    go : (f x ≡ h x) ⊎ (f x ≡ None) → count f xs ≤ count h xs → length (cons_option (f x) (filter_map f xs)) ≤ length (cons_option (h x) (filter_map h xs))
    go (inl q) l = rw q (over (h x) l)
    go (inr q) l = rw q (wide (h x) l)

only_less : {Y : Type 0} (j k : Key) (f : Row → Option Y) (x : Row) → (only j (without k f) x ≡ only j f x) ⊎ (only j (without k f) x ≡ None)
only_less {Y} j k f x = go (of_run j x) (of_run k x)
  where
    go : (b c : Bool) → (cond b (cond c None (f x)) None ≡ cond b (f x) None) ⊎ (cond b (cond c None (f x)) None ≡ None)
    go true true = inr refl
    go true false = inl refl
    go false c = inl refl

total_less : {Y : Type 0} (k : Key) (f : Row → Option Y) (t : List Row) (ks : List Key) → total (without k f) t ks ≤ total f t ks
total_less k f t [] = omega arith
total_less k f t (j ∷ ks) =
    let a : count (only j (without k f)) t ≤ count (only j f) t = count_less (only j (without k f)) (only j f) (only_less j k f) t in
    let b : total (without k f) t ks ≤ total f t ks = total_less k f t ks in
    omega arith

of_run_own : (x : Row) → of_run (x.tag, x.reaction) x ≡ true
of_run_own x = let a : same_tag x.tag x.tag ≡ true = same_tag_refl x.tag x.tag refl in let b : (x.reaction == x.reaction) ≡ true = eq-eqb x.reaction x.reaction refl in rw (a, b) refl

pub total_covers : {Y : Type 0} (ks : List Key) (f : Row → Option Y) (t : List Row) → ((x : Row) (y : Y) → Mem x t → f x ≡ Some y → Mem (x.tag, x.reaction) ks) → count f t ≤ total f t ks
total_covers {Y} [] f t c =
    let z : filter_map f t ≡ [] = none_nil f t none in
    let l : count f t ≡ 0 = ap length z in
    omega arith
  where
    none : (j : ℕ) (x : Row) → slice_get t j ≡ Some x → f x ≡ None
    none j x e = go (f x) refl
      where
        go : (o : Option Y) → f x ≡ o → f x ≡ None
        go None q = q
        go (Some y) q = absurd (c x y (mem_get t j x e) q)
total_covers {Y} (k ∷ ks) f t c =
    let a : count f t ≡ count (only k f) t + count (without k f) t = count_split k f t in
    let b : count (without k f) t ≤ total (without k f) t ks = total_covers ks (without k f) t rest in
    let d : total (without k f) t ks ≤ total f t ks = total_less k f t ks in
    omega arith
  where
    rest : (x : Row) (y : Y) → Mem x t → without k f x ≡ Some y → Mem (x.tag, x.reaction) ks
    rest x y m e = go (of_run k x) refl (f x) refl e
      where
        go : (b : Bool) → of_run k x ≡ b → (o : Option Y) → f x ≡ o → cond b None o ≡ Some y → Mem (x.tag, x.reaction) ks
        go true p o q z = absurd (cc)
        go false p None q z = absurd (cc)
        go false p (Some w) q z = at (c x w m q)
          where
            at : (k ≡ (x.tag, x.reaction)) ⊎ Mem (x.tag, x.reaction) ks → Mem (x.tag, x.reaction) ks
            at (inr n) = n
            at (inl e) = let u : true ≡ false = sym (of_run_own x) ∙ ap (λ (j : Key). of_run j x) (sym e) ∙ p in absurd (cc)

module _ (plan : PlanParts) (t : List Row) (g : Tag) (a min : ℕ) where
  cover_all : (xs : List Row) → ((x : Row) → Mem x xs → x.step ≡ End → count (only (x.tag, x.reaction) (scheduled g a min)) t ≤ length (filter_map (scheduled g a min) (rows_of_run plan.program (run_at plan t x.tag x.reaction)))) → total (scheduled g a min) t (filter_map (λ x. end_key x x.step) xs) ≤ length (flat_map (λ u. filter_map (scheduled g a min) (rows_of_run plan.program u)) (filter_map (λ x. ended_by plan t x x.step) xs))
  cover_all [] k = omega arith
  cover_all (x ∷ xs) k = go x.step refl (cover_all xs (λ y m e. k y (inr m) e))
    where
      go : (s : Step) → x.step ≡ s → total (scheduled g a min) t (filter_map (λ x. end_key x x.step) xs) ≤ length (flat_map (λ u. filter_map (scheduled g a min) (rows_of_run plan.program u)) (filter_map (λ x. ended_by plan t x x.step) xs)) → total (scheduled g a min) t (cons_option (end_key x s) (filter_map (λ x. end_key x x.step) xs)) ≤ length (flat_map (λ u. filter_map (scheduled g a min) (rows_of_run plan.program u)) (cons_option (ended_by plan t x s) (filter_map (λ x. ended_by plan t x x.step) xs)))
      go Start q r = r
      go (Read n v) q r = r
      go (Write n v) q r = r
      go (Schedule n v d) q r = r
      go Stop q r = r
      go End q r =
          let one = filter_map (scheduled g a min) (rows_of_run plan.program (run_at plan t x.tag x.reaction)) in
          let rest = flat_map (λ u. filter_map (scheduled g a min) (rows_of_run plan.program u)) (filter_map (λ x. ended_by plan t x x.step) xs) in
          let l : length (one ++ rest) ≡ length one + length rest = length-append one rest in
          let b : count (only (x.tag, x.reaction) (scheduled g a min)) t ≤ length one = k x (inl refl) q in
          omega arith

  -- where each row that schedules belongs to a run that ended, and each such run covers its rows, the ended runs give no fewer events
  pub rows_cover : ((x : Row) (v : Value) → Mem x t → scheduled g a min x ≡ Some v → Mem (x.tag, x.reaction) (filter_map (λ x. end_key x x.step) t)) → ((x : Row) → Mem x t → x.step ≡ End → count (only (x.tag, x.reaction) (scheduled g a min)) t ≤ length (filter_map (scheduled g a min) (rows_of_run plan.program (run_at plan t x.tag x.reaction)))) → length (filter_map (scheduled g a min) t) ≤ length (filter_map (scheduled g a min) (rows_of plan.program (by_ends plan t)))
  rows_cover c k =
      let e : length (filter_map (scheduled g a min) (rows_of plan.program (by_ends plan t))) ≡ length (flat_map (λ u. filter_map (scheduled g a min) (rows_of_run plan.program u)) (by_ends plan t)) = ap length (filter_map-flat_map (rows_of_run plan.program) (scheduled g a min) (by_ends plan t)) in
      let b : total (scheduled g a min) t (filter_map (λ x. end_key x x.step) t) ≤ length (flat_map (λ u. filter_map (scheduled g a min) (rows_of_run plan.program u)) (by_ends plan t)) = cover_all t k in
      let w : count (scheduled g a min) t ≤ total (scheduled g a min) t (filter_map (λ x. end_key x x.step) t) = total_covers (filter_map (λ x. end_key x x.step) t) (scheduled g a min) t c in
      omega arith
