-- The rows of some runs by place: each run has a block of them, from its start row to its end row.
use Rattle.std.proofs.Common.{◌≡◌, ℕ, zero, suc, ◌+◌, ◌<◌, ◌≤◌, ◌⊎◌, inl, inr, List, [], ◌∷◌, ◌++◌, length, length-append, take, refl, sym, ap, ◌∙◌, subst, arith, Option, Some, None, Bool, true, false, cond, ◌&&◌, ◌==◌, eq-eqb, eqb-true, slice_get, filter_map, flat_map, option_to_list, zip}
use Rattle.std.{specs.List.cons_option, proofs.lemmas.List.length-map}
use Rattle.lft_tag.{specs.Tags.same_tag, proofs.Order.{same_tag_refl, same_tag_true}}
use Rattle.lft_lists.proofs.Members.{Mem, mem_get, get_mem, mem_right, mem_cases, mem_from_map, none_nil, filter_map-map, filter_map-flat_map}
use Rattle.lft_lists.proofs.{Places.{get_append_cases, get_left}, Mapped.{mapped, mapped_from}}
use Rattle.lft_ir.specs.Parts.{Parts}
use Rattle.lft_ir.specs.declared.{parts.{Value.Value, Name.Name}, steps.row.{Row.Row, Step.{Step, TheVariants.{Start, Read, Write, Schedule, Stop, End}}}}
use Rattle.lft_ir.specs.Naming.{same_name}
use Rattle.lft_ir.proofs.Naming.{name_same, name_self}
use Rattle.lft_model.specs.Runs.{Run, inputs_of, read_step, value_read, step_of, closing_steps, steps_of_run, rows_of_run, rows_of}
use Rattle.lft_model.proofs.{Steps.both_true, Counted.NamesApart}
use Rattle.lft_model.proofs.RunSteps.{read_part, write_part, schedule_part, in_reads, in_writes, in_schedules, row_with, mem_zip}

-- lists by place
pub put_right : {X : Type 0} (xs ys : List X) (j : ℕ) (x : X) (i : ℕ) → i ≡ length xs + j → slice_get ys j ≡ Some x → slice_get (xs ++ ys) i ≡ Some x
put_right [] ys j x i q e = ap (λ k. slice_get ys k) (let z : i ≡ j = omega arith in z) ∙ e
put_right (z ∷ xs) ys j x zero q e = absurd (omega arith)
put_right (z ∷ xs) ys j x (suc i) q e = let p : i ≡ length xs + j = omega arith in put_right xs ys j x i p e

pub two_places : {X Y : Type 0} (h : X → Option Y) (xs : List X) (i j : ℕ) (x y : X) (a b : Y) → i < j → slice_get xs i ≡ Some x → slice_get xs j ≡ Some y → h x ≡ Some a → h y ≡ Some b → 2 ≤ length (filter_map h xs)
two_places h [] i j x y a b l e f p q = absurd (cc)
two_places h (z ∷ xs) i zero x y a b l e f p q = absurd (omega arith)
two_places {X} {Y} h (z ∷ xs) zero (suc j) x y a b l e f p q =
    let w : h z ≡ Some a = ap (λ o. h o) (let r : z ≡ x = cc in r) ∙ p in
    let n : 1 ≤ length (filter_map h xs) = some_there h xs j y b f q in
    rw w (omega arith)
  where
    some_there : (h : X → Option Y) (xs : List X) (j : ℕ) (y : X) (b : Y) → slice_get xs j ≡ Some y → h y ≡ Some b → 1 ≤ length (filter_map h xs)
    some_there h [] j y b f q = absurd (cc)
    some_there h (z ∷ xs) zero y b f q = let w : h z ≡ Some b = ap (λ o. h o) (let r : z ≡ y = cc in r) ∙ q in rw w (omega arith)
    some_there h (z ∷ xs) (suc j) y b f q = over (h z) (filter_map h xs) (some_there h xs j y b f q)
      where
        over : (o : Option Y) (ys : List Y) → 1 ≤ length ys → 1 ≤ length (cons_option o ys)
        over None ys n = n
        over (Some v) ys n = omega arith
two_places {X} {Y} h (z ∷ xs) (suc i) (suc j) x y a b l e f p q = over (h z) (filter_map h xs) (two_places h xs i j x y a b (omega arith) e f p q)
  where
    over : (o : Option Y) (ys : List Y) → 2 ≤ length ys → 2 ≤ length (cons_option o ys)
    over None ys n = n
    over (Some v) ys n = omega arith

-- a joined list of which one part alone isn't empty
flat_single : {X Y : Type 0} (f : X → List Y) (xs : List X) (k : ℕ) (u : X) → slice_get xs k ≡ Some u → ((j : ℕ) (w : X) → slice_get xs j ≡ Some w → ¬ (j ≡ k) → f w ≡ []) → flat_map f xs ≡ f u
flat_single f [] k u e n = absurd (cc)
flat_single {X} {Y} f (x ∷ xs) zero u e n =
    let q : x ≡ u = cc in
    ap (λ ys. f x ++ ys) (all_nil xs (λ j w r. n (suc j) w r (λ z. let y : suc j ≡ 0 = z in omega arith))) ∙ append_nil (f x) ∙ ap f q
  where
    all_nil : (ys : List X) → ((j : ℕ) (y : X) → slice_get ys j ≡ Some y → f y ≡ []) → flat_map f ys ≡ []
    all_nil [] n = refl
    all_nil (y ∷ ys) n = let a : f y ≡ [] = n 0 y refl in rw a (all_nil ys (λ j w r. n (suc j) w r))

    append_nil : (ys : List Y) → ys ++ [] ≡ ys
    append_nil [] = refl
    append_nil (y ∷ ys) = ap (λ zs. y ∷ zs) (append_nil ys)
flat_single f (x ∷ xs) (suc k) u e n = let a : f x ≡ [] = n 0 x refl (λ z. let y : 0 ≡ suc k = z in omega arith) in rw a (flat_single f xs k u e (λ j w r d. n (suc j) w r (λ z. let y : suc j ≡ suc k = z in d (omega arith))))

-- a step between the start and the end
abbrev pub IsMiddle : Step → Type 0
IsMiddle Start = ⊥
IsMiddle (Read n v) = Unit {0}
IsMiddle (Write n v) = Unit {0}
IsMiddle (Schedule n v d) = Unit {0}
IsMiddle Stop = Unit {0}
IsMiddle End = ⊥

module _ (program : Parts) (u : Run) where
  abbrev middle : List Step
  middle = read_part program u ++ write_part program u ++ schedule_part program u

  in_middle : (s : Step) → Mem s middle → IsMiddle s
  in_middle s m = second (mem_cases s (read_part program u ++ write_part program u) (schedule_part program u) m)
    where
      first : Mem s (read_part program u) ⊎ Mem s (write_part program u) → IsMiddle s
      first (inl m) = let r = in_reads program u s m in subst (λ (z : Step). IsMiddle z) (sym r.is_step) tt
      first (inr m) = let r = in_writes program u s m in subst (λ (z : Step). IsMiddle z) (sym r.is_step) tt

      second : Mem s (read_part program u ++ write_part program u) ⊎ Mem s (schedule_part program u) → IsMiddle s
      second (inl m) = first (mem_cases s (read_part program u) (write_part program u) m)
      second (inr m) = let r = in_schedules program u s m in subst (λ (z : Step). IsMiddle z) (sym r.is_step) tt

  -- a run starts once, at its first step
  pub start_first : (j : ℕ) → slice_get (steps_of_run program u) j ≡ Some Start → j ≡ 0
  start_first zero e = refl
  start_first (suc j) e = absurd (go (mem_cases Start middle (closing_steps u.answer.stops) (mem_get (middle ++ closing_steps u.answer.stops) j Start e)))
    where
      closing : (b : Bool) → Mem Start (closing_steps b) → ⊥
      closing true (inl e) = cc
      closing true (inr (inl e)) = cc
      closing true (inr (inr z)) = z
      closing false (inl e) = cc
      closing false (inr z) = z

      go : Mem Start middle ⊎ Mem Start (closing_steps u.answer.stops) → ⊥
      go (inl m) = in_middle Start m
      go (inr m) = closing u.answer.stops m

  -- and it ends once, at its last
  pub end_last : (i j : ℕ) (s : Step) → slice_get (steps_of_run program u) j ≡ Some End → slice_get (steps_of_run program u) i ≡ Some s → i ≤ j
  end_last i j s e f = go (Start ∷ middle) u.answer.stops no_end i j e f
    where
      no_end : (s : Step) → Mem s (Start ∷ middle) → ¬ (s ≡ End)
      no_end s (inl q) e = let z : Start ≡ End = q ∙ e in cc
      no_end s (inr m) e = subst (λ (z : Step). IsMiddle z) e (in_middle s m)

      go : (xs : List Step) (b : Bool) → ((s : Step) → Mem s xs → ¬ (s ≡ End)) → (i j : ℕ) → slice_get (xs ++ closing_steps b) j ≡ Some End → slice_get (xs ++ closing_steps b) i ≡ Some s → i ≤ j
      go [] true n zero j e f = omega arith
      go [] true n (suc zero) zero e f = absurd (cc)
      go [] true n (suc zero) (suc j) e f = omega arith
      go [] true n (suc (suc i)) j e f = absurd (cc)
      go [] false n zero j e f = omega arith
      go [] false n (suc i) j e f = absurd (cc)
      go (x ∷ xs) b n zero j e f = omega arith
      go (x ∷ xs) b n (suc i) zero e f = let q : x ≡ End = cc in absurd (n x (inl refl) q)
      go (x ∷ xs) b n (suc i) (suc j) e f = let q : i ≤ j = go xs b (λ s m. n s (inr m)) i j e f in omega arith

  pub has_end : (j : ℕ) × (slice_get (steps_of_run program u) j ≡ Some End)
  has_end = get_mem End (steps_of_run program u) (mem_right End (Start ∷ middle) (closing_steps u.answer.stops) (closing u.answer.stops))
    where
      closing : (b : Bool) → Mem End (closing_steps b)
      closing true = inr (inl refl)
      closing false = inl refl

  -- what a run reads of an input is the one read step of that name
  name_read : (m n : Name) (v : Value) → ¬ (m ≡ n) → value_read m (Read n v) ≡ None
  name_read m n v d = go (same_name m n) refl
    where
      go : (b : Bool) → same_name m n ≡ b → cond b (Some v) None ≡ None
      go true e = absurd (d (name_same m n e))
      go false e = refl

  reads_none : (ns : List Name) (os : List (Option Value)) (n : Name) → ¬ Mem n ns → filter_map (value_read n) (filter_map read_step (zip ns os)) ≡ []
  reads_none [] os n d = refl
  reads_none (m ∷ ns) [] n d = refl
  reads_none (m ∷ ns) (None ∷ os) n d = reads_none ns os n (λ z. d (inr z))
  reads_none (m ∷ ns) (Some v ∷ os) n d = let e : value_read n (Read m v) ≡ None = name_read n m v (λ z. d (inl (sym z))) in rw e (reads_none ns os n (λ z. d (inr z)))

  pub reads_one : (ns : List Name) (os : List (Option Value)) (n : Name) (o : Option Value) → NamesApart ns → Mem (n, o) (zip ns os) → filter_map (value_read n) (filter_map read_step (zip ns os)) ≡ option_to_list o
  reads_one [] os n o a m = absurd m
  reads_one (k ∷ ns) [] n o a m = absurd m
  reads_one (k ∷ ns) (None ∷ os) n o a (inl e) = let p : k ≡ n = ap (λ (x : Name × Option Value). x.0) e in let q : None ≡ o = ap (λ (x : Name × Option Value). x.1) e in reads_none ns os n (λ m. a.0 n m (sym p)) ∙ ap option_to_list q
  reads_one (k ∷ ns) (Some v ∷ os) n o a (inl e) =
      let p : k ≡ n = ap (λ (x : Name × Option Value). x.0) e in
      let q : Some v ≡ o = ap (λ (x : Name × Option Value). x.1) e in
      let r : same_name n k ≡ true = subst (λ (z : Name). same_name n z ≡ true) (sym p) (name_self n) in
      let s : filter_map (value_read n) (filter_map read_step (zip ns os)) ≡ [] = reads_none ns os n (λ m. a.0 n m (sym p)) in
      rw (r, s) (ap option_to_list q)
  reads_one (k ∷ ns) (None ∷ os) n o a (inr m) = reads_one ns os n o a.1 m
  reads_one (k ∷ ns) (Some v ∷ os) n o a (inr m) = let e : value_read n (Read k v) ≡ None = name_read n k v (λ z. a.0 n (mem_zip n o ns os m).0 z) in rw e (reads_one ns os n o a.1 m)

  no_others : (n : Name) (s : Step) → Mem s (write_part program u) ⊎ (Mem s (schedule_part program u) ⊎ Mem s (closing_steps u.answer.stops)) → value_read n s ≡ None
  no_others n s (inl m) = let r = in_writes program u s m in ap (λ (z : Step). value_read n z) r.is_step
  no_others n s (inr (inl m)) = let r = in_schedules program u s m in ap (λ (z : Step). value_read n z) r.is_step
  no_others n s (inr (inr m)) = closing u.answer.stops m
    where
      closing : (b : Bool) → Mem s (closing_steps b) → value_read n s ≡ None
      closing true (inl e) = ap (λ (z : Step). value_read n z) (sym e)
      closing true (inr (inl e)) = ap (λ (z : Step). value_read n z) (sym e)
      closing true (inr (inr z)) = absurd z
      closing false (inl e) = ap (λ (z : Step). value_read n z) (sym e)
      closing false (inr z) = absurd z

  pub reads_shown : (n : Name) (o : Option Value) → NamesApart (inputs_of program u.reaction) → Mem (n, o) (zip (inputs_of program u.reaction) u.reads) → filter_map (value_read n) (steps_of_run program u) ≡ option_to_list o
  reads_shown n o a m =
      let x = read_part program u in
      let y = write_part program u in
      let z = schedule_part program u in
      let c = closing_steps u.answer.stops in
      none_after (x ++ y ++ z) c (λ s q. no_others n s (inr (inr q))) ∙ none_after (x ++ y) z (λ s q. no_others n s (inr (inl q))) ∙ none_after x y (λ s q. no_others n s (inl q)) ∙ reads_one (inputs_of program u.reaction) u.reads n o a m
    where
      none_after : (xs ys : List Step) → ((s : Step) → Mem s ys → value_read n s ≡ None) → filter_map (value_read n) (xs ++ ys) ≡ filter_map (value_read n) xs
      none_after [] ys d = none_nil (value_read n) ys (λ j y e. d y (mem_get ys j y e))
      none_after (x ∷ xs) ys d = ap (λ zs. cons_option (value_read n x) zs) (none_after xs ys d)

-- where a row of some runs stands: its run, and its place among the rows of that run
pub record Placed (program : Parts) (l : List Run) (i : ℕ) (x : Row) : Type 0 where
  pub place : ℕ
  pub run : Run
  pub inner : ℕ
  pub is_run : slice_get l place ≡ Some run
  pub is_step : slice_get (steps_of_run program run) inner ≡ Some x.step
  pub row_is : row_with run x.step ≡ x
  pub stands : i ≡ length (rows_of program (take place l)) + inner

module _ (program : Parts) where
  rows_length : (u : Run) → length (rows_of_run program u) ≡ length (steps_of_run program u)
  rows_length u = length-map (steps_of_run program u) (row_with u)

  next_length : (u : Run) (l : List Run) → length (rows_of program (u ∷ l)) ≡ length (rows_of_run program u) + length (rows_of program l)
  next_length u l = length-append (rows_of_run program u) (rows_of program l)

  pub placed : (l : List Run) (i : ℕ) (x : Row) → slice_get (rows_of program l) i ≡ Some x → Placed program l i x
  placed [] i x e = absurd (cc)
  placed (u ∷ l) i x e = go (get_append_cases (rows_of_run program u) (rows_of program l) i x e) (λ j q. placed l j x q)
    where
      first : ((s : Step) × (slice_get (steps_of_run program u) i ≡ Some s) × (row_with u s ≡ x)) → Placed program (u ∷ l) i x
      first r = let q : r.0 ≡ x.step = ap (λ (y : Row). y.step) r.2 in record { place = 0; run = u; inner = i; is_run = refl; is_step = r.1 ∙ ap Some q; row_is = ap (λ (s : Step). row_with u s) (sym q) ∙ r.2; stands = omega arith }

      go : (slice_get (rows_of_run program u) i ≡ Some x) ⊎ ((j : ℕ) × (i ≡ length (rows_of_run program u) + j) × (slice_get (rows_of program l) j ≡ Some x)) → ((j : ℕ) → slice_get (rows_of program l) j ≡ Some x → Placed program l j x) → Placed program (u ∷ l) i x
      go (inl a) rest = first (mapped_from (row_with u) (steps_of_run program u) i x a)
      go (inr r) rest =
          let p = rest r.0 r.2 in
          let a : i ≡ length (rows_of_run program u) + r.0 = r.1 in
          let b : r.0 ≡ length (rows_of program (take p.place l)) + p.inner = p.stands in
          let c : length (rows_of program (u ∷ take p.place l)) ≡ length (rows_of_run program u) + length (rows_of program (take p.place l)) = next_length u (take p.place l) in
          record { place = suc p.place; run = p.run; inner = p.inner; is_run = p.is_run; is_step = p.is_step; row_is = p.row_is; stands = omega arith }

  pub put_row : (l : List Run) (k : ℕ) (u : Run) (j : ℕ) (s : Step) → slice_get l k ≡ Some u → slice_get (steps_of_run program u) j ≡ Some s → slice_get (rows_of program l) (length (rows_of program (take k l)) + j) ≡ Some (row_with u s)
  put_row [] k u j s e f = absurd (cc)
  put_row (v ∷ l) zero u j s e f =
      let q : v ≡ u = cc in
      let z : j ≡ 0 + j = omega arith in
      subst (λ (i : ℕ). slice_get (rows_of program (v ∷ l)) i ≡ Some (row_with u s)) z (subst (λ (w : Run). slice_get (rows_of program (w ∷ l)) j ≡ Some (row_with u s)) (sym q) (get_left (rows_of_run program u) (rows_of program l) j (row_with u s) (mapped (row_with u) (steps_of_run program u) j s f)))
  put_row (v ∷ l) (suc k) u j s e f =
      let c : length (rows_of program (v ∷ take k l)) ≡ length (rows_of_run program v) + length (rows_of program (take k l)) = next_length v (take k l) in
      put_right (rows_of_run program v) (rows_of program l) (length (rows_of program (take k l)) + j) (row_with u s) (length (rows_of program (v ∷ take k l)) + j) (omega arith) (put_row l k u j s e f)

  -- an earlier run's rows stand before a later run's
  pub blocks : (l : List Run) (k j : ℕ) (u : Run) → k < j → slice_get l k ≡ Some u → length (rows_of program (take k l)) + length (steps_of_run program u) ≤ length (rows_of program (take j l))
  blocks [] k j u b e = absurd (cc)
  blocks (v ∷ l) k zero u b e = absurd (omega arith)
  blocks (v ∷ l) zero (suc j) u b e =
      let q : v ≡ u = cc in
      let c : length (rows_of program (v ∷ take j l)) ≡ length (rows_of_run program v) + length (rows_of program (take j l)) = next_length v (take j l) in
      let d : length (rows_of_run program v) ≡ length (steps_of_run program u) = rows_length v ∙ ap (λ (w : Run). length (steps_of_run program w)) q in
      omega arith
  blocks (v ∷ l) (suc k) (suc j) u b e =
      let r : length (rows_of program (take k l)) + length (steps_of_run program u) ≤ length (rows_of program (take j l)) = blocks l k j u (omega arith) e in
      let c : length (rows_of program (v ∷ take j l)) ≡ length (rows_of_run program v) + length (rows_of program (take j l)) = next_length v (take j l) in
      let d : length (rows_of program (v ∷ take k l)) ≡ length (rows_of_run program v) + length (rows_of program (take k l)) = next_length v (take k l) in
      omega arith

  -- the steps of a run among the rows of runs of which no other has its tag and reaction
  pub steps_alone : (l : List Run) (k : ℕ) (u : Run) → slice_get l k ≡ Some u → ((j : ℕ) (w : Run) → slice_get l j ≡ Some w → w.tag ≡ u.tag → w.reaction ≡ u.reaction → j ≡ k) → filter_map (step_of u.tag u.reaction) (rows_of program l) ≡ steps_of_run program u
  steps_alone l k u e alone = filter_map-flat_map (rows_of_run program) (step_of u.tag u.reaction) l ∙ flat_single (λ (w : Run). filter_map (step_of u.tag u.reaction) (rows_of_run program w)) l k u e others ∙ own
    where
      all_some : (xs : List Step) (f : Step → Option Step) → ((s : Step) → f s ≡ Some s) → filter_map f xs ≡ xs
      all_some [] f h = refl
      all_some (x ∷ xs) f h = let q : f x ≡ Some x = h x in rw q (ap (λ ys. x ∷ ys) (all_some xs f h))

      mine : (s : Step) → step_of u.tag u.reaction (row_with u s) ≡ Some s
      mine s = let a : same_tag u.tag u.tag ≡ true = same_tag_refl u.tag u.tag refl in let b : (u.reaction == u.reaction) ≡ true = eq-eqb u.reaction u.reaction refl in rw (a, b) refl

      own : filter_map (step_of u.tag u.reaction) (rows_of_run program u) ≡ steps_of_run program u
      own = filter_map-map (row_with u) (step_of u.tag u.reaction) (steps_of_run program u) ∙ all_some (steps_of_run program u) (λ s. step_of u.tag u.reaction (row_with u s)) mine

      others : (j : ℕ) (w : Run) → slice_get l j ≡ Some w → ¬ (j ≡ k) → filter_map (step_of u.tag u.reaction) (rows_of_run program w) ≡ []
      others j w q d = none_nil (step_of u.tag u.reaction) (rows_of_run program w) none
        where
          at : (s : Step) (b : Bool) → same_tag u.tag w.tag && (u.reaction == w.reaction) ≡ b → cond b (Some s) None ≡ None
          at s true z = let p = both_true (same_tag u.tag w.tag) (u.reaction == w.reaction) z in absurd (d (alone j w q (sym (same_tag_true u.tag w.tag p.0)) (sym (eqb-true u.reaction w.reaction p.1))))
          at s false z = refl

          none : (i : ℕ) (y : Row) → slice_get (rows_of_run program w) i ≡ Some y → step_of u.tag u.reaction y ≡ None
          none i y e = let r = mem_from_map (row_with w) (steps_of_run program w) y (mem_get (rows_of_run program w) i y e) in ap (λ (x : Row). step_of u.tag u.reaction x) (sym r.2) ∙ at r.0 (same_tag u.tag w.tag && (u.reaction == w.reaction)) refl
