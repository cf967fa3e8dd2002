-- The pass as a whole: what is known after one more row, and the first row that breaks a rule.
use Rattle.std.proofs.Common.{◌≡◌, ℕ, ◌+◌, ◌<◌, ◌⊎◌, inl, inr, List, length, refl, sym, ap, ◌∙◌, subst, arith, Option, Some, None, slice_get, cond, ◌==◌, ne_eqb}
use Rattle.std.proofs.lemmas.Bool.{eq-eqb}
use native.Mathlib.Decide.{ℕ_discrete, dec_lt}
use Rattle.lft_tag.{specs.{declared.Tag.Tag, Tags.{Before, UpTo}}, proofs.Order.order_cases}
use Rattle.lft_ir.specs.{Parts.Parts, declared.steps.row.{Row.Row, Step.TheVariants.Start}}
use Rattle.lft_model.specs.{declared.breach.Breach.Breach, Plans.PlanParts, Runs.start_row, Breaches.{IsUnended, BreaksRowUntil, RowBreachUntil, RowOrder}}
use Rattle.lft_model.proofs.Places.{slice_get_within}
use Rattle.lft_rows.specs.declared.marks.Marks.{Marks}
use Rattle.lft_rows.specs.declared.open.{OpenRuns.OpenRuns, LastStarts.LastStarts}
use Rattle.lft_rows.specs.declared.pass.Known.{Known}
use Rattle.lft_rows.specs.inner.{Marks.AreMarks, Places.{place_of, last_of}, Passes.{OpenPlace, Holds, IsKnown, LastStart, KeepsEarly, FirstUnended}}
use Rattle.lft_rows.specs.Firsts.{IsFirstOfRows}
use Rattle.lft_rows.proofs.{Opens.{weaken, starts_none, starts_one}, Early.{late_of, latest_more, start_more, start_same}, Steps.{row_eq, out_start}}

module _ (stop : Tag) (plan : PlanParts) (t : List Row) (i : ℕ) (row : Row) (is_row : slice_get t i ≡ Some row) (kept : KeepsEarly stop plan t (i + 1)) (program : Parts) (known : Known) (h : IsKnown program t i known) (marks : Marks) (marked : AreMarks program t 0 (i + 1) marks) where
  start_parts : (w : ℕ) (g : Tag) (r : ℕ) → slice_get t i ≡ Some (start_row w g r) → (row.step ≡ Start) × (row.worker ≡ w) × (row.reaction ≡ r)
  start_parts w g r e = let a : Some row ≡ Some (start_row w g r) = sym is_row ∙ e in let b : row ≡ start_row w g r = cc in (ap (λ (z : Row). z.step) b, ap (λ (z : Row). z.worker) b, ap (λ (z : Row). z.reaction) b)

  here : i < i + 1
  here = omega arith

  low : UpTo known.last row.tag
  low = go (order_cases row.tag known.last)
    where
      go : Before row.tag known.last ⊎ UpTo known.last row.tag → UpTo known.last row.tag
      go (inl b) = absurd (kept i row 1 here is_row (omega arith) (inl (refl, late_of t i row known.last h.latest b)))
      go (inr u) = u

  module _ (runs : OpenRuns) (held : Holds t i (i + 1) runs) where
    free : row.step ≡ Start → OpenPlace t i (i + 1) row.worker None
    free st = go (place_of runs row.worker) (held row.worker)
      where
        go : (o : Option ℕ) → OpenPlace t i (i + 1) row.worker o → OpenPlace t i (i + 1) row.worker None
        go None k = k
        go (Some s) k = absurd (kept i row 3 here is_row (omega arith) (inr (inr (inl (refl, out_start t i row row.step st (inr (k.tag, k.reaction, record { start = s; before = k.before; starts = k.unended.starts; not_ended = (weaken t i s row.worker k.tag k.reaction k.unended).not_ended })))))))

    pub add_start : (more : OpenRuns) (starts : LastStarts) → length starts.tags.items ≡ length known.starts.tags.items → row.step ≡ Start → ((w : ℕ) → place_of more w ≡ cond (row.worker == w) (Some i) (place_of runs w)) → ((r : ℕ) → last_of starts r ≡ cond (row.reaction == r) (Some row.tag) (last_of known.starts r)) → IsKnown program t (i + 1) (record { last = row.tag; starts = starts; runs = more; marks = marks })
    add_start more starts long st q s = record { many = long ∙ h.many; latest = latest_more t i row known.last h.latest is_row low; started = λ r. go_start r (ℕ_discrete row.reaction r); held = λ w. go_open w (ℕ_discrete row.worker w); marked = marked }
      where
        it : slice_get t i ≡ Some (start_row row.worker row.tag row.reaction)
        it = is_row ∙ ap Some (row_eq row Start st)

        go_start : (r : ℕ) → Dec (row.reaction ≡ r) → LastStart t (i + 1) r (last_of starts r)
        go_start r (yes e) = let a : last_of starts r ≡ Some row.tag = s r ∙ ap (λ b. cond b (Some row.tag) (last_of known.starts r)) (eq-eqb row.reaction r e) in subst (λ z. LastStart t (i + 1) r z) (sym a) (subst (λ z. LastStart t (i + 1) z (Some row.tag)) e (start_more t i row.reaction row.worker row.tag known.last h.latest low it))
        go_start r (no n) = let a : last_of starts r ≡ last_of known.starts r = s r ∙ ap (λ b. cond b (Some row.tag) (last_of known.starts r)) (ne_eqb row.reaction r n) in subst (λ z. LastStart t (i + 1) r z) (sym a) (start_same t i r (last_of known.starts r) (h.started r) (λ w g e. n (start_parts w g r e).2))

        go_open : (w : ℕ) → Dec (row.worker ≡ w) → OpenPlace t (i + 1) (i + 1) w (place_of more w)
        go_open w (yes e) = let a : place_of more w ≡ Some i = q w ∙ ap (λ b. cond b (Some i) (place_of runs w)) (eq-eqb row.worker w e) in subst (λ z. OpenPlace t (i + 1) (i + 1) w z) (sym a) (subst (λ z. OpenPlace t (i + 1) (i + 1) z (Some i)) e (starts_one t i row.worker row.tag row.reaction (free st) it))
        go_open w (no n) = let a : place_of more w ≡ place_of runs w = q w ∙ ap (λ b. cond b (Some i) (place_of runs w)) (ne_eqb row.worker w n) in subst (λ z. OpenPlace t (i + 1) (i + 1) w z) (sym a) (starts_none t i w (place_of runs w) (held w) (λ g r e. n (start_parts w g r e).1))

    pub add_inner : ¬ (row.step ≡ Start) → IsKnown program t (i + 1) (record { last = row.tag; starts = known.starts; runs = runs; marks = marks })
    add_inner n = record { many = h.many; latest = latest_more t i row known.last h.latest is_row low; started = λ r. start_same t i r (last_of known.starts r) (h.started r) (λ w g e. n (start_parts w g r e).0); held = λ w. starts_none t i w (place_of runs w) (held w) (λ g r e. n (start_parts w g r e).0); marked = marked }

pub keep_more : (stop : Tag) (plan : PlanParts) (t : List Row) (i : ℕ) → i < length t → KeepsEarly stop plan t i → ((row : Row) → slice_get t i ≡ Some row → (k : ℕ) → k < 5 → ¬ BreaksRowUntil stop plan t i row k) → KeepsEarly stop plan t (i + 1)
keep_more stop plan t i l kept n j row k a e b = go (ℕ_discrete j i)
  where
    go : Dec (j ≡ i) → ¬ BreaksRowUntil stop plan t j row k
    go (yes q) = subst (λ z. ¬ BreaksRowUntil stop plan t z row k) (sym q) (n row (ap (λ z. slice_get t z) (sym q) ∙ e) k b)
    go (no m) = let c : j < i = omega arith in kept j row k c e b

-- a breach is of rule 5 or of a lesser one
rule_cases : (stop : Tag) (plan : PlanParts) (t : List Row) (i : ℕ) (row : Row) (k : ℕ) → BreaksRowUntil stop plan t i row k → (k < 5) ⊎ ((k ≡ 5) × IsUnended t i row)
rule_cases stop plan t i row k (inl x) = let e : k ≡ 1 = x.0 in inl (omega arith)
rule_cases stop plan t i row k (inr (inl x)) = let e : k ≡ 2 = x.0 in inl (omega arith)
rule_cases stop plan t i row k (inr (inr (inl x))) = let e : k ≡ 3 = x.0 in inl (omega arith)
rule_cases stop plan t i row k (inr (inr (inr (inl x)))) = let e : k ≡ 4 = x.0 in inl (omega arith)
rule_cases stop plan t i row k (inr (inr (inr (inr x)))) = inr x

-- the breach b is that of the row at place i by rule k
pub record IsBreachOf (t : List Row) (i k : ℕ) (b : Breach) : Type 0 where
  pub rule : b.rule ≡ k
  pub row : b.row ≡ i + 2
  pub tag : (x : Row) → slice_get t i ≡ Some x → b.tag ≡ x.tag
  pub reaction : (x : Row) → slice_get t i ≡ Some x → b.reaction ≡ Some x.reaction

is_breach : (stop : Tag) (plan : PlanParts) (t : List Row) (i k : ℕ) (b : Breach) (row : Row) → slice_get t i ≡ Some row → IsBreachOf t i k b → BreaksRowUntil stop plan t i row k → RowBreachUntil stop plan t b
is_breach stop plan t i k b row e o x = record { place = i; row = row; is_row = e; breaks = subst (λ z. BreaksRowUntil stop plan t i row z) (sym o.rule) x; tag_is = o.tag row e; reaction_is = o.reaction row e; row_is = o.row }

-- a breach is least where no lesser row breaks a rule, nor the row itself a lesser rule
least : (stop : Tag) (plan : PlanParts) (t : List Row) (i k : ℕ) (b : Breach) → IsBreachOf t i k b → ((j : ℕ) (row : Row) (m : ℕ) → j < i → slice_get t j ≡ Some row → ¬ BreaksRowUntil stop plan t j row m) → ((row : Row) (m : ℕ) → slice_get t i ≡ Some row → m < k → ¬ BreaksRowUntil stop plan t i row m) → (c : Breach) → RowBreachUntil stop plan t c → RowOrder b c
least stop plan t i k b o n m c x = go (dec_lt x.place i) (ℕ_discrete x.place i)
  where
    go : Dec (x.place < i) → Dec (x.place ≡ i) → RowOrder b c
    go (yes l) d = absurd (n x.place x.row c.rule l x.is_row x.breaks)
    go (no l) (yes e) = same (dec_lt c.rule k)
      where
        same : Dec (c.rule < k) → RowOrder b c
        same (yes q) = absurd (m x.row c.rule (ap (λ z. slice_get t z) (sym e) ∙ x.is_row) q (subst (λ z. BreaksRowUntil stop plan t z x.row c.rule) e x.breaks))
        same (no q) = let y : b.row ≡ i + 2 = o.row in let z : c.row ≡ x.place + 2 = x.row_is in let r : b.rule ≡ k = o.rule in inr (omega arith, omega arith)
    go (no l) (no e) = let y : b.row ≡ i + 2 = o.row in let z : c.row ≡ x.place + 2 = x.row_is in inl (omega arith)

pub unended_first : (stop : Tag) (plan : PlanParts) (t : List Row) (p s : ℕ) (b : Breach) → KeepsEarly stop plan t p → FirstUnended t p (Some s) → IsBreachOf t s 5 b → IsFirstOfRows stop plan t b
unended_first stop plan t p s b kept f o = record { breaks = is_breach stop plan t s 5 b f.0 f.2 o (inr (inr (inr (inr (refl, f.3))))); least = least stop plan t s 5 b o before (λ row m e l. kept s row m f.1 e l) }
  where
    before : (j : ℕ) (row : Row) (m : ℕ) → j < s → slice_get t j ≡ Some row → ¬ BreaksRowUntil stop plan t j row m
    before j row m l e x = let a : s < p = f.1 in go (rule_cases stop plan t j row m x)
      where
        go : (m < 5) ⊎ ((m ≡ 5) × IsUnended t j row) → ⊥
        go (inl q) = let a : s < p = f.1 in let d : j < p = omega arith in kept j row m d e q x
        go (inr q) = f.4 j row l e q.1

none_before : (stop : Tag) (plan : PlanParts) (t : List Row) (p : ℕ) → KeepsEarly stop plan t p → FirstUnended t p None → (j : ℕ) (row : Row) (m : ℕ) → j < p → slice_get t j ≡ Some row → ¬ BreaksRowUntil stop plan t j row m
none_before stop plan t p kept f j row m l e x = go (rule_cases stop plan t j row m x)
  where
    go : (m < 5) ⊎ ((m ≡ 5) × IsUnended t j row) → ⊥
    go (inl q) = kept j row m l e q x
    go (inr q) = f j row l e q.1

pub early_first : (stop : Tag) (plan : PlanParts) (t : List Row) (p k : ℕ) (b : Breach) → KeepsEarly stop plan t p → FirstUnended t p None → ((row : Row) × (slice_get t p ≡ Some row) × BreaksRowUntil stop plan t p row k × (k < 5) × ((m : ℕ) → m < k → ¬ BreaksRowUntil stop plan t p row m)) → IsBreachOf t p k b → IsFirstOfRows stop plan t b
early_first stop plan t p k b kept f r o = record { breaks = is_breach stop plan t p k b r.0 r.1 o r.2; least = least stop plan t p k b o (none_before stop plan t p kept f) same }
  where
    same : (row : Row) (m : ℕ) → slice_get t p ≡ Some row → m < k → ¬ BreaksRowUntil stop plan t p row m
    same row m e l = let a : Some r.0 ≡ Some row = sym r.1 ∙ e in let q : r.0 ≡ row = cc in subst (λ z. ¬ BreaksRowUntil stop plan t p z m) q (r.4 m l)

pub none_first : (stop : Tag) (plan : PlanParts) (t : List Row) (p : ℕ) → p ≡ length t → KeepsEarly stop plan t p → FirstUnended t p None → (c : Breach) → ¬ RowBreachUntil stop plan t c
none_first stop plan t p e kept f c x = let l : x.place < length t = slice_get_within t x.place x.row x.is_row in let m : x.place < p = omega arith in none_before stop plan t p kept f x.place x.row c.rule m x.is_row x.breaks
