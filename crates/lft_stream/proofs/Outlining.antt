-- What rows cause is told by those from the first effect up to the last.
use Rattle.std.proofs.Common.{◌≡◌, ◌≢◌, ◌∷◌, ℕ, ◌+◌, ◌-◌, ◌<◌, ◌≤◌, inl, inr, Bool, true, false, cond, List, [], ◌++◌, length, take, drop, refl, sym, ap, ◌∙◌, subst, arith, Option, Some, None, slice_get, slice_range, filter_map, option_map, option_to_list, Contains}
use Rattle.std.specs.{List.last_or, Option.option_and_then}
use Rattle.std.proofs.lemmas.{List.{append-nil, length-append, take_all, take-append-drop, Elements.filter_map-append}, Bool.cases_eq}
use native.Mathlib.Decide.{dec_lt}
use Rattle.lft_tag.specs.{declared.Tag.Tag, Tags.{after, same_tag}}
use Rattle.lft_lists.proofs.{Picked.kept_more, Places.same_at}
use Rattle.lft_lists.proofs.Members.{Mem, get_mem, mem_get, mem_contains, contains_mem, mem_filter, mem_from_filter, none_nil, filter_map-filter_map}
use Rattle.lft_ir.specs.Parts.{Parts}
use Rattle.lft_ir.specs.declared.parts.{Name.{Name, TheVariants.{Port, Action}}, Value.Value}
use Rattle.lft_ir.specs.declared.steps.row.{Row.Row, Step.{Step, TheVariants.{Start, Read, Write, Schedule, Stop, End}}}
use Rattle.lft_ir.specs.Steps.Fits.{RowsFit}
use Rattle.lft_ir.proofs.Ranges.{range-get, range-within, slice_get-drop}
use Rattle.lft_model.specs.{Plans.PlanParts, Presence.{asked, requests, value_written, value_scheduled, written, min_delay}, Runs.{start_row, Ran}}
use Rattle.lft_model.specs.Accepted.{begins, runs_in}
use Rattle.lft_model.proofs.Places.{slice_get_take, slice_get_within}
use Rattle.lft_rows.{specs.{declared.marks.Marks.Marks, inner.Marks.{NoneReads, IsMark, AreMarks}}, proofs.{Steps.row_eq, Counted.{count_start, count_inner}}}
use Rattle.lft_queue.specs.inner.Coming.{AtOnce.{AreHeard, origin_of}, Channels.{arrives_at, caused_by}, Lanes.coming, Shown.last_write}
use Rattle.lft_queue.specs.inner.Coming.{Unread.{UnreadParts, AreUnread, AreFree, IsWrittenAt, IsLastTag}, Writes.AreWrites}
use Rattle.lft_queue.specs.{Coming.AtTag.AreAt, declared.coming.writes.Written.Written}
use Rattle.lft_stream.specs.inner.Outlines.{started_by, starters, has_effect, effect_of, effect_rows, IsSpan, AreReadsBefore, IsOutlineTo, IsOutline, AreEffectsOf}
use Rattle.lft_stream.specs.declared.outline.{PlaceRange.PlaceRange, Outline.Outline}
use Rattle.lft_stream.proofs.Parting.{up_to_second, range_fits}

-- what is found by effects alone is found in rows with the same effects
module _ {Y : Type 0} (k : Row → Option Y) (quiet : (x : Row) → has_effect x.step ≡ false → k x ≡ None) where
  by_effect : (x : Row) → k x ≡ option_and_then k (effect_of x)
  by_effect x = go (has_effect x.step) refl
    where
      go : (b : Bool) → has_effect x.step ≡ b → k x ≡ option_and_then k (cond b (Some x) None)
      go true e = refl
      go false e = quiet x e

  same_found : (u v : List Row) → effect_rows u ≡ effect_rows v → filter_map k u ≡ filter_map k v
  same_found u v e = sym (filter_map-filter_map effect_of k k by_effect u) ∙ ap (λ (t : List Row). filter_map k t) e ∙ filter_map-filter_map effect_of k k by_effect v

quiet_stop : (g : Tag) (s : Step) → has_effect s ≡ false → asked g s ≡ None
quiet_stop g Start e = refl
quiet_stop g (Read n v) e = refl
quiet_stop g (Write n v) e = refl
quiet_stop g (Schedule n v d) e = refl
quiet_stop g Stop e = absurd (cc e)
quiet_stop g End e = refl

quiet_write : (p : ℕ) (s : Step) → has_effect s ≡ false → value_written p s ≡ None
quiet_write p Start e = refl
quiet_write p (Read n v) e = refl
quiet_write p (Write n v) e = absurd (cc e)
quiet_write p (Schedule n v d) e = refl
quiet_write p Stop e = refl
quiet_write p End e = refl

quiet_schedule : (a : ℕ) (s : Step) → has_effect s ≡ false → value_scheduled a s ≡ None
quiet_schedule a Start e = refl
quiet_schedule a (Read n v) e = refl
quiet_schedule a (Write n v) e = refl
quiet_schedule a (Schedule n v d) e = absurd (cc e)
quiet_schedule a Stop e = refl
quiet_schedule a End e = refl

quiet_row : (g : Tag) (p : ℕ) (x : Row) → has_effect x.step ≡ false → written g p x ≡ None
quiet_row g p x e = go (same_tag g x.tag)
  where
    go : (b : Bool) → cond b (value_written p x.step) None ≡ None
    go true = quiet_write p x.step e
    go false = refl

-- a row that has an effect is among all rows with the same effects
effect_there : (u v : List Row) → effect_rows u ≡ effect_rows v → (i : ℕ) (x : Row) → slice_get u i ≡ Some x → has_effect x.step ≡ true → (j : ℕ) × (slice_get v j ≡ Some x)
effect_there u v same i x e has =
    let kept : effect_of x ≡ Some x = ap (λ b. cond b (Some x) None) has in
    let back = mem_from_filter effect_of v x (subst (λ (t : List Row). Mem x t) same (mem_filter effect_of x x u (mem_get u i x e) kept)) in
    get_mem x v (subst (λ (y : Row). Mem y v) (own (has_effect back.0.step) back.0 back.2) back.1)
  where
    own : (b : Bool) (y : Row) → cond b (Some y) None ≡ Some x → y ≡ x
    own true y q = cc
    own false y q = absurd (cc)

module _ (u v : List Row) (same : effect_rows u ≡ effect_rows v) where
  pub requests_same : requests u ≡ requests v
  requests_same = same_found (λ row. asked row.tag row.step) (λ x e. quiet_stop x.tag x.step e) u v same

  last_same : (g : Tag) (p : ℕ) → last_write u g p ≡ last_write v g p
  last_same g p = ap (λ (ws : List Value). last_or None ws) (same_found (written g p) (quiet_row g p) u v same)

  pub writes_same : (program : Parts) (g : Tag) (writes : List (Option Written)) → AreWrites program u g writes → AreWrites program v g writes
  writes_same program g writes are = record { as_long = are.as_long; up_to = are.up_to; each = λ p w e. are.each p w e ∙ last_same g p }

  pub heard_same : (plan : PlanParts) (t : List Row) (g : Tag) → AreHeard plan t u g → AreHeard plan t v g
  heard_same plan t g heard p o r x way last listens = heard p o r x way (last_same g o ∙ last) listens

  pub caused_same : (plan : PlanParts) (g : Tag) (n : Name) → caused_by plan u g n ≡ caused_by plan v g n
  caused_same plan g (Port p) = ap (λ (w : Option Value). option_to_list (option_map (λ x. (arrives_at plan.program g p, x)) w)) (last_same g (origin_of plan.program p))
  caused_same plan g (Action a) = same_found (coming a (min_delay plan.program a)) (λ x e. ap (λ o. option_map (λ y. (after x.tag (min_delay plan.program a + y.0), y.1)) o) (quiet_schedule a x.step e)) u v same

  written_same : (o : ℕ) (g : Tag) → IsWrittenAt u o g → IsWrittenAt v o g
  written_same o g w = let there = effect_there u v same w.place w.row w.is_row (ap has_effect w.writes) in record { place = there.0; row = w.row; value = w.value; is_row = there.1; writes = w.writes; tag_is = w.tag_is }

pub free_same : (program : Parts) (t u v : List Row) (g last : Tag) → effect_rows u ≡ effect_rows v → AreFree program t u g last → AreFree program t v g last
free_same program t u v g last same free o w = free o (written_same v u (sym same) o g w)

pub unread_same : (program : Parts) (t u v : List Row) (unread : UnreadParts) → effect_rows u ≡ effect_rows v → AreUnread program (t ++ u) unread → AreUnread program (t ++ v) unread
unread_same program t u v unread same are = record { soonest = are.soonest; none = are.none; as_long = are.as_long; last = λ any o k e. tag_same o k (are.last any o k e) }
  where
    all : effect_rows (t ++ u) ≡ effect_rows (t ++ v)
    all = filter_map-append effect_of t u ∙ ap (λ (s : List Row). effect_rows t ++ s) same ∙ sym (filter_map-append effect_of t v)

    tag_same : (o : ℕ) (k : Option Tag) → IsLastTag (t ++ u) o k → IsLastTag (t ++ v) o k
    tag_same o None none = λ g w. none g (written_same (t ++ v) (t ++ u) (sym all) o g w)
    tag_same o (Some h) last = (written_same (t ++ u) (t ++ v) all o h last.0, λ g w. last.1 g (written_same (t ++ v) (t ++ u) (sym all) o g w))

-- rows from one place up to another are of the program as all are, and at the tag
module _ (u effects : List Row) (are : AreEffectsOf u effects) where
  pub effects_fit : (program : Parts) → RowsFit program u → RowsFit program effects
  effects_fit program fit = subst (λ (t : List Row). RowsFit program t) (sym are.is_part) (range_fits u are.first are.end are.in_order are.within program fit)

  pub effects_at : (g : Tag) → AreAt u g → AreAt effects g
  effects_at g at = subst (λ (t : List Row). AreAt t g) (sym are.is_part) (λ i x e. at (are.first + i) x (sym (range-get u are.first are.end i (range-within u are.first are.end i x are.within e)) ∙ e))

-- all reactions that start are listed
pub all_started : (u : List Row) (o : Outline) → IsOutline u o → o.started.items ≡ starters u
all_started u o is = is.started ∙ ap starters (take_all (length u) u (omega arith))

-- with more rows that have no effect the span is right still
pub span_stays : (u : List Row) (n : ℕ) (s : PlaceRange) (x : Row) → slice_get u n ≡ Some x → has_effect x.step ≡ false → IsSpan u n s → IsSpan u (n + 1) s
span_stays u n s x here quiet is = record {
  in_order = is.in_order;
  within = let w = is.within in omega (arith, w);
  each = λ i y l e has. elim (cases_eq i n) [
    | inl q ↦ let same : y ≡ x = same_at u i n y x e here q in let bad : false ≡ true = sym quiet ∙ ap (λ (z : Row). has_effect z.step) (sym same) ∙ has in absurd (cc bad)
    | inr m ↦ is.each i y (omega (arith, l, m)) e has
  ];
}

-- with one more row that doesn't read, the reads stand where they stood
pub reads_stay : (u : List Row) (n place : ℕ) (x : Row) → slice_get u n ≡ Some x → ((m : Name) (v : Value) → x.step ≢ Read m v) → AreReadsBefore u n place → AreReadsBefore u (n + 1) place
reads_stay u n place x here none is = record {
  within = let w = is.within in omega (arith, w);
  each = λ i y m v l e reads. elim (cases_eq i n) [
    | inl q ↦ let same : y ≡ x = same_at u i n y x e here q in absurd (none m v (ap (λ (z : Row). z.step) (sym same) ∙ reads))
    | inr d ↦ is.each i y m v (omega (arith, l, d)) e reads
  ];
}

-- and with one that reads they stand before the place past it
pub reads_here : (u : List Row) (n place : ℕ) → AreReadsBefore u n place → AreReadsBefore u (n + 1) (n + 1)
reads_here u n place is = record { within = omega arith; each = λ i y m v l e reads. l }

begins_start : (s : Step) → begins s ≡ true → s ≡ Start
begins_start Start e = refl
begins_start (Read n v) e = absurd (cc e)
begins_start (Write n v) e = absurd (cc e)
begins_start (Schedule n v d) e = absurd (cc e)
begins_start Stop e = absurd (cc e)
begins_start End e = absurd (cc e)

-- with one more row what starts is listed as long as a start adds its reaction
pub starts_here : (u : List Row) (n : ℕ) (started : List ℕ) (x : Row) → slice_get u n ≡ Some x → x.step ≡ Start → started ≡ starters (take n u) → started ++ x.reaction ∷ [] ≡ starters (take (n + 1) u)
starts_here u n started x here start is = ap (λ (s : List ℕ). s ++ x.reaction ∷ []) is ∙ sym (kept_more started_by u n x (Some x.reaction) here (sym (ap (λ (s : Step). cond (begins s) (Some x.reaction) None) start)))

pub starts_stay : (u : List Row) (n : ℕ) (started : List ℕ) (x : Row) → slice_get u n ≡ Some x → x.step ≢ Start → started ≡ starters (take n u) → started ≡ starters (take (n + 1) u)
starts_stay u n started x here other is = is ∙ sym (append-nil (starters (take n u))) ∙ sym (kept_more started_by u n x None here (sym (go (begins x.step) refl)))
  where
    go : (b : Bool) → begins x.step ≡ b → cond b (Some x.reaction) None ≡ None
    go true e = absurd (other (begins_start x.step e))
    go false e = refl

-- the span with one more row that has an effect: the first one, or a further one
pub span_first : (u : List Row) (n : ℕ) (s : PlaceRange) → s.end ≡ 0 → IsSpan u n s → IsSpan u (n + 1) (record { first = n; end = n + 1 })
span_first u n s none is = record {
  in_order = omega arith;
  within = omega arith;
  each = λ i y l e has. elim (cases_eq i n) [
    | inl q ↦ (omega (arith, q), l)
    | inr d ↦ let low = (is.each i y (omega (arith, l, d)) e has).1 in absurd (omega (arith, low, none))
  ];
}

pub span_more : (u : List Row) (n : ℕ) (s : PlaceRange) → IsSpan u n s → IsSpan u (n + 1) (record { first = s.first; end = n + 1 })
span_more u n s is = record {
  in_order = let a = is.in_order in let b = is.within in omega (arith, a, b);
  within = omega arith;
  each = λ i y l e has. elim (cases_eq i n) [
    | inl q ↦ let a = is.in_order in let b = is.within in (omega (arith, q, a, b), l)
    | inr d ↦ ((is.each i y (omega (arith, l, d)) e has).0, l)
  ];
}

-- what is found with one more row, by its step
module _ (u : List Row) (n : ℕ) (x : Row) (here : slice_get u n ≡ Some x) (old new : Outline) (is : IsOutlineTo u n old) where
  other_runs : x.step ≢ Start → new.started.items ≡ old.started.items → (new.started.items ≡ starters (take (n + 1) u)) × (length new.started.items ≡ runs_in (take (n + 1) u))
  other_runs other same = (same ∙ starts_stay u n old.started.items x here other is.started, ap length same ∙ is.runs ∙ sym (count_inner u n x here other))

  pub with_start : x.step ≡ Start → new.started.items ≡ old.started.items ++ x.reaction ∷ [] → new.reads ≡ old.reads → new.effects ≡ old.effects → IsOutlineTo u (n + 1) new
  with_start step started reads effects = record {
    started = started ∙ starts_here u n old.started.items x here step is.started;
    runs = ap length started ∙ length-append old.started.items (x.reaction ∷ []) ∙ ap (λ k. k + 1) is.runs ∙ sym (count_start u n x here step);
    reads = rw reads (reads_stay u n old.reads x here (λ m v e. let bad : Start ≡ Read m v = sym step ∙ e in absurd (cc bad)) is.reads);
    effects = rw effects (span_stays u n old.effects x here (ap has_effect step) is.effects);
  }

  pub with_read : (m : Name) (v : Value) → x.step ≡ Read m v → new.started.items ≡ old.started.items → new.reads ≡ n + 1 → new.effects ≡ old.effects → IsOutlineTo u (n + 1) new
  with_read m v step started reads effects = record {
    started = runs.0;
    runs = runs.1;
    reads = rw reads (reads_here u n old.reads is.reads);
    effects = rw effects (span_stays u n old.effects x here (ap has_effect step) is.effects);
  }
    where
      runs : (new.started.items ≡ starters (take (n + 1) u)) × (length new.started.items ≡ runs_in (take (n + 1) u))
      runs = other_runs (λ e. let bad : Read m v ≡ Start = sym step ∙ e in absurd (cc bad)) started

  pub with_effect : has_effect x.step ≡ true → new.started.items ≡ old.started.items → new.reads ≡ old.reads → IsSpan u (n + 1) new.effects → IsOutlineTo u (n + 1) new
  with_effect has started reads effects = record {
    started = runs.0;
    runs = runs.1;
    reads = rw reads (reads_stay u n old.reads x here (λ m v e. let bad : true ≡ false = sym has ∙ ap has_effect e in absurd (cc bad)) is.reads);
    effects = effects;
  }
    where
      runs : (new.started.items ≡ starters (take (n + 1) u)) × (length new.started.items ≡ runs_in (take (n + 1) u))
      runs = other_runs (λ e. let bad : true ≡ false = sym has ∙ ap has_effect e in absurd (cc bad)) started

  pub with_end : x.step ≡ End → new.started.items ≡ old.started.items → new.reads ≡ old.reads → new.effects ≡ old.effects → IsOutlineTo u (n + 1) new
  with_end step started reads effects = record {
    started = runs.0;
    runs = runs.1;
    reads = rw reads (reads_stay u n old.reads x here (λ m v e. let bad : End ≡ Read m v = sym step ∙ e in absurd (cc bad)) is.reads);
    effects = rw effects (span_stays u n old.effects x here (ap has_effect step) is.effects);
  }
    where
      runs : (new.started.items ≡ starters (take (n + 1) u)) × (length new.started.items ≡ runs_in (take (n + 1) u))
      runs = other_runs (λ e. let bad : End ≡ Start = sym step ∙ e in absurd (cc bad)) started

-- nothing is found in no rows
pub outline_none : (u : List Row) (o : Outline) → o.started.items ≡ [] → o.reads ≡ 0 → IsSpan u 0 o.effects → IsOutlineTo u 0 o
outline_none u o started reads effects = record { started = started; runs = ap length started; reads = rw reads (record { within = omega arith; each = λ i x m v l e s. absurd (omega (arith, l)) }); effects = effects }

-- the rows of the span have all effects
pub span_effects : (u : List Row) (s : PlaceRange) → IsSpan u (length u) s → effect_rows (slice_range u s.first s.end) ≡ effect_rows u
span_effects u s is = sym (ap effect_rows (sym (take-append-drop s.end u)) ∙ filter_map-append effect_of (take s.end u) (drop s.end u) ∙ ap (λ (t : List Row). effect_rows (take s.end u) ++ t) (none_nil effect_of (drop s.end u) behind) ∙ append-nil (effect_rows (take s.end u)) ∙ ap effect_rows (sym (up_to_second u s.first s.end is.in_order)) ∙ filter_map-append effect_of (take s.first u) (slice_range u s.first s.end) ∙ ap (λ (t : List Row). t ++ effect_rows (slice_range u s.first s.end)) (none_nil effect_of (take s.first u) before))
  where
    quiet : (k : ℕ) (x : Row) → slice_get u k ≡ Some x → ((s.first ≤ k) × (k < s.end) → ⊥) → effect_of x ≡ None
    quiet k x e out = go (has_effect x.step) refl
      where
        go : (b : Bool) → has_effect x.step ≡ b → cond b (Some x) None ≡ None
        go true has = absurd (out (is.each k x (slice_get_within u k x e) e has))
        go false has = refl

    before : (k : ℕ) (x : Row) → slice_get (take s.first u) k ≡ Some x → effect_of x ≡ None
    before k x e = let p = slice_get_take s.first u k x e in let a : k < s.first = p.0 in quiet k x p.1 (λ z. let b : s.first ≤ k = z.0 in omega (arith, a, b))

    behind : (k : ℕ) (x : Row) → slice_get (drop s.end u) k ≡ Some x → effect_of x ≡ None
    behind k x e = quiet (s.end + k) x (sym (slice_get-drop u s.end k) ∙ e) (λ z. let b : s.end + k < s.end = z.1 in omega (arith, b))

-- a reaction that starts in rows at a tag has a run there, and the other way round
module _ (u : List Row) (g : Tag) (at : AreAt u g) where
  pub starter_ran : (r : ℕ) → Contains (starters u) r → Ran u g r
  starter_ran r c =
      let found = mem_from_filter started_by u r (contains_mem r (starters u) c) in
      let x = found.0 in
      let place = get_mem x u found.1 in
      let own = starts (begins x.step) x refl found.2 in
      let is : x ≡ start_row x.worker g r = row_eq x Start (begins_start x.step own.0) ∙ ap (λ (h : Tag). start_row x.worker h x.reaction) (at place.0 x place.1) ∙ ap (λ a. start_row x.worker g a) own.1 in
      record { place = place.0; worker = x.worker; starts = place.1 ∙ ap Some is }
    where
      starts : (b : Bool) (x : Row) → begins x.step ≡ b → cond b (Some x.reaction) None ≡ Some r → (begins x.step ≡ true) × (x.reaction ≡ r)
      starts true x e q = (e, cc)
      starts false x e q = absurd (cc)

  pub ran_starter : (r : ℕ) → Ran u g r → Contains (starters u) r
  ran_starter r ran = mem_contains r (starters u) (mem_filter started_by (start_row ran.worker g r) r u (mem_get u ran.place (start_row ran.worker g r) ran.starts) refl)

-- a reaction that starts in rows of the program is one of it
pub starter_there : (program : Parts) (u : List Row) → RowsFit program u → (r : ℕ) → Contains (starters u) r → r < length program.reactions
starter_there program u fit r c =
    let found = mem_from_filter started_by u r (contains_mem r (starters u) c) in
    let place = get_mem found.0 u found.1 in
    subst (λ a. a < length program.reactions) (own (begins found.0.step) found.0 found.2) (fit.each place.0 found.0 place.1).reaction
  where
    own : (b : Bool) (x : Row) → cond b (Some x.reaction) None ≡ Some r → x.reaction ≡ r
    own true x q = cc
    own false x q = absurd (cc)

-- marks of rows up to the last that reads are marks of all up to a later place
pub marks_on : (program : Parts) (t : List Row) (first end place : ℕ) (marks : Marks) → first ≤ end → end ≤ length t → AreReadsBefore (slice_range t first end) (end - first) place → AreMarks program t first (first + place) marks → AreMarks program t first end marks
marks_on program t first end place marks up within reads are = record { are_before = record { is_laid = are.are_before.is_laid; none = λ k m e. let l = are.are_before.none k m e in let w = reads.within in omega (arith, l, w, up) }; right = λ r k m x n ex seat mark. on r n m (are.right r k m x n ex seat mark) }
  where
    none_on : (low r : ℕ) (n : Name) → first ≤ low → NoneReads t low (first + place) r n → NoneReads t low end r n
    none_on low r n from none j row above below e reads_for = go (dec_lt j (first + place))
      where
        go : Dec (j < first + place) → ⊥
        go (yes l) = none j row above l e reads_for
        go (no l) =
            let at : first + (j - first) ≡ j = omega (arith, from, above) in
            let here : slice_get (slice_range t first end) (j - first) ≡ Some row = range-get t first end (j - first) (omega (arith, at, below)) ∙ ap (λ i. slice_get t i) at ∙ e in
            let earlier = reads.each (j - first) row n reads_for.1.0 (omega (arith, at, below)) here reads_for.1.1 in
            l (omega (arith, at, earlier))

    on : (r : ℕ) (n : Name) (m : ℕ) → IsMark t first (first + place) r n m → IsMark t first end r n m
    on r n m (inl none) = inl (none.0, none_on first r n (omega arith) none.1)
    on r n m (inr (j, is, last)) = inr (j, is, record { row = last.row; from = last.from; before = let b = last.before in let w = reads.within in omega (arith, b, w, up); is_row = last.is_row; reads = last.reads; none_after = none_on (j + 1) r n (let f = last.from in omega (arith, f)) last.none_after })
