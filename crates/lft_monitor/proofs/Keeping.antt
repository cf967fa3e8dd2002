-- Rows that are kept for what they cause later.
use Rattle.std.proofs.Common.{◌≡◌, ◌≢◌, ℕ, zero, suc, ◌+◌, ◌<◌, ◌≤◌, ◌⊎◌, inl, inr, List, [], ◌∷◌, ◌++◌, append-nil, length, take, refl, sym, ap, ◌∙◌, subst, arith, Bool, true, false, cond, IsTrue, Option, Some, None, slice_get, slice_set, filter_map, Contains}
use Rattle.std.{specs.{List.cons_option, Option.option_and_then}, proofs.lemmas.{List.Elements.filter_map-append, Option.get_or_from_slice_get}}
use native.Mathlib.Decide.{ℕ_discrete}
use Rattle.lft_tag.{specs.{declared.Tag.Tag, Tags.{Before, UpTo, after, after_all, same_tag, earliest}}, proofs.Order.{UpTo-trans, UpTo-not}}
use Rattle.lft_lists.proofs.Members.{Mem, mem_cases, mem_left, mem_right, contains_mem, mem_contains, get_mem, mem_filter, mem_from_filter, last_mem, last_of_mem}
use Rattle.lft_lists.proofs.{Picked.take_one_more, Places.{at_contains, contains_at, get_unwritten, get_write_cases, length_written, same_at}}
use Rattle.lft_ir.specs.{Origins.Origin, declared.{parts.{Value.Value, Name.TheVariants.Port}, steps.row.{Row.Row, Step.{Step, TheVariants.Write}}}}
use Rattle.lft_ir.proofs.Origins.{origin_unique}
use Rattle.lft_model.specs.{Fitting.EachFits, Plans.PlanParts}
use Rattle.lft_model.specs.Presence.{asked, requests, scheduled, stop, value_written, value_scheduled, written, min_delay, Last, IsWrittenFrom, PortClash}
use Rattle.lft_model.proofs.{Ended.written_by, Places.slice_get_within, Steps.written_some, Stops.stop_append}
use Rattle.lft_queue.specs.{Coming.AtTag.AreBefore, inner.Reading.is_read}
use Rattle.lft_stream.specs.inner.Owed.{MeetNowhere}
use Rattle.lft_monitor.specs.{Sure.AreRowsFrom, inner.Kept.{GoesUnheard, CauseAlike, IsIdle, IsKept}}

-- what two lists pick of theirs, one behind the other
over : {X : Type 0} (f : Row → Option X) (d e u v : List Row) → filter_map f d ≡ filter_map f e → filter_map f u ≡ filter_map f v → filter_map f (d ++ u) ≡ filter_map f (e ++ v)
over f d e u v p q = filter_map-append f d u ∙ ap (λ ys. ys ++ filter_map f u) p ∙ ap (λ ys. filter_map f e ++ ys) q ∙ sym (filter_map-append f e v)

-- a later tag is at a later time, or the same
pub time_up : (low high : Tag) → UpTo low high → low.time ≤ high.time
time_up low high (inl l) = omega arith
time_up low high (inr p) = let e : low.time ≡ high.time = p.0 in omega (arith, e)

-- where the same delays lead two tags to one they are of one time
same_time : (g h : Tag) (delays : List ℕ) → after_all g delays ≡ after_all h delays → g.time ≡ h.time
same_time g h [] e = ap (λ (k : Tag). k.time) e
same_time g h (zero ∷ delays) e = same_time (after g 0) (after h 0) delays e
same_time g h (suc d ∷ delays) e = let q : g.time + suc d ≡ h.time + suc d = same_time (after g (suc d)) (after h (suc d)) delays e in omega (arith, q)

-- no row is at a time before that of the tag
abbrev pub AreLate : List Row → Tag → Type 0
AreLate u low = (i : ℕ) (x : Row) → slice_get u i ≡ Some x → low.time ≤ x.tag.time

pub from_late : (u : List Row) (low : Tag) → AreRowsFrom u low → AreLate u low
from_late u low from i x e = time_up low x.tag (from i x e)

-- writes that meet where one of a time before low arrives are by the rows before
module _ (plan : PlanParts) (t d u : List Row) (low h g : Tag) (p o : ℕ) (delays : List ℕ) (own : (row : Row) → Contains d row → Contains t row) (late : AreLate u low) (way : Origin plan.program p o delays) (over : h.time < low.time) (arrives : after_all h delays ≡ g) where
  own_write : (k : Tag) (v : Value) → IsWrittenFrom plan (d ++ u) g p k v → (w : Value) × IsWrittenFrom plan t g p k w
  own_write k v x = (there.0, record { origin = x.origin; delays = x.delays; is_origin = x.is_origin; arrives = x.arrives; is_last = there.1 })
    where
      same : (x.origin ≡ o) × (x.delays ≡ delays)
      same = origin_unique x.is_origin way

      time : k.time ≡ h.time
      time = same_time k h delays (subst (λ (ds : List ℕ). after_all k ds ≡ g) same.1 x.arrives ∙ sym arrives)

      row : (y : Row) × Mem y (d ++ u) × (written k x.origin y ≡ Some v)
      row = mem_from_filter (written k x.origin) (d ++ u) v (last_mem (filter_map (written k x.origin) (d ++ u)) v x.is_last)

      at : row.0.tag ≡ k
      at = (written_by k x.origin row.0 v row.2).0

      in_t : Mem row.0 d ⊎ Mem row.0 u → Mem row.0 t
      in_t (inl m) = contains_mem row.0 t (own row.0 (mem_contains row.0 d m))
      in_t (inr m) =
          let i = get_mem row.0 u m in
          let l : low.time ≤ row.0.tag.time = late i.0 row.0 i.1 in
          let e : row.0.tag.time ≡ k.time = ap (λ (y : Tag). y.time) at in
          absurd (omega (arith, l, e, time, over))

      there : (w : Value) × Last t k x.origin w
      there = last_of_mem v (filter_map (written k x.origin) t) (mem_filter (written k x.origin) row.0 v t (in_t (mem_cases row.0 d u row.1)) row.2)

  pub own_clash : PortClash plan (d ++ u) g p → PortClash plan t g p
  own_clash c = let x = own_write c.first c.first_value c.is_first in let y = own_write c.second c.second_value c.is_second in record { first = c.first; second = c.second; first_value = x.0; second_value = y.0; is_first = x.1; is_second = y.1; differ = c.differ }

-- what goes unheard does so at a later tag, with a nearer stop, and with more rows
unheard_later : (last : Tag) (plan : PlanParts) (t : List Row) (low high h : Tag) (p : ℕ) (g : Tag) → UpTo low high → GoesUnheard last plan t low h p g → GoesUnheard last plan t high h p g
unheard_later last plan t low high h p g up is = record { unread = is.unread; over = let l : low.time ≤ high.time = time_up low high up in let m : h.time < low.time = is.over in omega (arith, l, m); apart = is.apart }

pub alike_nearer : (last final : Tag) (plan : PlanParts) (t d e : List Row) (low : Tag) → UpTo final last → CauseAlike last plan t d e low → CauseAlike final plan t d e low
alike_nearer last final plan t d e low near same = record { scheduled_same = same.scheduled_same; written_alike = λ h p o delays way up. go h p (after_all h delays) o (same.written_alike h p o delays way up) }
  where
    go : (h : Tag) (p : ℕ) (g : Tag) (o : ℕ) → (filter_map (written h o) d ≡ filter_map (written h o) e) ⊎ GoesUnheard last plan t low h p g → (filter_map (written h o) d ≡ filter_map (written h o) e) ⊎ GoesUnheard final plan t low h p g
    go h p g o (inl q) = inl q
    go h p g o (inr m) = inr (record { unread = m.unread; over = m.over; apart = λ l. m.apart (UpTo-trans g final last l near) })

alike_more : (last : Tag) (plan : PlanParts) (t u d e : List Row) (low : Tag) → AreLate u low → CauseAlike last plan t d e low → CauseAlike last plan (t ++ u) d e low
alike_more last plan t u d e low late same = record { scheduled_same = same.scheduled_same; written_alike = λ h p o delays way up. go h p o delays way (same.written_alike h p o delays way up) }
  where
    go : (h : Tag) (p o : ℕ) (delays : List ℕ) → Origin plan.program p o delays → (filter_map (written h o) d ≡ filter_map (written h o) e) ⊎ GoesUnheard last plan t low h p (after_all h delays) → (filter_map (written h o) d ≡ filter_map (written h o) e) ⊎ GoesUnheard last plan (t ++ u) low h p (after_all h delays)
    go h p o delays way (inl q) = inl q
    go h p o delays way (inr m) = inr (record { unread = m.unread; over = m.over; apart = λ l c. m.apart l (own_clash plan t t u low h (after_all h delays) p o delays (λ row k. k) late way m.over refl c) })

pub kept_more : (plan : PlanParts) (t u d e : List Row) (low : Tag) → AreLate u low → IsKept (stop plan t) plan t d e low → IsKept (stop plan (t ++ u)) plan (t ++ u) d e low
kept_more plan t u d e low late is = record { same = alike_nearer (stop plan t) (stop plan (t ++ u)) plan (t ++ u) d e low (stop_append plan t u) (alike_more (stop plan t) plan t u d e low late is.same); asks = is.asks; own = is.own }

module _ (last : Tag) (plan : PlanParts) (t : List Row) where
  pub kept_both : (d e u v : List Row) (low : Tag) → IsKept last plan t d e low → IsKept last plan t u v low → IsKept last plan t (d ++ u) (e ++ v) low
  kept_both d e u v low first second = record {
    same = record {
      scheduled_same = λ g a up. over (scheduled g a (min_delay plan.program a)) d e u v (first.same.scheduled_same g a up) (second.same.scheduled_same g a up);
      written_alike = λ h p o delays is up. both h p o (after_all h delays) (first.same.written_alike h p o delays is up) (second.same.written_alike h p o delays is up);
    };
    asks = over (λ row. asked row.tag row.step) d e u v first.asks second.asks;
    own = λ row m. mem_contains row (d ++ u) (go row (mem_cases row e v (contains_mem row (e ++ v) m)));
  }
    where
      both : (h : Tag) (p o : ℕ) (g : Tag) → (filter_map (written h o) d ≡ filter_map (written h o) e) ⊎ GoesUnheard last plan t low h p g → (filter_map (written h o) u ≡ filter_map (written h o) v) ⊎ GoesUnheard last plan t low h p g → (filter_map (written h o) (d ++ u) ≡ filter_map (written h o) (e ++ v)) ⊎ GoesUnheard last plan t low h p g
      both h p o g (inl q) (inl r) = inl (over (written h o) d e u v q r)
      both h p o g (inr m) r = inr m
      both h p o g (inl q) (inr m) = inr m

      go : (row : Row) → Mem row e ⊎ Mem row v → Mem row (d ++ u)
      go row (inl m) = mem_left row d u (contains_mem row d (first.own row (mem_contains row e m)))
      go row (inr m) = mem_right row d u (contains_mem row u (second.own row (mem_contains row v m)))

  pub kept_self : (d : List Row) (low : Tag) → IsKept last plan t d d low
  kept_self d low = record { same = record { scheduled_same = λ g a up. refl; written_alike = λ h p o delays is up. inl refl }; asks = refl; own = λ row m. m }

  kept_none : (row : Row) (low : Tag) → IsIdle last plan t low row → IsKept last plan t (row ∷ []) [] low
  kept_none row low is = record {
    same = record {
      scheduled_same = λ g a up. ap (λ o. cons_option o []) (is.schedules g a up);
      written_alike = λ h p o delays leads up. go h p o (after_all h delays) (is.writes h p o delays leads up);
    };
    asks = ap (λ o. cons_option o []) is.asks;
    own = λ x m. absurd (contains_mem x [] m);
  }
    where
      go : (h : Tag) (p o : ℕ) (g : Tag) → (written h o row ≡ None) ⊎ GoesUnheard last plan t low h p g → (filter_map (written h o) (row ∷ []) ≡ filter_map (written h o) []) ⊎ GoesUnheard last plan t low h p g
      go h p o g (inl q) = inl (ap (λ w. cons_option w []) q)
      go h p o g (inr m) = inr m

  -- one row more of a list is kept, or it is idle
  module _ (rows : List Row) (low : Tag) (i : ℕ) (kept : List Row) (row : Row) (at : slice_get rows i ≡ Some row) (old : IsKept last plan t (take i rows) kept low) where
    next : take i rows ++ row ∷ [] ≡ take (i + 1) rows
    next = sym (take_one_more rows i row (slice_get_within rows i row at) (get_or_from_slice_get rows i row row at))

    pub kept_one : IsKept last plan t (take (i + 1) rows) (kept ++ row ∷ []) low
    kept_one = subst (λ (d : List Row). IsKept last plan t d (kept ++ row ∷ []) low) next (kept_both (take i rows) kept (row ∷ []) (row ∷ []) low old (kept_self (row ∷ []) low))

    pub kept_less : IsIdle last plan t low row → IsKept last plan t (take (i + 1) rows) kept low
    kept_less is = subst (λ (d : List Row). IsKept last plan t d kept low) next (subst (λ (k : List Row). IsKept last plan t (take i rows ++ row ∷ []) k low) (append-nil kept) (kept_both (take i rows) kept (row ∷ []) [] low old (kept_none row low is)))

  pub kept_later : (d kept : List Row) (low high : Tag) → UpTo low high → IsKept last plan t d kept low → IsKept last plan t d kept high
  kept_later d kept low high up is = record {
    same = record {
      scheduled_same = λ g a u. is.same.scheduled_same g a (UpTo-trans low high g up u);
      written_alike = λ h p o delays leads u. go h p o (after_all h delays) (is.same.written_alike h p o delays leads (UpTo-trans low high (after_all h delays) up u));
    };
    asks = is.asks;
    own = is.own;
  }
    where
      go : (h : Tag) (p o : ℕ) (g : Tag) → (filter_map (written h o) d ≡ filter_map (written h o) kept) ⊎ GoesUnheard last plan t low h p g → (filter_map (written h o) d ≡ filter_map (written h o) kept) ⊎ GoesUnheard last plan t high h p g
      go h p o g (inl q) = inl q
      go h p o g (inr m) = inr (unheard_later last plan t low high h p g up m)

  pub kept_through : (d e f : List Row) (low : Tag) → IsKept last plan t d e low → IsKept last plan t e f low → IsKept last plan t d f low
  kept_through d e f low first second = record {
    same = record {
      scheduled_same = λ g a up. first.same.scheduled_same g a up ∙ second.same.scheduled_same g a up;
      written_alike = λ h p o delays is up. go h p o (after_all h delays) (first.same.written_alike h p o delays is up) (second.same.written_alike h p o delays is up);
    };
    asks = first.asks ∙ second.asks;
    own = λ row m. first.own row (second.own row m);
  }
    where
      go : (h : Tag) (p o : ℕ) (g : Tag) → (filter_map (written h o) d ≡ filter_map (written h o) e) ⊎ GoesUnheard last plan t low h p g → (filter_map (written h o) e ≡ filter_map (written h o) f) ⊎ GoesUnheard last plan t low h p g → (filter_map (written h o) d ≡ filter_map (written h o) f) ⊎ GoesUnheard last plan t low h p g
      go h p o g (inl q) (inl r) = inl (q ∙ r)
      go h p o g (inr m) r = inr m
      go h p o g (inl q) (inr m) = inr m

-- rows that are kept fit as all do, are before a tag as all are, and ask for the stop that all ask for
-- rows that ask for the stop are kept
pub stop_kept : (plan : PlanParts) (t rows kept : List Row) → requests rows ≡ requests kept → stop plan (t ++ kept) ≡ stop plan (t ++ rows)
stop_kept plan t rows kept asks = ap (λ (gs : List Tag). earliest plan.externals.stop gs) (over (λ row. asked row.tag row.step) t t kept rows refl (sym asks))

-- some of rows that fit do
pub some_fit : (plan : PlanParts) (rows kept : List Row) → ((row : Row) → Contains kept row → Contains rows row) → EachFits plan.program rows → EachFits plan.program kept
some_fit plan rows kept own fit i x e = let p = at_contains rows x (own x (contains_at kept i x e)) in fit p.0 x p.1

module _ (last : Tag) (plan : PlanParts) (t kept : List Row) (low : Tag) (is : IsKept last plan t t kept low) where
  pub kept_fit : EachFits plan.program t → EachFits plan.program kept
  kept_fit = some_fit plan t kept is.own

  pub kept_before : AreBefore t low → AreBefore kept low
  kept_before under i x e = let p = at_contains t x (is.own x (contains_at kept i x e)) in under p.0 x p.1

  pub kept_stop : (u : List Row) → stop plan (kept ++ u) ≡ stop plan (t ++ u)
  kept_stop u = ap (λ (gs : List Tag). earliest plan.externals.stop gs) (sym (over (λ row. asked row.tag row.step) t kept u u is.asks refl))

-- the row is idle wherever no two writes meet, if that is said
abbrev pub IsIdleApart : PlanParts → Tag → Bool → Row → Type 0
IsIdleApart plan low is_apart row = (last : Tag) (t : List Row) → (IsTrue is_apart → MeetNowhere last plan t low) → IsIdle last plan t low row

-- a row that writes a port, where each way arrives before the tag or goes unheard
pub idle_write : (plan : PlanParts) (low : Tag) (is_apart : Bool) (row : Row) (n : ℕ) (v : Value) → row.step ≡ Write (Port n) v → ((p : ℕ) (delays : List ℕ) → Origin plan.program p n delays → Before (after_all row.tag delays) low ⊎ (is_read plan.program p ≡ false) × IsTrue is_apart × (row.tag.time < low.time)) → IsIdleApart plan low is_apart row
idle_write plan low is_apart row n v step leads last t apart = record { schedules = λ g a up. ap (λ (s : Step). option_and_then (λ x. cond (same_tag g (after row.tag (min_delay plan.program a + x.0))) (Some x.1) None) (value_scheduled a s)) step; writes = writes; asks = ap (λ (s : Step). asked row.tag s) step }
  where
    writes : (h : Tag) (p o : ℕ) (delays : List ℕ) → Origin plan.program p o delays → UpTo low (after_all h delays) → (written h o row ≡ None) ⊎ GoesUnheard last plan t low h p (after_all h delays)
    writes h p o delays way up = go (written h o row) refl
      where
        go : (z : Option Value) → written h o row ≡ z → (written h o row ≡ None) ⊎ GoesUnheard last plan t low h p (after_all h delays)
        go None e = inl e
        go (Some w) e = inr (unheard (leads p delays (subst (λ (k : ℕ). Origin plan.program p k delays) same way)))
          where
            by : (row.tag ≡ h) × (value_written o row.step ≡ Some w)
            by = written_by h o row w e

            same : o ≡ n
            same = let q : Write (Port n) v ≡ Write (Port o) w = sym step ∙ written_some o row.step w by.1 in cc

            unheard : Before (after_all row.tag delays) low ⊎ (is_read plan.program p ≡ false) × IsTrue is_apart × (row.tag.time < low.time) → GoesUnheard last plan t low h p (after_all h delays)
            unheard (inl b) = absurd (UpTo-not low (after_all h delays) up (subst (λ (k : Tag). Before (after_all k delays) low) by.0 b))
            unheard (inr m) = record { unread = m.0; over = subst (λ (k : Tag). k.time < low.time) by.0 m.2; apart = λ l. apart m.1 p o delays (after_all h delays) way m.0 up l }

-- the rows before a place are marked or idle, and each run started before it
pub record AreMarkedTo (plan : PlanParts) (Idle : Row → Type 0) (rows : List Row) (place : ℕ) (marks : List Bool) (starts : List ℕ) : Type 0 where
  pub as_long : length marks ≡ length rows
  pub idle : (i : ℕ) (row : Row) → i < place → slice_get marks i ≡ Some false → slice_get rows i ≡ Some row → Idle row
  pub as_many : length starts ≡ length plan.program.reactions
  pub started : (r s : ℕ) → slice_get starts r ≡ Some s → s ≤ place

-- one row more: it is marked, or it is idle
module _ (plan : PlanParts) (Idle : Row → Type 0) (rows : List Row) (place : ℕ) (marks : List Bool) (starts : List ℕ) (row : Row) (at : slice_get rows place ≡ Some row) (old : AreMarkedTo plan Idle rows place marks starts) where
  -- of other marks a row has none that had none before, or it is this row
  abbrev AreMore : List Bool → Type 0
  AreMore more = (i : ℕ) → slice_get more i ≡ Some false → ((i ≡ place) × Idle row) ⊎ ((i ≢ place) × (slice_get marks i ≡ Some false))

  marked : (more : List Bool) (since : List ℕ) → length more ≡ length marks → AreMore more → length since ≡ length starts → ((r s : ℕ) → slice_get since r ≡ Some s → (place ≡ s) ⊎ (slice_get starts r ≡ Some s)) → AreMarkedTo plan Idle rows (place + 1) more since
  marked more since long are many given = record {
    as_long = long ∙ old.as_long;
    idle = λ i x l e p. idle i x l p (are i e);
    as_many = many ∙ old.as_many;
    started = λ r s e. started r s (given r s e);
  }
    where
      idle : (i : ℕ) (x : Row) → i < place + 1 → slice_get rows i ≡ Some x → ((i ≡ place) × Idle row) ⊎ ((i ≢ place) × (slice_get marks i ≡ Some false)) → Idle x
      idle i x l p (inl q) = subst (λ (y : Row). Idle y) (same_at rows place i row x at p (sym q.0)) q.1
      idle i x l p (inr q) = let n : i ≢ place = q.0 in old.idle i x (omega (arith, n)) q.1 p

      started : (r s : ℕ) → (place ≡ s) ⊎ (slice_get starts r ≡ Some s) → s ≤ place + 1
      started r s (inl q) = omega (arith, q)
      started r s (inr e) = let l : s ≤ place = old.started r s e in omega (arith, l)

  inside : place < length marks
  inside = let l : place < length rows = slice_get_within rows place row at in let e : length marks ≡ length rows = old.as_long in omega (arith, l, e)

  unmarked : (s : ℕ) → s < length marks → (i : ℕ) → slice_get (slice_set (slice_set marks place true) s true) i ≡ Some false → (i ≢ place) × (slice_get marks i ≡ Some false)
  unmarked s within i e = go (get_write_cases (slice_set marks place true) s i true false (let l : length (slice_set marks place true) ≡ length marks = length_written marks place true in omega (arith, l)) e)
    where
      first : ((i ≡ place) × (true ≡ false)) ⊎ ((i ≢ place) × (slice_get marks i ≡ Some false)) → (i ≢ place) × (slice_get marks i ≡ Some false)
      first (inl q) = let n : true ≡ false = q.1 in absurd (cc)
      first (inr q) = q

      go : ((i ≡ s) × (true ≡ false)) ⊎ ((i ≢ s) × (slice_get (slice_set marks place true) i ≡ Some false)) → (i ≢ place) × (slice_get marks i ≡ Some false)
      go (inl q) = let n : true ≡ false = q.1 in absurd (cc)
      go (inr q) = first (get_write_cases marks place i true false inside q.1)

  pub marked_one : (s : ℕ) → slice_get starts row.reaction ≡ Some s → AreMarkedTo plan Idle rows (place + 1) (slice_set (slice_set marks place true) s true) starts
  marked_one s there = marked (slice_set (slice_set marks place true) s true) starts (length_written (slice_set marks place true) s true ∙ length_written marks place true) (λ i e. inr (unmarked s (let l : s ≤ place = old.started row.reaction s there in let m : place < length marks = inside in omega (arith, l, m)) i e)) refl (λ r s e. inr e)

  module _ (is : Idle row) where
    same : AreMore marks
    same i e = go (ℕ_discrete i place)
      where
        go : Dec (i ≡ place) → ((i ≡ place) × Idle row) ⊎ ((i ≢ place) × (slice_get marks i ≡ Some false))
        go (yes q) = inl (q, is)
        go (no n) = inr (n, e)

    pub idle_there : AreMarkedTo plan Idle rows (place + 1) marks starts
    idle_there = marked marks starts refl same refl (λ r s e. inr e)

    pub started_there : row.reaction < length starts → AreMarkedTo plan Idle rows (place + 1) marks (slice_set starts row.reaction place)
    started_there within = marked marks (slice_set starts row.reaction place) refl same (length_written starts row.reaction place) (λ r s e. go r s (get_write_cases starts row.reaction r place s within e))
      where
        go : (r s : ℕ) → ((r ≡ row.reaction) × (place ≡ s)) ⊎ ((r ≢ row.reaction) × (slice_get starts r ≡ Some s)) → (place ≡ s) ⊎ (slice_get starts r ≡ Some s)
        go r s (inl q) = inl q.1
        go r s (inr q) = inr q.1

    pub ended_there : (mark : Bool) → AreMarkedTo plan Idle rows (place + 1) (slice_set marks place mark) starts
    ended_there mark = marked (slice_set marks place mark) starts (length_written marks place mark) (λ i e. go i e (ℕ_discrete i place)) refl (λ r s e. inr e)
      where
        go : (i : ℕ) → slice_get (slice_set marks place mark) i ≡ Some false → Dec (i ≡ place) → ((i ≡ place) × Idle row) ⊎ ((i ≢ place) × (slice_get marks i ≡ Some false))
        go i e (yes q) = inl (q, is)
        go i e (no n) = inr (n, sym (get_unwritten marks place i mark n) ∙ e)
