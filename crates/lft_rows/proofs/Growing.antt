-- What a pass knows of some rows when more come behind them, or the stop comes nearer.
use Rattle.std.proofs.Common.{◌≡◌, ℕ, ◌+◌, ◌<◌, ◌≤◌, ◌⊎◌, inl, inr, List, ◌++◌, length, arith, Option, Some, None, slice_get}
use Rattle.lft_tag.{specs.declared.Tag.Tag, proofs.Order.UpTo-not}
use Rattle.lft_lists.proofs.Places.{get_left, get_append_cases}
use Rattle.lft_ir.specs.declared.{parts.Name.Name, steps.row.{Row.Row, Step.{Step, TheVariants.{Start, Read, Write, Schedule, Stop, End}}}}
use Rattle.lft_model.specs.{Plans.PlanParts, Runs.{start_row, end_row}, Breaches.{IsOpen, IsOutOfOrder, IsUndeclared, BreaksRowUntil}}
use Rattle.lft_rows.specs.inner.{Marks.{IsMark, NoneReads}, Passes.{Unended, OpenPlace, IsLatest, LastStart, GrownLaw, NearerLaw}, Places.{place_of, last_of}}

module _ (t u : List Row) (i : ℕ) (inside : i ≤ length t) where
  -- a row before the place is one of the first part
  own : (j : ℕ) (x : Row) → j < i → slice_get (t ++ u) j ≡ Some x → slice_get t j ≡ Some x
  own j x l e = go (get_append_cases t u j x e)
    where
      outside : (k : ℕ) → j ≡ length t + k → ⊥
      outside k q = omega arith

      go : (slice_get t j ≡ Some x) ⊎ ((k : ℕ) × (j ≡ length t + k) × (slice_get u k ≡ Some x)) → slice_get t j ≡ Some x
      go (inl a) = a
      go (inr a) = absurd (outside a.0 a.1)

  latest : (g : Tag) → IsLatest t i g → IsLatest (t ++ u) i g
  latest g k = record { each = λ j row l e. k.each j row l (own j row l e); is_one = go k.is_one }
    where
      go : ((j : ℕ) × (row : Row) × (j < i) × (slice_get t j ≡ Some row) × (row.tag ≡ g)) ⊎ (g ≡ record { time = 0; micro = 0 }) → ((j : ℕ) × (row : Row) × (j < i) × (slice_get (t ++ u) j ≡ Some row) × (row.tag ≡ g)) ⊎ (g ≡ record { time = 0; micro = 0 })
      go (inl x) = inl (x.0, x.1, x.2, get_left t u x.0 x.1 x.3, x.4)
      go (inr q) = inr q

  started : (r : ℕ) (o : Option Tag) → LastStart t i r o → LastStart (t ++ u) i r o
  started r None h = λ j w g l e. h j w g l (own j (start_row w g r) l e)
  started r (Some g) h = let s = h.0 in ((s.0, s.1, s.2, get_left t u s.0 (start_row s.1 g r) s.3), λ j w k l e. h.1 j w k l (own j (start_row w k r) l e))

  unended_added : (j w : ℕ) (g : Tag) (r : ℕ) → Unended t i j w g r → Unended (t ++ u) i j w g r
  unended_added j w g r o = record { starts = get_left t u j (start_row w g r) o.starts; not_ended = λ k a b e. o.not_ended k a b (own k (end_row w g r) b e) }

  unended_back : (j w : ℕ) (g : Tag) (r : ℕ) → j < i → Unended (t ++ u) i j w g r → Unended t i j w g r
  unended_back j w g r l o = record { starts = own j (start_row w g r) l o.starts; not_ended = λ k a b e. o.not_ended k a b (get_left t u k (end_row w g r) e) }

  open_place : (w : ℕ) (o : Option ℕ) → OpenPlace t i i w o → OpenPlace (t ++ u) i i w o
  open_place w None h = λ j g r l z. h j g r l (unended_back j w g r l z)
  open_place w (Some s) h = record { tag = h.tag; reaction = h.reaction; before = h.before; unended = unended_added s w h.tag h.reaction h.unended; only = λ j g r l z. h.only j g r l (unended_back j w g r l z) }

  none_reads : (low r : ℕ) (n : Name) → NoneReads t low i r n → NoneReads (t ++ u) low i r n
  none_reads low r n h = λ j row a b e. h j row a b (own j row b e)

  mark : (low r : ℕ) (n : Name) (m : ℕ) → IsMark t low i r n m → IsMark (t ++ u) low i r n m
  mark low r n m (inl x) = inl (x.0, none_reads low r n x.1)
  mark low r n m (inr x) = let o = x.2 in inr (x.0, x.1, record { row = o.row; from = o.from; before = o.before; is_row = get_left t u x.0 o.row o.is_row; reads = o.reads; none_after = none_reads (x.0 + 1) r n o.none_after })

  open_added : (j w : ℕ) (g : Tag) (r : ℕ) → j < i → IsOpen t j w g r → IsOpen (t ++ u) j w g r
  open_added j w g r l o = record { start = o.start; before = o.before; starts = get_left t u o.start (start_row w g r) o.starts; not_ended = λ k a b e. o.not_ended k a b (own k (end_row w g r) (omega (arith, b, l)) e) }

  open_back : (j w : ℕ) (g : Tag) (r : ℕ) → j < i → IsOpen (t ++ u) j w g r → IsOpen t j w g r
  open_back j w g r l o = record { start = o.start; before = o.before; starts = own o.start (start_row w g r) (omega (arith, o.before, l)) o.starts; not_ended = λ k a b e. o.not_ended k a b (get_left t u k (end_row w g r) e) }

  order_back : (j : ℕ) (y : Row) (s : Step) → j < i → IsOutOfOrder (t ++ u) j y s → IsOutOfOrder t j y s
  order_back j y Start l (inl o) = inl (o.0, o.1, o.2, own o.0 (start_row o.1 y.tag y.reaction) (omega (arith, o.2, l)) o.3)
  order_back j y Start l (inr o) = inr (o.0, o.1, open_back j y.worker o.0 o.1 l o.2)
  order_back j y (Read n v) l o = λ z. o (open_added j y.worker y.tag y.reaction l z)
  order_back j y (Write n v) l o = λ z. o (open_added j y.worker y.tag y.reaction l z)
  order_back j y (Schedule n v w) l o = λ z. o (open_added j y.worker y.tag y.reaction l z)
  order_back j y Stop l o = λ z. o (open_added j y.worker y.tag y.reaction l z)
  order_back j y End l o = λ z. o (open_added j y.worker y.tag y.reaction l z)

  undeclared_back : (plan : PlanParts) (j : ℕ) (y : Row) (s : Step) → j < i → IsUndeclared plan.program (t ++ u) j y s → IsUndeclared plan.program t j y s
  undeclared_back plan j y Start l o = o
  undeclared_back plan j y (Read n v) l (inl o) = inl o
  undeclared_back plan j y (Read n v) l (inr o) = inr (o.0, o.1, o.2, o.3, own o.0 (record { worker = o.1; tag = y.tag; reaction = y.reaction; step = Read n o.2 }) (omega (arith, o.3, l)) o.4)
  undeclared_back plan j y (Write n v) l o = o
  undeclared_back plan j y (Schedule n v w) l o = o
  undeclared_back plan j y Stop l o = o
  undeclared_back plan j y End l o = o

  breaks_back : (stop : Tag) (plan : PlanParts) (j : ℕ) (y : Row) (k : ℕ) → j < i → k < 5 → BreaksRowUntil stop plan (t ++ u) j y k → BreaksRowUntil stop plan t j y k
  breaks_back stop plan j y k l few (inl x) = let o = x.1 in inl (x.0, (o.0, o.1, o.2, own o.0 o.1 (omega (arith, o.2, l)) o.3, o.4))
  breaks_back stop plan j y k l few (inr (inl x)) = inr (inl x)
  breaks_back stop plan j y k l few (inr (inr (inl x))) = inr (inr (inl (x.0, order_back j y y.step l x.1)))
  breaks_back stop plan j y k l few (inr (inr (inr (inl x)))) = inr (inr (inr (inl (x.0, undeclared_back plan j y y.step l x.1))))
  breaks_back stop plan j y k l few (inr (inr (inr (inr x)))) = absurd (omega (arith, x.0, few))

pub grown_law : (plan : PlanParts) → GrownLaw plan
grown_law plan stop t u i pass inside old = record {
  effects = old.effects;
  known = record {
    many = old.known.many;
    latest = latest t u i inside pass.known.last old.known.latest;
    started = λ r. started t u i inside r (last_of pass.known.starts r) (old.known.started r);
    held = λ w. open_place t u i inside w (place_of pass.known.runs w) (old.known.held w);
    marked = record { are_before = old.known.marked.are_before; right = λ r k m x n is seat at. mark t u i inside 0 r n m (old.known.marked.right r k m x n is seat at) };
  };
  kept = λ j row k l e few x. old.kept j row k l (own t u i inside j row l e) few (breaks_back t u i inside stop plan j row k l few x);
}

pub nearer_law : (plan : PlanParts) → NearerLaw plan
nearer_law plan stop other t i pass up old = record { effects = old.effects; known = old.known; kept = λ j row k l e few x. old.kept j row k l e few (go j row k l e x) }
  where
    go : (j : ℕ) (row : Row) (k : ℕ) → j < i → slice_get t j ≡ Some row → BreaksRowUntil other plan t j row k → BreaksRowUntil stop plan t j row k
    go j row k l e (inl x) = inl x
    go j row k l e (inr (inl x)) = absurd (UpTo-not row.tag other (up j row l e) x.1)
    go j row k l e (inr (inr x)) = inr (inr x)
