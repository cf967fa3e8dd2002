-- What a follower holds, over more rows and over rows that are judged.
use Rattle.std.proofs.Common.{◌≡◌, ℕ, ◌+◌, ◌-◌, ◌∷◌, ◌<◌, ◌≤◌, ◌⊎◌, inl, inr, List, [], ◌++◌, length, take, drop, length-append, refl, sym, ap, ◌∙◌, subst, arith, Some, None, slice_get, slice_range}
use Rattle.std.proofs.{Math.Seq.{take-append_seam, take-length}, lemmas.List.{append_assoc, append-nil, drop-append-le, take-append-le}}
use native.Mathlib.Decide.{dec_lt}
use Rattle.lft_tag.{specs.{declared.Tag.Tag, Tags.{Before, UpTo}}, proofs.Order.{UpTo-Before, UpTo-refl, UpTo_antisym, order_cases, split_up}}
use Rattle.lft_ir.{proofs.Ranges.{length-range, range-get}, specs.{declared.steps.row.Row.Row, Steps.Fits.{RowFits, RowsFit}}}
use Rattle.lft_lists.proofs.Places.{get_append_cases, get_right, get_there, same_at}
use Rattle.lft_model.{specs.{declared.breach.Breach.Breach, Plans.PlanParts, Presence.stop}, proofs.Places.{slice_get_within, slice_get_take}}
use Rattle.lft_rows.specs.inner.{Firsts.FirstRow, Slices.Rises, Passes.{HasPassed, KeepsEarly}}
use Rattle.lft_queue.specs.Coming.AtTag.{AreAt, AreBefore}
use Rattle.lft_stream.proofs.Parting.{range_fits, up_to_second}
use Rattle.lft_monitor.specs.declared.{gone.{Going.Going, Halt.Halt}, follower.{Follower.Follower, Hitch.Hitch}, judged.{Judged.Judged, Unjudged.Unjudged}}
use Rattle.lft_monitor.specs.declared.reach.Reach.{Reach}
use Rattle.lft_monitor.specs.inner.Going.{AreEnded, AreFewOpenRuns, IsGoing, IsGoneTo, IsHalt}
use Rattle.lft_monitor.specs.inner.Follows.{done_of, held_of, next_of, IsFollowedOn, IsFollowerOf, IsHeld, IsHitch, IsJudgedOf, IsJudgedTo, IsOdd, IsOddBehind, IsTurn, IsUnjudged, BeginsLast}
use Rattle.lft_monitor.specs.Follows.{IsCleanSoFar, IsCleanTo, IsJudged, IsOddSoFar, IsQuiet, IsSureBehind, IsSureSoFar}
use Rattle.lft_monitor.proofs.{Judging.{accepted_rise, parted, rest_at}, Over.{apart, keeps_but_last, quiet}, Telling.{IsOf, bad_is_sure, lost_is_sure}}

-- what is gone over is gone over still when more rows come behind
pub going_more : (plan : PlanParts) (done rows more : List Row) (g : Going) → IsGoing plan done rows g → IsGoing plan done (rows ++ more) g
going_more plan done rows more g is = record {
  within = let a : length (rows ++ more) ≡ length rows + length more = length-append rows more in let b : g.passed ≤ length rows = is.within in omega arith;
  stop_is = is.stop_is ∙ ap (λ (t : List Row). stop plan (done ++ t)) (sym same);
  passes = subst (λ (t : List Row). HasPassed g.stop plan t g.passed g.pass) (sym same) is.passes;
  ended = λ z e. subst (λ (t : List Row). AreEnded t z.tag) (sym same) (ended z e (dec_lt 0 g.passed));
  few = is.few;
  runs = subst (λ (t : List Row). AreFewOpenRuns t g.runs) (sym same) is.runs;
}
  where
    same : take g.passed (rows ++ more) ≡ take g.passed rows
    same = take-append-le g.passed rows more is.within

    own : (n : ℕ) (z : Row) → n < length rows → (slice_get rows n ≡ Some z) ⊎ ((j : ℕ) × (n ≡ length rows + j) × (slice_get more j ≡ Some z)) → slice_get rows n ≡ Some z
    own n z l (inl e) = e
    own n z l (inr (j, q, e)) = absurd (let a : n ≡ length rows + j = q in omega arith)

    ended : (z : Row) → slice_get (rows ++ more) (g.passed - 1) ≡ Some z → Dec (0 < g.passed) → AreEnded (take g.passed rows) z.tag
    ended z e (yes l) = is.ended z (own (g.passed - 1) z (let b : g.passed ≤ length rows = is.within in omega arith) (get_append_cases rows more (g.passed - 1) z e))
    ended z e (no n) = λ i x at. absurd (let l : i < g.passed = (slice_get_take g.passed rows i x at).0 in omega arith)

-- rows that are all gone over rise
pub rises_at_hand : (plan : PlanParts) (done rows : List Row) (g : Going) → IsGoing plan done rows g → g.passed ≡ length rows → Rises rows
rises_at_hand plan done rows g gone all j k x y l p q = go (order_cases y.tag x.tag)
  where
    kept : KeepsEarly g.stop plan rows (length rows)
    kept = subst (λ (n : ℕ). KeepsEarly g.stop plan rows n) all (subst (λ (u : List Row). KeepsEarly g.stop plan u g.passed) (ap (λ (n : ℕ). take n rows) all ∙ take-length rows) gone.passes.kept)

    go : Before y.tag x.tag ⊎ UpTo x.tag y.tag → UpTo x.tag y.tag
    go (inl b) = absurd (kept k y 1 (slice_get_within rows k y q) q (omega arith) (inl (refl, (j, x, l, p, b))))
    go (inr u) = u

-- where the first and the last of them are at one tag, all are
pub one_tag : (rows : List Row) (x z : Row) → Rises rows → slice_get rows 0 ≡ Some x → slice_get rows (length rows - 1) ≡ Some z → x.tag ≡ z.tag → AreAt rows x.tag
one_tag rows x z rises first last same i y e = UpTo_antisym y.tag x.tag (subst (λ (g : Tag). UpTo y.tag g) (sym same) up) down
  where
    down : UpTo x.tag y.tag
    down = go (dec_lt 0 i)
      where
        go : Dec (0 < i) → UpTo x.tag y.tag
        go (yes l) = rises 0 i x y l first e
        go (no m) = subst (λ (r : Row). UpTo x.tag r.tag) (same_at rows 0 i x y first e (omega arith)) (UpTo-refl x.tag)

    up : UpTo y.tag z.tag
    up = go (dec_lt i (length rows - 1))
      where
        go : Dec (i < length rows - 1) → UpTo y.tag z.tag
        go (yes l) = rises i (length rows - 1) y z l e last
        go (no m) = let l : i < length rows = slice_get_within rows i y e in subst (λ (r : Row). UpTo y.tag r.tag) (same_at rows i (length rows - 1) y z e last (omega arith)) (UpTo-refl y.tag)

pub none_at_one : (rows : List Row) → length rows ≡ 0 → (g : Tag) × AreAt rows g
none_at_one rows none = (record { time = 0; micro = 0 }, λ i x e. absurd (let l : i < length rows = slice_get_within rows i x e in omega arith))

-- so many rows are judged as the list of those has
done_is : (t d u : List Row) (n : ℕ) → n ≡ length d → t ≡ d ++ u → take n t ≡ d
done_is t d u n long parts = ap (λ (k : ℕ). take k t) long ∙ ap (λ (x : List Row). take (length d) x) parts ∙ take-append_seam d u

front_none : (xs ys : List Row) → xs ++ ys ≡ [] → xs ≡ []
front_none [] ys e = refl
front_none (x ∷ xs) ys e = absurd (cc)

-- the first row of more is later than those that are done, where the first of these rows is
first_later : (xs ys d : List Row) (x : Row) → (xs ≡ [] → d ≡ []) → ((y : Row) → slice_get xs 0 ≡ Some y → AreBefore d y.tag) → slice_get (xs ++ ys) 0 ≡ Some x → AreBefore d x.tag
first_later [] ys d x some earlier e = subst (λ (u : List Row). AreBefore u x.tag) (sym (some refl)) (λ i y f. absurd (cc))
first_later (z ∷ xs) ys d x some earlier e = earlier x e

-- more rows are at hand behind others
pub held_more : (plan : PlanParts) (done held more : List Row) (j : Judged) → IsHeld plan done held j → RowsFit plan.program (held ++ more) → IsHeld plan done (held ++ more) j
held_more plan done held more j h fit = record { judged = h.judged; fit = fit; earlier = λ x e. first_later held more done x h.some h.earlier e; some = λ none. h.some (front_none held more none) }

-- the rows before the end of what is gone over
pub gone_at : (plan : PlanParts) (done rows : List Row) (h : Halt) → IsHalt plan done rows h → IsGoneTo plan done rows h.end
gone_at plan done rows h (inl (q, bad)) = subst (λ (n : ℕ). IsGoneTo plan done rows n) (sym q) bad.gone
gone_at plan done rows h (inr (q, lost)) = lost.gone

-- and its place are places of rows
pub halts_within : (plan : PlanParts) (done rows : List Row) (h : Halt) → IsHalt plan done rows h → (h.place < length rows) × (h.end < length rows)
halts_within plan done rows h (inl (q, bad)) = let l = slice_get_within rows h.place bad.row bad.is_row in (l, omega (arith, q, l))
halts_within plan done rows h (inr (q, lost)) = (slice_get_within rows h.place lost.row lost.is_row, slice_get_within rows h.end lost.later lost.is_later)

pub gone_all : (plan : PlanParts) (done rows : List Row) (g : Going) → IsGoing plan done rows g → g.passed ≡ length rows → IsGoneTo plan done rows (length rows)
gone_all plan done rows g is all = subst (λ (n : ℕ). IsGoneTo plan done rows n) all (record { within = is.within; kept = subst (λ (k : Tag). KeepsEarly k plan (take g.passed rows) g.passed) is.stop_is is.passes.kept; ended = is.ended })

-- rows that are all at one tag begin with it
pub begins_at : (rows : List Row) (g : Tag) → AreAt rows g → BeginsLast rows (length rows) 0
begins_at rows g at = record { last = record { up = omega arith; at_one = λ i x z a b e f. at i x e ∙ sym (at (length rows - 1) z f) }; some = λ l. l; other = λ x z l. absurd (omega arith) }

-- rows are all from the first on
pub whole_range : (rows : List Row) → rows ≡ slice_range rows 0 (length rows)
whole_range rows = sym (up_to_second rows 0 (length rows) (omega arith) ∙ take-length rows)

module _ (plan : PlanParts) (done rows : List Row) (j : Judged) (h : IsHeld plan done rows j) where
  settled : FirstRow (stop plan done) plan done None
  settled = h.judged.acceptor.stands.state.settled.rows

  counted : (b : Breach) (place : ℕ) → b.row ≡ j.count + place + 2 → b.row ≡ length done + place + 2
  counted b place row = let a : j.count ≡ length done = h.judged.counted in omega (arith, row, a)

  -- where rows at hand are gone over, and those before the last of them are judged, nothing is to be told of them
  pub quiet_to : (i begin : ℕ) → IsGoneTo plan done rows i → BeginsLast rows i begin → (k : Judged) → IsJudgedOf plan (done ++ slice_range rows 0 begin) k → IsQuiet plan (done ++ take i rows)
  quiet_to i begin gone begins k judged = quiet plan done rows i gone settled h.earlier begin begins k.past judged.past

  -- and what is found behind them is the first to be told
  pub told_sure : (halt : Halt) → IsHalt plan done rows halt → (begin : ℕ) → BeginsLast rows halt.end begin → (k : Judged) → IsJudgedOf plan (done ++ slice_range rows 0 begin) k → (b : Breach) → b.rule ≡ halt.rule → b.row ≡ j.count + halt.place + 2 → ((x : Row) → slice_get rows halt.place ≡ Some x → IsOf b x) → IsSureSoFar plan (done ++ rows) b
  told_sure halt halts begin begins k judged b rule_is row is = (told.0, inl told.1)
    where
      still : IsQuiet plan (done ++ take halt.end rows)
      still = quiet_to halt.end begin (gone_at plan done rows halt halts) begins k judged

      go : IsHalt plan done rows halt → (n : ℕ) × IsSureBehind plan (done ++ rows) b n
      go (inl (q, bad)) = bad_is_sure plan done rows settled h.earlier halt.place halt.rule bad (subst (λ (n : ℕ). IsQuiet plan (done ++ take n rows)) q still) b rule_is (counted b halt.place row) is
      go (inr (q, lost)) = lost_is_sure plan done rows settled h.earlier halt.place halt.end lost still b (rule_is ∙ q) (counted b halt.place row) is

      told : (n : ℕ) × IsSureBehind plan (done ++ rows) b n
      told = go halts

  -- what rows at hand are that are gone over up to an end, of which the last tag begins at a place
  pub turn_to : (end begin : ℕ) → IsGoneTo plan done rows end → BeginsLast rows end begin → IsTurn plan done rows begin end
  turn_to end begin gone begins = record { gone = gone; begins = begins; kept = keeps_but_last plan done rows end gone settled h.earlier }

  -- all rows at hand are gone over
  module _ (g : Going) (going : IsGoing plan done rows g) (all : g.passed ≡ length rows) where
    quiet_all : (begin : ℕ) → BeginsLast rows (length rows) begin → (k : Judged) → IsJudgedOf plan (done ++ slice_range rows 0 begin) k → IsQuiet plan (done ++ rows)
    quiet_all begin begins k judged = subst (λ (x : List Row). IsQuiet plan (done ++ x)) (take-length rows) (quiet_to (length rows) begin (gone_all plan done rows g going all) begins k judged)

    -- and are at one tag
    pub judged_none : BeginsLast rows (length rows) 0 → IsJudgedTo plan done rows j g 0
    judged_none begins = record {
      within = omega arith;
      held = subst (λ (d : List Row). IsHeld plan d (slice_range rows 0 (length rows)) j) (sym (append-nil done)) (subst (λ (u : List Row). IsHeld plan done u j) (whole_range rows) h);
      going = subst (λ (d : List Row). IsGoing plan d (slice_range rows 0 (length rows)) g) (sym (append-nil done)) (subst (λ (u : List Row). IsGoing plan done u g) (whole_range rows) going);
      at_one = rest_at rows 0 begins.last;
      quiet = quiet_all 0 begins j (subst (λ (d : List Row). IsJudgedOf plan d j) (sym (append-nil done)) h.judged);
    }

    -- or those before the last tag are judged
    module _ (begin : ℕ) (some : 0 < begin) (begins : BeginsLast rows (length rows) begin) (k : Judged) (judged : IsJudgedOf plan (done ++ slice_range rows 0 begin) k) where
      abbrev now : List Row
      now = done ++ slice_range rows 0 begin

      inside : begin < length rows
      inside = begins.some (let a : begin ≤ length rows = begins.last.up in let b : 0 < begin = some in omega arith)

      left : ¬ (slice_range rows begin (length rows) ≡ [])
      left none = let a : length (slice_range rows begin (length rows)) ≡ length rows - begin = length-range rows begin (length rows) (omega arith) in let b : length (slice_range rows begin (length rows)) ≡ 0 = ap (λ (x : List Row). length x) none in let l : begin < length rows = inside in absurd (omega arith)

      -- the last of the rows that are judged, and the first of the others
      last : (x : Row) × (slice_get rows (begin - 1) ≡ Some x)
      last = get_there rows (begin - 1) (let l : begin < length rows = inside in omega arith)

      final : (x : Row) × (slice_get rows (length rows - 1) ≡ Some x)
      final = get_there rows (length rows - 1) (let l : begin < length rows = inside in omega arith)

      rising : (i k : ℕ) (x y : Row) → i < k → slice_get rows i ≡ Some x → slice_get rows k ≡ Some y → UpTo x.tag y.tag
      rising = rises_at_hand plan done rows g going all

      last_before : (x : Row) → slice_get rows begin ≡ Some x → Before last.0.tag x.tag
      last_before x e = go (split_up last.0.tag x.tag (rising (begin - 1) begin last.0 x (omega arith) last.1 e))
        where
          go : Before last.0.tag x.tag ⊎ (last.0.tag ≡ x.tag) → Before last.0.tag x.tag
          go (inl b) = b
          go (inr q) = absurd (begins.other last.0 final.0 some last.1 final.1 (q ∙ begins.last.at_one begin x final.0 (omega arith) inside e final.1))

      in_now : slice_get now (length done + (begin - 1)) ≡ Some last.0
      in_now = get_right done (slice_range rows 0 begin) (begin - 1) ∙ range-get rows 0 begin (begin - 1) (omega arith) ∙ ap (λ (n : ℕ). slice_get rows n) (let e : 0 + (begin - 1) ≡ begin - 1 = omega arith in e) ∙ last.1

      long : length now ≡ length done + begin
      long = let a : length now ≡ length done + length (slice_range rows 0 begin) = length-append done (slice_range rows 0 begin) in let b : length (slice_range rows 0 begin) ≡ begin - 0 = length-range rows 0 begin (let l : begin < length rows = inside in omega arith) in omega arith

      up_to_last : (i : ℕ) (y : Row) → slice_get now i ≡ Some y → UpTo y.tag last.0.tag
      up_to_last i y e = go (dec_lt i (length done + (begin - 1)))
        where
          go : Dec (i < length done + (begin - 1)) → UpTo y.tag last.0.tag
          go (yes l) = accepted_rise plan now k.acceptor judged.acceptor i (length done + (begin - 1)) y last.0 l e in_now
          go (no m) = let a : i < length now = slice_get_within now i y e in let b : length now ≡ length done + begin = long in let q : y ≡ last.0 = same_at now i (length done + (begin - 1)) y last.0 e in_now (omega arith) in subst (λ (z : Row). UpTo y.tag z.tag) q (UpTo-refl y.tag)

      behind : (x : Row) → slice_get (slice_range rows begin (length rows)) 0 ≡ Some x → AreBefore now x.tag
      behind x e i y f = UpTo-Before y.tag last.0.tag x.tag (up_to_last i y f) (last_before x (ap (λ (n : ℕ). slice_get rows n) (let z : begin ≡ begin + 0 = omega arith in z) ∙ sym (range-get rows begin (length rows) 0 (let l : begin < length rows = inside in omega arith)) ∙ e))

      pub judged_on : (new : Going) → ((u : List Row) → IsGoing plan now u new) → IsJudgedTo plan done rows k new begin
      judged_on new anew = record {
        within = begins.last.up;
        held = record {
          judged = judged;
          fit = range_fits rows begin (length rows) begins.last.up (omega arith) plan.program h.fit;
          earlier = behind;
          some = λ none. absurd (left none);
        };
        going = anew (slice_range rows begin (length rows));
        at_one = rest_at rows begin begins.last;
        quiet = quiet_all begin begins k judged;
      }

-- what is told of rows that can't be judged further
pub odd_of : (plan : PlanParts) (done rows : List Row) (begin end : ℕ) → IsTurn plan done rows begin end → 0 < begin → begin < length rows → IsOddBehind (done ++ rows) (length done) (length done + begin + 1)
odd_of plan done rows begin end turn some inside = record {
  place = length done + (begin - 1);
  row = last.0;
  next = next.0;
  is_row = get_right done rows (begin - 1) ∙ last.1;
  is_next = ap (λ (n : ℕ). slice_get (done ++ rows) n) (let e : length done + (begin - 1) + 1 ≡ length done + begin = omega arith in e) ∙ get_right done rows begin ∙ next.1;
  before = apart plan done rows end turn.gone begin turn.begins (begin - 1) begin last.0 next.0 (omega arith) (omega arith) (turn.begins.some (let l : begin ≤ end = turn.begins.last.up in omega arith)) last.1 next.1;
  behind = omega arith;
  line_is = omega arith;
}
  where
    last : (x : Row) × (slice_get rows (begin - 1) ≡ Some x)
    last = get_there rows (begin - 1) (omega arith)

    next : (x : Row) × (slice_get rows begin ≡ Some x)
    next = get_there rows begin inside

-- some rows of all are clean
clean_to : (plan : PlanParts) (t d u : List Row) (r : Reach) → t ≡ d ++ u → IsCleanSoFar plan d r → IsCleanTo plan t r (length d)
clean_to plan t d u r parts clean = record { within = let a : length t ≡ length d + length u = ap (λ (x : List Row). length x) parts ∙ length-append d u in omega arith; clean = subst (λ (x : List Row). IsCleanSoFar plan x r) (sym (done_is t d u (length d) refl parts)) clean }

pub odd_so_far : (plan : PlanParts) (t more : List Row) (r : Reach) (line : ℕ) → IsOdd plan t more r line → IsOddSoFar plan (t ++ more) r line
odd_so_far plan t more r line o = (length o.judged.done, clean_to plan (t ++ more) o.judged.done (o.judged.left ++ more) r (ap (λ (x : List Row). x ++ more) o.judged.parts ∙ append_assoc o.judged.done o.judged.left more) o.judged.clean, (let a : length o.judged.done ≤ o.odd.place = o.odd.behind in let b : line ≡ o.odd.place + 2 = o.odd.line_is in omega arith), let a : o.odd.place + 1 < length (t ++ more) = slice_get_within (t ++ more) (o.odd.place + 1) o.odd.next o.odd.is_next in let b : line ≡ o.odd.place + 2 = o.odd.line_is in omega arith)

pub unjudged_so_far : (plan : PlanParts) (t : List Row) (u : Unjudged) → IsUnjudged plan t u → IsOddSoFar plan t u.reach u.line
unjudged_so_far plan t u (inl judged, line) = (length judged.done, clean_to plan t judged.done judged.left u.reach judged.parts judged.clean, (let a : length t ≡ length judged.done + length judged.left = ap (λ (x : List Row). length x) judged.parts ∙ length-append judged.done judged.left in let b : u.line ≡ length t + 1 = line in omega arith), let b : u.line ≡ length t + 1 = line in omega arith)
unjudged_so_far plan t u (inr clean, line) = (length t, clean_to plan t t [] u.reach (sym (append-nil t)) clean, (let b : u.line ≡ length t + 1 = line in omega arith), let b : u.line ≡ length t + 1 = line in omega arith)

-- how far the rows are judged
pub judged_so_far : (plan : PlanParts) (t : List Row) (f : Follower) → IsFollowerOf plan t f → IsJudged plan t f.judged.reach
judged_so_far plan t f is = record { done = d; left = held_of f; parts = is.parts; at_one = at_one (held_of f) is.held.some is.held.earlier is.at_one; some = is.held.some; clean = is.held.judged.clean }
  where
    d : List Row
    d = done_of t f

    at_one : (u : List Row) → (u ≡ [] → d ≡ []) → ((x : Row) → slice_get u 0 ≡ Some x → AreBefore d x.tag) → (g : Tag) × AreAt u g → (g : Tag) × AreAt u g × AreBefore d g
    at_one [] some earlier g = (g.0, g.1, subst (λ (x : List Row). AreBefore x g.0) (sym (some refl)) (λ i x e. absurd (cc)))
    at_one (y ∷ u) some earlier g = (g.0, g.1, subst (λ (k : Tag). AreBefore d k) (g.1 0 y refl) (earlier y refl))

-- and the rows behind them are odd
pub odd_of_first : (plan : PlanParts) (t more : List Row) (f : Follower) → IsFollowerOf plan t f → (line : ℕ) → IsOddBehind (t ++ more) (length (done_of t f)) line → IsOdd plan t more f.judged.reach line
unfolding judged_so_far
odd_of_first plan t more f is line odd = record { judged = judged_so_far plan t f is; odd = odd }

-- before the first row
pub new_follower : (plan : PlanParts) (f : Follower) → IsJudgedOf plan [] f.judged → ((rows : List Row) → IsGoing plan [] rows f.going) → f.held ≡ 0 → IsFollowerOf plan [] f
new_follower plan f judged going zero = record {
  within = omega (arith, zero);
  parts = sym none ∙ ap (λ (x : List Row). x ++ held_of f) (sym same);
  held = record {
    judged = subst (λ (x : List Row). IsJudgedOf plan x f.judged) (sym same) judged;
    fit = subst (RowsFit plan.program) (sym none) (record { few = omega arith; each = λ i x e. absurd (cc) });
    earlier = λ x e. subst (λ (u : List Row). AreBefore u x.tag) (sym same) (λ i y g. absurd (cc));
    some = λ e. same;
  };
  going = subst (λ (x : List Row). IsGoing plan x (held_of f) f.going) (sym same) (going (held_of f));
  at_one = subst (λ (x : List Row). (g : Tag) × AreAt x g) (sym none) (record { time = 0; micro = 0 }, λ i x e. absurd (cc));
}
  where
    none : held_of f ≡ []
    none = ap (λ (n : ℕ). take n f.rows.items) zero

    same : done_of [] f ≡ []
    same = done_is [] [] (held_of f) f.judged.count judged.counted (sym none)

-- what holds the same, with others to go past next
pub follower_as : (plan : PlanParts) (t : List Row) (f new : Follower) → new.judged ≡ f.judged → new.going ≡ f.going → new.held ≤ length new.rows.items → held_of new ≡ held_of f → IsFollowerOf plan t f → IsFollowerOf plan t new
follower_as plan t f new judged going within same is = record {
  within = within;
  parts = is.parts ∙ ap (λ (j : Judged). take j.count t ++ held_of f) (sym judged) ∙ ap (λ (u : List Row). done_of t new ++ u) (sym same);
  held = subst (λ (j : Judged). IsHeld plan (take j.count t) (held_of new) j) (sym judged) (subst (λ (u : List Row). IsHeld plan (done_of t f) u f.judged) (sym same) is.held);
  going = subst (λ (j : Judged). IsGoing plan (take j.count t) (held_of new) new.going) (sym judged) (subst (λ (u : List Row). IsGoing plan (done_of t f) u new.going) (sym same) (subst (λ (g : Going). IsGoing plan (done_of t f) (held_of f) g) (sym going) is.going));
  at_one = subst (λ (u : List Row). (g : Tag) × AreAt u g) (sym same) is.at_one;
}

-- more rows are put behind
pub more_next : (plan : PlanParts) (t more : List Row) (f new : Follower) → new.judged ≡ f.judged → new.going ≡ f.going → new.held ≡ f.held → new.rows.items ≡ f.rows.items ++ more → IsFollowerOf plan t f → IsFollowerOf plan t new × (next_of new ≡ next_of f ++ more)
more_next plan t more f new judged going held rows is = (
  follower_as plan t f new judged going (let a : length new.rows.items ≡ length f.rows.items + length more = ap (λ (u : List Row). length u) rows ∙ length-append f.rows.items more in let b = is.within in omega (arith, a, b, held)) (both take ∙ take-append-le f.held f.rows.items more is.within) is,
  both drop ∙ drop-append-le f.held f.rows.items more is.within,
)
  where
    both : (cut : ℕ → List Row → List Row) → cut new.held new.rows.items ≡ cut f.held (f.rows.items ++ more)
    both cut = ap (λ (n : ℕ). cut n new.rows.items) held ∙ ap (λ (u : List Row). cut f.held u) rows

-- the last tag of some rows begins before the end of all
pub begins_within : (rows : List Row) (end begin : ℕ) → BeginsLast rows end begin → end ≤ length rows → 0 < length rows → begin < length rows
begins_within rows end begin begins within some = go (dec_lt 0 end)
  where
    up : begin ≤ end
    up = begins.last.up

    go : Dec (0 < end) → begin < length rows
    go (yes l) = let b : begin < end = begins.some l in omega (arith, b)
    go (no n) = omega (arith, up)

module _ (plan : PlanParts) (t more : List Row) (old : Follower) (is : IsFollowerOf plan t old) where
  abbrev pub rows : List Row
  rows = held_of old ++ more

  -- rows and more behind them are those that are judged and those at hand
  pub whole : t ++ more ≡ done_of t old ++ rows
  whole = ap (λ (x : List Row). x ++ more) is.parts ∙ append_assoc (done_of t old) (held_of old) more

  pub fit_more : RowsFit plan.program more → length (held_of old) + length more ≤ 4000000 → RowsFit plan.program rows
  fit_more fit few = record { few = let a : length rows ≡ length (held_of old) + length more = length-append (held_of old) more in omega (arith, a, few); each = λ i x e. each i x (get_append_cases (held_of old) more i x e) }
    where
      each : (i : ℕ) (x : Row) → (slice_get (held_of old) i ≡ Some x) ⊎ ((j : ℕ) × (i ≡ length (held_of old) + j) × (slice_get more j ≡ Some x)) → RowFits plan.program x
      each i x (inl e) = is.held.fit.each i x e
      each i x (inr e) = fit.each e.0 x e.2

  module _ (s : List Row) (same : s ≡ rows) where
    pub held_over : RowsFit plan.program s → IsHeld plan (done_of t old) s old.judged
    held_over fit = subst (λ (u : List Row). IsHeld plan (done_of t old) u old.judged) (sym same) (held_more plan (done_of t old) (held_of old) more old.judged is.held (subst (λ (u : List Row). RowsFit plan.program u) same fit))

    pub going_over : IsGoing plan (done_of t old) s old.going
    going_over = subst (λ (u : List Row). IsGoing plan (done_of t old) u old.going) (sym same) (going_more plan (done_of t old) (held_of old) more old.going is.going)

    -- where they aren't gone past
    pub hitch_over : (h : Hitch) → IsHitch plan (done_of t old ++ s) (length (done_of t old)) h → IsHitch plan (t ++ more) (length (done_of t old)) h
    hitch_over h stuck = subst (λ (u : List Row). IsHitch plan u (length (done_of t old)) h) (ap (λ (u : List Row). done_of t old ++ u) same ∙ sym whole) stuck

    -- where those before a place are judged, and the others are held
    pub followed_on : (new : Follower) (begin : ℕ) → IsJudgedTo plan (done_of t old) s new.judged new.going begin → new.held ≤ length new.rows.items → held_of new ≡ slice_range s begin (length s) → IsFollowedOn plan t more old new
    followed_on new begin to within left = record {
      follows = record {
        within = within;
        parts = parts ∙ ap (λ (x : List Row). x ++ held_of new) (sym judged);
        held = subst (λ (x : List Row). IsHeld plan x (held_of new) new.judged) (sym judged) (subst (λ (u : List Row). IsHeld plan now u new.judged) (sym left) to.held);
        going = subst (λ (x : List Row). IsGoing plan x (held_of new) new.going) (sym judged) (subst (λ (u : List Row). IsGoing plan now u new.going) (sym left) to.going);
        at_one = subst (λ (u : List Row). (g : Tag) × AreAt u g) (sym left) to.at_one;
      };
      quiet = subst (λ (u : List Row). IsQuiet plan u) (sym both) to.quiet;
      further = let a : length (done_of (t ++ more) new) ≡ length now = ap (λ (x : List Row). length x) judged in let b : length now ≡ length (done_of t old) + length (slice_range s 0 begin) = length-append (done_of t old) (slice_range s 0 begin) in omega (arith, a, b);
    }
      where
        now : List Row
        now = done_of t old ++ slice_range s 0 begin

        both : t ++ more ≡ done_of t old ++ s
        both = whole ∙ ap (λ (u : List Row). done_of t old ++ u) (sym same)

        parts : t ++ more ≡ now ++ held_of new
        parts = parted (t ++ more) (done_of t old) s begin to.within both ∙ ap (λ (x : List Row). now ++ x) (sym left)

        judged : done_of (t ++ more) new ≡ now
        judged = done_is (t ++ more) now (held_of new) new.judged.count to.held.judged.counted parts
