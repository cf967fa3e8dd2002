-- Rows of a log that are read, over more lines.
use Rattle.std.proofs.Common.{◌≡◌, ◌+◌, ◌-◌, ◌<◌, ◌≤◌, ◌∙◌, ⊎_elim, ℕ, Bool, true, false, List, [], ◌∷◌, ◌++◌, Option, Some, None, length, take, drop, slice_range, refl, sym, ap, subst, arith, length-append}
use Rattle.std.specs.{Global.Vec, Prelude.{MatchOption, is_some}}
use Rattle.std.proofs.lemmas.{Bool.false≢true, List.{append_assoc, append-nil, drop-drop, take-append-drop}}
use Rattle.lft_lists.proofs.Places.{get_append_cases}
use Rattle.lft_ir.specs.{Parts.Parts, declared.steps.row.Row.Row, Steps.{Fits.RowsFit, Inputs.InOrder}}
use Rattle.lft_trace.specs.{inner.LogTables.inputs_behind, declared.log_table.Line.Line}
use Rattle.lft_model.specs.Plans.{PlanParts}
use Rattle.lft_monitor.specs.inner.Follows.{HasGonePast, IsFollowerOf, next_of}
use Rattle.lft_log.specs.{Logs.{HasManyRows, IsHead, rows}, inner.{Logs.IsFront, Told.{HasRead, IsReadOn, IsReadSoFar, IsTaken}}, Told.TellsPlan}
use Rattle.lft_log.specs.declared.{front.LinesRead.LinesRead, rows.LogRows.LogRows, telling.Taken.Taken}
use Rattle.lft_log.proofs.{Behind.rows_both, Fronts.rest_from, Holding.{header_there, hold_front}, InPlace.{each_first, next_read, read_behind, with_rows}}
use Rattle.lft_log.proofs.{Taking.{grown_tells, tells_all}, Plans.told_none}

-- a part of what is left, and what is left behind it
pub split_at : (text behind : List ℕ) (a b : ℕ) → a ≤ b → slice_range text a b ++ (drop b text ++ behind) ≡ drop a text ++ behind
split_at text behind a b up = sym (append_assoc (slice_range text a b) (drop b text) behind) ∙ ap (λ (x : List ℕ). x ++ behind) both
  where
    left : drop b text ≡ drop (b - a) (drop a text)
    left = let e : a + (b - a) ≡ b = omega (arith, up) in sym (drop-drop (b - a) a text ∙ ap (λ (k : ℕ). drop k text) e)

    both : take (b - a) (drop a text) ++ drop b text ≡ drop a text
    both = ap (λ (x : List ℕ). take (b - a) (drop a text) ++ x) left ∙ take-append-drop (b - a) (drop a text)

-- the first of rows fit
first_short : (t : List Row) (n : ℕ) → length (take n t) ≤ length t
first_short t n = let l = length-append (take n t) (drop n t) in let e = ap (λ (s : List Row). length s) (take-append-drop n t) in omega (arith, l, e)

pub fit_first : (program : Parts) (t : List Row) (n : ℕ) → RowsFit program t → RowsFit program (take n t)
fit_first program t n fit = record { few = let l = first_short t n in let m = fit.few in omega (arith, l, m); each = each_first program t n fit.each }

-- more rows fit
pub fit_none : (program : Parts) (t : List Row) → t ≡ [] → RowsFit program t
fit_none program t e = subst (λ (u : List Row). RowsFit program u) (sym e) (record { few = omega arith; each = λ i row q. absurd (cc) })

pub fit_more : (program : Parts) (t more new : List Row) → RowsFit program t → RowsFit program more → length more ≤ 4000000 - length t → new ≡ t ++ more → RowsFit program new
fit_more program t more new x y few e = subst (λ (u : List Row). RowsFit program u) (sym e) (record { few = many; each = λ i row q. ⊎_elim (λ h. x.each i row h) (λ h. y.each h.0 row h.2) (get_append_cases t more i row q) })
  where
    many : length (t ++ more) ≤ 4000000
    many = let z : length (t ++ more) ≡ length t + length more = length-append t more in let w : length t ≤ 4000000 = x.few in omega (arith, few)

-- the header came
pub tells_none : (base : PlanParts) (log body more : List ℕ) (t : List Row) → InOrder base.externals.events → (head : List ℕ) × (log ≡ head ++ body) × IsHead head → t ≡ [] → TellsPlan base (log ++ more) base t [] (body ++ more)
tells_none base log body more t order (head, e, is) none = record {
  lines = [];
  held = header_there base.program (log ++ more) (log ++ more) head (body ++ more) refl (ap (λ (x : List ℕ). x ++ more) e ∙ append_assoc head body more) is;
  rows_are = sym none;
  timely = tt;
  told = told_none base order;
}

pub none_is : {X : Type 0} (o : Option X) → is_some o ≡ false → o ≡ None
none_is None e = refl
none_is (Some x) e = absurd (false≢true (sym e))

-- the first lines of a front are taken behind those that are read
module _ (base old new : PlanParts) (bytes text behind : List ℕ) (r : LogRows) (rows_before inputs_before : ℕ) (v : Vec Row) (read : List Row) (front : LinesRead) (taken : Taken) (t : List Row) (so : IsReadSoFar base old bytes (text ++ behind) r) (rows_are : v.items ≡ r.follower.rows.items ++ read) (given : IsFront old.program text rows_before inputs_before read front) (program : new.program ≡ old.program) (are : (s : List Row) (lines : List Line) → IsFollowerOf old s (with_rows r.follower v) → next_of (with_rows r.follower v) ≡ rows lines → front.inputs.items ≡ inputs_behind 0 lines → IsTaken old new s inputs_before front lines taken) (few : length read ≤ 4000000 - length r.rows.items) (e : t ≡ r.rows.items ++ take taken.rows read) where
  fronts : IsFront base.program text rows_before inputs_before read front
  fronts = subst (λ (p : Parts). IsFront p text rows_before inputs_before read front) so.tells.told.program given

  takes : IsTaken old new (rows so.tells.lines) inputs_before front fronts.lines taken
  takes = are (rows so.tells.lines) fronts.lines (subst (λ (s : List Row). IsFollowerOf old s (with_rows r.follower v)) (sym so.tells.rows_are) (read_behind old r.rows.items read r.follower v rows_are so.follower)) (next_read old r.rows.items read r.follower v rows_are so.follower ∙ fronts.rows_are) fronts.inputs_are

  whole : t ≡ rows so.tells.lines ++ take taken.rows read
  whole = e ∙ ap (λ (s : List Row). s ++ take taken.rows read) (sym so.tells.rows_are)

  pub rows_fit : RowsFit new.program t
  rows_fit = subst (λ (p : Parts). RowsFit p t) (sym program) (fit_more old.program r.rows.items (take taken.rows read) t so.fit (fit_first old.program read taken.rows given.rows_fit) fewer e)
    where
      fewer : length (take taken.rows read) ≤ 4000000 - length r.rows.items
      fewer =
          let l : length (take taken.rows read) ≤ length read = first_short read taken.rows in
          omega (arith, l, few)

  pub rows_read : (is_cut : Bool) → is_cut ≡ r.is_cut → ((others : List (List (List ℕ))) × (rest : List ℕ) × TellsPlan base bytes new t others rest) × RowsFit new.program t × (is_cut ≡ true → HasManyRows base.program bytes)
  rows_read is_cut same = ((_, _, grown_tells base old new bytes text behind so.tells.lines rows_before inputs_before read front taken so.tells.held fronts takes so.tells.timely so.tells.told t whole), rows_fit, λ yes. absurd (false≢true (sym so.uncut ∙ sym same ∙ yes)))

  pub all_read : taken.fault ≡ None → TellsPlan base bytes new t [] behind
  all_read none = tells_all base old new bytes text behind so.tells.lines rows_before inputs_before read front taken so.tells.held fronts takes so.tells.timely so.tells.told none t whole

-- with a front the log has more rows than a table may have
pub cut_rows : (base old : PlanParts) (bytes text behind : List ℕ) (r : LogRows) (rows_before inputs_before : ℕ) (read : List Row) (front : LinesRead) → IsReadSoFar base old bytes (text ++ behind) r → IsFront old.program text rows_before inputs_before read front → 4000000 < length r.rows.items + length read → HasManyRows base.program bytes
cut_rows base old bytes text behind r rows_before inputs_before read front so given many = (so.tells.lines ++ fronts.lines, fronts.others, _, hold_front base.program bytes text behind so.tells.lines rows_before inputs_before read front so.tells.held fronts, more)
  where
    fronts : IsFront base.program text rows_before inputs_before read front
    fronts = subst (λ (p : Parts). IsFront p text rows_before inputs_before read front) so.tells.told.program given

    more : 4000000 < length (rows (so.tells.lines ++ fronts.lines))
    more =
        let both = ap (λ (t : List Row). length t) (rows_both so.tells.lines fronts.lines) in
        let long : length (rows so.tells.lines ++ rows fronts.lines) ≡ length (rows so.tells.lines) + length (rows fronts.lines) = length-append (rows so.tells.lines) (rows fronts.lines) in
        let left = ap (λ (t : List Row). length t) so.tells.rows_are in
        let right = ap (λ (t : List Row). length t) fronts.rows_are in
        omega (arith, many, both, long, left, right)

-- nothing is read yet
pub read_none : (base : PlanParts) (log body more : List ℕ) (r : LogRows) → InOrder base.externals.events → (head : List ℕ) × (log ≡ head ++ body) × IsHead head → r.rows.items ≡ [] → r.is_cut ≡ false → HasGonePast base [] r.follower → IsReadSoFar base base (log ++ more) (body ++ more) r
read_none base log body more r order below none uncut follower = record {
  tells = tells_none base log body more r.rows.items order below none;
  fit = fit_none base.program r.rows.items none;
  follower = subst (λ (t : List Row). HasGonePast base t r.follower) (sym none) follower;
  uncut = uncut;
}

pub has_read : (base plan : PlanParts) (bytes rest : List ℕ) (r : LogRows) → IsReadSoFar base plan bytes rest r → HasRead base plan bytes r
has_read base plan bytes rest r is = (([], rest, is.tells), is.fit, λ yes. absurd (false≢true (sym is.uncut ∙ yes)))

-- whether more is to be read or not
pub still_read : (base plan : PlanParts) (bytes rest : List ℕ) (r : LogRows) (on : Bool) → IsReadOn on base plan bytes rest r → HasRead base plan bytes r
still_read base plan bytes rest r true is = has_read base plan bytes rest r is
still_read base plan bytes rest r false is = is

pub read_on : (base plan : PlanParts) (bytes rest : List ℕ) (r : LogRows) (on : Bool) → on ≡ true → IsReadOn on base plan bytes rest r → IsReadSoFar base plan bytes rest r
read_on base plan bytes rest r true e is = is
read_on base plan bytes rest r false e is = absurd (false≢true e)

-- whether all lines are read or not
pub either_read : (base plan : PlanParts) (bytes text behind : List ℕ) (r : LogRows) (o : Option ℕ) → MatchOption o (HasRead base plan bytes r) (λ (n : ℕ). IsReadSoFar base plan bytes (drop n text ++ behind) r) → HasRead base plan bytes r
either_read base plan bytes text behind r None is = is
either_read base plan bytes text behind r (Some n) is = has_read base plan bytes (drop n text ++ behind) r is

-- the last line, with an end
pub read_last : (base plan : PlanParts) (bytes body line : List ℕ) (n : ℕ) (r : LogRows) → line ≡ slice_range body n (length body) ++ 10 ∷ [] → IsReadSoFar base plan bytes (drop n body ++ 10 ∷ []) r → IsReadSoFar base plan bytes (line ++ []) r
read_last base plan bytes body line n r e is = subst (λ (x : List ℕ). IsReadSoFar base plan bytes x r) (sym (append-nil line ∙ e ∙ ap (λ (x : List ℕ). x ++ 10 ∷ []) (rest_from body n))) is
