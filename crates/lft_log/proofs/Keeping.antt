-- What is kept of a table, over more lines and over more bytes.
use Rattle.std.proofs.Common.{◌≡◌, ◌+◌, ◌^◌, ◌≤◌, ◌∙◌, inl, inr, ℕ, Bool, true, false, List, [], ◌++◌, Option, Some, None, length, take, drop, refl, sym, ap, subst, arith}
use Rattle.std.{specs.{Global.Vec, Prelude.MatchOption}, proofs.lemmas.{List.{append_assoc, append-nil, length-append, take-append-drop}, Bool.false≢true}}
use Rattle.lft_tag.specs.declared.Tag.{Tag}
use Rattle.lft_ir.specs.{Parts.Parts, declared.steps.row.Row.Row}
use Rattle.lft_trace.specs.{ExternalTables.IsEntry, LogTables.IsNoLine, inner.LogTables.inputs_behind}
use Rattle.lft_trace.specs.declared.{external_table.Entry.TheVariants.Happens, log_table.Line.Line}
use Rattle.lft_model.specs.Plans.{PlanParts}
use Rattle.lft_monitor.specs.{declared.follower.Follower.Follower, inner.Follows.{HasGonePast, IsFollowerOf, next_of}, Follows.IsQuiet}
use Rattle.lft_log.specs.declared.asked.Asked.{Asked}
use Rattle.lft_log.specs.declared.fault.LogFault.{LogFault}
use Rattle.lft_log.specs.declared.fault.LogFault.TheVariants.{NoHeader, NoRow, NotPlain, SecondHeader, LongLine, TooManyRows, NoInput, NotPlainInput, LateInput, InputAgain, ManyLater, TooManyInputs, NoMemory}
use Rattle.lft_log.specs.declared.{front.LinesRead.LinesRead, log.Log.Log, telling.Taken.Taken, told.Told.Told}
use Rattle.lft_log.specs.Logs.{BeginsLong, HoldSoFar, IsHead, IsOddLine, inputs, rows}
use Rattle.lft_log.specs.inner.{Logs.IsFront, Told.{IsAskedOf, IsBegun, IsFaultOfRows, IsLog, IsLogOf, IsTaken}}
use Rattle.lft_log.specs.Told.{IsFaultOf, IsOddLineBehind, IsSaid, IsSoon, KeepTo, RecordStandsBehind}
use Rattle.lft_log.proofs.{Asking.asked_within, Holding.{header_there, hold_longer}, InPlace.{next_read, read_behind, with_rows}}
use Rattle.lft_log.proofs.Odd.{line_longer, long_longer}
use Rattle.lft_log.proofs.Taking.{all_held, fault_held, fault_of_rows, grown, grown_numbered, grown_rows, grown_tells, grown_timely, grown_told, taken_rows}
use Rattle.lft_trace.specs.declared.log_table.LineFault.TheVariants as none

-- the lines below the header
pub body_held : (base plan : PlanParts) (until : Option Tag) (bytes lines body : List ℕ) (log : Log) (is : IsLogOf base plan until bytes lines log) → (log.is_begun ≡ true → body ≡ lines) → (log.is_begun ≡ false → (head : List ℕ) × (lines ≡ head ++ body) × IsHead head) → HoldSoFar base.program bytes is.lines [] body
body_held base plan until bytes lines body log is below above = go log.is_begun refl
  where
    go : (b : Bool) → log.is_begun ≡ b → HoldSoFar base.program bytes is.lines [] body
    go true e = subst (λ (x : List ℕ). HoldSoFar base.program bytes is.lines [] x) (sym (below e)) (is.begun e)
    go false e =
        let f = is.fresh e in
        let h = above e in
        subst (λ (l : List Line). HoldSoFar base.program bytes l [] body) (sym f.1) (header_there base.program bytes lines h.0 body f.0 h.1 h.2)

-- whole lines are read to their place and told
module _ (base old new : PlanParts) (until : Option Tag) (bytes text : List ℕ) (log : Log) (v : Vec Row) (read : List Row) (front : LinesRead) (taken : Taken) (is : IsBegun base old until bytes text log) (rows_are : v.items ≡ log.follower.rows.items ++ read) (given : IsFront old.program text log.rows log.inputs read front) (are : (t : List Row) (lines : List Line) → IsFollowerOf old t (with_rows log.follower v) → next_of (with_rows log.follower v) ≡ rows lines → front.inputs.items ≡ inputs_behind 0 lines → IsTaken old new t log.inputs front lines taken) where
  abbrev so_far : List Line
  so_far = is.0.lines

  abbrev u : List Row
  u = take taken.rows read

  held : HoldSoFar base.program bytes so_far [] (text ++ [])
  held = subst (λ (x : List ℕ). HoldSoFar base.program bytes so_far [] x) (sym (append-nil text)) (is.0.begun is.1)

  fronts : IsFront base.program text log.rows log.inputs read front
  fronts = subst (λ (p : Parts). IsFront p text log.rows log.inputs read front) is.0.told.program given

  next : next_of (with_rows log.follower v) ≡ read
  next = next_read old (rows so_far) read log.follower v rows_are is.0.follower

  takes : IsTaken old new (rows so_far) log.inputs front fronts.lines taken
  takes = are (rows so_far) fronts.lines (read_behind old (rows so_far) read log.follower v rows_are is.0.follower) (next ∙ fronts.rows_are) fronts.inputs_are

  pub fault_on : (f : LogFault) → taken.fault ≡ Some f → IsFaultOf base bytes f
  fault_on f named = fault_held base old new bytes text [] so_far log.rows log.inputs read front taken held fronts takes is.0.timely is.0.told f named is.0.counted is.0.numbered

  -- the follower goes past those that are taken
  module _ (cut : Follower) (left : next_of cut ≡ u) where
    -- without a fault they are all
    pub lines_on : log.rows ≤ 2 ^ 62 → taken.rows ≤ length (next_of (with_rows log.follower v)) → taken.fault ≡ None → (after : Log) → HasGonePast new (rows so_far ++ next_of cut) after.follower → after.rows ≡ log.rows + taken.rows → after.inputs ≡ log.inputs + taken.inputs → after.asked.until ≡ log.asked.until → IsAskedOf (rows so_far ++ next_of cut) after.asked → after.is_begun ≡ true → IsBegun base new until bytes [] after
    lines_on few within none after follower counted numbered until_is asked begun = (
      record {
        lines = grown base old new bytes text [] so_far log.rows log.inputs read front taken held fronts takes;
        told = grown_told base old new bytes text [] so_far log.rows log.inputs read front taken held fronts takes is.0.timely is.0.told;
        timely = grown_timely base old new bytes text [] so_far log.rows log.inputs read front taken held fronts takes is.0.timely is.0.told;
        follower = subst (λ (t : List Row). HasGonePast new t after.follower) same follower;
        counted =
            let l = length-append (rows so_far) u in
            let m = ap (λ (t : List Row). length t) more in
            let n = ap (λ (t : List Row). length t) (taken_rows base old new bytes text [] so_far log.rows log.inputs read front taken held fronts takes) in
            let k = takes.counted in
            let before = is.0.counted in
            omega (arith, l, m, n, k, before, counted);
        few = let most = fronts.rows_fit.few in let n = ap (λ (t : List Row). length t) next in omega (arith, few, within, most, counted, n);
        numbered =
            let m = grown_numbered base old new bytes text [] so_far log.rows log.inputs read front taken held fronts takes in
            let before = is.0.numbered in
            omega (arith, m, before, numbered);
        until_is = until_is ∙ is.0.until_is;
        asked = subst (λ (t : List Row). IsAskedOf t after.asked) same asked;
        begun = λ _. all_held base old new bytes text [] so_far log.rows log.inputs read front taken held fronts takes none;
        fresh = λ e. absurd (false≢true (sym e ∙ begun));
      },
      begun,
    )
      where
        more : rows (grown base old new bytes text [] so_far log.rows log.inputs read front taken held fronts takes) ≡ rows so_far ++ u
        more = grown_rows base old new bytes text [] so_far log.rows log.inputs read front taken held fronts takes

        same : rows so_far ++ next_of cut ≡ rows (grown base old new bytes text [] so_far log.rows log.inputs read front taken held fronts takes)
        same = ap (λ (t : List Row). rows so_far ++ t) left ∙ sym more

    pub rows_fault_on : (f : LogFault) → IsFaultOfRows (rows so_far ++ next_of cut) f → IsFaultOf base bytes f
    rows_fault_on f of = fault_of_rows base old new bytes text [] so_far log.rows log.inputs read front taken held fronts takes is.0.timely is.0.told f (subst (λ (t : List Row). IsFaultOfRows (rows so_far ++ t) f) left of)

    pub soon_on : (told : Told) (first more : List Row) → next_of cut ≡ first ++ more → KeepTo until (rows so_far ++ first) → IsSaid new until (rows so_far ++ first) more told → IsSoon base until bytes told
    soon_on told first more parted within said = (
      new,
      rows so_far ++ first,
      more,
      _,
      _,
      grown_tells base old new bytes text [] so_far log.rows log.inputs read front taken held fronts takes is.0.timely is.0.told ((rows so_far ++ first) ++ more) (append_assoc (rows so_far) first more ∙ ap (λ (t : List Row). rows so_far ++ t) (sym parted ∙ left)),
      within,
      said,
    )

-- the rest may be another, and what is kept elsewhere
pub kept_as : (base plan : PlanParts) (until : Option Tag) (bytes rest other lines : List ℕ) (log new : Log) → new.follower ≡ log.follower → new.rows ≡ log.rows → new.inputs ≡ log.inputs → new.asked ≡ log.asked → (is : IsLogOf base plan until bytes rest log) → (new.is_begun ≡ true → HoldSoFar base.program other is.lines [] lines) → (new.is_begun ≡ false → (other ≡ lines) × (is.lines ≡ [])) → IsLogOf base plan until other lines new
kept_as base plan until bytes rest other lines log new follower rows_are numbered asked is begun fresh = record {
  lines = is.lines;
  told = is.told;
  timely = is.timely;
  follower = subst (λ x. HasGonePast plan (rows is.lines) x) (sym follower) is.follower;
  counted = rows_are ∙ is.counted;
  few = subst (λ (n : ℕ). n ≤ 2 ^ 62 + 4000000) (sym rows_are) is.few;
  numbered = numbered ∙ is.numbered;
  until_is = ap (λ (a : Asked). a.until) asked ∙ is.until_is;
  asked = subst (λ (a : Asked). IsAskedOf (rows is.lines) a) (sym asked) is.asked;
  begun = begun;
  fresh = fresh;
}

-- the header is there now
pub begun_as : (base plan : PlanParts) (until : Option Tag) (bytes lines body : List ℕ) (log new : Log) → new.follower ≡ log.follower → new.rows ≡ log.rows → new.inputs ≡ log.inputs → new.asked ≡ log.asked → new.is_begun ≡ true → (log.is_begun ≡ true → body ≡ lines) → (log.is_begun ≡ false → (head : List ℕ) × (lines ≡ head ++ body) × IsHead head) → IsLogOf base plan until bytes lines log → IsBegun base plan until bytes body new
begun_as base plan until bytes lines body log new follower rows_are numbered asked begun below above is = (kept_as base plan until bytes lines bytes body log new follower rows_are numbered asked is (λ _. body_held base plan until bytes lines body log is below above) (λ e. absurd (false≢true (sym e ∙ begun))), begun)

pub soon_longer : (base : PlanParts) (until : Option Tag) (bytes more : List ℕ) (told : Told) → IsSoon base until bytes told → IsSoon base until (bytes ++ more) told
soon_longer base until bytes more told (plan, t, later, others, rest, is, keeps, said) = (
  plan,
  t,
  later,
  others,
  rest ++ more,
  record {
    lines = is.lines;
    held = hold_longer base.program bytes rest more is.lines others is.held;
    rows_are = is.rows_are;
    timely = is.timely;
    told = is.told;
  },
  keeps,
  said,
)

behind_longer : (program : Parts) (bytes more : List ℕ) (lines : List Line) (P : List (List ℕ) → Type 0) → RecordStandsBehind program bytes lines P → RecordStandsBehind program (bytes ++ more) lines P
behind_longer program bytes more lines P (others, rest, held, b) = (others, rest ++ more, (hold_longer program bytes rest more lines others held.0, held.1), b)

odd_longer : (base : PlanParts) (bytes more : List ℕ) (f : LogFault) → IsOddLineBehind base bytes f → IsOddLineBehind base (bytes ++ more) f
odd_longer base bytes more f (lines, rest, held, x) = (lines, rest ++ more, (hold_longer base.program bytes rest more lines [] held.0, held.1), line_longer (IsOddLine (length (rows lines) + 2) (length (inputs lines) + 2) f) rest more x)

pub fault_longer : (base : PlanParts) (bytes more : List ℕ) (f : LogFault) → IsFaultOf base bytes f → IsFaultOf base (bytes ++ more) f
fault_longer base bytes more (NoRow e line) x = (x.0, behind_longer base.program bytes more x.0 (λ f. IsNoLine base.program f (none.NoRow e)) x.1, x.2)
fault_longer base bytes more (NoInput e line) x = (x.0, behind_longer base.program bytes more x.0 (λ f. IsNoLine base.program f (none.NoInput e)) x.1, x.2)
fault_longer base bytes more (LateInput line) x = (x.0, x.1, behind_longer base.program bytes more x.0 (λ f. IsEntry base.program f x.1) x.2, x.3, x.4)
fault_longer base bytes more (InputAgain line) x = (x.0, x.1, behind_longer base.program bytes more x.0 (λ f. IsEntry base.program f (Happens x.1)) x.2, x.3, x.4)
fault_longer base bytes more (ManyLater line) x = (x.0, x.1, behind_longer base.program bytes more x.0 (λ f. IsEntry base.program f (Happens x.1)) x.2, x.3, x.4)
fault_longer base bytes more NoHeader x = line_longer (λ line. ¬ IsHead line) bytes more x
fault_longer base bytes more (NotPlain line) x = odd_longer base bytes more (NotPlain line) x
fault_longer base bytes more (SecondHeader line) x = odd_longer base bytes more (SecondHeader line) x
fault_longer base bytes more (NotPlainInput line) x = odd_longer base bytes more (NotPlainInput line) x
fault_longer base bytes more (LongLine line) (inl x) = inl (long_longer bytes more x.0, x.1)
fault_longer base bytes more (LongLine line) (inr (lines, rest, held, long, numbered)) = inr (lines, rest ++ more, (hold_longer base.program bytes rest more lines [] held.0, held.1), long_longer rest more long, numbered)
fault_longer base bytes more TooManyRows (lines, others, rest, held, many) = (lines, others, rest ++ more, (hold_longer base.program bytes rest more lines others held.0, held.1), many)
fault_longer base bytes more TooManyInputs (inl x) = inl (x.0, x.1, behind_longer base.program bytes more x.0 (λ f. IsEntry base.program f (Happens x.1)) x.2, x.3)
fault_longer base bytes more TooManyInputs (inr (lines, rest, held, many)) = inr (lines, rest ++ more, (hold_longer base.program bytes rest more lines [] held.0, held.1), many)
fault_longer base bytes more NoMemory x = tt

-- a piece behind the bytes is the whole
pub piece_parts : (bytes piece : List ℕ) (n : ℕ) → (bytes ++ take n piece) ++ drop n piece ≡ bytes ++ piece
piece_parts bytes piece n = append_assoc bytes (take n piece) (drop n piece) ∙ ap (λ (x : List ℕ). bytes ++ x) (take-append-drop n piece)

-- what is told of rows is told of those up to the last that is asked for, where none of them is past it
pub rows_told : (plan : PlanParts) (until : Option Tag) (t rows : List Row) (follower : Follower) (asked : Asked) (o : Option Told) → MatchOption o (HasGonePast plan (t ++ rows) follower × IsQuiet plan (t ++ rows)) (λ (told : Told). (until : Option Tag) (more : List Row) → IsSaid plan until (t ++ rows) more told) → IsAskedOf (t ++ rows) asked → asked.until ≡ until → MatchOption o (HasGonePast plan (t ++ rows) follower × IsAskedOf (t ++ rows) asked) (λ (told : Told). (u : List Row) × (more : List Row) × (rows ≡ u ++ more) × KeepTo until (t ++ u) × IsSaid plan until (t ++ u) more told)
rows_told plan until t rows follower asked None follows is same = (follows.0, is)
rows_told plan until t rows follower asked (Some told) said is same = (rows, [], sym (append-nil rows), subst (λ (o : Option Tag). KeepTo o (t ++ rows)) same (asked_within (t ++ rows) asked is), said until [])

pub with_fact : (A E : Type 0) (Q : Told → Type 0) (o : Option Told) → MatchOption o A Q → E → MatchOption o (A × E) Q
with_fact A E Q None a e = (a, e)
with_fact A E Q (Some told) q e = q

pub only_kept : (A E : Type 0) (Q : Told → Type 0) (o : Option Told) → MatchOption o (A × E) Q → MatchOption o A Q
only_kept A E Q None a = a.0
only_kept A E Q (Some told) q = q

pub none_told : (A : Type 0) (Q : Told → Type 0) (o : Option Told) → MatchOption o A (λ (told : Told). ⊥) → MatchOption o A Q
none_told A Q None a = a
none_told A Q (Some told) never = absurd never

-- the rest and more bytes are all that is of no part yet
pub kept_all : (base plan : PlanParts) (until : Option Tag) (bytes rest more lines : List ℕ) (log new : Log) → lines ≡ rest ++ more → new.follower ≡ log.follower → new.rows ≡ log.rows → new.inputs ≡ log.inputs → new.asked ≡ log.asked → new.is_begun ≡ log.is_begun → IsLogOf base plan until bytes rest log → IsLogOf base plan until (bytes ++ more) lines new
kept_all base plan until bytes rest more lines log new parted follower rows_are numbered asked begun is = kept_as base plan until bytes rest (bytes ++ more) lines log new follower rows_are numbered asked is
    (λ e. subst (λ (x : List ℕ). HoldSoFar base.program (bytes ++ more) is.lines [] x) (sym parted) (hold_longer base.program bytes rest more is.lines [] (is.begun (sym begun ∙ e))))
    (λ e. let f = is.fresh (sym begun ∙ e) in (ap (λ (x : List ℕ). x ++ more) f.0 ∙ sym parted, f.1))

-- the line that comes next is too long
pub long_fault : (base plan : PlanParts) (until : Option Tag) (bytes : List ℕ) (log : Log) (piece : List ℕ) (line : ℕ) → IsLog base plan until bytes log → (log.is_begun ≡ true → line ≡ log.rows + 2) → (log.is_begun ≡ false → line ≡ 1) → BeginsLong (log.rest.items ++ piece) → IsFaultOf base (bytes ++ piece) (LongLine line)
long_fault base plan until bytes log piece line is begun fresh long = go log.is_begun refl
  where
    go : (b : Bool) → log.is_begun ≡ b → IsFaultOf base (bytes ++ piece) (LongLine line)
    go true e = inr (is.kept.lines, log.rest.items ++ piece, (hold_longer base.program bytes log.rest.items piece is.kept.lines [] (is.kept.begun e), is.kept.timely), long, (let n = begun e in let m = is.kept.counted in omega (arith, n, m)))
    go false e = inl (subst (λ (x : List ℕ). BeginsLong (x ++ piece)) (sym (is.kept.fresh e).0) long, fresh e)
