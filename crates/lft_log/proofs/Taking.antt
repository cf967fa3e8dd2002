-- The first lines of a front are taken: they stand behind those of the log so far.
use Rattle.std.proofs.Common.{◌≡◌, ◌+◌, ◌∙◌, ℕ, List, [], ◌∷◌, ◌++◌, ◌⊎◌, inl, inr, None, Some, length, take, drop, refl, sym, ap, subst, arith}
use Rattle.std.{specs.List.AllZip, proofs.{Math.Seq.take-append_seam, lemmas.List.{append-nil, append_assoc, length-append}}}
use Rattle.lft_ir.specs.{Parts.Parts, declared.steps.row.Row.Row}
use Rattle.lft_trace.specs.{ExternalTables.IsEntry, LogTables.IsLine, declared.{external_table.Entry.Entry, log_table.Line.{Line, TheVariants.Input}}}
use Rattle.lft_model.specs.Plans.{PlanParts}
use Rattle.lft_monitor.specs.Follows.{AreTooMany}
use Rattle.lft_log.specs.declared.fault.LogFault.{LogFault}
use Rattle.lft_log.specs.declared.fault.LogFault.TheVariants.{NoHeader, NoRow, NotPlain, SecondHeader, LongLine, TooManyRows, NoInput, NotPlainInput, LateInput, InputAgain, ManyLater, TooManyInputs, NoMemory}
use Rattle.lft_log.specs.declared.{front.LinesRead.LinesRead, telling.Taken.Taken}
use Rattle.lft_log.specs.Logs.{AreTimely, BeginsWithLine, HoldSoFar, IsOddLine, inputs, rows}
use Rattle.lft_log.specs.inner.{Logs.{IsFaultBehind, IsFront}, Told.{IsFaultOfRows, IsInputRefused, IsTaken}}
use Rattle.lft_log.specs.Told.{HasTold, IsFaultOf, IsOddLineBehind, RecordStandsBehind, TellsPlan}
use Rattle.lft_log.proofs.{Fronts.all_dropped, Holding.{hold_cut, hold_front}, Odd.line_longer, Behind.{inputs_both, rows_both, timely_both}}

-- no records tell no lines
pub zip_none : {A B : Type 0} (R : A → B → Type 0) (fs : List A) (xs : List B) → xs ≡ [] → AllZip R fs xs → fs ≡ []
zip_none R [] xs e h = refl
zip_none R (f ∷ fs) [] e h = absurd h
zip_none R (f ∷ fs) (x ∷ xs) e h = absurd (cc e)

-- the fault of a record behind lines, or of the line behind them, is one of the log
module _ (base : PlanParts) (bytes : List ℕ) (lines : List Line) (others : List (List (List ℕ))) (rest behind : List ℕ) (h : HoldSoFar base.program bytes lines others (rest ++ behind)) (timely : AreTimely [] lines) where
  odd_behind : (f : LogFault) → (others ≡ []) × BeginsWithLine (IsOddLine (length (rows lines) + 2) (length (inputs lines) + 2) f) rest → IsOddLineBehind base bytes f
  odd_behind f (none, x) = (lines, rest ++ behind, (subst (λ r. HoldSoFar base.program bytes lines r (rest ++ behind)) none h, timely), line_longer (IsOddLine (length (rows lines) + 2) (length (inputs lines) + 2) f) rest behind x)

  neither : ⊥ ⊎ (others ≡ []) × BeginsWithLine (λ line. ⊥) rest → ⊥
  neither (inl x) = x
  neither (inr (none, x)) = x.4

  fault_behind : (f : LogFault) → IsFaultBehind base.program others rest (length (rows lines) + 2) (length (inputs lines) + 2) f → IsFaultOf base bytes f
  fault_behind (NoRow e line) (inl x) = (lines, (others, rest ++ behind, (h, timely), x.1), x.0)
  fault_behind (NoRow e line) (inr (none, x)) = absurd x.4
  fault_behind (NoInput e line) (inl x) = (lines, (others, rest ++ behind, (h, timely), x.1), x.0)
  fault_behind (NoInput e line) (inr (none, x)) = absurd x.4
  fault_behind (NotPlain line) (inl x) = absurd x
  fault_behind (NotPlain line) (inr x) = odd_behind (NotPlain line) x
  fault_behind (SecondHeader line) (inl x) = absurd x
  fault_behind (SecondHeader line) (inr x) = odd_behind (SecondHeader line) x
  fault_behind (NotPlainInput line) (inl x) = absurd x
  fault_behind (NotPlainInput line) (inr x) = odd_behind (NotPlainInput line) x
  fault_behind NoHeader x = absurd (neither x)
  fault_behind (LateInput line) x = absurd (neither x)
  fault_behind (InputAgain line) x = absurd (neither x)
  fault_behind (ManyLater line) x = absurd (neither x)
  fault_behind (LongLine line) x = absurd (neither x)
  fault_behind TooManyRows x = absurd (neither x)
  fault_behind TooManyInputs x = absurd (neither x)
  fault_behind NoMemory x = absurd (neither x)

-- the next line is that of an external input
behind_cut : (program : Parts) (bytes : List ℕ) (lines : List Line) (cut others : List (List (List ℕ))) (rest : List ℕ) (left : List Line) (entry : Entry) (more : List Line) → HoldSoFar program bytes lines (cut ++ others) rest → AreTimely [] lines → left ≡ Input entry ∷ more → AllZip (IsLine program) cut left → RecordStandsBehind program bytes lines (λ f. IsEntry program f entry)
behind_cut program bytes lines [] others rest left entry more h timely next each = absurd (subst (λ (l : List Line). AllZip (IsLine program) [] l) next each)
behind_cut program bytes lines (f ∷ cut) others rest left entry more h timely next each =
    let e = subst (λ (l : List Line). AllZip (IsLine program) (f ∷ cut) l) next each in
    ((f ∷ cut) ++ others, rest, (h, timely), (f, cut ++ others, refl, e.0))

-- the first lines of a front are taken
module _ (base old new : PlanParts) (bytes text behind : List ℕ) (before : List Line) (rows_before inputs_before : ℕ) (read : List Row) (front : LinesRead) (taken : Taken) (held : HoldSoFar base.program bytes before [] (text ++ behind)) (fronts : IsFront base.program text rows_before inputs_before read front) (is : IsTaken old new (rows before) inputs_before front fronts.lines taken) where
  abbrev pub grown : List Line
  grown = before ++ is.first

  abbrev pub rest : List ℕ
  rest = drop fronts.plain text ++ behind

  whole : HoldSoFar base.program bytes (before ++ fronts.lines) fronts.others rest
  whole = hold_front base.program bytes text behind before rows_before inputs_before read front held fronts

  parted : before ++ fronts.lines ≡ grown ++ is.others
  parted = ap (λ (l : List Line). before ++ l) is.parted ∙ sym (append_assoc before is.first is.others)

  pub cut : (cut : List (List (List ℕ))) × HoldSoFar base.program bytes grown (cut ++ fronts.others) rest × AllZip (IsLine base.program) cut is.others
  cut = hold_cut base.program bytes rest grown is.others fronts.others (subst (λ (l : List Line). HoldSoFar base.program bytes l fronts.others rest) parted whole)

  -- their rows are the first of the front
  pub taken_rows : take taken.rows read ≡ rows is.first
  taken_rows =
      let all : read ≡ rows is.first ++ rows is.others = fronts.rows_are ∙ ap rows is.parted ∙ rows_both is.first is.others in
      ap (λ (n : ℕ). take n read) is.counted ∙ ap (λ (t : List Row). take (length (rows is.first)) t) all ∙ take-append_seam (rows is.first) (rows is.others)

  pub grown_rows : rows grown ≡ rows before ++ take taken.rows read
  grown_rows = rows_both before is.first ∙ ap (λ (t : List Row). rows before ++ t) (sym taken_rows)

  pub grown_numbered : length (inputs grown) ≡ length (inputs before) + taken.inputs
  grown_numbered =
      let long : length (inputs before ++ inputs is.first) ≡ length (inputs before) + length (inputs is.first) = length-append (inputs before) (inputs is.first) in
      let both = ap (λ (l : List Entry). length l) (inputs_both before is.first) in
      let numbered = is.numbered in
      omega (arith, long, both, numbered)

  -- without a fault they are all lines
  pub all_held : taken.fault ≡ None → HoldSoFar base.program bytes grown [] behind
  all_held none = go is.ends
    where
      go : (is.others ≡ []) × (taken.fault ≡ front.fault) ⊎ IsInputRefused new (rows before ++ rows is.first) (inputs_before + taken.inputs + 2) is.others taken.fault → HoldSoFar base.program bytes grown [] behind
      go (inl (end, same)) =
          let all = fronts.all (sym same ∙ none) in
          let no_cut : cut.0 ≡ [] = zip_none (IsLine base.program) cut.0 is.others end cut.2 in
          let no_others : cut.0 ++ fronts.others ≡ [] = ap (λ r. r ++ fronts.others) no_cut ∙ all.0 in
          let no_rest : rest ≡ behind = ap (λ (x : List ℕ). x ++ behind) (all_dropped text fronts.plain all.1) in
          subst (λ (x : List ℕ). HoldSoFar base.program bytes grown [] x) no_rest (subst (λ r. HoldSoFar base.program bytes grown r rest) no_others cut.1)
      go (inr refused) = absurd (cc (none, refused.3.1))

  module _ (timely : AreTimely [] before) (told : HasTold base (inputs before) old) where
    pub grown_timely : AreTimely [] grown
    grown_timely = timely_both [] before is.first timely is.timely

    pub grown_told : HasTold base (inputs grown) new
    grown_told = subst (λ (l : List Entry). HasTold base l new) (sym (inputs_both before is.first)) (is.told base (inputs before) told)

    -- so these are the lines so far
    pub grown_tells : (t : List Row) → t ≡ rows before ++ take taken.rows read → TellsPlan base bytes new t (cut.0 ++ fronts.others) rest
    grown_tells t e = record {
      lines = grown;
      held = cut.1;
      rows_are = grown_rows ∙ sym e;
      timely = grown_timely;
      told = grown_told;
    }

    -- without a fault they are all
    pub tells_all : taken.fault ≡ None → (t : List Row) → t ≡ rows before ++ take taken.rows read → TellsPlan base bytes new t [] behind
    tells_all none t e = record {
      lines = grown;
      held = all_held none;
      rows_are = grown_rows ∙ sym e;
      timely = grown_timely;
      told = grown_told;
    }

    -- rows among them may show one
    pub fault_of_rows : (f : LogFault) → IsFaultOfRows (rows before ++ take taken.rows read) f → IsFaultOf base bytes f
    fault_of_rows f (inl (e, many)) = subst (λ (g : LogFault). IsFaultOf base bytes g) (sym e) (grown, cut.0 ++ fronts.others, rest, (cut.1, grown_timely), subst AreTooMany (sym grown_rows) many)
    fault_of_rows f (inr e) = subst (λ (g : LogFault). IsFaultOf base bytes g) (sym e) tt

    -- a fault is that of the next line
    pub fault_held : (f : LogFault) → taken.fault ≡ Some f → rows_before ≡ length (rows before) → inputs_before ≡ length (inputs before) → IsFaultOf base bytes f
    fault_held f named counted numbered = go is.ends
      where
        go : (is.others ≡ []) × (taken.fault ≡ front.fault) ⊎ IsInputRefused new (rows before ++ rows is.first) (inputs_before + taken.inputs + 2) is.others taken.fault → IsFaultOf base bytes f
        go (inl (end, same)) =
            let all = before ++ fronts.lines in
            let left = drop fronts.plain text in
            let row : rows_before + length (rows fronts.lines) + 2 ≡ length (rows all) + 2 = (let l = length-append (rows before) (rows fronts.lines) in let b = ap (λ (t : List Row). length t) (rows_both before fronts.lines) in omega (arith, l, b, counted)) in
            let input : inputs_before + length (inputs fronts.lines) + 2 ≡ length (inputs all) + 2 = (let l = length-append (inputs before) (inputs fronts.lines) in let b = ap (λ (t : List Entry). length t) (inputs_both before fronts.lines) in omega (arith, l, b, numbered)) in
            let of = subst (λ (n : ℕ). IsFaultBehind base.program fronts.others left n (inputs_before + length (inputs fronts.lines) + 2) f) row (fronts.none f (sym same ∙ named)) in
            let whole_timely = subst (AreTimely []) (sym (parted ∙ ap (λ (l : List Line). grown ++ l) end ∙ append-nil grown)) grown_timely in
            fault_behind base bytes all fronts.others left behind whole whole_timely f (subst (λ (n : ℕ). IsFaultBehind base.program fronts.others left (length (rows all) + 2) n f) input of)
        go (inr (entry, more, next, (g, has, of))) =
            let same : g ≡ f = cc (has, named) in
            let stands = behind_cut base.program bytes grown cut.0 fronts.others rest is.others entry more cut.1 grown_timely next cut.2 in
            let number : inputs_before + taken.inputs + 2 ≡ length (inputs grown) + 2 = omega (arith, grown_numbered, numbered) in
            subst (λ (h : LogFault). IsFaultOf base bytes h) same (of base bytes grown stands grown_told (rows_both before is.first) number)
