-- Of a sound program, a record that is a row's tells that row.
use Rattle.std.proofs.Common.{◌≡◌, ◌∙◌, ℕ, List, [], ◌∷◌, Option, Some, None, refl, sym, ap, true≢false, slice_get, option_and_then}
use Rattle.std.{specs.{List.{AllZip, filter_map}, Str.bytes_eq}, proofs.lemmas.Slice.Eq.bytes_eq-Decides}
use Rattle.lft_ir.specs.{Names.AreDistinct, Parts.Parts, declared.{parts.Name.{Name, TheVariants.{Port, Action}}, steps.row.{Row.Row, Step.Step}}}
use Rattle.lft_ir.proofs.Positions.{nowhere, somewhere}
use Rattle.lft_trace.specs.Traces.{IsRow, IsStep, IsThing, RowOf, TraceFields, word}
use Rattle.lft_trace.specs.declared.kind.RowKind.{RowKind, TheVariants.{Start, Read, Write, Schedule, Stop, End}}
use Rattle.lft_trace.specs.inner.Telling.{fields_in, kind_in, number_among, row_in, row_of, step_in, thing_in}
use Rattle.lft_ir.specs.declared.found.Found.TheVariants as found

-- a text that stands in a list once is found where it stands
place_is : (names : List (List ℕ)) (i : ℕ) (text : List ℕ) → ((j : ℕ) → slice_get names j ≡ Some text → j ≡ i) → slice_get names i ≡ Some text → number_among names text ≡ Some i
place_is names i text once at = go (number_among names text) refl
  where
    go : (o : Option ℕ) → number_among names text ≡ o → number_among names text ≡ Some i
    go None none = absurd (true≢false (sym ((bytes_eq-Decides text text).1 refl) ∙ nowhere (bytes_eq text) names none i text at))
    go (Some j) there =
        let s = somewhere (bytes_eq text) names j there in
        let same : text ≡ s.0 = (bytes_eq-Decides text s.0).0 s.2 in
        there ∙ ap Some (once j (s.1 ∙ ap Some (sym same)))

-- a text that stands nowhere in a list isn't found
nowhere_is : (names : List (List ℕ)) (text : List ℕ) → ((j : ℕ) → slice_get names j ≡ Some text → ⊥) → number_among names text ≡ None
nowhere_is names text not_there = go (number_among names text) refl
  where
    go : (o : Option ℕ) → number_among names text ≡ o → number_among names text ≡ None
    go None none = none
    go (Some j) there =
        let s = somewhere (bytes_eq text) names j there in
        let same : text ≡ s.0 = (bytes_eq-Decides text s.0).0 s.2 in
        absurd (not_there j (s.1 ∙ ap Some (sym same)))

kind_is : (k : RowKind) → kind_in (word k) ≡ Some k
kind_is Start = refl
kind_is Read = refl
kind_is Write = refl
kind_is Schedule = refl
kind_is Stop = refl
kind_is End = refl

module _ (program : Parts) (distinct : AreDistinct program.names) where
  reaction_is : (r : ℕ) (text : List ℕ) → slice_get program.names.reactions r ≡ Some text → number_among program.names.reactions text ≡ Some r
  reaction_is r text at = place_is program.names.reactions r text (λ j h. let e = distinct (found.Reaction j) (found.Reaction r) text h at in cc) at

  thing_is : (n : Name) (text : List ℕ) → IsThing program text n → thing_in program text ≡ Some n
  unfolding thing_in
  thing_is (Port p) text at = rw (place_is program.names.ports p text (λ j h. let e = distinct (found.Port j) (found.Port p) text h at in cc) at) refl
  thing_is (Action a) text at = rw (nowhere_is program.names.ports text (λ j h. let e = distinct (found.Port j) (found.Action a) text h at in cc), place_is program.names.actions a text (λ j h. let e = distinct (found.Action j) (found.Action a) text h at in cc) at) refl

  step_is : (k : RowKind) (c : TraceFields) (s : Step) → IsStep program k c s → step_in program k c ≡ Some s
  step_is Start c s h = ap Some (sym h.3)
  step_is Read c s h = rw (thing_is h.0 c.name h.2, h.3, h.5) refl
  step_is Write c s h = rw (thing_is h.0 c.name h.2, h.3, h.5) refl
  step_is Schedule c s h = rw (thing_is h.0 c.name h.3, h.4, h.5, h.6) refl
  step_is Stop c s h = ap Some (sym h.3)
  step_is End c s h = ap Some (sym h.3)

  row_is : (k : RowKind) (c : TraceFields) (row : Row) → RowOf program k c row → row_of program c k ≡ Some row
  row_is k c row h = rw (h.worker, h.time, h.microstep, reaction_is row.reaction c.reaction h.reaction, step_is k c row.step h.step) refl

  record_is : (f : List (List ℕ)) (row : Row) → IsRow program f row → row_in program f ≡ Some row
  unfolding row_in
  record_is f row h =
      let t : (c : TraceFields) → Option Row = λ c. option_and_then (row_of program c) (kind_in c.event) in
      ap t (ap fields_in h.2) ∙ ap (λ (w : List ℕ). option_and_then (row_of program h.0) (kind_in w)) h.3.event ∙ ap (option_and_then (row_of program h.0)) (kind_is h.1) ∙ row_is h.1 h.0 row h.3

  -- records that are those of rows, one by one, tell them
  pub records_are : (records : List (List (List ℕ))) (rows : List Row) → AllZip (IsRow program) records rows → filter_map (row_in program) records ≡ rows
  records_are [] [] h = refl
  records_are [] (row ∷ rows) h = absurd h
  records_are (f ∷ records) [] h = absurd h
  records_are (f ∷ records) (row ∷ rows) h = rw (record_is f row h.0, records_are records rows h.1) refl
