-- Records have one trace table, or a fault, and what a table holds fits its program.
use Rattle.std.proofs.Common.{◌≡◌, ◌<◌, ◌≤◌, length, ℕ, List, [], ◌∷◌, Some, None, refl, arith, Bool, true, false, nat_le}
use Rattle.std.specs.Prelude.{if◌then◌else◌, ◌&&◌}
use Rattle.std.{specs.{Char.is_ascii_digit, List.list_all}, proofs.lemmas.{Bool.leb-true, Option.slice_get_within}}
use Rattle.lft_ir.specs.{Names.IsNamed, Parts.Parts, Sound.{IsNameOf, IsSound}}
use Rattle.lft_ir.specs.{declared.{parts.Name.{Name, TheVariants.{Port, Action}}, steps.row.{Row.Row, Step.Step}}, Steps.Fits.{RowFits, RowsFit, StepFits}}
use Rattle.lft_trace.specs.Numbers.{digits_after, number, number_or_zero}
use Rattle.lft_trace.specs.Traces.{IsRow, IsStep, IsThing, RowOf, Table, TraceFails, TraceFields, trace_tables}
use Rattle.lft_trace.specs.declared.{fault.TraceFault.TraceFault, kind.RowKind.{RowKind, TheVariants.{Start, Read, Write, Schedule, Stop, End}}}
use Rattle.lft_trace.proofs.RowsDiffer.{not_both, one_row}
use Rattle.lft_tables.proofs.TableFacts.{Texts, holds_no_fault, one_reading}
use Rattle.lft_lists.proofs.Zips.{behind}
use Rattle.lft_ir.specs.declared.found.Found.TheVariants as found

pub one_table : (program : Parts) (records : Texts) (rows other : List Row) → IsSound program → Table program records rows → Table program records other → other ≡ rows
one_table program records rows other sound t u = one_reading (trace_tables program) records (λ f a b x y. one_row program f a b sound.well_named.distinct x y) other rows u t

pub no_table : (program : Parts) (records : Texts) (e : TraceFault) (rows : List Row) → IsSound program → TraceFails program records e → Table program records rows → ⊥
no_table program records e rows sound f t =
    holds_no_fault (trace_tables program) records (λ f a b x y. one_row program f a b sound.well_named.distinct x y) rows e (λ front back row line bad e whole is fault. not_both program line bad e row fault is) t f

chosen : (b : Bool) (limit v n : ℕ) → (if b && nat_le v limit then Some v else None) ≡ Some n → n ≤ limit
chosen true limit v n h = within_test (nat_le v limit) limit v n refl h
  where
    within_test : (t : Bool) (limit v n : ℕ) → nat_le v limit ≡ t → (if t then Some v else None) ≡ Some n → n ≤ limit
    within_test true limit v n e h = let s : v ≡ n = cc (h) in rw s at (leb-true v limit e)
    within_test false limit v n e h = absurd (cc (h))
chosen false limit v n h = absurd (cc (h))

pub within : (limit : ℕ) (field : List ℕ) (n : ℕ) → number limit field ≡ Some n → n ≤ limit
within limit [] n h = absurd (cc (h))
within limit (d ∷ ds) n h = chosen (list_all is_ascii_digit (d ∷ ds)) limit (digits_after 0 (d ∷ ds)) n h

within_or_zero : (limit : ℕ) (field : List ℕ) (n : ℕ) → number_or_zero limit field ≡ Some n → n ≤ limit
within_or_zero limit [] n h = let e : 0 ≡ n = cc (h) in omega arith
within_or_zero limit (d ∷ ds) n h = within limit (d ∷ ds) n h

thing_there : (program : Parts) (text : List ℕ) (n : Name) → IsSound program → IsThing program text n → IsNameOf program n
thing_there program text (Port p) sound h = rw (← sound.well_named.ports) (slice_get_within program.names.ports p text h)
thing_there program text (Action a) sound h = rw (← sound.well_named.actions) (slice_get_within program.names.actions a text h)

step_fits : (program : Parts) (kind : RowKind) (c : TraceFields) (s : Step) → IsSound program → IsStep program kind c s → StepFits program s
step_fits program Start c s sound h = rw h.3 tt
step_fits program Read c s sound h = rw h.5 (thing_there program c.name h.0 sound h.2)
step_fits program Write c s sound h = rw h.5 (thing_there program c.name h.0 sound h.2)
step_fits program Schedule c s sound h = rw h.6 (thing_there program c.name h.0 sound h.3, within_or_zero 1000000000000000000 c.delay h.2 h.5)
step_fits program Stop c s sound h = rw h.3 tt
step_fits program End c s sound h = rw h.3 tt

-- a reaction that has a name is one of the program's
pub reaction_there : (program : Parts) (text : List ℕ) (r : ℕ) → IsSound program → IsNamed program.names (found.Reaction r) text → r < length program.reactions
reaction_there program text r sound h = rw (← sound.well_named.reactions) (slice_get_within program.names.reactions r text h)

pub row_fits : (program : Parts) (kind : RowKind) (c : TraceFields) (row : Row) → IsSound program → RowOf program kind c row → RowFits program row
row_fits program kind c row sound h = record {
  recorded = (within 1000000000000000000 c.time row.tag.time h.time, within 1000000000 c.microstep row.tag.micro h.microstep);
  reaction = reaction_there program c.reaction row.reaction sound h.reaction;
  step = step_fits program kind c row.step sound h.step;
}

pub table_fits : (program : Parts) (records : Texts) (rows : List Row) → IsSound program → Table program records rows → RowsFit program rows
table_fits program records rows sound t = record {
  few = t.few;
  each = λ i row e. let b = behind (IsRow program) t.rest rows i row t.each e in row_fits program b.1.1 b.1.0 row sound b.1.3;
}
