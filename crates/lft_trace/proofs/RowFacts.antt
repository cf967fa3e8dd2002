-- What the fields of a record of a trace table tell.
use Rattle.std.proofs.Common.{◌≡◌, ℕ, suc, arith, List, [], ◌∷◌, length, true, false, not, ◌||◌, refl}
use Rattle.std.specs.Prelude.{◌==◌}
use Rattle.std.proofs.lemmas.Bool.{or_parts, Decides.nat_tests}
use Rattle.lft_ir.specs.{Parts.Parts, declared.steps.row.Step.Step}
use Rattle.lft_trace.specs.declared.{fault.TraceFault.TraceFault, kind.RowKind.{RowKind, TheVariants.{Start, Read, Write, Schedule, Stop, End}}}
use Rattle.lft_trace.specs.declared.trace_table.RowNumbers.{RowNumbers}
use Rattle.lft_trace.specs.{inner.Seen.{FieldFault, NumbersOf, StepOf}, Traces.{FaultAt, IsStep, TraceFields, in_order, is_empty, is_filled, word}}
use Rattle.lft_trace.specs.declared.fault.TraceFault.TheVariants as fault

not_none : (n : ℕ) → (suc n == 0) ≡ false
not_none n = grind (arith, nat_tests)

pub bare : (f : List ℕ) → not (is_empty f) ≡ false → f ≡ []
bare [] h = refl
bare (x ∷ xs) h = let e = not_none (length xs) in let t : not (suc (length xs) == 0) ≡ true = rw e refl in cc (h, t)

all_bare : (c : TraceFields) → ((not (is_empty c.name) || not (is_empty c.value)) || not (is_empty c.delay)) ≡ false → (c.name ≡ []) × (c.value ≡ []) × (c.delay ≡ [])
all_bare c h =
    let a = or_parts (not (is_empty c.name) || not (is_empty c.value)) (not (is_empty c.delay)) h in
    let b = or_parts (not (is_empty c.name)) (not (is_empty c.value)) a.0 in
    (bare c.name b.0, bare c.value b.1, bare c.delay a.1)

pub step_is : (program : Parts) (kind : RowKind) (c : TraceFields) (n : RowNumbers) (s : Step) → NumbersOf kind c n → StepOf program kind c.name n.value n.delay s → is_filled kind c ≡ false → IsStep program kind c s
step_is program Start c n s h t e = let b = all_bare c e in (b.0, b.1, b.2, t)
step_is program Read c n s h t e = (t.0, n.value, t.1, h.value refl, bare c.delay e, t.2)
step_is program Write c n s h t e = (t.0, n.value, t.1, h.value refl, bare c.delay e, t.2)
step_is program Schedule c n s h t e = (t.0, n.value, n.delay, t.1, h.value refl, h.delay refl, t.2)
step_is program Stop c n s h t e = let b = all_bare c e in (b.0, b.1, b.2, t)
step_is program End c n s h t e = let b = all_bare c e in (b.0, b.1, b.2, t)

pub fault_is : (program : Parts) (kind : RowKind) (line : ℕ) (c : TraceFields) (fields : List (List ℕ)) (e : TraceFault) → fields ≡ in_order c → c.event ≡ word kind → FieldFault program kind line c e → FaultAt program line fields e
fault_is program kind line c fields (fault.BadNumber n) f w h = (h.0, c, kind, (f, w), h.1)
fault_is program kind line c fields (fault.UnknownName n) f w h = (h.0, c, kind, (f, w), h.1, h.2)
fault_is program kind line c fields (fault.FieldInPlace n) f w h = (h.0, c, kind, (f, w), h.1, h.2, h.3)
fault_is program kind line c fields fault.BadHeader f w h = absurd h
fault_is program kind line c fields (fault.BadFieldCount n) f w h = absurd h
fault_is program kind line c fields (fault.BadEvent n) f w h = absurd h
fault_is program kind line c fields (fault.DuplicateExternal n) f w h = absurd h
fault_is program kind line c fields fault.NoStop f w h = absurd h
fault_is program kind line c fields (fault.TwoStops n) f w h = absurd h
fault_is program kind line c fields fault.TooManyRows f w h = absurd h
fault_is program kind line c fields fault.NotCsv f w h = absurd h
fault_is program kind line c fields fault.NoMemory f w h = absurd h
