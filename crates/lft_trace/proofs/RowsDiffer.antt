-- A record has one row, or a fault, and not both.
use Rattle.std.proofs.Common.{◌≡◌, ◌∙◌, inl, inr, ℕ, List, [], length, get_or, true, false, refl, sym, ap}
use Rattle.std.specs.Prelude.{codes, if◌then◌else◌}
use Rattle.std.specs.Str.{bytes_eq}
use Rattle.lft_ir.specs.{Names.{AreDistinct, IsNamed}, Parts.Parts, declared.{parts.Name.{Name, TheVariants.{Port, Action}}, steps.row.{Row.Row, Step.Step}}}
use Rattle.lft_trace.specs.declared.{fault.TraceFault.TraceFault, kind.RowKind.{RowKind, TheVariants.{Start, Read, Write, Schedule, Stop, End}}}
use Rattle.lft_trace.specs.Traces.{FaultAt, IsRow, IsStep, IsUnknown, RowOf, TraceFields, has_numbers, in_order, is_filled, thing, word}
use Rattle.lft_ir.specs.declared.found.Found.TheVariants as found
use Rattle.lft_trace.specs.declared.fault.TraceFault.TheVariants as fault

-- the fields by their places
abbrev of_list : List (List ℕ) → TraceFields
of_list xs = record { event = get_or xs 0 []; worker = get_or xs 1 []; time = get_or xs 2 []; microstep = get_or xs 3 []; reaction = get_or xs 4 []; name = get_or xs 5 []; value = get_or xs 6 []; delay = get_or xs 7 [] }

same_fields : (c d : TraceFields) → in_order c ≡ in_order d → c ≡ d
same_fields c d h = ap of_list h

abbrev kind_of : List ℕ → RowKind
kind_of w = if bytes_eq w (codes "start") then Start else (if bytes_eq w (codes "read") then Read else (if bytes_eq w (codes "write") then Write else (if bytes_eq w (codes "schedule") then Schedule else (if bytes_eq w (codes "stop") then Stop else End))))

kind_of_word : (k : RowKind) → kind_of (word k) ≡ k
kind_of_word Start = refl
kind_of_word Read = refl
kind_of_word Write = refl
kind_of_word Schedule = refl
kind_of_word Stop = refl
kind_of_word End = refl

same_kind : (j k : RowKind) → word j ≡ word k → j ≡ k
same_kind j k h = sym (kind_of_word j) ∙ ap kind_of h ∙ kind_of_word k

pub same_thing : (m n : Name) → thing m ≡ thing n → m ≡ n
same_thing (Port a) (Port b) h = cc
same_thing (Port a) (Action b) h = cc
same_thing (Action a) (Port b) h = cc
same_thing (Action a) (Action b) h = cc

one_step : (program : Parts) (k : RowKind) (c : TraceFields) (s t : Step) → AreDistinct program.names → IsStep program k c s → IsStep program k c t → s ≡ t
one_step program Start c s t distinct a b = a.3 ∙ sym b.3
one_step program Read c s t distinct a b =
    let n : a.0 ≡ b.0 = same_thing a.0 b.0 (distinct (thing a.0) (thing b.0) c.name a.2 b.2) in
    let v = a.3 in let w = b.3 in let x = a.5 in let y = b.5 in cc
one_step program Write c s t distinct a b =
    let n : a.0 ≡ b.0 = same_thing a.0 b.0 (distinct (thing a.0) (thing b.0) c.name a.2 b.2) in
    let v = a.3 in let w = b.3 in let x = a.5 in let y = b.5 in cc
one_step program Schedule c s t distinct a b =
    let n : a.0 ≡ b.0 = same_thing a.0 b.0 (distinct (thing a.0) (thing b.0) c.name a.3 b.3) in
    let v = a.4 in let w = b.4 in let d = a.5 in let e = b.5 in let x = a.6 in let y = b.6 in cc
one_step program Stop c s t distinct a b = a.3 ∙ sym b.3
one_step program End c s t distinct a b = a.3 ∙ sym b.3

same_row : (a b : Row) → a.worker ≡ b.worker → a.tag.time ≡ b.tag.time → a.tag.micro ≡ b.tag.micro → a.reaction ≡ b.reaction → a.step ≡ b.step → a ≡ b
same_row a b w t m r s = λ i. record { worker = w i; tag = record { time = t i; micro = m i }; reaction = r i; step = s i }

same_reaction : (program : Parts) (r q : ℕ) (text : List ℕ) → AreDistinct program.names → IsNamed program.names (found.Reaction r) text → IsNamed program.names (found.Reaction q) text → r ≡ q
same_reaction program r q text distinct a b = let e = distinct (found.Reaction r) (found.Reaction q) text a b in cc

one_row_of : (program : Parts) (k : RowKind) (c : TraceFields) (a b : Row) → AreDistinct program.names → RowOf program k c a → RowOf program k c b → a ≡ b
one_row_of program k c a b distinct x y =
    let w : a.worker ≡ b.worker = cc (x.worker, y.worker) in
    let t : a.tag.time ≡ b.tag.time = cc (x.time, y.time) in
    let m : a.tag.micro ≡ b.tag.micro = cc (x.microstep, y.microstep) in
    same_row a b w t m (same_reaction program a.reaction b.reaction c.reaction distinct x.reaction y.reaction) (one_step program k c a.step b.step distinct x.step y.step)

moved : (program : Parts) (j k : RowKind) (c d : TraceFields) (row : Row) → c ≡ d → j ≡ k → RowOf program k d row → RowOf program j c row
moved program j k c d row e f h = rw (e, f) h

pub one_row : (program : Parts) (fields : List (List ℕ)) (a b : Row) → AreDistinct program.names → IsRow program fields a → IsRow program fields b → a ≡ b
one_row program fields a b distinct x y =
    let same : x.0 ≡ y.0 = same_fields x.0 y.0 (sym x.2 ∙ y.2) in
    let kinds : x.1 ≡ y.1 = same_kind x.1 y.1 (sym x.3.event ∙ ap (λ (c : TraceFields). c.event) same ∙ y.3.event) in
    one_row_of program x.1 x.0 a b distinct x.3 (moved program x.1 y.1 x.0 y.0 b same kinds y.3)

module _ (program : Parts) (c : TraceFields) (row : Row) where
  pub numbers_there : (k : RowKind) → RowOf program k c row → has_numbers k c ≡ true
  numbers_there Start h = rw (h.worker, h.time, h.microstep) refl
  numbers_there Read h = rw (h.worker, h.time, h.microstep, h.step.3) refl
  numbers_there Write h = rw (h.worker, h.time, h.microstep, h.step.3) refl
  numbers_there Schedule h = rw (h.worker, h.time, h.microstep, h.step.4, h.step.5) refl
  numbers_there Stop h = rw (h.worker, h.time, h.microstep) refl
  numbers_there End h = rw (h.worker, h.time, h.microstep) refl

  pub names_there : (k : RowKind) → RowOf program k c row → IsUnknown program k c → ⊥
  names_there k h (inl none) = none row.reaction h.reaction
  names_there Start h (inr none) = cc (none.0)
  names_there Read h (inr none) = none.1 h.step.0 h.step.2
  names_there Write h (inr none) = none.1 h.step.0 h.step.2
  names_there Schedule h (inr none) = none.1 h.step.0 h.step.3
  names_there Stop h (inr none) = cc (none.0)
  names_there End h (inr none) = cc (none.0)

  pub nothing_filled : (k : RowKind) → RowOf program k c row → is_filled k c ≡ false
  nothing_filled Start h = rw (h.step.0, h.step.1, h.step.2) refl
  nothing_filled Read h = rw h.step.4 refl
  nothing_filled Write h = rw h.step.4 refl
  nothing_filled Schedule h = refl
  nothing_filled Stop h = rw (h.step.0, h.step.1, h.step.2) refl
  nothing_filled End h = rw (h.step.0, h.step.1, h.step.2) refl

as_row : (program : Parts) (fields : List (List ℕ)) (row : Row) (k : RowKind) (c : TraceFields) → fields ≡ in_order c → c.event ≡ word k → IsRow program fields row → RowOf program k c row
as_row program fields row k c f w h =
    let same : c ≡ h.0 = same_fields c h.0 (sym f ∙ h.2) in
    let kinds : k ≡ h.1 = same_kind k h.1 (sym w ∙ ap (λ (d : TraceFields). d.event) same ∙ h.3.event) in
    moved program k h.1 c h.0 row same kinds h.3

pub not_both : (program : Parts) (line : ℕ) (fields : List (List ℕ)) (e : TraceFault) (row : Row) → FaultAt program line fields e → IsRow program fields row → ⊥
not_both program line fields (fault.BadFieldCount n) row h r = h.1 (ap length r.2)
not_both program line fields (fault.BadEvent n) row h r = h.3 r.1 (ap (λ (d : TraceFields). d.event) (same_fields h.1 r.0 (sym h.2 ∙ r.2)) ∙ r.3.event)
not_both program line fields (fault.BadNumber n) row h r = let a = numbers_there program h.1 row h.2 (as_row program fields row h.2 h.1 h.3.0 h.3.1 r) in cc (a, h.4)
not_both program line fields (fault.UnknownName n) row h r = names_there program h.1 row h.2 (as_row program fields row h.2 h.1 h.3.0 h.3.1 r) h.5
not_both program line fields (fault.FieldInPlace n) row h r = let a = nothing_filled program h.1 row h.2 (as_row program fields row h.2 h.1 h.3.0 h.3.1 r) in cc (a, h.6)
not_both program line fields fault.BadHeader row h r = absurd h
not_both program line fields (fault.DuplicateExternal n) row h r = absurd h
not_both program line fields fault.NoStop row h r = absurd h
not_both program line fields (fault.TwoStops n) row h r = absurd h
not_both program line fields fault.TooManyRows row h r = absurd h
not_both program line fields fault.NotCsv row h r = absurd h
not_both program line fields fault.NoMemory row h r = absurd h
