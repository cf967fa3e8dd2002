-- The record at which a table fails.
use Rattle.std.proofs.Common.{◌≡◌, ℕ, ◌+◌, List, [], ◌∷◌, ◌++◌, Option, Some, None, IfSome, is_some, true, inl, inr, length, slice_get, zero, suc, add-one, sym, ap, subst, ◌∙◌, arith}
use Rattle.std.proofs.lemmas.Slice.Zip.{AllZip-long}
use Rattle.csv.specs.Records.{field_at as at_place}
use Rattle.lft_ir.specs.Parts.{Parts}
use Rattle.lft_trace.specs.{ExternalTables.external_tables, Traces.trace_tables, declared.fault.TraceFault.TraceFault}
use Rattle.lft_tables.specs.Tables.{FailsAt, TableKind}
use Rattle.lft_text_diagnostics.specs.{inner.Tables.Tables.{Fails, FailsThere}, Tables.Tables.{HasRecord, field_at}}
use Rattle.lft_text_diagnostics.specs.declared.tables.tables.Table.{Table, TheVariants.{Trace, Externals}}
use Rattle.lft_trace.specs.declared.fault.TraceFault.TheVariants as fault

-- what is found is so, though nothing is
pub found_none : {X : Type 0} (P : X → Type 0) (o : Option X) → is_some o ≡ true → IfSome o P → ((x : X) → P x → ⊥) → ⊥
found_none P None e p none = absurd (cc)
found_none P (Some x) e p none = none x p

-- the field that stands at a place
pub there : (fields : List (List ℕ)) (k : ℕ) (f : List ℕ) → slice_get fields k ≡ Some f → field_at fields k ≡ f
unfolding at_place
there [] k f at = absurd (cc)
there (x ∷ fields) zero f at = (let same : x ≡ f = cc in same)
there (x ∷ fields) (suc k) f at = there fields k f at

-- what was read of a field
pub was_read : {X : Type 0} (read : List ℕ → Option X) (r : Option X) (f g : List ℕ) → r ≡ read f → f ≡ g → is_some r ≡ true → is_some (read g) ≡ true
was_read read r f g value at some = subst (λ h. is_some (read h) ≡ true) at (ap is_some (sym value) ∙ some)

-- one record has a number
pub one_record : (records : List (List (List ℕ))) (n : ℕ) (a b : List (List ℕ)) → HasRecord records n a → HasRecord records n b → a ≡ b
one_record records n a b (i, is, at) (j, other, there) =
    let same : i ≡ j = omega arith in
    let both : Some a ≡ Some b = sym at ∙ ap (λ k. slice_get records k) same ∙ there in
    cc

-- the record behind the header and the first ones
behind : (first more : List (List (List ℕ))) (bad : List (List ℕ)) → slice_get (first ++ bad ∷ more) (length first) ≡ Some bad
behind [] more bad = cc
behind (x ∷ first) more bad = behind first more bad

has_bad : {Item Fault : Type 0} (kind : TableKind Item Fault) (records : List (List (List ℕ))) (e : Fault) (f : FailsAt kind records e) → HasRecord records (length f.items + 2) f.bad
has_bad kind records e f =
    let first = f.begins.first in
    let all : List (List (List ℕ)) = kind.header ∷ (first ++ f.bad ∷ f.more) in
    let long : length first ≡ length f.items = sym (AllZip-long kind.Tells first f.items f.begins.each) in
    (length first + 1, omega arith, ap (λ l. slice_get l (length first + 1)) f.begins.under ∙ ap (λ k. slice_get all k) (add-one (length first)) ∙ behind first f.more f.bad)

-- the number of the record of which a fault is
abbrev pub line_in : TraceFault → Option ℕ
line_in (fault.BadFieldCount n) = Some n
line_in (fault.BadEvent n) = Some n
line_in (fault.BadNumber n) = Some n
line_in (fault.UnknownName n) = Some n
line_in (fault.FieldInPlace n) = Some n
line_in (fault.DuplicateExternal n) = Some n
line_in (fault.TwoStops n) = Some n
line_in e = None

-- the number of the record at which a table fails is that of the fault
module _ (p : Parts) (records : List (List (List ℕ))) where
  at_line : (e : TraceFault) (n : ℕ) → line_in e ≡ Some n → (f : FailsAt (trace_tables p) records e) → n ≡ length f.items + 2
  at_line (fault.BadFieldCount k) n line f = (let is = f.is.0 in cc)
  at_line (fault.BadEvent k) n line f = (let is = f.is.0 in cc)
  at_line (fault.BadNumber k) n line f = (let is = f.is.0 in cc)
  at_line (fault.UnknownName k) n line f = (let is = f.is.0 in cc)
  at_line (fault.FieldInPlace k) n line f = (let is = f.is.0 in cc)
  at_line (fault.DuplicateExternal k) n line f = absurd f.is
  at_line (fault.TwoStops k) n line f = absurd f.is
  at_line fault.BadHeader n line f = absurd (cc)
  at_line fault.NoStop n line f = absurd (cc)
  at_line fault.TooManyRows n line f = absurd (cc)
  at_line fault.NotCsv n line f = absurd (cc)
  at_line fault.NoMemory n line f = absurd (cc)

  at_entry : (e : TraceFault) (n : ℕ) → line_in e ≡ Some n → (f : FailsAt (external_tables p) records e) → n ≡ length f.items + 2
  at_entry (fault.BadFieldCount k) n line f = (let is = f.is.0 in cc)
  at_entry (fault.BadEvent k) n line f = (let is = f.is.0 in cc)
  at_entry (fault.BadNumber k) n line f = (let is = f.is.0 in cc)
  at_entry (fault.UnknownName k) n line f = (let is = f.is.0 in cc)
  at_entry (fault.FieldInPlace k) n line f = (let is = f.is.0 in cc)
  at_entry (fault.DuplicateExternal k) n line f = (let is = f.is.0 in cc)
  at_entry (fault.TwoStops k) n line f = (let is = f.is.0 in cc)
  at_entry fault.BadHeader n line f = absurd (cc)
  at_entry fault.NoStop n line f = absurd (cc)
  at_entry fault.TooManyRows n line f = absurd (cc)
  at_entry fault.NotCsv n line f = absurd (cc)
  at_entry fault.NoMemory n line f = absurd (cc)

  -- a table with a fault of a record fails at that record
  pub failing : (table : Table) (e : TraceFault) (n : ℕ) → line_in e ≡ Some n → Fails p table records e → (fields : List (List ℕ)) × HasRecord records n fields × FailsThere p table records fields e
  failing (Trace word) e n line (inl head) = (let is = head.0 in absurd (cc))
  failing (Trace word) e n line (inr (inl f)) = (f.bad, subst (λ m. HasRecord records m f.bad) (sym (at_line e n line f)) (has_bad (trace_tables p) records e f), (f, cc))
  failing (Trace word) e n line (inr (inr many)) = (let is = many.0 in absurd (cc))
  failing Externals e n line (inl (inl head)) = (let is = head.0 in absurd (cc))
  failing Externals e n line (inl (inr (inl f))) = (f.bad, subst (λ m. HasRecord records m f.bad) (sym (at_entry e n line f)) (has_bad (external_tables p) records e f), (f, cc))
  failing Externals e n line (inl (inr (inr many))) = (let is = many.0 in absurd (cc))
  failing Externals e n line (inr none) = (let is = none.0 in absurd (cc))
