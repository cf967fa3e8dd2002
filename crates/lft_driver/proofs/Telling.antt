-- What is told of texts is told of such as have no meaning.
use Rattle.std.proofs.Common.{◌≡◌, ◌≢◌, ℕ, ◌⊎◌, List, [], ◌∷◌, ◌++◌, inl, inr, refl, sym, ◌∙◌, subst, Option, Some, None, IfSome, Result, Ok, Err, IfOk}
use Rattle.lft_ir.specs.Parts.{Parts}
use Rattle.lft_tables.specs.Records.{records_of}
use Rattle.lft_trace.specs.{Traces.Table, declared.fault.TraceFault.TraceFault}
use Rattle.lft_graph.{specs.{Precedence.HasNoLoop, Loops.IsLoop}, proofs.Cycles.is_cycle}
use Rattle.lft_load.{specs.Meaning.{IsProgramOf, IsOnly}, proofs.Loading.under}
use Rattle.lft_text_diagnostics.specs.Tables.Tables.{ContinuesFrom, field_line, heading, table_line_words}
use Rattle.lft_driver.specs.{Meaning.{IsNoTrace, IsTrace, Mean}, Told.{HasNoOrder, HaveMeaning, HaveNoMeaning, IsNoTable, IsPlanned, IsUnplanned, TellsLoop}}
use Rattle.lft_trace.specs.declared.fault.TraceFault.TheVariants as fault

-- what holds where something is told holds of what is told
pub some_so : {X : Type 0} (o : Option X) (x : X) (P : Type 0) → o ≡ Some x → IfSome o (λ _. P) → P
some_so o x P e h = subst (λ z. IfSome z (λ _. P)) e h

-- a loop of reactions is one that there must not be
pub looped : (parts : Parts) (loop : List ℕ) → IsLoop parts loop → HasNoLoop parts → ⊥
looped parts loop is none = let cycle = is_cycle parts loop is in none cycle.0 cycle.1

-- so it is with a loop that is told
pub told_loop : (parts : Parts) (words : List ℕ) → TellsLoop parts words → HasNoLoop parts → ⊥
told_loop parts words x = looped parts x.loop x.is_loop

-- the reactions of a text have no order where it has no program, and where its only program has a loop
pub no_order_by_program : (program : List ℕ) → ((parts : Parts) → IsProgramOf program parts → ⊥) → HasNoOrder program
no_order_by_program program h parts is none = h parts is

pub no_order_by_loop : (program : List ℕ) (parts : Parts) → IsOnly (IsProgramOf program) parts → (HasNoLoop parts → ⊥) → HasNoOrder program
no_order_by_loop program parts only h other is none = h (subst HasNoLoop (only.only other is) none)

-- a program whose external inputs are no table has no plan, nor has one with a loop
pub unplanned_by_table : (parts : Parts) (externals : List ℕ) → IsNoTable parts externals → IsUnplanned parts externals
unplanned_by_table parts externals h plan x = h plan.externals x.is_externals

pub unplanned_by_loop : (parts : Parts) (externals : List ℕ) → (HasNoLoop parts → ⊥) → IsUnplanned parts externals
unplanned_by_loop parts externals h plan x = h x.no_loop

-- where a text has no program, or that has no plan, texts have no meaning
pub none_by_program : (program externals trace : List ℕ) → ((parts : Parts) → IsProgramOf program parts → ⊥) → HaveNoMeaning program externals trace
none_by_program program externals trace h plan rows m = h plan.program m.is_plan.is_program

module _ (program externals : List ℕ) (parts : Parts) (only : IsOnly (IsProgramOf program) parts) where
  pub none_by_unplanned : (trace : List ℕ) → IsUnplanned parts externals → HaveNoMeaning program externals trace
  none_by_unplanned trace h plan rows m = h plan (under program externals parts only plan m.is_plan)

  pub none_by_trace : (trace : List ℕ) → IsNoTrace parts trace → HaveNoMeaning program externals trace
  none_by_trace trace h plan rows m = h rows (subst (λ p. Table p (records_of trace) rows) (only.only plan.program m.is_plan.is_program) m.is_trace)

-- texts that are read have a meaning
module _ (program externals : List ℕ) (parts : Parts) (only : IsOnly (IsProgramOf program) parts) (planned : IsPlanned parts externals) where
  meaning : (trace : List ℕ) (is : IsTrace parts trace) → Mean program externals trace (record { program = parts; externals = planned.0.0 }) is.0
  meaning trace is = record { is_plan = record { is_program = only.is; is_plan = record { of_program = refl; no_loop = planned.1; is_externals = planned.0.1 } }; is_trace = is.1 }

  pub meant : (trace : List ℕ) → IsTrace parts trace → HaveMeaning program externals trace
  meant trace is = (record { program = parts; externals = planned.0.0 }, is.0, meaning trace is)

-- what follows of each thing follows of one that is found
pub of_found : {X E : Type 0} (o : Result (Option X) E) (P Q : X → Type 0) → ((x : X) → P x → Q x) → IfOk o (λ found. IfSome found P) → IfOk o (λ found. IfSome found Q)
of_found (Ok None) P Q f h = tt
of_found (Ok (Some x)) P Q f h = f x h
of_found (Err e) P Q f h = tt

-- words that begin with a line aren't empty
line_begins : (word : List ℕ) (n : ℕ) (rest : List ℕ) → table_line_words word n ++ rest ≢ []
line_begins [] n rest e = absurd (cc)
line_begins (x ∷ word) n rest e = absurd (cc)

begun : (word : List ℕ) (n : ℕ) (words : List ℕ) → ContinuesFrom (table_line_words word n) words → words ≢ []
begun word n words b e = line_begins word n b.0 (sym b.1 ∙ e)

-- a fault of one field begins with its line
begins_line : (word : List ℕ) (e : TraceFault) (n : ℕ) (words : List ℕ) → field_line e ≡ Some n → ContinuesFrom (heading word e) words → words ≢ []
begins_line word (fault.BadEvent m) n words q b = begun word m words b
begins_line word (fault.BadNumber m) n words q b = begun word m words b
begins_line word (fault.UnknownName m) n words q b = begun word m words b
begins_line word (fault.FieldInPlace m) n words q b = begun word m words b
begins_line word fault.BadHeader n words q b = absurd (cc)
begins_line word (fault.BadFieldCount m) n words q b = absurd (cc)
begins_line word (fault.DuplicateExternal m) n words q b = absurd (cc)
begins_line word (fault.TwoStops m) n words q b = absurd (cc)
begins_line word fault.NoStop n words q b = absurd (cc)
begins_line word fault.TooManyRows n words q b = absurd (cc)
begins_line word fault.NotCsv n words q b = absurd (cc)
begins_line word fault.NoMemory n words q b = absurd (cc)

-- so a field is named, where none might be named if there were no words
pub named : (word : List ℕ) (e : TraceFault) (n : ℕ) (words : List ℕ) (N : Type 0) → field_line e ≡ Some n → ContinuesFrom (heading word e) words → (words ≡ []) ⊎ N → N
named word e n words N q b (inl z) = absurd (begins_line word e n words q b z)
named word e n words N q b (inr x) = x
