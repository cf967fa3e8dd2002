-- Texts of which a refusal is told.
use Rattle.std.specs.Prelude.{◌≡◌, ℕ, ◌⊎◌, List, ◌++◌, Some, codes}
use Rattle.lft_ir.specs.{declared.steps.row.Row.Row, Parts.Parts, Steps.Inputs.ExternalInputs}
use Rattle.lft_graph.specs.{Loops.IsLoop, Precedence.HasNoLoop}
use Rattle.lft_trace.specs.{ExternalTables.{ExternalTable, ExternalFails}, Traces.TraceFails, declared.fault.TraceFault.TraceFault}
use Rattle.lft_tables.specs.Records.{records_of}
use Rattle.lft_model.specs.Plans.{PlanParts}
use Rattle.lft_load.specs.Meaning.{IsPlanUnder, IsProgramOf, OfOnly}
use Rattle.lft_text_diagnostics.specs.{Told.TellsProgram, Tables.Tables.{ContinuesFrom, IsWrong, IsWrongThere, NamesField, field_line, heading}}
use Rattle.lft_program_diagnostics.specs.{Reasons.IsToldOf, Loops.loop_words}
use Rattle.lft_driver.specs.{Bundles.IsBundle, Markers.IsMissing, Meaning.{IsTrace, Mean}, declared.bundle.Marker.Marker}
use Rattle.lft_driver.specs.declared.bundle.Marker.TheVariants as markers

-- the text is a table of external inputs of the program
abbrev pub IsTable : Parts → List ℕ → Type 0
IsTable program text = (inputs : ExternalInputs) × ExternalTable program (records_of text) inputs

-- the text is no table of external inputs of the program
abbrev pub IsNoTable : Parts → List ℕ → Type 0
IsNoTable program text = (inputs : ExternalInputs) → ExternalTable program (records_of text) inputs → ⊥

-- no program of the text has an order of its reactions
abbrev pub HasNoOrder : List ℕ → Type 0
HasNoOrder program = (parts : Parts) → IsProgramOf program parts → HasNoLoop parts → ⊥

-- the text has a program, and its reactions have an order
abbrev pub HasOrder : List ℕ → Type 0
HasOrder program = (parts : Parts) × IsProgramOf program parts × HasNoLoop parts

-- the program has no plan under these external inputs
abbrev pub IsUnplanned : Parts → List ℕ → Type 0
IsUnplanned program externals = (plan : PlanParts) → IsPlanUnder program externals plan → ⊥

-- the three texts have no meaning
abbrev pub HaveNoMeaning : List ℕ → List ℕ → List ℕ → Type 0
HaveNoMeaning program externals trace = (plan : PlanParts) (rows : List Row) → Mean program externals trace plan rows → ⊥

-- the three texts have a meaning
abbrev pub HaveMeaning : List ℕ → List ℕ → List ℕ → Type 0
HaveMeaning program externals trace = (plan : PlanParts) × (rows : List Row) × Mean program externals trace plan rows

-- the words tell why a program's text is refused: why it has no tree, or for which cause
abbrev pub TellsText : List ℕ → List ℕ → Type 0
TellsText program words = TellsProgram program words ⊎ ((cause : ℕ) × IsToldOf program cause words)

-- the words tell of a loop of the program's reactions
pub record TellsLoop (program : Parts) (words : List ℕ) : Type 0 where
  pub loop : List ℕ
  pub is_loop : IsLoop program loop
  pub is_told : words ≡ loop_words program loop

-- the words begin with the first fault of a table of external inputs: its line, and the field where it is of one
pub record TellsExternals (program : Parts) (text words : List ℕ) : Type 0 where
  pub fault : TraceFault
  pub fails : ExternalFails program (records_of text) fault
  pub heads : ContinuesFrom (heading (codes "External inputs") fault) words
  pub field : (n : ℕ) → field_line fault ≡ Some n → NamesField (records_of text) (codes "External inputs") n (IsWrongThere fault) words

-- the words begin with the first fault of a trace table, which is called by the word: its line, and the field where it is of one
pub record TellsTrace (program : Parts) (text word words : List ℕ) : Type 0 where
  pub fault : TraceFault
  pub fails : TraceFails program (records_of text) fault
  pub heads : ContinuesFrom (heading word fault) words
  pub field : (n : ℕ) → field_line fault ≡ Some n → NamesField (records_of text) word n (IsWrong program fault) words

-- the words tell why a program's text is refused, or of a loop of its reactions
abbrev pub TellsNoOrder : List ℕ → List ℕ → Type 0
TellsNoOrder text words = TellsText text words ⊎ OfOnly (IsProgramOf text) (λ program. TellsLoop program words)

-- the words tell why the external inputs of a program are refused, or, where they aren't, of a loop of its reactions
abbrev pub TellsInputsOrLoop : Parts → List ℕ → List ℕ → Type 0
TellsInputsOrLoop program externals words = TellsExternals program externals words ⊎ (IsTable program externals × TellsLoop program words)

-- the words tell why a program's text is refused, or, where it isn't, that of its external inputs, or of a loop of its reactions
abbrev pub TellsNoPlan : List ℕ → List ℕ → List ℕ → Type 0
TellsNoPlan text externals words = TellsText text words ⊎ OfOnly (IsProgramOf text) (λ program. TellsInputsOrLoop program externals words)

-- the external inputs are those of the program, and its reactions have an order
abbrev pub IsPlanned : Parts → List ℕ → Type 0
IsPlanned program externals = IsTable program externals × HasNoLoop program

-- the words tell of the first of three texts that is refused; of a loop of the reactions before the trace
abbrev pub TellsFirstRefused : List ℕ → List ℕ → List ℕ → List ℕ → Type 0
TellsFirstRefused text externals trace words = TellsNoPlan text externals words ⊎ OfOnly (IsProgramOf text) (λ program. IsPlanned program externals × TellsTrace program trace (codes "Trace") words)

-- the words tell why the first of two traces that is refused is
abbrev pub TellsOneTrace : Parts → List ℕ → List ℕ → List ℕ → Type 0
TellsOneTrace program first second words = TellsTrace program first (codes "First trace") words ⊎ (IsTrace program first × TellsTrace program second (codes "Second trace") words)

-- the sentence on a missing marker
abbrev pub missing_words : Marker → List ℕ
missing_words markers.Program = codes "Bundle: its first line isn't `--- program`.\n"
missing_words markers.Externals = codes "Bundle: behind the program no line is `--- externals`.\n"
missing_words markers.Trace = codes "Bundle: behind the external inputs no line is `--- trace`.\n"

-- the words begin with the sentence on the first marker that the text lacks
pub record TellsMissing (text words : List ℕ) : Type 0 where
  pub marker : Marker
  pub is_missing : IsMissing text marker
  pub rest : List ℕ
  pub is_told : words ≡ missing_words marker ++ rest

-- the text is a bundle whose three texts have no meaning, and the words tell which of them is refused
pub record HasNoMeaning (text words : List ℕ) : Type 0 where
  pub program : List ℕ
  pub externals : List ℕ
  pub trace : List ℕ
  pub is_bundle : IsBundle text program externals trace
  pub none : HaveNoMeaning program externals trace
  pub tells : TellsFirstRefused program externals trace words

-- the words tell which marker the text lacks, or of a bundle whose three texts have no meaning
abbrev pub IsBundleRefusal : List ℕ → List ℕ → Type 0
IsBundleRefusal text words = TellsMissing text words ⊎ HasNoMeaning text words

-- the text is a bundle whose three texts have a meaning
pub record IsReadBundle (text : List ℕ) : Type 0 where
  pub program : List ℕ
  pub externals : List ℕ
  pub trace : List ℕ
  pub is_bundle : IsBundle text program externals trace
  pub meant : HaveMeaning program externals trace
