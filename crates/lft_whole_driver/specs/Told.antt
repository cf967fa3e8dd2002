-- What is told of a program that isn't lowered.
use Rattle.std.specs.Prelude.{◌≡◌, ◌⊎◌, ◌++◌, ◌-◌, ℕ, IfSome, List, Some, None, codes, option_map, slice_get, string_bytes, unwrap_or, []}
use Rattle.lft_load.specs.{Faults.words_of, declared.fault.Fault.Fault}
use Rattle.lft_program_diagnostics.specs.Reasons.{IsToldIn}
use Rattle.lft_syntax.specs.declared.token.TokenKind.{TokenKind}
use Rattle.lft_text_diagnostics.specs.{Diagnostics.SaysOf, Told.standing_words}
use Rattle.lft_whole.specs.Sources.{Causes.{names, number_of, sentence_of}, Shown.place_words}
use Rattle.lft_whole.specs.declared.sources.{source.SourceFile.SourceFile, stop.{Place.Place, FileRefusal.FileRefusal}, why.Why.{Why, TheVariants.Unexpected}}
use Rattle.lft_tree.specs.declared.tree.Item.{Item}
use Rattle.lft_whole_driver.specs.{Pages.AreJoined, declared.{pages.Joined.Joined, told.Unlowered.Unlowered}}
use Rattle.lft_load.specs.declared.fault.Part.TheVariants as part

-- Where a token of one of the files stands: `FILE:LINE:COLUMN`.
abbrev pub where_words : List SourceFile → Place → List ℕ
where_words files place = unwrap_or (option_map (λ file. place_words file place.token) (slice_get files place.file)) []

-- What is said of a token that can't stand where it is, or of a text that ends there.
abbrev pub IsUnexpected : List ℕ → Type 0
IsUnexpected words = ((kind : TokenKind) × (bytes : List ℕ) × (words ≡ standing_words kind bytes)) ⊎ (words ≡ codes "the text ends too soon.")

-- What is said of a cause: something first, then its sentence; of a token that can't stand where it is, that.
abbrev pub IsSentence : List ℕ → Why → List ℕ → Type 0
IsSentence first why words = (words ≡ first ++ sentence_of why) ⊎ ((why ≡ Unexpected) × IsUnexpected words)

-- The words say of the place what is said of the cause.
abbrev pub TellsAt : List ℕ → List ℕ → Why → List ℕ → Type 0
TellsAt place first why words = (sentence : List ℕ) × IsSentence first why sentence × SaysOf (place ++ codes ": ") sentence words

-- The fault has the number and the name of the cause, and tells its place.
pub record IsLowerFault (files : List SourceFile) (refusal : FileRefusal) (fault : Fault) : Type 0 where
  pub part : fault.part ≡ part.Lower
  pub number : fault.number ≡ number_of refusal.why
  pub name : slice_get names (number_of refusal.why - 1) ≡ Some fault.name.now
  pub place : words_of fault.detail ≡ Some (where_words files refusal.place)

-- So it is, and what is told of it begins with the same place.
pub record TellsRefusal (files : List SourceFile) (first : List ℕ) (refusal : FileRefusal) (u : Unlowered) : Type 0 where
  pub fault : IsLowerFault files refusal u.failure.fault
  pub told : IfSome u.told (λ words. TellsAt (where_words files refusal.place) first refusal.why (string_bytes words))

-- The words tell this cause of a tree with these parts, where it is shown in the text of the files.
abbrev pub IsToldTree : List SourceFile → List Item → ℕ → List ℕ → Type 0
IsToldTree files parts cause words = (joined : Joined) × AreJoined files joined × IsToldIn joined.text.items joined.tokens.items joined.pages.items parts cause words

-- The fault is of this cause of a program, and so is what is told, if something is.
pub record TellsTree (files : List SourceFile) (parts : List Item) (cause : ℕ) (u : Unlowered) : Type 0 where
  pub fault : (u.failure.fault.part ≡ part.Program) × (u.failure.fault.number ≡ cause) ⊎ (u.told ≡ None)
  pub told : IfSome u.told (λ words. IsToldTree files parts cause (string_bytes words))
