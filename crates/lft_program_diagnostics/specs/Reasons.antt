-- What is told of a program that has a tree and is refused.
use Rattle.std.specs.Prelude.{◌≡◌, ℕ, ◌⊎◌, List, ◌++◌, Option, codes, []}
use Rattle.lft_tree.specs.{View.file_view, declared.tree.{Item.Item, Reactor.Reactor, TokenRange.TokenRange}}
use Rattle.lft_syntax.specs.{declared.token.Token.Token, Lexes.Lexes, Placed.FileStands, Grammar.Spells, View.lexemes}
use Rattle.lft_resolve.specs.Causes.{IsFirst, causes, number_of}
use Rattle.lft_text_diagnostics.specs.Diagnostics.{SaysOf}
use Rattle.lft_validate.specs.{Members.reactors_among, Witnesses.{Shows, fault_shown}, declared.witness.Witness.Witness}
use Rattle.lft_program_diagnostics.specs.{Pages.SaysSpot, Sentences.{fault_told, said, words_in}, Spots.witness_spot}
use Rattle.lft_program_diagnostics.specs.declared.{pages.Page.Page, sentence.Sentence.Sentence, spans.Span.Span}

-- the words say this where the bytes stand
abbrev pub BeginsAt : List ℕ → List Page → Option Span → List ℕ → List ℕ → Type 0
BeginsAt t files spot sentence words = (place : List ℕ) × SaysSpot t files spot place × SaysOf place (sentence ++ codes ".") words

-- a witness of these reactors shows the cause, and stands at these bytes
pub record HasWitnessAt (tokens : List Token) (reactors : List Reactor) (cause : ℕ) (spot : Option Span) : Type 0 where
  pub witness : Witness
  pub shows : Shows reactors witness
  pub shows_cause : number_of (fault_shown witness) ≡ cause
  pub at : spot ≡ witness_spot tokens witness

-- reactors that contain one another, connections that form a loop, delays that only together are too long, too many things: several places show the cause together
abbrev pub IsOfWhole : ℕ → Type 0
IsOfWhole cause = (cause ≡ 5) ⊎ (cause ≡ 10) ⊎ (cause ≡ 14) ⊎ (cause ≡ 15)

-- the bytes are those of a witness, unless several places show the cause together
abbrev pub IsShownAt : List Token → List Reactor → ℕ → Option Span → Type 0
IsShownAt tokens reactors cause spot = HasWitnessAt tokens reactors cause spot ⊎ IsOfWhole cause

-- the words begin with where the cause is shown in these parts, and a sentence that tells it
pub record IsToldIn (t : List ℕ) (tokens : List Token) (files : List Page) (parts : List Item) (cause : ℕ) (words : List ℕ) : Type 0 where
  pub spot : Option Span
  pub shown : IsShownAt tokens (reactors_among parts) cause spot
  pub sentence : Sentence
  pub tells : number_of (fault_told sentence) ≡ cause
  pub names : List (List ℕ)
  pub begins : BeginsAt t files spot (said (words_in sentence) names) words

-- the tokens of the text spell a tree, of which each part stands where it says; of the causes of refusal the one with that number is the first that holds of it; and the words tell it
pub record IsToldOf (t : List ℕ) (cause : ℕ) (words : List ℕ) : Type 0 where
  pub tokens : List Token
  pub lexed : Lexes t tokens
  pub target : Option TokenRange
  pub parts : List Item
  pub spelled : Spells (file_view target parts) (lexemes t tokens)
  pub stand : FileStands (lexemes t tokens) target parts
  pub first : IsFirst (causes (file_view target parts)) cause
  pub told : IsToldIn t tokens [] parts cause words
