-- Where a byte of a program's text stands: in one of its files, or in the text as a whole.
use Rattle.std.specs.Prelude.{◌≡◌, ◌⊎◌, ◌≤◌, ◌-◌, ◌++◌, ℕ, List, Option, Some, None, Contains, codes, decimal, length, slice_get, slice_range, string_bytes}
use Rattle.lft_text_diagnostics.specs.{Places.IsPlace, Quotes.program_place_words, declared.place.LineColumn.LineColumn}
use Rattle.lft_program_diagnostics.specs.declared.{pages.Page.Page, spans.Span.Span}

-- The byte stands in the file, or at its end.
abbrev pub HasByte : ℕ → Page → Type 0
HasByte at page = (page.start ≤ at) × (at ≤ page.end)

-- No file has the byte.
abbrev pub HasNone : List Page → ℕ → Type 0
HasNone files at = (i : ℕ) (page : Page) → slice_get files i ≡ Some page → HasByte at page → ⊥

-- `FILE:LINE:COLUMN: `
abbrev pub page_words : Page → LineColumn → List ℕ
page_words page place = string_bytes page.path ++ codes ":" ++ decimal place.line ++ codes ":" ++ decimal place.column ++ codes ": "

-- The words are a file that has the byte, and its line and column there.
pub record SaysFile (t : List ℕ) (files : List Page) (at : ℕ) (words : List ℕ) : Type 0 where
  pub page : Page
  pub is_file : Contains files page
  pub has : HasByte at page
  pub place : LineColumn
  pub is_place : IsPlace (slice_range t page.start page.end) (at - page.start) place
  pub whole : words ≡ page_words page place

-- No file has the byte, and the words are its line and column.
pub record SaysLine (t : List ℕ) (files : List Page) (at : ℕ) (words : List ℕ) : Type 0 where
  pub none : HasNone files at
  pub place : LineColumn
  pub is_place : IsPlace t at place
  pub whole : words ≡ program_place_words place

-- The words are where the byte stands: in a file that has it, or else in the text.
abbrev pub SaysByte : List ℕ → List Page → ℕ → List ℕ → Type 0
SaysByte t files at words = SaysFile t files at words ⊎ SaysLine t files at words

-- The words are where the first of the bytes stands, if the text has it; without bytes they are of the program as a whole.
abbrev pub SaysSpot : List ℕ → List Page → Option Span → List ℕ → Type 0
SaysSpot t files None words = words ≡ codes "Program: "
SaysSpot t files (Some spot) words = spot.start ≤ length t → SaysByte t files spot.start words
