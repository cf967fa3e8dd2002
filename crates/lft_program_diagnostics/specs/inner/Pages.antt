-- Inside: where a byte of a program's text stands: in one of its files, or in the text as a whole.
use Rattle.std.specs.Prelude.{◌≡◌, ◌⊎◌, ◌≤◌, ◌-◌, ℕ, List, Option, Some, None, Contains, length, min, slice_range, []}
use Rattle.std.specs.List.{All}
use Rattle.lft_text_diagnostics.specs.{Places.IsPlace, Quotes.marked_line, declared.place.LineColumn.LineColumn}
use Rattle.lft_program_diagnostics.specs.{Pages.{HasByte, HasNone}, declared.{pages.Page.Page, spans.Span.Span}}

-- Each file is a part of the text.
abbrev pub ArePages : List ℕ → List Page → Type 0
ArePages t = All (λ page. (page.start ≤ page.end) × (page.end ≤ length t))

-- The words are the line of the byte at start, and below it a mark up to end.
pub record MarksLine (t : List ℕ) (start end : ℕ) (words : List ℕ) : Type 0 where
  pub place : LineColumn
  pub is_place : IsPlace t start place
  pub whole : words ≡ marked_line t place start end

-- The words mark the bytes in a file that has the first of them, and no further than it ends.
pub record MarksFile (t : List ℕ) (files : List Page) (spot : Span) (words : List ℕ) : Type 0 where
  pub page : Page
  pub is_file : Contains files page
  pub has : HasByte spot.start page
  pub marks : MarksLine (slice_range t page.start page.end) (spot.start - page.start) (min spot.end page.end - page.start) words

-- The words mark the bytes, in a file that has the first of them, or else in the text.
abbrev pub MarksBytes : List ℕ → List Page → Span → List ℕ → Type 0
MarksBytes t files spot words = MarksFile t files spot words ⊎ (HasNone files spot.start × MarksLine t spot.start spot.end words)

-- The text has the bytes.
abbrev pub HasBytes : List ℕ → Span → Type 0
HasBytes t spot = (spot.start ≤ spot.end) × (spot.end ≤ length t)

-- The words mark the bytes, if there are some and the text has them; else there are no words.
abbrev pub MarksSpot : List ℕ → List Page → Option Span → List ℕ → Type 0
MarksSpot t files None words = words ≡ []
MarksSpot t files (Some spot) words = (HasBytes t spot × MarksBytes t files spot words) ⊎ ((HasBytes t spot → ⊥) × (words ≡ []))
