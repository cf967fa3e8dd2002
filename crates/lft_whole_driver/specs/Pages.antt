-- The files of a program as one text.
use Rattle.std.specs.Prelude.{◌≡◌, ◌+◌, ◌++◌, ℕ, List, ◌∷◌, Result, Ok, Err, length, map, string_bytes, []}
use Rattle.lft_program_diagnostics.specs.declared.pages.Page.{Page}
use Rattle.lft_whole.specs.{Sources.Shown.shown_path, declared.{sources.source.SourceFile.SourceFile, fault.TextFault.TextFault}, Pieces.tokens_of}
use Rattle.lft_syntax.specs.declared.token.Token.{Token}
use Rattle.lft_whole_driver.specs.declared.pages.Joined.{Joined}
use Rattle.lft_syntax.specs.declared.token.TokenKind.TheVariants as kinds

-- A token of a file, where its text begins there in the text of all.
abbrev pub token_moved : ℕ → Token → Token
token_moved start token = record { kind = token.kind; start = start + token.start; end = start + token.end }

-- What stands at a byte alone: the end of a file.
abbrev pub end_at : ℕ → Token
end_at at = record { kind = kinds.Name; start = at; end = at }

-- Where a file ends whose text begins there.
abbrev pub end_of : ℕ → SourceFile → ℕ
end_of start file = start + length file.text.items

-- The tokens of a text that has some.
abbrev pub cut : Result (List Token) TextFault → List Token
cut (Ok tokens) = tokens
cut (Err fault) = []

-- The tokens of a file, and one for its end.
abbrev pub file_tokens : ℕ → SourceFile → List Token
file_tokens start file = map (token_moved start) (cut (tokens_of file.text.items)) ++ end_at (end_of start file) ∷ []

-- The path of a file as it is shown, and which bytes it has.
abbrev pub is_page : ℕ → SourceFile → Page → Type 0
is_page start file page = (string_bytes page.path ≡ shown_path (string_bytes file.path)) × (page.start ≡ start) × (page.end ≡ end_of start file)

-- The text, tokens and pages of files, one behind another: behind each text stands a line feed.
pub data Join : List SourceFile → List ℕ → List Token → List Page → Type 0 where
  no_files : Join [] [] [] []
  file_more : {files : List SourceFile} {t : List ℕ} {tokens : List Token} {pages : List Page} (file : SourceFile) (page : Page) → Join files t tokens pages → is_page (length t) file page → Join (files ++ file ∷ []) (t ++ (file.text.items ++ 10 ∷ [])) (tokens ++ file_tokens (length t) file) (pages ++ page ∷ [])

-- They are those of these files.
abbrev pub AreJoined : List SourceFile → Joined → Type 0
AreJoined files joined = Join files joined.text.items joined.tokens.items joined.pages.items
