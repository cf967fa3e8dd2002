-- Inside: the files of a program as one text.
use Rattle.std.specs.Prelude.{◌≡◌, ◌++◌, ℕ, List, ◌∷◌, length, map, []}
use Rattle.lft_program_diagnostics.specs.declared.pages.Page.{Page}
use Rattle.lft_whole.specs.declared.sources.source.SourceFile.{SourceFile}
use Rattle.lft_syntax.specs.declared.token.Token.{Token}
use Rattle.lft_whole_driver.specs.{declared.pages.Joined.Joined, Pages.{token_moved, file_tokens, is_page}}

-- ---- for the crate's own contracts
-- The tokens are put behind those that were there.
abbrev pub JoinsTokens : ℕ → List Token → List Token → List Token → Type 0
JoinsTokens start tokens old new = new ≡ old ++ map (token_moved start) tokens

-- The file is put behind those that were there.
pub record JoinsFile (file : SourceFile) (old new : Joined) : Type 0 where
  pub page : Page
  pub is_page : is_page (length old.text.items) file page
  pub text : new.text.items ≡ old.text.items ++ (file.text.items ++ 10 ∷ [])
  pub tokens : new.tokens.items ≡ old.tokens.items ++ file_tokens (length old.text.items) file
  pub pages : new.pages.items ≡ old.pages.items ++ page ∷ []
