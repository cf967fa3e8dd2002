-- A program's text that is refused has no program.
use Rattle.std.proofs.Common.{◌≡◌, ◌≢◌, ℕ, ◌≤◌, List, length, refl, sym, ◌∙◌, subst, arith}
use Rattle.lft_syntax.specs.{declared.{token.Token.Token, fault.LexFault.LexFault}, Grammar.Spells, Lexes.{Lexes, LexFails}, View.lexemes}
use Rattle.lft_syntax.proofs.Once.{cut_once}
use Rattle.lft_tree.specs.{Tree.FileTree, View.file_view}
use Rattle.lft_resolve.specs.Causes.{IsFirst, causes}
use Rattle.lft_program.proofs.Firsts.{first_holds}
use Rattle.lft_load.{specs.Meaning.{IsOnly, IsTreeOf}, proofs.Loading.one_tree}
use Rattle.lft_text_diagnostics.specs.Refusals.{HasNoTree}
use Rattle.lft_program_diagnostics.specs.Reasons.{IsToldOf}
use Rattle.lft_driver.specs.inner.Told.{HasNoProgram}
use Rattle.lft_syntax.specs.declared.fault.LexFault.TheVariants as lex

-- for it has no tokens, or too many bytes
pub no_tokens : (t : List ℕ) (e : LexFault) → LexFails t e → e ≢ lex.NoMemory → HasNoProgram t
no_tokens t (lex.BadChar at) f n parts x = f.2 x.is_tree.tokens x.is_tree.lexed
no_tokens t lex.OpenComment f n parts x = f.2 x.is_tree.tokens x.is_tree.lexed
no_tokens t lex.OpenCode f n parts x = f.2 x.is_tree.tokens x.is_tree.lexed
no_tokens t lex.OpenString f n parts x = f.2 x.is_tree.tokens x.is_tree.lexed
no_tokens t (lex.NumberTooLarge at) f n parts x = f.2 x.is_tree.tokens x.is_tree.lexed
no_tokens t lex.TooLong f n parts x = let short = x.is_tree.short in omega (arith, f, short)
no_tokens t lex.NoMemory f n parts x = n refl

-- its tokens spell no tree
pub no_tree : (t : List ℕ) (tokens : List Token) (k : ℕ) → HasNoTree t tokens k → HasNoProgram t
no_tree t tokens k h parts x =
    let same : x.is_tree.tokens ≡ tokens = cut_once t x.is_tree.lexed refl h.lexes refl in
    h.none (lexemes t tokens) x.tree refl (subst (λ ts. Spells x.tree (lexemes t ts)) same x.is_tree.spelled)

-- the tree of tokens is one
pub only_tree : (t : List ℕ) (tokens : List Token) (tree : FileTree) → length t ≤ 1048576 → Lexes t tokens × ((other : List Token) → Lexes t other → other ≡ tokens) → Spells tree (lexemes t tokens) × ((other : FileTree) → Spells other (lexemes t tokens) → other ≡ tree) → IsOnly (IsTreeOf t) tree
only_tree t tokens tree short lexed spelled = record {
  is = record { short = short; tokens = tokens; lexed = lexed.0; spelled = spelled.0 };
  only = λ other x. spelled.1 other (one_tree t tokens lexed.1 other x);
}

-- or a cause of refusal holds of that tree
pub no_flat : (t : List ℕ) (tree : FileTree) → IsOnly (IsTreeOf t) tree → (cause : ℕ) (words : List ℕ) → IsToldOf t cause words → HasNoProgram t
no_flat t tree only cause words told parts x =
    let is : IsTreeOf t (file_view told.target told.parts) = record { short = only.is.short; tokens = told.tokens; lexed = told.lexed; spelled = told.spelled } in
    let same : file_view told.target told.parts ≡ x.tree = only.only (file_view told.target told.parts) is ∙ sym (only.only x.tree x.is_tree) in
    first_holds (causes x.tree) cause (subst (λ k. IsFirst (causes k) cause) same told.first) x.is_flat.none
