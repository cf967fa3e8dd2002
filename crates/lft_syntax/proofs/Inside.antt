-- A group, one token at a time.
use Rattle.std.proofs.Common.{◌≡◌, ℕ, zero, suc, ◌+◌, ◌≤◌, ◌<◌, List, length, Result, sym, subst, ◌∙◌, arith}
use Rattle.std.specs.Prelude.{slice_get}
use Rattle.lft_syntax.specs.{declared.parse_error.ParseError.ParseError, Lexeme.Lexeme, inner.{View.Fails, Reading.{inside_step, inside_at}}}

-- with so many brackets open, what is read from a place on is all
pub record Within (opening closing : Lexeme) (ws : List Lexeme) (depth at : ℕ) (total : Result (Unit {0} × ℕ) ℕ) : Type 0 where
  pub left : ℕ
  pub enough : length ws < at + suc left
  pub shallow : depth ≤ at
  pub rest : inside_at opening closing (suc left) depth ws at ≡ total

module _ (opening closing : Lexeme) (ws : List Lexeme) (total : Result (Unit {0} × ℕ) ℕ) where
  -- what the rest is, once this token is read
  abbrev pub rest_past : (depth at : ℕ) → Within opening closing ws depth at total → ℕ → Result (Unit {0} × ℕ) ℕ
  rest_past depth at s d = inside_at opening closing s.left d ws (at + 1)

  pub within_is : (depth at : ℕ) (s : Within opening closing ws depth at total) → inside_step opening closing depth at (rest_past depth at s) (slice_get ws at) ≡ total
  unfolding inside_at
  within_is depth at s = s.rest

  turns : (left depth at now : ℕ) → at < length ws → length ws < at + suc left → now ≤ at + 1 → inside_at opening closing left now ws (at + 1) ≡ total → Within opening closing ws now (at + 1) total
  turns zero depth at now lt enough low e = absurd (omega arith)
  turns (suc left) depth at now lt enough low e = record { left = left; enough = omega arith; shallow = low; rest = e }

  pub within_turns : (depth at now : ℕ) (s : Within opening closing ws depth at total) → at < length ws → now ≤ at + 1 → inside_step opening closing depth at (rest_past depth at s) (slice_get ws at) ≡ rest_past depth at s now → Within opening closing ws now (at + 1) total
  within_turns depth at now s lt low e = turns s.left depth at now lt s.enough low (sym e ∙ within_is depth at s)

  pub within_fails : (depth at : ℕ) (e : ParseError) (s : Within opening closing ws depth at total) → Fails e (inside_step opening closing depth at (rest_past depth at s) (slice_get ws at)) → Fails e total
  within_fails depth at e s f = subst (λ (r : Result (Unit {0} × ℕ) ℕ). Fails e r) (within_is depth at s) f
