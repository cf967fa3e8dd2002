-- For the crate's own contracts: what stands before a token that is refused.
use Rattle.std.specs.Prelude.{◌≤◌, length}
use Rattle.lft_syntax.specs.Lexes.{Lexes}
use Rattle.lft_text_diagnostics.specs.{Candidates.CanStand, declared.{before.Before.Before, candidate.Candidate.Candidate}}

-- They are the tokens of the text, and it has as many as are counted.
abbrev pub AreTokens : Before → Type 0
AreTokens before = Lexes before.text.now before.tokens.now × (before.count ≤ length before.tokens.now)

-- The candidate can stand behind those that are counted.
abbrev pub CanStandBehind : Before → Candidate → Type 0
CanStandBehind before candidate = CanStand before.text.now before.count candidate
