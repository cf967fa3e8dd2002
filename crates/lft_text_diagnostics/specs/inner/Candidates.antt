-- Inside: what can stand where a program's text is refused, and how it is listed.
use Rattle.std.specs.Prelude.{ℕ, List, if◌then◌else◌, length, nat_lt, []}
use Rattle.lft_text_diagnostics.specs.declared.candidate.Candidate.{Candidate}

-- Where there are more than so many, none is listed.
abbrev pub few : ℕ → List Candidate → List Candidate
few most candidates = if nat_lt most (length candidates) then [] else candidates
