-- Inside: at which tokens the references that are made stand.
use Rattle.std.specs.Prelude.{ℕ, List, flat_map, map, ◌≡◌, ◌++◌}
use Rattle.lft_tree.specs.declared.tree.Reference.{Reference as Core}
use Rattle.lft_whole.specs.declared.tree.Reference.{Reference}
use Rattle.lft_lower.specs.inner.Meanings.Meanings.{Here, places_in}
use Rattle.std.specs.List.{All}

-- the tokens at which core references stand
abbrev pub ref_tokens : List Core → List ℕ
ref_tokens rs = map (λ r. r.at) rs

-- each place of a reference stands at the reference's own token, its first name; the tokens of its file have these numbers
abbrev pub tokens_of : (ℕ → ℕ) → Here → Reference → List ℕ
tokens_of number h r = map (λ place. number r.head.at) (places_in h r)

-- the same of references, one after another
abbrev pub all_tokens : (ℕ → ℕ) → Here → List Reference → List ℕ
all_tokens number h rs = flat_map (tokens_of number h) rs

-- ---- for the crate's own contracts
-- core references that stand at this token are put behind those that there were
abbrev pub AddsAt : List Core → List Core → ℕ → Type 0
AddsAt old new at = (more : List Core) × All (λ r. r.at ≡ at) more × (new ≡ old ++ more)
