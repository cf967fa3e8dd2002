-- References.
use Rattle.std.proofs.Common.{◌≡◌, ℕ, true, false, List, refl, arith}
use Rattle.std.specs.Prelude.{slice_get}
use Rattle.lft_syntax.specs.{Lexeme.{Lexeme, Symbol, is, is_name}, Language.{Spelling, ◌>>◌, optional, many}}
use Rattle.lft_syntax.specs.{Grammar.{symbol, name, ref, refs, ref_of, with_first}, inner.Reading.{ref_at, refs_at}}
use Rattle.lft_syntax.proofs.Algebra.{Follow, near, Right, Leads, Starts, Not, starts_one, loosen}
use Rattle.lft_syntax.proofs.Rules.{and, skip, making, this_one, perhaps, here, starts_skip, starts_and, starts_made, same_follow, right_name}
use Rattle.lft_syntax.proofs.{Lookahead.{past_name, past_looks, Ends, no_symbol, name_first, starts_name}, Lists.right_listed}

abbrev pub NoDot : Follow
NoDot = Not (is (Symbol 46))

-- neither a dot nor a comma stands there
abbrev pub RefsEnd : Follow
RefsEnd vs m = (is (Symbol 46) (slice_get vs m) ≡ false) × (is (Symbol 44) (slice_get vs m) ≡ false)

-- a reference, where a member may begin with it
pub right_ref_first : Right ref NoDot past_name near 1 ref_at
unfolding ref_at
right_ref_first = making ref_of (and name_first (perhaps NoDot (is (Symbol 46)) (starts_skip name (starts_one (Symbol 46) (is (Symbol 46)) true refl)) (same_follow NoDot) (λ vs m a. tt) (skip (this_one (Symbol 46)) right_name)))

pub right_ref : Right ref NoDot near near 1 ref_at
right_ref = loosen NoDot near near 1 (same_follow NoDot) past_looks (λ ws i. omega arith) (omega arith) right_ref_first

pub starts_ref : Starts ref is_name true
starts_ref = starts_made ref_of (starts_and (optional (symbol 46 >> name)) starts_name)

pub right_refs_first : Right refs RefsEnd past_name near 1 refs_at
unfolding refs_at
right_refs_first = right_listed RefsEnd past_looks (λ vs m a. a.1) (λ vs m a. a.0) (here (Symbol 44) (is (Symbol 46)) false refl) right_ref_first

pub right_refs : Right refs RefsEnd near near 1 refs_at
right_refs = loosen RefsEnd near near 1 (same_follow RefsEnd) past_looks (λ ws i. omega arith) (omega arith) right_refs_first

pub starts_refs : Starts refs is_name true
starts_refs = starts_made with_first (starts_and (many (symbol 44 >> ref)) starts_ref)

pub ends_refs : (vs : List Lexeme) (m : ℕ) → Ends vs m → RefsEnd vs m
ends_refs vs m h = (no_symbol 46 refl vs m h, no_symbol 44 refl vs m h)

-- what begins otherwise may stand after references
pub leads_refs : {A : Type 0} {Q : Spelling A} (G : Follow) → Starts Q (is (Symbol 46)) false → Starts Q (is (Symbol 44)) false → Leads Q G RefsEnd
leads_refs G dot comma vs i j x s after = (dot.at vs i j x s, comma.at vs i j x s)
