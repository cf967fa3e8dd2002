-- Connections.
use Rattle.std.proofs.Common.{◌≡◌, ℕ, ◌+◌, true, false, List, Option, Some, refl}
use Rattle.std.specs.Prelude.{slice_get, codes}
use Rattle.lft_syntax.specs.{Lexeme.{Lexeme, Letters, Arrow, Symbol, is, is_name, is_reserved}, inner.{Tests.closes_at, Reading.{after_at, connection_at}}}
use Rattle.lft_syntax.specs.{Language.{one, ◌>>◌, optional}, Grammar.{key, ptime, refs, connection, connection_of}}
use Rattle.lft_syntax.proofs.Algebra.{near, Right, Any, Starts, starts_one}
use Rattle.lft_syntax.proofs.Rules.{and, and_if, skip, before_if, making, this_one, perhaps_to, leads_optional, starts_skip, starts_and, starts_before, starts_made, same_follow}
use Rattle.lft_syntax.proofs.{Lookahead.{far, past_name, Ends, far_looks, ends_word}, Times.right_pdelay}
use Rattle.lft_syntax.proofs.References.{RefsEnd, right_refs, right_refs_first, starts_refs, ends_refs, leads_refs}
use Rattle.lft_tree.specs.Tree.{TimeTree}

after_ends_nothing : (q : Option Lexeme) → closes_at (Some (Letters (codes "after"))) q ≡ false
unfolding is_reserved
after_ends_nothing q = refl

right_after : Right (optional (key (codes "after") >> ptime)) Ends near far 0 after_at
unfolding after_at
right_after = perhaps_to Ends (is (Letters (codes "after"))) far_looks (starts_skip ptime (starts_one (Letters (codes "after")) (is (Letters (codes "after"))) true refl))
    (λ vs m h. ends_word (codes "after") after_ends_nothing (slice_get vs m) (slice_get vs (m + 1)) h) (same_follow Ends) (skip (this_one (Letters (codes "after"))) right_pdelay)

after_begins : (vs : List Lexeme) (i j : ℕ) (x : TimeTree) → (key (codes "after") >> ptime) vs i j x → RefsEnd vs i
after_begins vs i j x s = leads_refs Any (starts_skip ptime (starts_one (Letters (codes "after")) (is (Symbol 46)) false refl)) (starts_skip ptime (starts_one (Letters (codes "after")) (is (Symbol 44)) false refl)) vs i j x s tt

pub right_connection : Right connection Ends past_name far 3 connection_at
unfolding connection_at
right_connection = making connection_of (and_if (leads_optional (key (codes "after") >> ptime) Ends RefsEnd ends_refs after_begins)
    (and (before_if (leads_refs Any (starts_one Arrow (is (Symbol 46)) false refl) (starts_one Arrow (is (Symbol 44)) false refl)) right_refs_first (this_one Arrow)) right_refs)
    right_after)

pub starts_connection : Starts connection is_name true
starts_connection = starts_made connection_of (starts_and (optional (key (codes "after") >> ptime)) (starts_and refs (starts_before (one Arrow) starts_refs)))
