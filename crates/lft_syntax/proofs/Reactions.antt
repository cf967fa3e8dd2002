-- Reactions.
use Rattle.std.proofs.Common.{◌≡◌, ℕ, Bool, true, false, List, Some, refl, arith}
use Rattle.std.specs.Prelude.{slice_get, codes}
use Rattle.lft_syntax.specs.{Lexeme.{Lexeme, Code, Letters, Arrow, Symbol, is, is_name, is_reserved}, Language.{one, ◌>>◌, optional, made, ignored}}
use Rattle.lft_syntax.specs.Grammar.{name, refs, listed, enclosed, trigger, reaction, or_empty, startup_of, shutdown_of, reaction_of}
use Rattle.lft_syntax.specs.inner.Reading.{is_open, trigger_at, triggers_at, uses_at, effects_at, reaction_at}
use Rattle.lft_syntax.proofs.Algebra.{Follow, near, Right, Any, Test, Starts, Not, starts_one}
use Rattle.lft_syntax.proofs.Rules.{near_looks, and, and_if, skip, skip_if, before_if, making, ignoring, this_one, perhaps, Here, here, leads_one, leads_optional, starts_skip, starts_and, starts_before, starts_made, starts_or, choose, ended, same_follow, right_name}
use Rattle.lft_syntax.proofs.{Lists.{right_enclosed_list, starts_enclosed}, Lookahead.{starts_name, named, no_word, Reserved}}
use Rattle.lft_syntax.proofs.{References.{NoDot, right_ref, starts_ref, right_refs, starts_refs}, Declarations.leads_starts}
use Rattle.lft_tree.specs.Tree.{RefTree, OnRef}

startup_reserved : Reserved (codes "startup")
unfolding is_reserved
startup_reserved = refl

shutdown_reserved : Reserved (codes "shutdown")
unfolding is_reserved
shutdown_reserved = refl

-- ---- triggers

pub right_trigger : Right trigger NoDot near near 1 trigger_at
unfolding trigger_at
right_trigger =
    choose (is (Letters (codes "startup"))) (starts_made startup_of (starts_one (Letters (codes "startup")) (is (Letters (codes "startup"))) true refl))
    (starts_or (starts_made shutdown_of (starts_one (Letters (codes "shutdown")) (is (Letters (codes "startup"))) false refl)) (starts_made OnRef (no_word (codes "startup") startup_reserved starts_ref)))
    (ended NoDot near 1 (λ vs m h. tt) near_looks (omega arith) (making startup_of (this_one (Letters (codes "startup")))))
    (choose (is (Letters (codes "shutdown"))) (starts_made shutdown_of (starts_one (Letters (codes "shutdown")) (is (Letters (codes "shutdown"))) true refl))
    (starts_made OnRef (no_word (codes "shutdown") shutdown_reserved starts_ref))
    (ended NoDot near 1 (λ vs m h. tt) near_looks (omega arith) (making shutdown_of (this_one (Letters (codes "shutdown")))))
    (making OnRef right_ref))

starts_trigger : Starts trigger is_open true
starts_trigger = starts_or (starts_made startup_of (starts_one (Letters (codes "startup")) is_open true refl))
    (starts_or (starts_made shutdown_of (starts_one (Letters (codes "shutdown")) is_open true refl)) (starts_made OnRef (named is_open true (λ x. refl) starts_ref)))

right_triggers : Right (made or_empty (enclosed (listed trigger))) Any near near 2 triggers_at
unfolding triggers_at
right_triggers = right_enclosed_list starts_trigger (here (Symbol 41) (is (Symbol 46)) false refl) (here (Symbol 44) (is (Symbol 46)) false refl) right_trigger

starts_triggers : (go : Test) (b : Bool) → go (Some (Symbol 40)) ≡ b → Starts (made or_empty (enclosed (listed trigger))) go b
starts_triggers go b e = starts_made or_empty (starts_enclosed (listed trigger) e)

-- ---- uses and effects

-- neither a use nor a sign that references go on with stands there
abbrev UsesEnd : Follow
UsesEnd vs m = (is_name (slice_get vs m) ≡ false) × (is (Symbol 46) (slice_get vs m) ≡ false) × (is (Symbol 44) (slice_get vs m) ≡ false)

right_uses : Right (optional refs) UsesEnd near near 0 uses_at
unfolding uses_at
right_uses = perhaps UsesEnd is_name starts_refs (λ vs m h. h.0) (λ vs m h. (h.1, h.2)) right_refs

right_effects : Right (optional (one Arrow >> refs)) (Here Code) near near 0 effects_at
unfolding effects_at
right_effects = perhaps (Here Code) (is Arrow) (starts_skip refs (starts_one Arrow (is Arrow) true refl)) (here Code (is Arrow) false refl)
    (λ vs m h. (here Code (is (Symbol 46)) false refl vs m h, here Code (is (Symbol 44)) false refl vs m h)) (skip (this_one Arrow) right_refs)

uses_end : (w : Lexeme) → is_name (Some w) ≡ false → is (Symbol 46) (Some w) ≡ false → is (Symbol 44) (Some w) ≡ false → (vs : List Lexeme) (m : ℕ) → Here w vs m → UsesEnd vs m
uses_end w a b c vs m h = (here w is_name false a vs m h, here w (is (Symbol 46)) false b vs m h, here w (is (Symbol 44)) false c vs m h)

arrow_begins : (vs : List Lexeme) (i j : ℕ) (x : List RefTree) → (one Arrow >> refs) vs i j x → UsesEnd vs i
arrow_begins vs i j x s = uses_end Arrow refl refl refl vs i (leads_one Arrow Any vs i s.0 tt s.1 tt)

-- ---- the production

pub right_reaction : Right reaction Any near near 4 reaction_at
unfolding reaction_at
right_reaction =
    let head = skip (this_one (Letters (codes "reaction"))) (ignoring (perhaps (Not is_name) is_name starts_name (same_follow (Not is_name)) (λ vs m h. tt) right_name)) in
    let triggered = skip_if (leads_starts Any (starts_triggers is_name false refl)) head right_triggers in
    let whole = and_if (leads_optional (one Arrow >> refs) (Here Code) UsesEnd (uses_end Code refl refl refl) arrow_begins) (and triggered right_uses) right_effects in
    making reaction_of (before_if (leads_one Code Any) whole (this_one Code))

pub starts_reaction : (go : Test) (b : Bool) → go (Some (Letters (codes "reaction"))) ≡ b → Starts reaction go b
starts_reaction go b own = starts_made reaction_of (starts_before (one Code) (starts_and (optional (one Arrow >> refs)) (starts_and (optional refs)
    (starts_skip (made or_empty (enclosed (listed trigger))) (starts_skip (ignored (optional name)) (starts_one (Letters (codes "reaction")) go b own))))))
