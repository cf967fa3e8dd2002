-- The target and the whole file.
use Rattle.std.proofs.Common.{◌≡◌, ℕ, suc, Bool, true, false, List, Some, None, refl, ap, ◌∙◌, arith}
use Rattle.std.specs.Prelude.{slice_get, codes}
use Rattle.lft_syntax.specs.Lexeme.{Lexeme, Letters, Symbol, is, is_there}
use Rattle.lft_syntax.specs.inner.{Tests.{is_word_of, preamble_keys}, Reading.{maybe, target_at, item_at, items_at, file_at}}
use Rattle.lft_syntax.specs.{Language.{optional, many, ignored}, Grammar.{name, braces, target, item, file, file_of}}
use Rattle.lft_syntax.proofs.Algebra.{Follow, near, Right, Leads, Any, Test, Starts, Not, starts_one}
use Rattle.lft_syntax.proofs.Rules.{near_looks, and_if, skip, making, ignoring, this_one, perhaps, leads_many, starts_skip, starts_range, starts_made, starts_or, repeat, choose, taking, same_follow, right_name}
use Rattle.lft_syntax.proofs.{Values.{right_braces, starts_group}, Declarations.{ranging, right_preamble, starts_preamble}}
use Rattle.lft_syntax.proofs.Reactors.{right_reactor, starts_reactor}
use Rattle.lft_tree.specs.Tree.{ItemTree, PreambleItem, ReactorItem}

-- ---- the target

pub right_target : Right target (Not (is (Symbol 123))) near near 2 target_at
unfolding target_at
right_target = ranging (skip (skip (this_one (Letters (codes "target"))) (ignoring right_name))
    (ignoring (perhaps (Not (is (Symbol 123))) (is (Symbol 123)) (starts_group (Symbol 123) (Symbol 125) (is (Symbol 123)) true refl) (same_follow (Not (is (Symbol 123)))) (λ vs m h. tt) right_braces)))

starts_target : (go : Test) (b : Bool) → go (Some (Letters (codes "target"))) ≡ b → Starts target go b
starts_target go b e = starts_range (starts_skip (ignored (optional braces)) (starts_skip (ignored name) (starts_one (Letters (codes "target")) go b e)))

-- ---- items

pub starts_item : (go : Test) (b : Bool) → go (Some (Letters (codes "private"))) ≡ b → go (Some (Letters (codes "public"))) ≡ b → go (Some (Letters (codes "preamble"))) ≡ b
    → go (Some (Letters (codes "reactor"))) ≡ b → go (Some (Letters (codes "main"))) ≡ b → Starts item go b
starts_item go b hidden shown own plain main = starts_or (starts_made PreambleItem (starts_preamble go b hidden shown own)) (starts_made ReactorItem (starts_reactor go b plain main))

pub right_item : Right item Any near near (suc 0) item_at
unfolding item_at
right_item = choose (is_word_of preamble_keys) (starts_made PreambleItem (starts_preamble (is_word_of preamble_keys) true refl refl refl)) (starts_made ReactorItem (starts_reactor (is_word_of preamble_keys) false refl refl))
    (taking 1 (omega arith) (making PreambleItem right_preamble)) (taking 1 (omega arith) (making ReactorItem right_reactor))

-- nothing stands there
abbrev pub AtEnd : Follow
AtEnd vs m = slice_get vs m ≡ None

at_end : (go : Test) → go None ≡ false → (vs : List Lexeme) (m : ℕ) → AtEnd vs m → go (slice_get vs m) ≡ false
at_end go e vs m h = ap go h ∙ e

pub right_items : Right (many item) AtEnd near near 0 items_at
unfolding items_at
right_items = repeat AtEnd near is_there near_looks (λ ws i e. omega arith) (starts_item is_there true refl refl refl refl refl) (at_end is_there refl) (λ vs m h. tt) (λ vs i j x s. tt) right_item

-- ---- the file

-- neither a target nor its group stands there
abbrev pub TargetEnd : Follow
TargetEnd vs m = (is (Letters (codes "target")) (slice_get vs m) ≡ false) × (is (Symbol 123) (slice_get vs m) ≡ false)

item_begins : (vs : List Lexeme) (i j : ℕ) (x : ItemTree) → item vs i j x → TargetEnd vs i
item_begins vs i j x s = ((starts_item (is (Letters (codes "target"))) false refl refl refl refl refl).at vs i j x s, (starts_item (is (Symbol 123)) false refl refl refl refl refl).at vs i j x s)

pub right_maybe_target : Right (optional target) TargetEnd near near 0 (maybe (is (Letters (codes "target"))) target_at)
right_maybe_target = perhaps TargetEnd (is (Letters (codes "target"))) (starts_target (is (Letters (codes "target"))) true refl) (λ vs m h. h.0) (λ vs m h. h.1) right_target

leads_items : Leads (many item) AtEnd TargetEnd
leads_items = leads_many item AtEnd TargetEnd (λ vs m h. (at_end (is (Letters (codes "target"))) refl vs m h, at_end (is (Symbol 123)) refl vs m h)) item_begins

pub right_file : Right file AtEnd near near 0 file_at
unfolding file_at
right_file = making file_of (and_if leads_items right_maybe_target right_items)
