use Rattle.std.proofs.Common.{suc, ◌∙◌, sym, length}
use Rattle.std.proofs.lemmas.Result.{err_from_is_err_and}
use Rattle.lft_syntax.{specs.{Lexeme.Symbol, inner.{Reading.inside_at, Parsing.words}}, proofs.Inside.{rest_past, within_is, within_turns, within_fails}}
use Rattle.lft_syntax.proofs.parser.groups.inside.Goals as goal

pub returns-in_err-still_open : goal.returns-in_err-still_open
returns-in_err-still_open c =
    let p = err_from_is_err_and c.from_residual.result c.from_residual.ensures.1 in
    let ws = words c.args.input.now in
    let total = inside_at (Symbol c.args.opening) (Symbol c.args.closing) (suc (length ws)) 0 ws c.args.at in
    rw (p.1, p.2) (within_fails (Symbol c.args.opening) (Symbol c.args.closing) ws total c.group.depth c.group.next c.in_err-still_open.field-0.0 c.group.invariant
    (c.in_err-still_open.ensures.steps (rest_past (Symbol c.args.opening) (Symbol c.args.closing) ws total c.group.depth c.group.next c.group.invariant)))

pub group-preserved : goal.group-preserved
group-preserved c =
    let ws = words c.args.input.now in
    let total = inside_at (Symbol c.args.opening) (Symbol c.args.closing) (suc (length ws)) 0 ws c.args.at in
    let e = rw c.in-Some.is at c.in_ok-still_open.ensures in
    within_turns (Symbol c.args.opening) (Symbol c.args.closing) ws total c.group.depth c.group.next c.in-Some.still_open c.group.invariant e.inside.0 e.shallow
    (e.steps (rest_past (Symbol c.args.opening) (Symbol c.args.closing) ws total c.group.depth c.group.next c.group.invariant))

pub returns-in-None : goal.returns-in-None
returns-in-None c =
    let ws = words c.args.input.now in
    let total = inside_at (Symbol c.args.opening) (Symbol c.args.closing) (suc (length ws)) 0 ws c.args.at in
    let e = rw c.in-None.is at c.in_ok-still_open.ensures in
    sym (within_is (Symbol c.args.opening) (Symbol c.args.closing) ws total c.group.depth c.group.next c.group.invariant)
    ∙ e.steps (rest_past (Symbol c.args.opening) (Symbol c.args.closing) ws total c.group.depth c.group.next c.group.invariant)
