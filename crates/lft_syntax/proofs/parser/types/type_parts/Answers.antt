use Rattle.std.proofs.Common.{refl, sym, ◌∙◌, arith}
use Rattle.std.proofs.lemmas.Result.{err_from_is_err_and}
use Rattle.lft_syntax.specs.inner.{Reading.{is_type_part, type_part_at, type_parts_at, ignoring_at}, Parsing.words}
use Rattle.lft_syntax.proofs.{Loop.{inside, passing_starts, passing_fails, passing_turns, passing_done}, Types.right_type_part}
use Rattle.lft_syntax.proofs.parser.types.type_parts.Goals as goal

pub list-init : goal.list-init
unfolding type_parts_at
list-init c = passing_starts is_type_part type_part_at (words c.args.input.now) c.args.at

pub returns-in_err-next : goal.returns-in_err-next
returns-in_err-next c =
    let p = err_from_is_err_and c.from_residual.result c.from_residual.ensures.1 in
    let ws = words c.args.input.now in
    rw (p.1, p.2) (passing_fails is_type_part type_part_at ws (ignoring_at type_parts_at ws c.args.at) c.list.next c.in_err-next.field-0.0 c.list.invariant (sym c.is_type_part.ensures ∙ c.list-test.true) c.in_err-next.ensures)

pub list-smaller : goal.list-smaller
list-smaller c =
    let ws = words c.args.input.now in
    let t = passing_turns is_type_part type_part_at ws (ignoring_at type_parts_at ws c.args.at) 0 right_type_part c.list.next c.in_ok-next.next c.list.invariant (inside is_type_part refl ws c.list.next (sym c.is_type_part.ensures ∙ c.list-test.true)) (sym c.is_type_part.ensures ∙ c.list-test.true) c.in_ok-next.ensures in
    omega (arith, t.1, t.2)

pub list-preserved : goal.list-preserved
list-preserved c =
    let ws = words c.args.input.now in
    (passing_turns is_type_part type_part_at ws (ignoring_at type_parts_at ws c.args.at) 0 right_type_part c.list.next c.in_ok-next.next c.list.invariant (inside is_type_part refl ws c.list.next (sym c.is_type_part.ensures ∙ c.list-test.true)) (sym c.is_type_part.ensures ∙ c.list-test.true) c.in_ok-next.ensures).0

pub returns : goal.returns
returns c =
    let ws = words c.args.input.now in
    passing_done is_type_part type_part_at ws (ignoring_at type_parts_at ws c.args.at) c.list.next c.list.invariant (sym c.is_type_part.ensures ∙ c.list-test.false)
