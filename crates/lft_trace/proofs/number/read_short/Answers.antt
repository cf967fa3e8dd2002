use Rattle.std.proofs.Common.{arith, rules, ◌≡◌, ◌∙◌, sym, get_or, true, false, drop, ◌≤◌}
use Rattle.std.specs.Char.{is_ascii_digit}
use Rattle.lft_trace.proofs.Digits.{is_small, start, step, no_digit, too_large, done, grown, room}
use Rattle.lft_trace.proofs.number.read_short.Goals as goal

pub loop-at-init : goal.loop-at-init
loop-at-init c = record { small = omega arith; same = start c.args.limit c.args.field.now (search rules) }

pub returns-then-not-is_ascii_digit-clause-value : goal.returns-then-not-is_ascii_digit-clause-value
returns-then-not-is_ascii_digit-clause-value c =
    let i : is_ascii_digit (get_or c.args.field.now c.loop-at.at 0) ≡ false = search rules in
    sym (no_digit c.args.limit c.loop-at.number c.loop-at.at c.args.field.now (omega arith) i) ∙ c.loop-at.invariant.same

pub overflow_mul-number : goal.overflow_mul-number
overflow_mul-number c =
    let r = room c.loop-at.at c.loop-at.number (omega arith) c.loop-at.invariant.small in
    omega arith

pub overflow_add-number : goal.overflow_add-number
overflow_add-number c =
    let r = room c.loop-at.at c.loop-at.number (omega arith) c.loop-at.invariant.small in
    let i : is_ascii_digit (get_or c.args.field.now c.loop-at.at 0) ≡ true = search rules in
    let s : (48 ≤ get_or c.args.field.now c.loop-at.at 0) × (get_or c.args.field.now c.loop-at.at 0 ≤ 57) = is_small _ i in
    omega arith

pub loop-at-preserved : goal.loop-at-preserved
loop-at-preserved c =
    let i : is_ascii_digit (get_or c.args.field.now c.loop-at.at 0) ≡ true = search rules in
    let s : (48 ≤ get_or c.args.field.now c.loop-at.at 0) × (get_or c.args.field.now c.loop-at.at 0 ≤ 57) = is_small _ i in
    record { small = grown c.loop-at.at c.loop-at.number _ c.loop-at.invariant.small s.1; same = sym (step c.args.limit c.loop-at.number c.loop-at.at c.args.field.now (omega arith) i) ∙ c.loop-at.invariant.same }

pub returns-then-number-limit-clause-value : goal.returns-then-number-limit-clause-value
returns-then-number-limit-clause-value c =
    sym (too_large c.args.limit c.loop-at.number (drop c.loop-at.at c.args.field.now) (omega arith)) ∙ c.loop-at.invariant.same

pub returns-clause-value : goal.returns-clause-value
returns-clause-value c = sym (done c.args.limit c.loop-at.number c.loop-at.at c.args.field.now (omega arith) (omega arith)) ∙ c.loop-at.invariant.same
