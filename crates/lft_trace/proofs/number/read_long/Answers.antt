use Rattle.std.proofs.Common.{arith, rules, ◌≡◌, ◌∙◌, sym, get_or, true, false, drop, ◌<◌, ◌≤◌, ◌+◌, ◌-◌, ◌*◌}
use Rattle.std.specs.Char.{is_ascii_digit}
use Rattle.lft_trace.proofs.Digits.{is_small, start, step, no_digit, too_large, done}
use Rattle.lft_trace.proofs.number.read_long.Goals.{then-number-most-via-then-number-most, then-number-most-via-else-number-most+then-digit-limit}
use Rattle.lft_trace.proofs.number.read_long.Goals as goal

pub loop-at-init : goal.loop-at-init
loop-at-init c = record { small = omega arith; same = start c.args.limit c.args.field.now (search rules) }

pub returns-then-not-is_ascii_digit-clause-value : goal.returns-then-not-is_ascii_digit-clause-value
returns-then-not-is_ascii_digit-clause-value c =
    let i : is_ascii_digit (get_or c.args.field.now c.loop-at.at 0) ≡ false = search rules in
    sym (no_digit c.args.limit c.loop-at.number c.loop-at.at c.args.field.now (omega arith) i) ∙ c.loop-at.invariant.same

pub returns-then-number-most-clause-value : goal.returns-then-number-most-clause-value
returns-then-number-most-clause-value c =
    let i : is_ascii_digit (get_or c.args.field.now c.loop-at.at 0) ≡ true = search rules in
    let s : (48 ≤ get_or c.args.field.now c.loop-at.at 0) × (get_or c.args.field.now c.loop-at.at 0 ≤ 57) = is_small _ i in
    let large : c.args.limit < c.loop-at.number * 10 + (get_or c.args.field.now c.loop-at.at 0 - 48) = elim c.then-number-most.branch [
      | then-number-most-via-then-number-most w ↦ omega arith
      | then-number-most-via-else-number-most+then-digit-limit w ↦ omega arith
    ] in
    sym (step c.args.limit c.loop-at.number c.loop-at.at c.args.field.now (omega arith) i ∙ too_large c.args.limit (c.loop-at.number * 10 + (get_or c.args.field.now c.loop-at.at 0 - 48)) (drop (c.loop-at.at + 1) c.args.field.now) large) ∙ c.loop-at.invariant.same

pub loop-at-preserved : goal.loop-at-preserved
loop-at-preserved c =
    let i : is_ascii_digit (get_or c.args.field.now c.loop-at.at 0) ≡ true = search rules in
    let s : (48 ≤ get_or c.args.field.now c.loop-at.at 0) × (get_or c.args.field.now c.loop-at.at 0 ≤ 57) = is_small _ i in
    record { small = omega arith; same = sym (step c.args.limit c.loop-at.number c.loop-at.at c.args.field.now (omega arith) i) ∙ c.loop-at.invariant.same }

pub returns-clause-value : goal.returns-clause-value
returns-clause-value c = sym (done c.args.limit c.loop-at.number c.loop-at.at c.args.field.now (omega arith) c.loop-at.invariant.small) ∙ c.loop-at.invariant.same
