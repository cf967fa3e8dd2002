use Rattle.std.proofs.Common.{◌≤◌, ◌++◌, ◌∙◌, ℕ, List, drop, sym, subst, arith}
use Rattle.lft_log.{specs.inner.Told.IsReadSoFar, proofs.Gathering.{read_on, split_at, still_read}}
use Rattle.lft_log.proofs.rows.LogRows.add_text.Goals as goal

pub add_lines-requires-clause-stands : goal.add_lines-requires-clause-stands
add_lines-requires-clause-stands c =
    let text = c.args.text.now in
    let begin = c.loop-begin.begin in
    let end = c.in-Some.end in
    let some = c.loop-begin.invariant.some in
    let up : begin ≤ end = omega (arith, c.in-Some.ensures.within.0) in
    (some.0, some.1, drop end text ++ some.2, subst (λ (x : List ℕ). IsReadSoFar some.0 c.loop-begin.plan some.1 x c.loop-begin.self) (sym (split_at text some.2 begin end up)) (c.loop-begin.invariant.stands some.0 some.1 some.2 some.3))

pub returns-then-not-branch-clause-read : goal.returns-then-not-branch-clause-read
returns-then-not-branch-clause-read c = λ base bytes behind is.
    let text = c.args.text.now in
    let begin = c.loop-begin.begin in
    let end = c.in-Some.end in
    let up : begin ≤ end = omega (arith, c.in-Some.ensures.within.0) in
    let now = subst (λ (x : List ℕ). IsReadSoFar base c.loop-begin.plan bytes x c.loop-begin.self) (sym (split_at text behind begin end up)) (c.loop-begin.invariant.stands base bytes behind is) in
    still_read base c.add_lines.new.plan bytes (drop end text ++ behind) c.add_lines.new.self c.in_ok-add_lines.field-0 (c.in_ok-add_lines.ensures.read base bytes (drop end text ++ behind) now)

pub loop-begin-preserved : goal.loop-begin-preserved
loop-begin-preserved c =
    let text = c.args.text.now in
    let begin = c.loop-begin.begin in
    let end = c.in-Some.end in
    let inv = c.loop-begin.invariant in
    let up : begin ≤ end = omega (arith, c.in-Some.ensures.within.0) in
    record {
      within = c.in-Some.ensures.within.1;
      program = c.in_ok-add_lines.ensures.program ∙ inv.program;
      some = inv.some;
      stands = λ base bytes behind is.
          let now = subst (λ (x : List ℕ). IsReadSoFar base c.loop-begin.plan bytes x c.loop-begin.self) (sym (split_at text behind begin end up)) (inv.stands base bytes behind is) in
          read_on base c.add_lines.new.plan bytes (drop end text ++ behind) c.add_lines.new.self c.in_ok-add_lines.field-0 c.if-not-branch.false (c.in_ok-add_lines.ensures.read base bytes (drop end text ++ behind) now);
    }
