use Rattle.std.proofs.Common.{◌≡◌, ◌++◌, inr, List, length-append, slice_range, sym, subst, arith}
use Rattle.std.proofs.lemmas.{List.append-nil, Result.{IfOk-weaker, IfErr-weaker}}
use Rattle.lft_ir.specs.declared.steps.row.Row.{Row}
use Rattle.lft_monitor.specs.{declared.judged.Unjudged.Unjudged, Follows.IsCleanSoFar, inner.Follows.{IsEnding, IsUnjudged}}
use Rattle.lft_monitor.proofs.judged.Judged.finish.Goals as goal

pub judge-requires-clause-few : goal.judge-requires-clause-few
judge-requires-clause-few c = let f = c.requires.few in let n = c.requires.fit.few in omega (arith, f, n)

pub judge-requires-clause-kept : goal.judge-requires-clause-kept
judge-requires-clause-kept c = λ no_rules. absurd (cc)

pub returns-then-whole-clause-ended : goal.returns-then-whole-clause-ended
returns-then-whole-clause-ended c = IfOk-weaker c.end.result _ _ (λ ending told t is earlier judged.
    let plan = c.args.plan.now in
    let all = t ++ c.args.rows.now in
    let more = c.in-Ok-true.ensures.stands c.in-Ok-true.field-0-test t is in
    let same : all ++ slice_range c.args.rows.now 0 0 ≡ all = append-nil all in
    let clean = subst (λ (u : List Row). IsCleanSoFar plan u c.judge.new.self.reach) (sym same) more.clean in
    subst (λ (u : List Row). IsEnding plan c.args.whole u ending) same (told all (record { past = more.past; counted = more.counted; few = more.few; rows = more.acceptor.stands.state.settled.rows }) (λ i j x y p q. absurd (cc)) (inr clean))) c.end.ensures.ended

pub returns-then-whole-clause-unjudged : goal.returns-then-whole-clause-unjudged
returns-then-whole-clause-unjudged c = IfErr-weaker c.end.result _ _ (λ left what t is judged.
    let all = t ++ c.args.rows.now in
    let more = c.in-Ok-true.ensures.stands c.in-Ok-true.field-0-test t is in
    let long = length-append t c.args.rows.now in
    let counted = is.counted in
    subst (λ (u : Unjudged). IsUnjudged c.args.plan.now all u) (sym what) (inr more.clean, omega (arith, long, counted))) c.end.ensures.unjudged
