use Rattle.std.proofs.Common.{rules, ◌≡◌, ◌∙◌, ◌+◌, ℕ, true, ap, arith}
use Rattle.std.proofs.lemmas.Result.{IfOk-weaker}
use Rattle.lft_tables.proofs.records.Records.next.Goals as goal

pub returns-clause-found : goal.returns-clause-found
returns-clause-found g c = IfOk-weaker c.give-2.result _ _ (λ found next _ p.
    let some : c.in_ok-go_on.field-0 ≡ true = search rules in
    let gone = (c.in_ok-go_on.ensures.found some).1 p in
    let now = next gone.0 in
    let line = c.go_on.ensures.line in
    let last = c.go_on.ensures.last in
    let within = now.within in
    record { plain = now.plain; left = gone.1 ∙ now.left; line = now.line ∙ ap (λ (n : ℕ). n + 1) line; within = omega (arith, within, line, last); last = now.last ∙ last }) c.give-2.ensures.next
