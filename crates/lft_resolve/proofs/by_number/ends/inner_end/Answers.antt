use Rattle.std.proofs.Common.{Some, sym, ap, ◌∙◌}
use Rattle.lft_resolve.proofs.Directed.{inner_nowhere, inner_portless, inner_there}
use Rattle.lft_resolve.proofs.by_number.ends.inner_end.Goals as goal

pub returns-in_ok-narrow-in-Some-get-clause-ok : goal.returns-in_ok-narrow-in-Some-get-clause-ok
returns-in_ok-narrow-in-Some-get-clause-ok c rs r file own =
    let held = c.in-Some.ensures rs r file own in
    inner_there rs r c.args.head.now c.args.name.now c.in-Some.instance c.in-Some.inner.now held c.in_ok-narrow-in-Some-get.field-0 (sym (held.is_own.ports c.args.name.now) ∙ sym c.get.ensures ∙ c.in-Some-get.is ∙ ap Some (sym c.in_ok-narrow-in-Some-get.ensures))

pub returns-in-None-get-clause-lost : goal.returns-in-None-get-clause-lost
returns-in-None-get-clause-lost c other rs r file own =
    let held = c.in-Some.ensures rs r file own in
    inner_portless rs r c.args.head.now c.args.name.now c.in-Some.instance c.in-Some.inner.now held (sym (held.is_own.ports c.args.name.now) ∙ sym c.get.ensures ∙ c.in-None-get.is)

pub returns-in-None-clause-lost : goal.returns-in-None-clause-lost
returns-in-None-clause-lost c other rs r file own = inner_nowhere rs r c.args.head.now c.args.name.now (c.in-None.ensures rs r file own)
