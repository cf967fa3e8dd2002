use Rattle.std.proofs.Common.{sym, ◌∙◌}
use Rattle.lft_validate.{specs.Findings.IsNothing, proofs.Listing.there}
use Rattle.lft_resolve.proofs.Somes.{none_done, none_more}
use Rattle.lft_validate.proofs.unknown.first_nothing.Goals as goal

pub returns-clause-none : goal.returns-clause-none
returns-clause-none c rs r file own = none_done (λ x. x.now) (IsNothing rs r) c.args.names.now c.loop-name.name-index c.loop-name-test.false (c.loop-name.invariant rs r file own)

pub loop-name-preserved : goal.loop-name-preserved
loop-name-preserved c rs r file own = none_more (λ x. x.now) (IsNothing rs r) c.args.names.now c.loop-name.name-index c.name-item.result c.loop-name-test.true (sym c.name-item.is) (c.loop-name.invariant rs r file own) (λ none. there c.kind_of.result c.if-is_none.ensures (c.kind_of.ensures rs r file own ∙ none))
