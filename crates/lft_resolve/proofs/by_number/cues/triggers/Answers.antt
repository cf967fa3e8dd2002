use Rattle.std.proofs.Common.{IsSomeAnd, map, take, sym}
use Rattle.std.proofs.lemmas.Result.{err_from_is_err_and}
use Rattle.lft_tree.specs.View.{trigger_view}
use Rattle.lft_resolve.specs.{inner.{Lost.IsLost, Sheets.IsCue}, Kinds.ref_in, declared.kinds.Role.TheVariants.Read}
use Rattle.lft_resolve.proofs.{Files.AllZip-last, Somes.some_here, Twice.map_last}
use Rattle.lft_resolve.proofs.by_number.cues.triggers.Goals as goal

pub returns-in_err-cue-clause-lost : goal.returns-in_err-cue-clause-lost
returns-in_err-cue-clause-lost c =
    let p = err_from_is_err_and c.from_residual.result c.from_residual.ensures.1 in
    rw (p.1, p.2)
    (λ other rs r file own. some_here trigger_view (λ t. IsSomeAnd (ref_in t) (λ ref. IsLost rs r (Read, ref))) c.args.triggers.now c.loop-trigger.trigger-index c.trigger-item.result c.loop-trigger-test.true (sym c.trigger-item.is) (c.in_err-cue.ensures.lost other rs r file own))

pub loop-trigger-preserved : goal.loop-trigger-preserved
loop-trigger-preserved c rs r file own =
    rw (c.in_ok-push.ensures.items, map_last trigger_view c.args.triggers.now c.loop-trigger.trigger-index c.trigger-item.result c.loop-trigger-test.true (sym c.trigger-item.is))
    (AllZip-last (IsCue rs r) (map trigger_view (take c.loop-trigger.trigger-index c.args.triggers.now)) c.loop-trigger.cues.items (trigger_view c.trigger-item.result) _ (c.loop-trigger.invariant rs r file own) (c.in_ok-cue.ensures.ok rs r file own))
