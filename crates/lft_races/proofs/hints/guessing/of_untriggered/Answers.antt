use Rattle.lft_races.specs.{declared.hints.hint.Hint.Hint as TheHint, Hints.Hints.IsUntriggeredHint}
use Rattle.lft_races.proofs.hints.guessing.of_untriggered.Goals.{else-none_writes-via-then-none_writes+else-has_port, else-none_writes-via-else-none_writes}
use Rattle.lft_lists.proofs.Options.{lacking}
use Rattle.lft_races.specs.declared.hints.hint.Hint.TheVariants as hint
use Rattle.lft_races.proofs.hints.guessing.of_untriggered.Goals as goal

pub returns-clause-none : goal.returns-clause-none
returns-clause-none c = none
  where
    none : (h : TheHint) → IsUntriggeredHint c.args.plan.now c.args.rows.now c.args.tag c.args.reaction h → ⊥
    none hint.Thousandfold is = let yes = c.in_ok-is_thousandfold.ensures.1 is in let no = c.if-branch.false in absurd (cc)
    none (hint.WholeDelay i) is = lacking _ c.in_ok-row.field-0 c.in_ok-row.ensures.none c.in_default.is i is
    none hint.RunsAtStop is = let yes = c.has_trigger.ensures.1 is in let no = c.if-has_trigger.false in absurd (cc)
    none hint.NoWrites is = elim c.else-none_writes.branch [
      | else-none_writes-via-then-none_writes+else-has_port w ↦ (let yes = w.has_port.ensures.1 is.1 in let no = w.if-has_port.false in absurd (cc))
      | else-none_writes-via-else-none_writes w ↦ (let yes = c.none_writes.ensures.1 is.0 in let no = w.if-none_writes.false in absurd (cc))
    ]
    none hint.Scheduler is = is
    none hint.NextTag is = is
    none hint.FirstOfWorker is = is
    none hint.LateRow is = is
    none hint.FirstRow is = is
    none hint.StartedTwice is = is
    none hint.OneNumber is = is
    none hint.TraceEnds is = is
    none hint.NoReads is = is
    none hint.NoRows is = is
    none hint.NoEnds is = is
    none hint.LateEnd is = is
    none hint.SmallStop is = is
