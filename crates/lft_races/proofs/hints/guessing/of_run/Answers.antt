use Rattle.std.proofs.Common.{◌≡◌, ◌<◌, inl, inr, ℕ, List, Some, length, ap, subst, arith}
use Rattle.std.proofs.lemmas.Option.{slice_get_within}
use Rattle.lft_ir.specs.declared.steps.row.Row.{Row}
use Rattle.lft_model.specs.{declared.breach.Breach.Breach, Plans.PlanParts}
use Rattle.lft_races.specs.{declared.hints.hint.Hint.Hint as TheHint, Hints.Hints.{IsHint, IsUntriggeredHint, OfRule8}}
use Rattle.lft_lists.proofs.Options.{ok_none}
use Rattle.lft_races.specs.declared.hints.hint.Hint.TheVariants as hint
use Rattle.lft_races.proofs.hints.guessing.of_run.Goals as goal

-- of a breach of rule 8 only the hints of its run are hints
module _ (plan : PlanParts) (t : List Row) (b : Breach) (r : ℕ) (rule : b.rule ≡ 8) (run : b.reaction ≡ Some r) where
  of_run : (h : TheHint) → (IsUntriggeredHint plan t b.tag r h → ⊥) → OfRule8 plan t b h → ⊥
  of_run h none (eight, (s, is, holds)) = none (subst (λ n. IsUntriggeredHint plan t b.tag n h) (let same : s ≡ r = cc in same) holds)

  no_hint : ((h : TheHint) → IsUntriggeredHint plan t b.tag r h → ⊥) → (h : TheHint) → IsHint plan t b h → ⊥
  no_hint none hint.Scheduler (inl late, race) = (let one = late.0 in absurd (cc))
  no_hint none hint.Scheduler (inr three, race) = absurd (cc)
  no_hint none hint.NextTag is = (let one = is.0 in absurd (cc))
  no_hint none hint.FirstOfWorker is = (let one = is.0 in absurd (cc))
  no_hint none hint.LateRow is = (let one = is.0 in absurd (cc))
  no_hint none hint.FirstRow is = (let three = is.0 in absurd (cc))
  no_hint none hint.StartedTwice is = (let three = is.0 in absurd (cc))
  no_hint none hint.OneNumber is = (let three = is.0 in absurd (cc))
  no_hint none hint.TraceEnds is = (let seven = is.0 in absurd (cc))
  no_hint none hint.NoReads is = (let ten = is.0 in absurd (cc))
  no_hint none hint.NoRows is = (let seven = is.0 in absurd (cc))
  no_hint none hint.NoEnds is = (let five = is.0 in absurd (cc))
  no_hint none hint.LateEnd is = (let five = is.0 in absurd (cc))
  no_hint none hint.SmallStop is = (let two = is.0 in absurd (cc))
  no_hint none hint.Thousandfold is = of_run hint.Thousandfold (none hint.Thousandfold) is
  no_hint none (hint.WholeDelay i) is = of_run (hint.WholeDelay i) (none (hint.WholeDelay i)) is
  no_hint none hint.RunsAtStop is = of_run hint.RunsAtStop (none hint.RunsAtStop) is
  no_hint none hint.NoWrites is = of_run hint.NoWrites (none hint.NoWrites) is

-- what a hint says is of a reaction of the program
is_reaction : (plan : PlanParts) (t : List Row) (b : Breach) (r : ℕ) (h : TheHint) → IsUntriggeredHint plan t b.tag r h → r < length plan.program.reactions
is_reaction plan t b r hint.Thousandfold is = slice_get_within plan.program.reactions r is.triggered.reaction is.triggered.is_reaction
is_reaction plan t b r (hint.WholeDelay i) is = slice_get_within plan.program.reactions r is.2.triggers.reaction is.2.triggers.is_reaction
is_reaction plan t b r hint.RunsAtStop is = slice_get_within plan.program.reactions r is.reaction is.is_reaction
is_reaction plan t b r hint.NoWrites is = slice_get_within plan.program.reactions r is.1.1.reaction is.1.1.is_reaction
is_reaction plan t b r hint.Scheduler is = absurd is
is_reaction plan t b r hint.NextTag is = absurd is
is_reaction plan t b r hint.FirstOfWorker is = absurd is
is_reaction plan t b r hint.LateRow is = absurd is
is_reaction plan t b r hint.FirstRow is = absurd is
is_reaction plan t b r hint.StartedTwice is = absurd is
is_reaction plan t b r hint.OneNumber is = absurd is
is_reaction plan t b r hint.TraceEnds is = absurd is
is_reaction plan t b r hint.NoReads is = absurd is
is_reaction plan t b r hint.NoRows is = absurd is
is_reaction plan t b r hint.NoEnds is = absurd is
is_reaction plan t b r hint.LateEnd is = absurd is
is_reaction plan t b r hint.SmallStop is = absurd is

pub returns-in-Some-clause-none : goal.returns-in-Some-clause-none
returns-in-Some-clause-none c = ok_none _ _ c.of_untriggered.result (no_hint c.args.plan.now c.args.rows.now c.args.breach c.in-Some.reaction c.requires.rule (let e = c.in-Some.is in cc)) c.of_untriggered.ensures.none

pub returns-in_default-clause-none : goal.returns-in_default-clause-none
returns-in_default-clause-none c = no_hint c.args.plan.now c.args.rows.now c.args.breach c.in-Some.reaction c.requires.rule (let e = c.in-Some.is in cc)
    (λ h is. let same : length c.program.result.now.reactions ≡ length c.args.plan.now.program.reactions = ap (λ p. length p.reactions) c.program.ensures.value in let count = c.reactions.ensures.count in let within = is_reaction c.args.plan.now c.args.rows.now c.args.breach c.in-Some.reaction h is in let past = c.if-reaction-reactions.false in absurd (omega arith))
