use Rattle.std.proofs.Common.{◌≡◌, length, sym, ap, ◌∙◌, subst, arith}
use Rattle.lft_ir.specs.Parts.{Parts}
use Rattle.lft_rows.proofs.PresenceLemmas.{Leasts.at_reaction, Needing.needed_all}
use Rattle.lft_rows.specs.{Presence.Traces.{TraceParts, LeastTag}, inner.Presence.Needed.{AreNeeded, AreNeededOf}}
use Rattle.lft_check.specs.{inner.ByTag.Least.Lacks, ByTag.Slices.IsVacant}
use Rattle.lft_check.proofs.ByTagLemmas.{Begun.vacant_of, Missed.{first_more, first_all, known_reaction}}
use Rattle.lft_check.proofs.by_tag.sliced.Sliced.gap.Goals as goal

pub loop-reaction-preserved : goal.loop-reaction-preserved
loop-reaction-preserved c =
    let cut = c.args.self.now in
    let r = c.loop-reaction.reaction in
    first_more (IsVacant cut) r c.loop-reaction.first c.lacked-vacant.result c.first_of-first.result c.loop-reaction.invariant (vacant_of cut r c.args.tags.now c.lacked-vacant.result c.requires (subst (λ (z : TraceParts). LeastTag (Lacks z (record { time = 0; micro = 0 }) c.args.tags.now r) c.lacked-vacant.result) c.presence-presence.ensures c.lacked-vacant.ensures.least)) c.first_of-first.ensures

pub returns : goal.returns
returns c =
    let cut = c.args.self.now in
    let count : c.reactions-reaction-end.result ≡ length cut.plan.program.reactions = c.reactions-reaction-end.ensures.count ∙ ap (λ (z : TraceParts). length z.plan.program.reactions) c.presence-presence.ensures in
    first_all (IsVacant cut) c.loop-reaction.reaction c.loop-reaction.first (λ r g x. known_reaction cut g r c.loop-reaction.reaction (omega arith) x.triggered) c.loop-reaction.invariant

pub lacked-vacant-requires-clause-triggers : goal.lacked-vacant-requires-clause-triggers
lacked-vacant-requires-clause-triggers c =
    let x = c.reaction.result.now in
    let own = at_reaction c.program.result.now c.args.self.now.plan.program c.loop-reaction.reaction x (c.program.ensures.value ∙ ap (λ (z : TraceParts). z.plan.program) c.presence-presence.ensures) c.reaction.ensures.value in
    subst (λ (p : Parts). AreNeededOf p c.loop-reaction.reaction c.as_slice-triggers.result.now) (sym (ap (λ (z : TraceParts). z.plan.program) c.presence-presence.ensures)) (x, own, subst (λ ys. AreNeeded c.args.self.now.plan.program x.triggers ys) (sym c.as_slice-triggers.ensures) (needed_all c.args.self.now.plan.program x.triggers))
