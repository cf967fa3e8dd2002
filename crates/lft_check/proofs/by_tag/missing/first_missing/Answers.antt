use Rattle.std.proofs.Common.{◌≡◌, ℕ, length, sym, subst, arith}
use Rattle.lft_tag.specs.{declared.Tag.Tag, Tags.UpTo}
use Rattle.lft_ir.specs.Parts.{Parts}
use Rattle.lft_rows.specs.inner.Presence.Needed.{AreNeededOf}
use Rattle.lft_check.specs.inner.ByTag.{Slices.IsMissingRun, Least.AreTriggered}
use Rattle.lft_check.proofs.ByTagLemmas.{Begun.{starts_of, none_marked, none_in, marks_over, missing_of}, Missed.{first_more, first_all, known_reaction}}
use Rattle.lft_check.proofs.by_tag.missing.first_missing.Goals as goal

pub lacked-missed-requires-clause-up : goal.lacked-missed-requires-clause-up
lacked-missed-requires-clause-up c = let cut = c.args.presence.now in let s = starts_of cut.rows (length cut.plan.program.reactions) c.args.started.now c.requires.started c.loop-reaction.reaction c.at-tags.result.now c.at-tags.ensures in s.2.ascending

pub lacked-missed-requires-clause-known : goal.lacked-missed-requires-clause-known
lacked-missed-requires-clause-known c = subst (λ bs. AreTriggered c.args.presence.now c.loop-reaction.reaction c.at-tags.result.now bs) (sym c.as_mut_slice.ensures.value) (none_marked c.args.presence.now c.loop-reaction.reaction c.at-tags.result.now c.in_ok-known.known.items (none_in (length c.at-tags.result.now) c.in_ok-known.known.items (c.in_ok-known.ensures.items_if_clones_equal (λ y e. e))))

pub loop-reaction-preserved : goal.loop-reaction-preserved
loop-reaction-preserved c =
    let cut = c.args.presence.now in
    let r = c.loop-reaction.reaction in
    let s = starts_of cut.rows (length cut.plan.program.reactions) c.args.started.now c.requires.started r c.at-tags.result.now c.at-tags.ensures in
    record {
      due = c.keep_due.ensures.due;
      first = first_more (λ (r : ℕ) (g : Tag). IsMissingRun cut r g × UpTo c.args.low g) r c.loop-reaction.first c.lacked-missed.result c.first_of-first.result c.loop-reaction.invariant.first (missing_of cut r c.args.low c.at-tags.result.now s.0 c.lacked-missed.result s.2 c.lacked-missed.ensures.least) c.first_of-first.ensures;
    }

pub returns-clause-missing : goal.returns-clause-missing
returns-clause-missing c =
    let cut = c.args.presence.now in
    let count : c.reactions-reaction-end.result ≡ length cut.plan.program.reactions = c.reactions-reaction-end.ensures.count in
    first_all (λ (r : ℕ) (g : Tag). IsMissingRun cut r g × UpTo c.args.low g) c.loop-reaction.reaction c.loop-reaction.first (λ r g x. known_reaction cut g r c.loop-reaction.reaction (omega arith) x.0.triggered) c.loop-reaction.invariant.first

pub keep_due-requires-clause-known : goal.keep_due-requires-clause-known
keep_due-requires-clause-known c = subst (λ bs. AreTriggered c.args.presence.now c.loop-reaction.reaction c.at-tags.result.now bs) (sym c.as_slice-in-loop-reaction.ensures.value) (marks_over c.args.presence.now c.loop-reaction.reaction c.at-tags.result.now c.lacked-missed.new.known c.in_ok-known.known.items c.in_ok-known.known.len (none_in (length c.at-tags.result.now) c.in_ok-known.known.items (c.in_ok-known.ensures.items_if_clones_equal (λ y e. e))) c.lacked-missed.ensures.known)

pub lacked-missed-requires-clause-triggers : goal.lacked-missed-requires-clause-triggers
lacked-missed-requires-clause-triggers c =
    let own = subst (λ (p : Parts). AreNeededOf p c.loop-reaction.reaction c.in_ok-needed.needed.items) c.program.ensures.value c.in_ok-needed.ensures in
    subst (λ ys. AreNeededOf c.args.presence.now.plan.program c.loop-reaction.reaction ys) (sym c.as_slice.ensures.value) own
