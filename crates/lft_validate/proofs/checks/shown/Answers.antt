use Rattle.std.proofs.Common.{map}
use Rattle.lft_tree.specs.View.{reactor_view}
use Rattle.lft_validate.{specs.inner.{Members.behind, Shown.SomeShows, Witnesses.CauseSays}, proofs.Causes.by_member}
use Rattle.lft_lists.proofs.Options.{ok_none}
use Rattle.lft_validate.proofs.checks.shown.Goals as goal

pub returns-in-NoMain-clause-none : goal.returns-in-NoMain-clause-none
returns-in-NoMain-clause-none c = rw c.in-NoMain.is c.no_main.ensures.none

pub returns-in-TwoMains-clause-none : goal.returns-in-TwoMains-clause-none
returns-in-TwoMains-clause-none c = rw c.in-TwoMains.is c.two_mains.ensures.none

pub returns-in-DuplicateName-clause-none : goal.returns-in-DuplicateName-clause-none
returns-in-DuplicateName-clause-none c = rw c.in-DuplicateName.is c.duplicate_name.ensures.none

pub returns-in-TwoSources-clause-none : goal.returns-in-TwoSources-clause-none
returns-in-TwoSources-clause-none c = rw c.in-TwoSources.is c.two_sources.ensures.none

pub returns-in-DelayTooLong-clause-none : goal.returns-in-DelayTooLong-clause-none
returns-in-DelayTooLong-clause-none c = rw c.in-DelayTooLong.is c.long_time.ensures.none

pub returns-in_default-clause-none : goal.returns-in_default-clause-none
returns-in_default-clause-none c =
    let rs = behind c.args.reactors.now in
    let cause = c.args.cause in
    ok_none (SomeShows rs cause → ⊥) (CauseSays (map reactor_view rs) cause → ⊥) c.first_member.result (λ none says. none (by_member rs cause c.in_default.not-NoMain c.in_default.not-TwoMains c.in_default.not-DuplicateName c.in_default.not-TwoSources c.in_default.not-DelayTooLong says)) c.first_member.ensures.none
