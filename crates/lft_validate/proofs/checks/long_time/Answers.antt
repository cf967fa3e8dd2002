use Rattle.std.proofs.Common.{Any, map, ⊎_elim}
use Rattle.lft_tree.specs.View.{reactor_view}
use Rattle.lft_resolve.specs.Causes.{HasLongTime}
use Rattle.lft_validate.{specs.inner.{Members.behind, Shown.SomeShows}, proofs.Causes.long}
use Rattle.lft_lists.proofs.Options.{ok_none}
use Rattle.lft_resolve.specs.declared.causes.ProgramFault.TheVariants as faults
use Rattle.lft_validate.proofs.checks.long_time.Goals as goal

pub returns-clause-none : goal.returns-clause-none
returns-clause-none c =
    let rs = behind c.args.reactors.now in
    ok_none (SomeShows rs faults.DelayTooLong → ⊥) (Any HasLongTime (map reactor_view rs) → ⊥) c.first_member.result (λ none a. ⊎_elim (λ d. c.in_default.ensures.none d) (λ m. none m) (long rs a)) c.first_member.ensures.none
