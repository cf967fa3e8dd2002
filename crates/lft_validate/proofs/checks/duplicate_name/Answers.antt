use Rattle.std.proofs.Common.{Any, filter_map, map, subst, sym, ⊎_elim}
use Rattle.lft_tree.specs.View.{reactor_view}
use Rattle.lft_resolve.{specs.{Causes.{DuplicateName, IsTwice, SomeGivesTwice}, Kinds.names_in}, proofs.Lacking.Any-either}
use Rattle.lft_validate.specs.{Members.own_name, inner.{Members.behind, Shown.SomeShows}}
use Rattle.lft_validate.proofs.{Causes.shows_given_twice, Listing.unmapped, Sound.reactor_names}
use Rattle.lft_lists.proofs.Options.{lacking, ok_none}
use Rattle.lft_resolve.specs.declared.causes.ProgramFault.TheVariants as faults
use Rattle.lft_validate.proofs.checks.duplicate_name.Goals as goal

pub returns-clause-none : goal.returns-clause-none
unfolding DuplicateName
returns-clause-none c =
    let rs = behind c.args.reactors.now in
    let names = lacking (IsTwice (map (λ p. p.0) (filter_map own_name rs)) → ⊥) c.in_ok-found.field-0 c.in_ok-found.ensures.none c.in_default.is in
    let declared = lacking (Any (λ r. IsTwice (names_in (reactor_view r))) rs → ⊥) c.in_ok-found-2.field-0 c.in_ok-found-2.ensures.none c.in_default-2.is in
    ok_none (SomeShows rs faults.DuplicateName → ⊥) (DuplicateName (map reactor_view rs) → ⊥) c.first_member.result
    (λ none two. ⊎_elim
    (λ n. names (subst IsTwice (sym (reactor_names rs)) n))
    (λ d. ⊎_elim (λ n. declared (unmapped (λ r. IsTwice (names_in r)) reactor_view rs n)) (λ g. none (shows_given_twice rs g)) (Any-either (λ r. IsTwice (names_in r)) SomeGivesTwice (map reactor_view rs) d))
    two)
    c.first_member.ensures.none
