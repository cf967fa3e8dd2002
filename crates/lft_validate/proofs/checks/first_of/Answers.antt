use Rattle.std.proofs.Common.{◌≡◌, get_or, map, subst, sym}
use Rattle.std.proofs.lemmas.Option.{get_or_from_slice_get, slice_get-get_or}
use Rattle.lft_tree.specs.View.{reactor_view}
use Rattle.lft_resolve.{specs.{Causes.{IsFirst, number_of}, declared.causes.ProgramFault.TheVariants.NoMain}, proofs.Somes.{Any-nil, none_done, none_more}}
use Rattle.lft_validate.specs.{Witnesses.{Shows, fault_shown}, inner.{Members.behind, Witnesses.{CauseSays, causes_in_order}}}
use Rattle.lft_validate.proofs.Sound.{first_there, held, none_says}
use Rattle.lft_lists.proofs.Options.{found, lacking}
use Rattle.lft_validate.proofs.checks.first_of.Goals as goal

pub loop-place-init : goal.loop-place-init
loop-place-init c = Any-nil _

pub returns-in-Some : goal.returns-in-Some
returns-in-Some c =
    let rs = map reactor_view (behind c.args.reactors.now) in
    let causes = c.args.causes.now in
    let place = c.loop-place.place in
    let cause = get_or causes place NoMain in
    let is : get_or causes place cause ≡ cause = get_or_from_slice_get causes place cause cause (slice_get-get_or causes place NoMain c.loop-place-test.true) in
    let w = c.in-Some.found in
    let shows = found (Shows (behind c.args.reactors.now)) c.in_ok-found.field-0 w c.in_ok-found.ensures.shows c.in-Some.is in
    let of = found (λ w. fault_shown w ≡ cause) c.in_ok-found.field-0 w c.in_ok-found.ensures.cause c.in-Some.is in
    (shows, subst (λ f. IsFirst (causes_in_order rs causes) (number_of f)) (sym of) (first_there (behind c.args.reactors.now) causes place cause c.loop-place-test.true is c.loop-place.invariant (subst (CauseSays rs) of (held (behind c.args.reactors.now) w shows))))

pub loop-place-preserved : goal.loop-place-preserved
loop-place-preserved c =
    let rs = map reactor_view (behind c.args.reactors.now) in
    let causes = c.args.causes.now in
    let place = c.loop-place.place in
    let cause = get_or causes place NoMain in
    let is : get_or causes place cause ≡ cause = get_or_from_slice_get causes place cause cause (slice_get-get_or causes place NoMain c.loop-place-test.true) in
    none_more (λ c. c) (CauseSays rs) causes place cause c.loop-place-test.true is c.loop-place.invariant (lacking (CauseSays rs cause → ⊥) c.in_ok-found.field-0 c.in_ok-found.ensures.none c.in_default.is)

pub returns : goal.returns
returns c =
    let rs = map reactor_view (behind c.args.reactors.now) in
    none_says (behind c.args.reactors.now) c.args.causes.now (none_done (λ c. c) (CauseSays rs) c.args.causes.now c.loop-place.place c.loop-place-test.false c.loop-place.invariant)
