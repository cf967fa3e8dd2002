use Rattle.std.proofs.Common.{List, Any, map, sym, ◌∙◌, arith}
use Rattle.std.proofs.lemmas.List.{length-map}
use Rattle.lft_tree.specs.{Tree.ReactorTree, View.reactor_view}
use Rattle.lft_resolve.{specs.inner.Tables.IsOwn, proofs.Somes.{Any-nil, none_more, none_done}}
use Rattle.lft_validate.{specs.{inner.{Members.behind, Shown.ShowsCause}, Witnesses.HasFinding}, proofs.{Listing.stands_at, Turns.own_at}}
use Rattle.lft_lists.proofs.{Mapped.{mapped, mapped_at}, Options.{found, lacking}, Zips.long}
use Rattle.lft_validate.proofs.members.first_member.Goals as goal

pub loop-place-init : goal.loop-place-init
loop-place-init c =
    let reactors = behind c.args.reactors.now in
    record {
      as_long = sym (long IsOwn (map reactor_view reactors) c.args.file.now.owns.items c.requires.owns) ∙ length-map reactors reactor_view ∙ length-map c.args.reactors.now (λ r. r.now);
      none = Any-nil _;
    }

pub returns-in-Some-clause-shows : goal.returns-in-Some-clause-shows
returns-in-Some-clause-shows c =
    let rs : List ReactorTree = map reactor_view (behind c.args.reactors.now) in
    let item = c.index-reactors-place.result in
    let at = mapped reactor_view (behind c.args.reactors.now) c.loop-place.place item.now (mapped_at (λ r. r.now) c.args.reactors.now c.loop-place.place item c.loop-place-test.true (sym c.index-reactors-place.is)) in
    let own = own_at rs c.args.file.now.owns.items c.loop-place.place (reactor_view item.now) c.index-own.result.now c.requires.owns at (omega (arith, c.loop-place.invariant.as_long, c.loop-place-test.true)) (sym c.index-own.ensures) in
    (stands_at (λ r. r.now) c.args.reactors.now c.loop-place.place item c.loop-place-test.true (sym c.index-reactors-place.is), found (HasFinding rs item.now) c.in_ok-finding.field-0 c.in-Some.finding (c.in_ok-finding.ensures.some rs c.requires own) c.in-Some.is)

pub loop-place-preserved : goal.loop-place-preserved
loop-place-preserved c =
    let rs : List ReactorTree = map reactor_view (behind c.args.reactors.now) in
    let item = c.index-reactors-place.result in
    let at = mapped reactor_view (behind c.args.reactors.now) c.loop-place.place item.now (mapped_at (λ r. r.now) c.args.reactors.now c.loop-place.place item c.loop-place-test.true (sym c.index-reactors-place.is)) in
    let own = own_at rs c.args.file.now.owns.items c.loop-place.place (reactor_view item.now) c.index-own.result.now c.requires.owns at (omega (arith, c.loop-place.invariant.as_long, c.loop-place-test.true)) (sym c.index-own.ensures) in
    record {
      as_long = c.loop-place.invariant.as_long;
      none = none_more (λ r. r.now) (λ r. Any (λ m. ShowsCause rs (reactor_view r) m c.args.cause) r.members.items) c.args.reactors.now c.loop-place.place item c.loop-place-test.true (sym c.index-reactors-place.is) c.loop-place.invariant.none (lacking (Any (λ m. ShowsCause rs (reactor_view item.now) m c.args.cause) item.now.members.items → ⊥) c.in_ok-finding.field-0 (c.in_ok-finding.ensures.none rs c.requires own) c.in_default.is);
    }

pub returns-clause-none : goal.returns-clause-none
returns-clause-none c = none_done (λ r. r.now) (λ r. Any (λ m. ShowsCause (map reactor_view (behind c.args.reactors.now)) (reactor_view r) m c.args.cause) r.members.items) c.args.reactors.now c.loop-place.place c.loop-place-test.false c.loop-place.invariant.none
