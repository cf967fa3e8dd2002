use Rattle.std.proofs.Common.{◌≡◌, Contains, sym, ◌∙◌, false}
use Rattle.lft_tree.specs.View.{ref_view}
use Rattle.lft_validate.{specs.inner.Seen.has_seen, proofs.{Listing.stands_at, sources.first_shared.Goals.{in-Some, in-None}}}
use Rattle.lft_resolve.{specs.inner.References.ref_trees, proofs.Somes.{none_more, none_done, Contains-Any}}
use Rattle.lft_validate.proofs.sources.first_shared.Goals as goal

pub returns-then-has-clause-some : goal.returns-then-has-clause-some
returns-then-has-clause-some c =
    let item = c.index-destinations-place.result in
    let here = stands_at (λ r. r.now) c.args.destinations.now c.loop-place.place item c.loop-place-test.true (sym c.index-destinations-place.is) in
    elim c.match-same_among.branch [
      | in-Some w ↦ rw w.result-is (here, w.in-Some.ensures.some.0, sym w.in-Some.ensures.some.1)
      | in-None w ↦ rw w.result-is tt
    ]

pub returns-then-has-clause-none : goal.returns-then-has-clause-none
returns-then-has-clause-none c =
    let met = c.in_ok-written.ensures.known (ref_view c.index-destinations-place.result.now) (sym c.has.ensures ∙ c.if-has.true) in
    elim c.match-same_among.branch [ in-Some w ↦ rw w.result-is tt | in-None w ↦ rw w.result-is (absurd (w.in-None.ensures.none met)) ]

pub loop-place-preserved : goal.loop-place-preserved
loop-place-preserved c =
    let effects = ref_trees c.args.effects.now in
    let item = c.index-destinations-place.result in
    none_more (λ r. ref_view r.now) (λ ref. Contains effects ref) c.args.destinations.now c.loop-place.place item c.loop-place-test.true (sym c.index-destinations-place.is) c.loop-place.invariant (λ met. (
    let t = c.in_ok-written.ensures.passes (ref_view item.now) (Contains-Any effects (ref_view item.now) met) in
    let f : has_seen c.in_ok-written.written (ref_view item.now) ≡ false = sym c.has.ensures ∙ c.if-has.false in
    absurd (cc)
    ))

pub returns-clause-none : goal.returns-clause-none
returns-clause-none c = none_done (λ r. ref_view r.now) (λ ref. Contains (ref_trees c.args.effects.now) ref) c.args.destinations.now c.loop-place.place c.loop-place-test.false c.loop-place.invariant
