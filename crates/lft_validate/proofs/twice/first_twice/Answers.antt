use Rattle.std.proofs.Common.{◌≡◌, ℕ, List, [], Bor, bytes_eq, get_or, take, sym, subst}
use Rattle.std.proofs.lemmas.Slice.Eq.{bytes_eq-Decides}
use Rattle.lft_resolve.specs.inner.Tests.{IsTestOf, has_text, texts}
use Rattle.lft_resolve.proofs.{Tested.{test_more, was_new, was_met}, Twice.{get_or-itself, map_last, once_more, once_done}}
use Rattle.lft_lists.proofs.{Mapped.mapped_at, Options.none_weaker}
use Rattle.lft_validate.proofs.twice.first_twice.Goals as goal

abbrev text : List ℕ → Bor (List ℕ)
text q = record { ref_ptr = (0, 0); now = q }

pub returns-then-not-branch-clause-none : goal.returns-then-not-branch-clause-none
returns-then-not-branch-clause-none c =
    let names = c.args.names.now in
    let place = c.loop-place.place in
    let item = get_or names place (text []) in
    let same : get_or names place item ≡ item = get_or-itself names place (text []) c.loop-place-test.true in
    let met = was_met (has_text c.loop-place.seen) (texts (take place names)) item.now c.in_ok-insert.field-0 c.loop-place.invariant.0 c.in_ok-insert.ensures.added c.if-not-branch.true in
    none_weaker _ _ c.text_before.result (λ none. absurd (none item.now (mapped_at (λ t. t.now) names place item c.loop-place-test.true same) met)) c.text_before.ensures.none

pub loop-place-preserved : goal.loop-place-preserved
loop-place-preserved c =
    let names = c.args.names.now in
    let place = c.loop-place.place in
    let item = get_or names place (text []) in
    let same : get_or names place item ≡ item = get_or-itself names place (text []) c.loop-place-test.true in
    let before = texts (take place names) in (
      subst (IsTestOf (has_text c.insert.new.self)) (sym (map_last (λ t. t.now) names place item c.loop-place-test.true same)) (test_more bytes_eq bytes_eq-Decides (has_text c.loop-place.seen) (has_text c.insert.new.self) before item.now c.loop-place.invariant.0 (λ q. c.in_ok-insert.ensures.updates.0 (text q))),
      once_more (λ t. t.now) names place item c.loop-place-test.true same c.loop-place.invariant.1 (was_new (has_text c.loop-place.seen) before item.now c.in_ok-insert.field-0 c.loop-place.invariant.0 c.in_ok-insert.ensures.added c.if-not-branch.false),
    )

pub returns-clause-none : goal.returns-clause-none
returns-clause-none c = once_done (λ t. t.now) c.args.names.now c.loop-place.place c.loop-place-test.false c.loop-place.invariant.1
