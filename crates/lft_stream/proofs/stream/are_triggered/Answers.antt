use Rattle.std.proofs.Common.{◌≡◌, ◌++◌, ℕ, inl, inr, refl, sym, subst, arith}
use Rattle.std.proofs.lemmas.Bool.{cases_eq}
use Rattle.lft_lists.proofs.{Members.{mem_get, get_mem, mem_contains, contains_mem}, Places.same_at}
use Rattle.lft_model.{specs.Presence.Triggered, proofs.Places.slice_get_within}
use Rattle.lft_stream.proofs.stream.are_triggered.Goals as goal

pub is_triggered-requires-clause-reaction : goal.is_triggered-requires-clause-reaction
is_triggered-requires-clause-reaction c = c.requires.exist c.item_at-reaction.result (mem_contains c.item_at-reaction.result c.args.started.now (mem_get c.args.started.now c.loop-place.place c.item_at-reaction.result c.item_at-reaction.ensures))

pub is_triggered-requires-clause-dues : goal.is_triggered-requires-clause-dues
is_triggered-requires-clause-dues c = (c.requires.dues.0, c.loop-place.invariant.dues c.requires.dues.0 c.requires.dues.1)

pub loop-place-preserved : goal.loop-place-preserved
loop-place-preserved c =
    let r = c.item_at-reaction.result in
    let has = mem_contains r c.args.started.now (mem_get c.args.started.now c.loop-place.place r c.item_at-reaction.ensures) in
    record {
      dues = λ t at. c.is_triggered.ensures.dues t at.last_is (at.ran r has) (c.loop-place.invariant.dues t at);
      triggered = λ d u at shown k a low e. elim (cases_eq k c.loop-place.place) [
        | inl q ↦
            let same : a ≡ r = same_at c.args.started.now k c.loop-place.place a r e c.item_at-reaction.ensures q in
            subst (λ (b : ℕ). Triggered c.args.plan.now (d ++ u) c.args.tag b) (sym same) (c.if-not-is_triggered.ensures.triggered refl d u at.last_is (at.ran r has) shown (c.loop-place.invariant.dues (d ++ u) at))
        | inr m ↦ c.loop-place.invariant.triggered d u at shown k a (omega (arith, low, m)) e
      ];
    }

pub returns-then-not-is_triggered-clause-dues : goal.returns-then-not-is_triggered-clause-dues
returns-then-not-is_triggered-clause-dues c = λ t at.
    let r = c.item_at-reaction.result in
    let has = mem_contains r c.args.started.now (mem_get c.args.started.now c.loop-place.place r c.item_at-reaction.ensures) in
    c.is_triggered.ensures.dues t at.last_is (at.ran r has) (c.loop-place.invariant.dues t at)

pub returns-clause-triggered : goal.returns-clause-triggered
returns-clause-triggered c = λ z d u at shown r has.
    let place = get_mem r c.args.started.now (contains_mem r c.args.started.now has) in
    let l = slice_get_within c.args.started.now place.0 r place.1 in
    let past = c.loop-place-test.false in
    c.loop-place.invariant.triggered d u at shown place.0 r (omega (arith, l, past)) place.1
