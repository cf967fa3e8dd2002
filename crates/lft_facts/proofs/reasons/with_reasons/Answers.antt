use Rattle.std.proofs.Common.{◌≡◌, ◌+◌, List, Some, slice_get, subst, arith}
use Rattle.std.proofs.lemmas.List.Elements.{All-contains}
use Rattle.lft_lists.proofs.Places.{contains_at}
use Rattle.lft_facts.{specs.{declared.facts.Fact.Fact, Facts.IsFact, Enough.IsOwn}, proofs.Added.{extends_next, extends_more, extends_all, extends_further}}
use Rattle.lft_facts.proofs.reasons.with_reasons.Goals as goal

pub loop-place-preserved : goal.loop-place-preserved
loop-place-preserved c b own =
    let plan = c.args.plan.now in
    let t = c.args.rows.now in
    let old = c.args.facts.items in
    let is : slice_get old c.loop-place.place ≡ Some c.item_at-fact.result = subst (λ (fs : List Fact). slice_get fs c.loop-place.place ≡ Some c.item_at-fact.result) c.as_slice.ensures.value c.item_at-fact.ensures in
    let holds : IsFact plan t c.item_at-fact.result = All-contains (IsFact plan t) old c.item_at-fact.result c.requires.holds (contains_at old c.loop-place.place c.item_at-fact.result is) in
    let its : IsOwn b c.item_at-fact.result = All-contains (IsOwn b) old c.item_at-fact.result own (contains_at old c.loop-place.place c.item_at-fact.result is) in
    extends_more plan t old (c.loop-place.place + 1) c.push.new.self.items c.add_details.new.facts.items (extends_next plan t old c.loop-place.place c.loop-place.all.items c.push.new.self.items c.item_at-fact.result is holds its c.in_ok-push.ensures.items (c.loop-place.invariant b own)) (c.in_ok-add_details.ensures b its)

pub loop-place-2-init : goal.loop-place-2-init
loop-place-2-init c b own = extends_all c.args.plan.now c.args.rows.now c.args.facts.items c.loop-place.place c.loop-place.all.items (let n = c.loop-place-test.false in let e = c.len-place-end.ensures in omega arith) (c.loop-place.invariant b own)

pub loop-place-2-preserved : goal.loop-place-2-preserved
loop-place-2-preserved c b own =
    let old = c.args.facts.items in
    let is : slice_get old c.loop-place-2.place ≡ Some c.item_at-fact-in-loop-place-2.result = subst (λ (fs : List Fact). slice_get fs c.loop-place-2.place ≡ Some c.item_at-fact-in-loop-place-2.result) c.as_slice-in-loop-place-2.ensures.value c.item_at-fact-in-loop-place-2.ensures in
    let its : IsOwn b c.item_at-fact-in-loop-place-2.result = All-contains (IsOwn b) old c.item_at-fact-in-loop-place-2.result own (contains_at old c.loop-place-2.place c.item_at-fact-in-loop-place-2.result is) in
    extends_further c.args.plan.now c.args.rows.now old c.loop-place-2.all.items c.add_reasons.new.facts.items (c.loop-place-2.invariant b own) (c.in_ok-add_reasons.ensures b its)

pub returns : goal.returns
returns c b own = c.loop-place-2.invariant b own
