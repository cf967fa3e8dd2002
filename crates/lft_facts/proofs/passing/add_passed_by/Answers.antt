use Rattle.std.proofs.Common.{◌≡◌, ◌≤◌, List, Some, length, slice_get, subst, arith}
use Rattle.std.proofs.lemmas.List.Elements.{All-contains}
use Rattle.lft_lists.proofs.Places.{contains_at}
use Rattle.lft_facts.{specs.{declared.facts.Fact.Fact, Facts.IsFact}, proofs.Added.{adds_none, adds_both, adds_holds}}
use Rattle.lft_facts.proofs.passing.add_passed_by.Goals as goal

pub loop-place-init : goal.loop-place-init
loop-place-init c = (let n = c.len-count.ensures in omega arith, λ b plan t p all have. adds_none plan t c.args.facts.now.items)

pub loop-place-preserved : goal.loop-place-preserved
loop-place-preserved c =
    let l : c.len-count.result ≤ length c.loop-place.facts.items = c.loop-place.invariant.0 in
    let m = c.in_ok-add.ensures.long in
    let is : slice_get c.loop-place.facts.items c.loop-place.place ≡ Some c.item_at-step.result = subst (λ (fs : List Fact). slice_get fs c.loop-place.place ≡ Some c.item_at-step.result) c.as_slice.ensures.value c.item_at-step.ensures in (
      omega arith,
      λ b plan t p all have.
          let so_far = c.loop-place.invariant.1 b plan t p all have in
          let holds = All-contains (IsFact plan t) c.loop-place.facts.items c.item_at-step.result (adds_holds plan t _ _ so_far all) (contains_at c.loop-place.facts.items c.loop-place.place c.item_at-step.result is) in
          adds_both plan t _ _ _ so_far (c.in_ok-add.ensures.adds b plan t (c.passed_by.ensures.holds plan t holds have) (c.passed_by.ensures.own b p)),
    )
