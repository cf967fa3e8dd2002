use Rattle.std.proofs.Common.{◌≡◌, ℕ, List, [], ◌∷◌, ◌++◌, length, length-append, filter_map, refl, sym, ap, ◌∙◌, subst, arith, Some, slice_get}
use Rattle.lft_ir.specs.{Parts.Parts, declared.parts.Trigger.Trigger}
use Rattle.lft_rows.{specs.inner.Presence.Needed.AreNeededOf, proofs.PresenceLemmas.Needing.needed_known}
use Rattle.lft_stream.{specs.{declared.due.Due.Due, inner.Dues.{timed, AreTriggersDue, AreDueOf}}, proofs.Owing.dues_push}
use Rattle.lft_stream.proofs.dues.Dues.new.Goals as goal

pub first_dues-requires : goal.first_dues-requires
first_dues-requires c =
    let plan = c.args.plan.now in
    let needed = c.in_ok-needed.needed.items in
    let own : AreNeededOf plan.program c.loop-number.number needed = subst (λ (p : Parts). AreNeededOf p c.loop-number.number needed) c.program-program.ensures.value c.in_ok-needed.ensures in
    λ k x e. needed_known plan.program c.program-program.ensures.sound.sound c.loop-number.number k needed x own (subst (λ (xs : List Trigger). slice_get xs k ≡ Some x) c.as_slice.ensures.value e)

pub loop-number-preserved : goal.loop-number-preserved
loop-number-preserved c =
    let plan = c.args.plan.now in
    let old = c.loop-number.lists.items in
    let needed = c.in_ok-needed.needed.items in
    let list = c.in_ok-dues.dues.items in
    let is_needed : AreNeededOf plan.program c.loop-number.number needed = subst (λ (p : Parts). AreNeededOf p c.loop-number.number needed) c.program-program.ensures.value c.in_ok-needed.ensures in
    let due : (r : ℕ) → AreTriggersDue plan [] r (filter_map timed needed) list = subst (λ (xs : List Trigger). (r : ℕ) → AreTriggersDue plan [] r (filter_map timed xs) list) c.as_slice.ensures.value c.in_ok-dues.ensures in
    let own : AreDueOf plan [] c.loop-number.number list = (needed, is_needed, due c.loop-number.number) in
    let more : c.push.new.self.items ≡ old ++ list ∷ [] = c.in_ok-push.ensures.items ∙ ap (λ (z : List Due). old ++ z ∷ []) c.in_ok-new.ensures in
    record {
      as_long = let a = ap (λ (xs : List (List Due)). length xs) more in let b = length-append old (list ∷ []) in let d : length (list ∷ []) ≡ 1 = refl in let e = c.loop-number.invariant.as_long in omega arith;
      each = λ r one e. dues_push plan old list (subst (λ (k : ℕ). AreDueOf plan [] k list) (sym c.loop-number.invariant.as_long) own) c.loop-number.invariant.each r one (subst (λ (xs : List (List Due)). slice_get xs r ≡ Some one) more e);
    }

pub returns : goal.returns
returns c = record {
  as_long = let b = c.loop-number.invariant.as_long in let d = ap (λ (p : Parts). length p.reactions) c.program-program.ensures.value in omega arith;
  each = λ r list e. c.loop-number.invariant.each r list e;
}
