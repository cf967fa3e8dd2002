use Rattle.std.proofs.Common.{◌≡◌, List, length, sym, ap, ◌∙◌, subst, arith}
use Rattle.smallvec.proofs.SmallVecLemmas.{items-with_items}
use Rattle.lft_stream.specs.{declared.due.Due.Due, inner.Dues.AreTriggersDue}
use Rattle.lft_stream.proofs.dues.Beats.meet.Goals as goal

pub returns-clause-due : goal.returns-clause-due
returns-clause-due c = λ plan t r triggers last ran are.
    let long = ap (λ (list : List Due). length list) c.as_mut_slice-dues.ensures.value in
    let d : length c.meet_all.new.dues ≡ length c.self.inside.dues.items = omega arith in
    subst (λ (list : List Due). AreTriggersDue plan t r triggers list) (sym (items-with_items c.self.inside.dues c.meet_all.new.dues d)) (c.meet_all.ensures.due plan t r triggers last ran (subst (λ (list : List Due). AreTriggersDue plan t r triggers list) (sym (c.as_mut_slice-dues.ensures.value ∙ c.self.view_is)) are))

pub returns-clause-present : goal.returns-clause-present
returns-clause-present c = λ z plan t r triggers last ran are. c.meet_all.ensures.present z plan t r triggers last ran (subst (λ (list : List Due). AreTriggersDue plan t r triggers list) (sym (c.as_mut_slice-dues.ensures.value ∙ c.self.view_is)) are)

pub returns-then-not-is_same-clause-due : goal.returns-then-not-is_same-clause-due
returns-then-not-is_same-clause-due c = λ plan t r triggers last ran are.
    let long = ap (λ (list : List Due). length list) c.as_mut_slice-dues.ensures.value in
    let d : length c.meet_in_turn.new.dues ≡ length c.self.inside.dues.items = omega arith in
    subst (λ (list : List Due). AreTriggersDue plan t r triggers list) (sym (items-with_items c.self.inside.dues c.meet_in_turn.new.dues d)) (c.meet_in_turn.ensures.due plan t r triggers last ran (subst (λ (list : List Due). AreTriggersDue plan t r triggers list) (sym (c.as_mut_slice-dues.ensures.value ∙ c.self.view_is)) are))

pub returns-then-not-is_same-clause-present : goal.returns-then-not-is_same-clause-present
returns-then-not-is_same-clause-present c = λ z plan t r triggers last ran are. c.meet_in_turn.ensures.present z plan t r triggers last ran (subst (λ (list : List Due). AreTriggersDue plan t r triggers list) (sym (c.as_mut_slice-dues.ensures.value ∙ c.self.view_is)) are)
