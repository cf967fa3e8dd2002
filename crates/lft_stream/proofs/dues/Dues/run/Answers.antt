use Rattle.std.proofs.Common.{◌≡◌, List, sym, ap, ◌∙◌, subst, arith, Some, slice_get, slice_set, filter_map}
use Rattle.std.proofs.lemmas.Option.{get_or_from_slice_get}
use Rattle.lft_lists.proofs.Places.{get_there, at_contains}
use Rattle.lft_rows.proofs.PresenceLemmas.Needing.{needed_triggers}
use Rattle.lft_stream.{specs.{declared.due.Due.Due, inner.Dues.{timed, AreTriggersDue, AreDues}}, proofs.Owing.{dues_set, timed_from}}
use Rattle.lft_stream.proofs.dues.Dues.run.Goals as goal

pub returns-clause-dues : goal.returns-clause-dues
returns-clause-dues c = λ t last ran dues.
    let plan = c.args.plan.now in
    let r = c.args.reaction in
    let rows = c.self.inside.lists.items in
    let list : (list : List Due) × (slice_get c.args.self.now r ≡ Some list) = get_there c.args.self.now r (let a = dues.as_long in let b = c.requires.reaction in omega arith) in
    let same = c.index_mut.ensures.value ∙ get_or_from_slice_get rows r list.0 c.index_mut.result.now (ap (λ xs. slice_get xs r) c.self.view_is ∙ list.1) in
    let own = dues.each r list.0 list.1 in
    let due = subst (λ (ys : List Due). AreTriggersDue plan t r (filter_map timed own.0) ys) (sym same) own.2 in
    let e = ap (λ xs. slice_set xs r c.meet.new.self) c.self.view_is in
    subst (λ (all : List (List Due)). AreDues plan t all) (sym e) (dues_set plan t c.args.self.now r c.meet.new.self (own.0, own.1, c.meet.ensures.due plan t r (filter_map timed own.0) last ran due) dues)

pub returns-clause-triggered : goal.returns-clause-triggered
returns-clause-triggered c = λ z t last ran dues.
    let plan = c.args.plan.now in
    let r = c.args.reaction in
    let rows = c.self.inside.lists.items in
    let list : (list : List Due) × (slice_get c.args.self.now r ≡ Some list) = get_there c.args.self.now r (let a = dues.as_long in let b = c.requires.reaction in omega arith) in
    let same = c.index_mut.ensures.value ∙ get_or_from_slice_get rows r list.0 c.index_mut.result.now (ap (λ xs. slice_get xs r) c.self.view_is ∙ list.1) in
    let own = dues.each r list.0 list.1 in
    let due = subst (λ (ys : List Due). AreTriggersDue plan t r (filter_map timed own.0) ys) (sym same) own.2 in
    let found = c.meet.ensures.present z plan t r (filter_map timed own.0) last ran due in
    let place = at_contains own.0 found.0 (timed_from own.0 found.0 found.1) in
    needed_triggers (record { plan = plan; rows = t }) c.args.tag r place.0 own.0 found.0 own.1 place.1 found.2
