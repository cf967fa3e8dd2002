use Rattle.std.proofs.Common.{rules, ◌≡◌, ◌-◌, Some, length, slice_get}
use Rattle.lft_trace.proofs.EventLists.{all_before}
use Rattle.lft_trace.proofs.event_map.comes_last.Goals as goal

pub returns-in-Some : goal.returns-in-Some
returns-in-Some c = λ yes.
    let at : slice_get c.args.events.now (length c.args.events.now - 1) ≡ Some c.in-Some.last.now = search rules in
    all_before c.args.events.now c.args.event c.in-Some.last.now c.requires at (c.comes_before.ensures.0 yes)
