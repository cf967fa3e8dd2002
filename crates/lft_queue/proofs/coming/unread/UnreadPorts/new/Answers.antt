use Rattle.std.proofs.Common.{◌≡◌, List, Option, None, ap, ◌∙◌, replicate, rules, slice_get}
use Rattle.lft_tag.specs.declared.Shift.{Shift}
use Rattle.lft_queue.proofs.ComingLemmas.Meeting.{unread_first}
use Rattle.lft_queue.proofs.coming.unread.UnreadPorts.new.Goals as goal

pub returns : goal.returns
returns c = (let same : c.in_ok-written.written.items ≡ replicate c.ports.result None = search rules in unread_first c.args.program.now c.ports.result c.in_ok-soonest.soonest.items c.is_any-any.result c.in_ok-written.written.items c.in_ok-soonest.ensures (λ z o time e. c.is_any-any.ensures z o time (ap (λ (s : List (Option Shift)). slice_get s o) c.as_slice.ensures.value ∙ e)) same c.ports.ensures.count)
