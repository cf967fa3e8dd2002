use Rattle.std.proofs.Common.{option_map, string_bytes, ap, ◌∙◌}
use Rattle.lft_tree.specs.View.{ref_view}
use Rattle.lft_resolve.{specs.inner.Sheets.timer_place, proofs.Lost.timer_there}
use Rattle.lft_resolve.proofs.by_number.ends.timer.Goals as goal

pub returns-in-None : goal.returns-in-None
returns-in-None c r own = timer_there r (ref_view c.args.reference.now) c.get.result (ap (option_map string_bytes) c.in-None.is) (c.get.ensures ∙ own.timers _ ∙ ap (timer_place r) c.as_str.ensures.value)
