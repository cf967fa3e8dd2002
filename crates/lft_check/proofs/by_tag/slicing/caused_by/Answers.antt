use Rattle.std.proofs.Common.{refl}
use Rattle.lft_check.proofs.ByTagLemmas.{Begun.{due_over, none_in}, Missed.missing_all}
use Rattle.lft_check.proofs.by_tag.slicing.caused_by.Goals as goal

pub returns : goal.returns
returns c = (refl, record { missing_is = missing_all c.args.presence c.in_ok-missing.missing c.in_ok-missing.ensures.missing; are_due = due_over c.args.presence c.first_missing.new.due c.in_ok-due.due.items c.in_ok-due.due.len (none_in _ c.in_ok-due.due.items (c.in_ok-due.ensures.items_if_clones_equal (λ y e. e))) c.in_ok-missing.ensures.due; runs_are = c.requires.started.runs_are })
