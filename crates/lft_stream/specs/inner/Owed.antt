-- What rows owe, by trigger and by name.
use Rattle.std.specs.Prelude.{◌≡◌, ℕ, List, false}
use Rattle.lft_tag.specs.{declared.Tag.Tag, Tags.UpTo}
use Rattle.lft_ir.specs.{Origins.Origin, declared.{parts.{Name.Name, Trigger.Trigger}, steps.row.Row.Row}}
use Rattle.lft_model.specs.{Plans.PlanParts, Presence.{stop, Occurs, PortClash, ClashesAt}, Runs.Ran}
use Rattle.lft_queue.specs.inner.{Coming.Listens.Listens, Reading.is_read}

-- wherever the trigger is present, up to the stop, each reaction that has it has a run
abbrev pub IsMet : PlanParts → List Row → Trigger → Type 0
IsMet plan t x = (h : Tag) (r : ℕ) → UpTo h (stop plan t) → Occurs plan t h x → Listens plan r x → Ran t h r

-- no two causes of the name meet at a tag up to the stop
abbrev pub AreCausesApart : PlanParts → List Row → Name → Type 0
AreCausesApart plan t n = (h : Tag) → UpTo h (stop plan t) → ¬ ClashesAt plan t h n

-- no two writes meet at a port that no reaction reads, from low on up to the last tag
abbrev pub MeetNowhere : Tag → PlanParts → List Row → Tag → Type 0
MeetNowhere last plan t low = (p o : ℕ) (delays : List ℕ) (g : Tag) → Origin plan.program p o delays → is_read plan.program p ≡ false → UpTo low g → UpTo g last → ¬ PortClash plan t g p
