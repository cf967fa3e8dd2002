use Rattle.std.proofs.Common.{◌≡◌, length, ◌-◌}
use Rattle.lft_tag.specs.declared.Tag.{Tag}
use Rattle.lft_ir.specs.declared.parts.Name.{Name}
use Rattle.lft_queue.specs.inner.Coming.Coming.{to_come, AreTaken}
use Rattle.lft_queue.proofs.coming.coming.Coming.bring.Given as goal

-- so far nothing is lost, and what is taken is up to the tag
abbrev pub invariant-loop-self : goal.invariant-loop-self
invariant-loop-self l = record { same : (h : Tag) (n : Name) → to_come l.externals.events l.self h n ≡ to_come l.externals.events l.fn.self h n; taken : AreTaken l.externals.events l.fn.self.next l.self.next l.fn.tag; clash : l.self.clash ≡ l.fn.self.clash }

abbrev pub decreases-loop-self : goal.decreases-loop-self
decreases-loop-self l = length l.events - l.self.next
