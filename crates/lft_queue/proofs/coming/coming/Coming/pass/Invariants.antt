use Rattle.std.proofs.Common.{◌≡◌, length}
use Rattle.lft_queue.proofs.ComingLemmas.ToCome.{OnTheWay}
use Rattle.lft_queue.proofs.coming.coming.Coming.pass.Given as goal

abbrev pub invariant-loop-first : goal.invariant-loop-first
invariant-loop-first l = record { next : l.self.next ≡ l.fn.self.next; clash : l.self.clash ≡ l.fn.self.clash; way : OnTheWay l.listeners l.tag l.fn.self.queue l.self.queue }

abbrev pub decreases-loop-first : goal.decreases-loop-first
decreases-loop-first l = length l.self.queue
