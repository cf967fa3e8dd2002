use Rattle.lft_queue.specs.inner.Reading.{AreReadPortsMarked}
use Rattle.lft_queue.proofs.reading.read_ports.Given as goal

abbrev pub invariant-reactions : goal.invariant-reactions
invariant-reactions l = AreReadPortsMarked l.program l.number l.marked.items
