use Rattle.std.proofs.Common.{◌+◌, List, ℕ, sym, ◌∙◌, subst, arith}
use Rattle.std.proofs.lemmas.Bool.{false≢true}
use Rattle.lft_scheduler.specs.inner.Filling.{AreArriving}
use Rattle.lft_scheduler.proofs.Arriving.{arriving_start, arriving_more, arriving_same, all_arriving}
use Rattle.lft_scheduler.proofs.listeners.arrivals.Arrivals.new.Goals.{then-has+in_ok-push, else-has}
use Rattle.lft_graph.proofs.Feeding.{origin_there}
use Rattle.lft_scheduler.proofs.listeners.arrivals.Arrivals.new.Goals as goal

pub push-requires : goal.push-requires
push-requires c = let s = c.ports.invariant.as_long in let o = origin_there c.args.program.now c.port.ensures.sound c.ports.number c.port.result.now c.port.ensures.value in omega arith

pub ports-init : goal.ports-init
ports-init c = arriving_start c.args.program.now c.in_ok-lists.lists (let a = c.in_ok-lists.ensures.long in let b = c.ports-2.ensures.count in omega arith) c.in_ok-lists.ensures.none

pub ports-preserved : goal.ports-preserved
ports-preserved c =
    let program = c.args.program.now in
    let s = c.ports.invariant.as_long in
    elim c.if-has.branch [
      | then-has+in_ok-push w ↦ (let o = origin_there program w.port.ensures.sound c.ports.number w.port.result.now w.port.ensures.value in subst (λ (lists : List (List ℕ)). AreArriving program (c.ports.number + 1) lists) (sym w.in_ok-push.ensures ∙ sym w.lists-is) (arriving_more program c.ports.number w.port.result.now w.port.ensures.value c.ports.lists c.ports.invariant (omega arith) (c.has.ensures.0 w.if-has.true)))
      | else-has w ↦ subst (λ (lists : List (List ℕ)). AreArriving program (c.ports.number + 1) lists) (sym w.lists-is) (arriving_same program c.ports.number c.ports.lists c.ports.invariant (λ p. false≢true (sym w.if-has.false ∙ c.has.ensures.1 p)))
    ]

pub returns : goal.returns
returns c = all_arriving c.args.program.now c.ports.number c.ports.lists (let z = c.ports-test.false in let e = c.ports-number-end.ensures.count in omega arith) c.ports.invariant
