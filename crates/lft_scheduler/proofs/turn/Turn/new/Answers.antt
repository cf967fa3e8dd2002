use Rattle.std.proofs.Common.{◌≡◌, List, length, replicate, sym, ap, ◌∙◌, subst, arith}
use Rattle.lft_graph.specs.Graph.{IsGraphOf}
use Rattle.lft_lists.proofs.Places.{length_same}
use Rattle.lft_scheduler.specs.{declared.turn.{phase.Phase.TheVariants.Idle, seats.Seat.Seat}, inner.Seats.{IsAtRest, AreFreeSeats, phases_of}}
use Rattle.lft_scheduler.proofs.{Starting.{idle_rest, phases_idle}, Frees.frees_idle}
use Rattle.lft_scheduler.proofs.turn.Turn.new.Goals as goal

pub invariant_of-result : goal.invariant_of-result
invariant_of-result c =
    let is : IsGraphOf c.args.program.now c.in_ok-graph.graph = subst (IsGraphOf c.args.program.now) (sym c.in_ok-graph.ensures) c.requires in
    let s = c.in_ok-seats.ensures.items_if_clones_equal (λ y e. e) in
    let t = ap length (c.in_ok-stack.ensures.items_if_clones_equal (λ y e. e)) in
    let m = c.in_ok-after.ensures.as_long in
    let a = is.as_long in
    let n = c.reactions-count.ensures.count in
    let l : length c.in_ok-after.after ≡ c.reactions-count.result = omega arith in
    record {
      program = (c.args.program.now, c.reactions-count.ensures.sound, is);
      mirror = c.in_ok-after.ensures;
      rest = subst (λ (k : List Seat). IsAtRest c.in_ok-after.after k) (sym s) (idle_rest c.reactions-count.result c.in_ok-after.after l);
      frees = subst (λ (k : List Seat). AreFreeSeats k c.in_ok-frees.frees) (sym s) (frees_idle c.reactions-count.result c.in_ok-frees.frees c.in_ok-frees.ensures.room c.in_ok-frees.ensures.none);
      room = t ∙ length_same c.reactions-count.result 0 ∙ sym l;
    }

pub returns-clause-idle : goal.returns-clause-idle
returns-clause-idle c =
    let s = c.in_ok-seats.ensures.items_if_clones_equal (λ y e. e) in
    ap phases_of s ∙ phases_idle c.reactions-count.result ∙ ap (λ k. replicate k Idle) (c.reactions-count.ensures.count ∙ sym c.requires.as_long)
