use Rattle.std.proofs.Common.{rules, ◌≡◌, ℕ, List, ◌∷◌, [], ◌++◌, ◌+◌, ◌<◌, length, refl, sym, subst, arith}
use Rattle.lft_resolve.proofs.ExpansionLemmas.Counting.{Counting, counted_more, counted_there, counting_drop, counting_turn, held, held_at}
use Rattle.lft_resolve.proofs.expansion.census.count_instances.Goals.{then-reactor-contents+then-len-counted+in_ok-extend_from_slice, else-reactor-contents}
use Rattle.lft_resolve.proofs.expansion.census.count_instances.Goals as goal

pub returns-in_default-clause-counted : goal.returns-in_default-clause-counted
returns-in_default-clause-counted c = counted_there c.args.contents.now c.args.main c.loop-counted.counted c.loop-counted.left.items c.loop-counted.invariant

pub loop-counted-preserved : goal.loop-counted-preserved
loop-counted-preserved c =
    let table = c.args.contents.now in
    let main = c.args.main in
    let popped = c.pop.new.self.items in
    let number = c.in-Some.number in
    let before : Counting table main c.loop-counted.counted (popped ++ number ∷ []) = subst (λ (l : List ℕ). Counting table main c.loop-counted.counted l) c.in-Some.ensures.items c.loop-counted.invariant in
    elim c.if-reactor-contents.branch [
      | then-reactor-contents+then-len-counted+in_ok-extend_from_slice w ↦ (
          let within = w.if-reactor-contents.true in
          let inner : held table number ≡ w.index-contents-reactor.result.instances.items = held_at table number w.index-contents-reactor.result (omega (arith, within)) (sym w.index-contents-reactor.is) in
          let more : c.if-reactor-contents.left.items ≡ popped ++ held table number = (let is = w.left-is in let items = w.in_ok-extend_from_slice.ensures.items in let slice = w.as_slice.ensures in cc) in
          subst (λ (l : List ℕ). Counting table main (c.loop-counted.counted + 1) l) (sym more) (counting_turn table main c.loop-counted.counted popped number before)
          )
      | else-reactor-contents w ↦ (
          let same : c.if-reactor-contents.left.items ≡ popped = (let is = w.left-is in cc) in
          subst (λ (l : List ℕ). Counting table main (c.loop-counted.counted + 1) l) (sym same) (counting_drop table main c.loop-counted.counted popped number before)
          )
    ]

pub returns-clause-counted : goal.returns-clause-counted
returns-clause-counted c n lt = (let past = c.loop-counted-test.false in counted_there c.args.contents.now c.args.main c.loop-counted.counted c.loop-counted.left.items c.loop-counted.invariant n (omega (arith, lt, past)))

pub returns-clause-more : goal.returns-clause-more
returns-clause-more c some =
    let past = c.loop-counted-test.false in
    let left : 0 < length c.loop-counted.left.items = search (rules, some) in
    (refl, counted_more c.args.contents.now c.args.main c.loop-counted.counted c.loop-counted.left.items c.loop-counted.invariant left 1000000 (omega (arith, past)))
