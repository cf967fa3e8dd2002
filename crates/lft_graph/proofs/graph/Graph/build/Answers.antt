use Rattle.std.proofs.Common.{◌≡◌, sym, subst}
use Rattle.lft_graph.specs.{Loops.IsLoopOf, Graph.{AreLevels, AreByLevel}, inner.Walks.{AreInside, IsStep}, declared.fault.GraphFault.TheVariants.CausalityLoop}
use Rattle.lft_graph.proofs.{Chains.{inside, is_loop, is_levelled, is_graph}, Cycles.no_loop}
use Rattle.lft_graph.proofs.graph.Graph.build.Goals as goal

pub levels-requires-clause-inside : goal.levels-requires-clause-inside
levels-requires-clause-inside c = subst AreInside (sym c.deref.ensures.value) (inside c.args.program.now c.in_ok-before.ensures.sound c.in_ok-before.before.items c.in_ok-before.ensures.lists)

pub returns-in-Err-clause-cycle : goal.returns-in-Err-clause-cycle
returns-in-Err-clause-cycle c l e =
    let q : c.in-Err.fault ≡ CausalityLoop l = cc in
    let w : IsLoopOf (IsStep c.deref.result.now) l = c.levels.ensures.cycle l (let i = c.in-Err.is in cc) in
    is_loop c.args.program.now c.in_ok-before.ensures.sound c.in_ok-before.before.items c.in_ok-before.ensures.lists l (subst (λ b. IsLoopOf (IsStep b) l) c.deref.ensures.value w)

are_levels : (c : goal.In_ok-by_level) → AreLevels c.in_ok-before.before.items c.in-Ok.levels.items
are_levels c = subst (λ b. AreLevels b c.in-Ok.levels.items) c.deref.ensures.value c.in-Ok.ensures.levels

pub returns-clause-graph : goal.returns-clause-graph
returns-clause-graph c =
    is_graph c.args.program.now c.in_ok-before.ensures.sound c.in_ok-before.before.items c.in_ok-before.ensures.lists c.in-Ok.levels.items (are_levels c) c.in_ok-by_level.by_level.items (subst (λ l. AreByLevel l c.in_ok-by_level.by_level.items) c.deref-2.ensures.value c.in_ok-by_level.ensures)

pub returns-clause-levelled : goal.returns-clause-levelled
returns-clause-levelled c = is_levelled c.args.program.now c.in_ok-before.ensures.sound c.in_ok-before.before.items c.in_ok-before.ensures.lists c.in-Ok.levels.items (are_levels c)

pub returns-clause-no_loop : goal.returns-clause-no_loop
returns-clause-no_loop c = no_loop c.args.program.now (is_levelled c.args.program.now c.in_ok-before.ensures.sound c.in_ok-before.before.items c.in_ok-before.ensures.lists c.in-Ok.levels.items (are_levels c))
