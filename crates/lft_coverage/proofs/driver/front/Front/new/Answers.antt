use Rattle.std.proofs.Common.{take, refl, sym, subst, arith}
use Rattle.lft_ir.specs.Parts.{Parts}
use Rattle.lft_trace.specs.inner.Telling.{rows_in}
use Rattle.lft_stream.specs.inner.Kept.{IsAcceptorOf}
use Rattle.lft_counts.specs.Cover.{IsCover}
use Rattle.lft_coverage.proofs.driver.front.Front.new.Goals as goal

pub returns-clause-stands : goal.returns-clause-stands
returns-clause-stands c body =
    let all = rows_in c.args.plan.now.program body in
    let none = c.in_ok-cover.ensures.rows in
    record {
      stands = subst (λ n. IsAcceptorOf c.args.plan.now (take n all) c.in_ok-new.field-0) (sym none) c.in_ok-new.ensures;
      within = omega (arith, none);
      few = omega (arith, none);
      covers = record {
        counts = subst (λ (p : Parts). IsCover p all c.in_ok-cover.cover) c.program.ensures.value (c.in_ok-cover.ensures.covers all);
        rows = refl;
        graph = c.graph.result.now;
        is_graph = c.graph.ensures.graph;
        listed = c.in_ok-cover.ensures.listed;
      };
    }
