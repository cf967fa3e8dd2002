use Rattle.std.proofs.Common.{◌≡◌, ◌+◌, ◌∙◌, Some, List, length, slice_get, arith, sym, ap, subst}
use Rattle.lft_ir.specs.{Parts.Parts, Steps.Fits.RowsFit, declared.steps.row.Row.Row}
use Rattle.lft_counts.specs.{inner.Counts.KeepsRows, Cover.IsCover}
use Rattle.lft_coverage.proofs.driver.covered.count_rows.Goals as goal

pub add-requires : goal.add-requires
add-requires g c =
    let rows = c.args.rows.now in
    let none = c.in_ok-cover.ensures.rows in
    let same = c.as_slice.ensures in
    let long = ap (λ (t : List Row). length t) c.as_slice.ensures in
    let fit = c.requires.1.1.0 in
    let few = fit.few in (
      subst KeepsRows (sym c.requires.1.0) c.requires.1.1.1,
      (
        λ k row e. subst (λ (t : List Row). slice_get t (c.in_ok-cover.cover.rows + k) ≡ Some row) (sym c.requires.1.0) (subst (λ n. slice_get c.args.rows.now n ≡ Some row) (let z : k ≡ c.in_ok-cover.cover.rows + k = omega (arith, none) in z) (subst (λ (t : List Row). slice_get t k ≡ Some row) c.as_slice.ensures e)),
        (
          subst (λ (p : Parts). RowsFit p c.as_slice.result.now) (sym c.requires.0) (subst (RowsFit c.args.plan.now.program) (sym c.as_slice.ensures) fit),
          (omega (arith, none, long, few), subst (λ (p : Parts). IsCover p g.of.1 c.in_ok-cover.cover) (c.program.ensures.value ∙ sym c.requires.0) (c.in_ok-cover.ensures.covers g.of.1)),
        ),
      ),
    )

pub returns : goal.returns
returns g c = record {
  counts = subst (λ (t : List Row). IsCover c.args.plan.now.program t c.add.new.self) c.requires.1.0 (subst (λ (p : Parts). IsCover p g.of.1 c.add.new.self) c.requires.0 c.in_ok-add.ensures.covers);
  rows = let none = c.in_ok-cover.ensures.rows in let all = c.in_ok-add.ensures.rows in let long = ap (λ (t : List Row). length t) c.as_slice.ensures in omega (arith, none, all, long);
  graph = c.graph.result.now;
  is_graph = c.graph.ensures.graph;
  listed = c.in_ok-add.ensures.listed ∙ c.in_ok-cover.ensures.listed;
}
