use Rattle.std.proofs.Common.{◌≤◌, length, arith, subst, Option}
use Rattle.lft_model.specs.declared.breach.Breach.{Breach}
use Rattle.lft_check.specs.inner.Verdicts.{LeastOf, BreachFrom}
use Rattle.lft_check.proofs.Counts.{few_slices, tags_of, are_tags, tags_length}
use Rattle.lft_check.proofs.Whole.{broken, accepted, missing_from_first, inner_from_first, clash_from_first}
use Rattle.lft_check.proofs.judging.verdict_of.Goals as goal

pub overflow_cast-result : goal.overflow_cast-result
overflow_cast-result c =
    let few : length c.args.slices.now ≤ length c.args.sliced.now.rows = few_slices c.args.sliced.now c.keeps.ensures.rules c.args.slices.now c.requires.slices in
    let rows : length c.args.sliced.now.rows ≤ 4000000 = c.keeps.ensures.rules.fit.few in
    omega arith

pub least_of-requires : goal.least_of-requires
least_of-requires c = record {
  slices = c.requires.slices;
  clash = c.requires.clash;
  early = clash_from_first c.args.clash;
  missing = missing_from_first c.args.sliced.now c.missing.result c.missing.ensures;
  inner = inner_from_first c.args.sliced.now c.args.slices.now c.args.clash c.args.inner c.requires.inner;
}

pub returns-in-Some : goal.returns-in-Some
returns-in-Some c = broken c.args.sliced.now c.keeps.ensures.rules c.in-Some.breach (subst (λ (o : Option Breach). LeastOf (BreachFrom c.args.sliced.now.plan c.args.sliced.now.rows (record { time = 0; micro = 0 })) o) c.in-Some.is c.least_of.ensures)

pub returns-in-None : goal.returns-in-None
returns-in-None c =
    let cut = c.args.sliced.now in
    let slices = c.args.slices.now in
    record {
      legal = accepted cut c.keeps.ensures.rules (subst (λ (o : Option Breach). LeastOf (BreachFrom cut.plan cut.rows (record { time = 0; micro = 0 })) o) c.in-None.is c.least_of.ensures);
      runs_are = c.runs.ensures;
      tags_are = (tags_of slices, are_tags cut c.keeps.ensures.rules slices c.requires.slices, tags_length cut c.keeps.ensures.rules slices c.requires.slices);
    }
