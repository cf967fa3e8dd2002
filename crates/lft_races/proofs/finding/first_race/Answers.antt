use Rattle.std.proofs.Common.{length, List, ℕ, Option, sym, ap, ◌∙◌, subst, arith}
use Rattle.lft_lists.proofs.Places.{written_back}
use Rattle.lft_ir.specs.Parts.{Parts}
use Rattle.lft_graph.specs.inner.Sets.{AreAncestors}
use Rattle.lft_races.{specs.inner.Noted.{AreUpTo, IsFirstIn}, proofs.Racing.{NoneBefore, none_more, first_of_all, none_at_all}}
use Rattle.lft_races.proofs.finding.first_race.Goals as goal

pub returns-in-Some : goal.returns-in-Some
returns-in-Some c =
    let program = c.args.plan.now.program in
    let t = c.args.rows.now in
    let s = c.slice_from-slice.result in
    let are : AreAncestors program c.in_ok-ancestors.ancestors = subst (λ (p : Parts). AreAncestors p c.in_ok-ancestors.ancestors) c.program.ensures.value c.in_ok-ancestors.ensures in
    first_of_all program t s.first s.end (subst (λ n. NoneBefore program t n) (sym c.slice_from-slice.ensures.first) c.loop-first.invariant.none) c.in-Some.place (subst (λ (o : Option ℕ). IsFirstIn program t s.first s.end o) c.in-Some.is (c.in_ok-race.ensures.first program are))

pub loop-first-preserved : goal.loop-first-preserved
loop-first-preserved c =
    let program = c.args.plan.now.program in
    let t = c.args.rows.now in
    let s = c.slice_from-slice.result in
    let are : AreAncestors program c.in_ok-ancestors.ancestors = subst (λ (p : Parts). AreAncestors p c.in_ok-ancestors.ancestors) c.program.ensures.value c.in_ok-ancestors.ensures in
    let back = written_back c.race_in.new.ends _ c.loop-first.ends.len (sym (c.in_ok-race.ensures.long ∙ c.as_mut_slice.ensures.len)) in
    record {
      within = c.slice_from-slice.ensures.slice.within;
      new = c.slice_from-slice.ensures.next;
      none = none_more program t s.first s.end (subst (λ n. NoneBefore program t n) (sym c.slice_from-slice.ensures.first) c.loop-first.invariant.none) (subst (λ (o : Option ℕ). IsFirstIn program t s.first s.end o) c.in_default.is (c.in_ok-race.ensures.first program are));
      long = ap length back ∙ c.in_ok-race.ensures.long ∙ ap length c.as_mut_slice.ensures.value ∙ c.loop-first.invariant.long;
      low = subst (λ (ns : List ℕ). AreUpTo ns s.end) (sym back) c.in_ok-race.ensures.noted;
    }

pub returns : goal.returns
returns c = none_at_all c.args.plan.now.program c.args.rows.now c.loop-first.first (let n = c.loop-first-test.false in omega arith) c.loop-first.invariant.none
