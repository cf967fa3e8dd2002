use Rattle.std.proofs.Common.{◌≡◌, List, Bool, Some, refl, sym, subst}
use Rattle.lft_model.specs.declared.breach.Breach.{Breach}
use Rattle.lft_facts.{specs.inner.Enough.Adds, proofs.Added.{adds_holds, adds_gives, adds_own}}
use Rattle.lft_races.specs.inner.Runs.{HaveRun}
use Rattle.lft_facts.proofs.early.too_early.Goals as goal

-- which reactions have no run stands behind the other facts
added : (c : goal.After-drop-ran-2) (b : Breach) → b.tag ≡ c.args.tag → Adds b c.args.plan.now c.args.rows.now c.in_ok-facts.facts.items c.add_passed_by.new.facts.items
added c b p =
    let have : HaveRun c.args.rows.now c.args.tag c.as_slice.result.now = subst (λ (bs : List Bool). HaveRun c.args.rows.now c.args.tag bs) (sym c.as_slice.ensures.value) c.in_ok-ran.ensures.ran in
    c.in_ok-add_passed_by.ensures b c.args.plan.now c.args.rows.now p c.in_ok-facts.ensures.holds have

-- a breach of that tag
abbrev at : (c : goal.After-drop-ran-2) → Breach
at c = record { rule = 9; tag = c.args.tag; reaction = Some c.args.reaction; row = 0 }

pub returns-clause-holds : goal.returns-clause-holds
returns-clause-holds c = adds_holds c.args.plan.now c.args.rows.now c.in_ok-facts.facts.items c.add_passed_by.new.facts.items (added c (at c) refl) c.in_ok-facts.ensures.holds

pub returns-clause-enough : goal.returns-clause-enough
returns-clause-enough c = adds_gives c.args.plan.now c.args.rows.now c.in_ok-facts.facts.items c.add_passed_by.new.facts.items c.args.tag (Some c.args.reaction) 9 (added c (at c) refl) c.in_ok-facts.ensures.enough

pub returns-clause-own : goal.returns-clause-own
returns-clause-own c b p q = adds_own c.args.plan.now c.args.rows.now c.in_ok-facts.facts.items c.add_passed_by.new.facts.items (added c b p) (c.in_ok-facts.ensures.own b p q)
