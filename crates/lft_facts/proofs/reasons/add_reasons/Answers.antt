use Rattle.std.proofs.Common.{◌≡◌, ℕ, Option, subst}
use Rattle.lft_tag.specs.declared.Tag.{Tag}
use Rattle.lft_ir.specs.declared.parts.{Name.Name, Value.Value}
use Rattle.lft_model.specs.declared.breach.Breach.{Breach}
use Rattle.lft_facts.{specs.{Enough.{IsOwn, IsOf}, declared.facts.Fact.Fact, Facts.IsFact}, proofs.Added.{read_known, adds_both}}
use Rattle.lft_facts.specs.declared.facts.Fact.TheVariants as fact
use Rattle.lft_facts.proofs.reasons.add_reasons.Goals as goal

pub add_event-requires-clause-name : goal.add_event-requires-clause-name
add_event-requires-clause-name c = read_known c.args.plan.now c.keeps.ensures.sound.sound c.args.rows.now c.in-Reads.tag c.in-Reads.reaction c.in-Reads.place c.in-Reads.name c.in-Reads.read c.in-Reads.present (subst (λ (f : Fact). IsFact c.args.plan.now c.args.rows.now f) c.in-Reads.is c.requires.fact)

pub add_near-requires-clause-name : goal.add_near-requires-clause-name
add_near-requires-clause-name c = read_known c.args.plan.now c.keeps.ensures.sound.sound c.args.rows.now c.in-Reads.tag c.in-Reads.reaction c.in-Reads.place c.in-Reads.name c.in-Reads.read c.in-Reads.present (subst (λ (f : Fact). IsFact c.args.plan.now c.args.rows.now f) c.in-Reads.is c.requires.fact)

-- a breach of whose own the fact is, is of its tag
tag_is : (f : Fact) (b : Breach) (g : Tag) (r k : ℕ) (n : Name) (read present : Option Value) → f ≡ fact.Reads g r k n read present → IsOwn b f → b.tag ≡ g
tag_is f b g r k n read present e own = let x : IsOf b g r = subst (λ (z : Fact). IsOwn b z) e own in x.0

pub returns-in_ok-add_last_row-in-NoRun : goal.returns-in_ok-add_last_row-in-NoRun
returns-in_ok-add_last_row-in-NoRun c b own =
    let x : IsOf b c.in-NoRun.tag c.in-NoRun.reaction = subst (λ (z : Fact). IsOwn b z) c.in-NoRun.is own in
    adds_both c.args.plan.now c.args.rows.now c.args.facts.now.items c.add_runs.new.facts.items c.add_last_row.new.facts.items (c.in_ok-add_runs-in-NoRun.ensures b c.args.plan.now x.0 x.1) (c.in_ok-add_last_row-in-NoRun.ensures b)
