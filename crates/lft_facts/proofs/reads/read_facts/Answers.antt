use Rattle.std.proofs.Common.{◌≡◌, ◌++◌, ◌∷◌, [], Some, slice_get, ap, ◌∙◌, subst, arith}
use Rattle.lft_ir.specs.Parts.{Parts}
use Rattle.lft_facts.proofs.WrongReads.{told_begin, told_more, told_gives, read_long, present_long}
use Rattle.lft_facts.specs.declared.facts.Fact.TheVariants as fact
use Rattle.lft_facts.proofs.reads.read_facts.Goals as goal

pub loop-place-init : goal.loop-place-init
loop-place-init c = told_begin c.args.plan.now c.args.rows.now c.args.tag c.args.reaction c.start_of-start.result c.as_slice-names.result.now c.as_slice-was.result.now c.args.present.now c.push.new.self.items (c.in_ok-push.ensures.items ∙ ap (λ fs. fs ++ fact.Runs c.args.tag c.args.reaction c.start_of-start.result ∷ []) c.new-facts.ensures.items) c.start_of-start.ensures

pub item_at-requires-in-loop-place : goal.item_at-requires-in-loop-place
item_at-requires-in-loop-place c =
    let l = read_long c.args.plan.now c.args.rows.now c.args.tag c.args.reaction c.start_of-start.result c.reaction.result.now (subst (λ (z : Parts). slice_get z.reactions c.args.reaction ≡ Some c.reaction.result.now) c.program.ensures.value c.reaction.ensures.value) c.as_slice-names.result.now (c.as_slice-names.ensures.value ∙ c.in_ok-inputs.ensures) c.as_slice-was.result.now (c.as_slice-was.ensures ∙ c.in_ok-reads.ensures) c.args.present.now c.requires.present c.requires.only in
    let p = c.loop-place-test.true in
    omega arith

pub item_at-requires-in-loop-place-2 : goal.item_at-requires-in-loop-place-2
item_at-requires-in-loop-place-2 c =
    let l = present_long c.args.plan.now c.args.rows.now c.args.tag c.args.reaction c.start_of-start.result c.reaction.result.now (subst (λ (z : Parts). slice_get z.reactions c.args.reaction ≡ Some c.reaction.result.now) c.program.ensures.value c.reaction.ensures.value) c.as_slice-names.result.now (c.as_slice-names.ensures.value ∙ c.in_ok-inputs.ensures) c.as_slice-was.result.now (c.as_slice-was.ensures ∙ c.in_ok-reads.ensures) c.args.present.now c.requires.present c.requires.only in
    let p = c.loop-place-test.true in
    omega arith

pub loop-place-preserved : goal.loop-place-preserved
loop-place-preserved c = told_more c.args.plan.now c.args.rows.now c.args.tag c.args.reaction c.start_of-start.result c.reaction.result.now (subst (λ (z : Parts). slice_get z.reactions c.args.reaction ≡ Some c.reaction.result.now) c.program.ensures.value c.reaction.ensures.value) c.as_slice-names.result.now (c.as_slice-names.ensures.value ∙ c.in_ok-inputs.ensures) c.as_slice-was.result.now (c.as_slice-was.ensures ∙ c.in_ok-reads.ensures) c.args.present.now c.requires.present c.requires.only c.loop-place.place c.loop-place.facts.items c.push-in-loop-place.new.self.items c.item_at.result c.item_at-in-loop-place.result c.item_at-in-loop-place-2.result c.loop-place.invariant c.item_at.ensures c.item_at-in-loop-place.ensures c.item_at-in-loop-place-2.ensures c.in_ok-push-2.ensures.items

pub returns-clause-enough : goal.returns-clause-enough
returns-clause-enough c = told_gives c.args.plan.now c.args.rows.now c.args.tag c.args.reaction c.start_of-start.result c.reaction.result.now (subst (λ (z : Parts). slice_get z.reactions c.args.reaction ≡ Some c.reaction.result.now) c.program.ensures.value c.reaction.ensures.value) c.as_slice-names.result.now (c.as_slice-names.ensures.value ∙ c.in_ok-inputs.ensures) c.as_slice-was.result.now (c.as_slice-was.ensures ∙ c.in_ok-reads.ensures) c.args.present.now c.requires.present c.requires.only c.loop-place.place c.loop-place.facts.items (let p = c.loop-place-test.false in omega arith) c.loop-place.invariant c.requires.wrong
