use Rattle.std.proofs.Common.{◌≡◌, Some, slice_get, ◌∙◌, subst, arith}
use Rattle.lft_ir.specs.Parts.{Parts}
use Rattle.lft_pair.proofs.Added.{read_none, read_long, read_more, read_end}
use Rattle.lft_pair.proofs.contrasting.reads.add_reads.Goals as goal

pub loop-place-init : goal.loop-place-init
loop-place-init c = read_none c.args.plan.now c.args.rows.now c.args.others.now c.args.tag c.args.reaction c.reaction.result.now (subst (λ (z : Parts). slice_get z.reactions c.args.reaction ≡ Some c.reaction.result.now) c.program.ensures.value c.reaction.ensures.value) c.as_slice-names.result.now (c.as_slice-names.ensures.value ∙ c.in_ok-inputs.ensures) c.as_slice-read.result.now (c.as_slice-read.ensures ∙ c.in_ok-reads.ensures) c.requires.same c.args.told.now.items

pub item_at-requires-in-loop-place : goal.item_at-requires-in-loop-place
item_at-requires-in-loop-place c =
    let l = read_long c.args.plan.now c.args.rows.now c.args.others.now c.args.tag c.args.reaction c.reaction.result.now (subst (λ (z : Parts). slice_get z.reactions c.args.reaction ≡ Some c.reaction.result.now) c.program.ensures.value c.reaction.ensures.value) c.as_slice-names.result.now (c.as_slice-names.ensures.value ∙ c.in_ok-inputs.ensures) c.as_slice-read.result.now (c.as_slice-read.ensures ∙ c.in_ok-reads.ensures) c.requires.same c.args.told.now.items in
    let p = c.loop-place-test.true in
    omega arith

pub loop-place-preserved : goal.loop-place-preserved
loop-place-preserved c = read_more c.args.plan.now c.args.rows.now c.args.others.now c.args.tag c.args.reaction c.reaction.result.now (subst (λ (z : Parts). slice_get z.reactions c.args.reaction ≡ Some c.reaction.result.now) c.program.ensures.value c.reaction.ensures.value) c.as_slice-names.result.now (c.as_slice-names.ensures.value ∙ c.in_ok-inputs.ensures) c.as_slice-read.result.now (c.as_slice-read.ensures ∙ c.in_ok-reads.ensures) c.requires.same c.args.told.now.items c.loop-place.place c.loop-place.told.items c.push.new.self.items c.item_at.result c.item_at-in-loop-place.result c.loop-place.invariant c.item_at.ensures c.item_at-in-loop-place.ensures c.in_ok-push.ensures.items

pub returns-clause-holds : goal.returns-clause-holds
returns-clause-holds c = c.loop-place.invariant.adds

pub returns-clause-all : goal.returns-clause-all
returns-clause-all c = read_end c.args.plan.now c.args.rows.now c.args.others.now c.args.tag c.args.reaction c.reaction.result.now (subst (λ (z : Parts). slice_get z.reactions c.args.reaction ≡ Some c.reaction.result.now) c.program.ensures.value c.reaction.ensures.value) c.as_slice-names.result.now (c.as_slice-names.ensures.value ∙ c.in_ok-inputs.ensures) c.as_slice-read.result.now (c.as_slice-read.ensures ∙ c.in_ok-reads.ensures) c.requires.same c.args.told.now.items c.loop-place.place c.loop-place.told.items (let p = c.loop-place-test.false in omega arith) c.loop-place.invariant
