use Rattle.std.proofs.Common.{◌≡◌, ℕ, List, length, subst, arith, Contains}
use Rattle.lft_ir.specs.declared.parts.Trigger.{Trigger}
use Rattle.lft_scheduler.{specs.inner.{Lists.ArePushed, Filling.AreListed}, proofs.Filling.{listed_start, listed_more}}
use Rattle.lft_scheduler.proofs.listeners.reactions_by_trigger.Goals as goal

pub push_all-requires : goal.push_all-requires
push_all-requires c t m = c.reactions.invariant.room t ((c.reaction.ensures.sound.exist c.reactions.number c.reaction.result.now c.reaction.ensures.value).triggers t (subst (λ (ts : List Trigger). Contains ts t) c.as_slice-triggers.ensures m))

pub reactions-init : goal.reactions-init
reactions-init c = listed_start c.args.program.now c.in_ok-lists.lists c.in_ok-lists.ensures.room c.in_ok-lists.ensures.empty

pub reactions-preserved : goal.reactions-preserved
reactions-preserved c =
    let x = c.reaction.result.now in
    listed_more c.args.program.now c.reactions.number x c.reactions.lists c.push_all.new.lists c.reaction.ensures.value c.reactions.invariant (subst (λ (ts : List Trigger). ArePushed ts c.reactions.number c.reactions.lists c.push_all.new.lists) c.as_slice-triggers.ensures c.in_ok-push_all.ensures)

pub returns : goal.returns
returns c =
    let n : c.reactions.number ≡ length c.args.program.now.reactions = (let z = c.reactions-test.false in let a = c.reactions.auto.number-end in let e = c.reactions-number-end.ensures.count in omega arith) in
    subst (λ (k : ℕ). AreListed c.args.program.now k c.reactions.lists) n c.reactions.invariant
