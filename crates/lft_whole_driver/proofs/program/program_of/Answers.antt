use Rattle.std.proofs.Common.{[], ap, inl, inr, refl}
use Rattle.lft_program.specs.inner.Refusals.{cause_of}
use Rattle.lft_whole_driver.{specs.{Unlowered.AreRefused, declared.told.Unlowered.Unlowered}, proofs.{Sameness.the_program, Saying.told_says}}
use Rattle.lft_whole_driver.proofs.program.program_of.Goals as goal

pub returns-in-Err-clause-refused : goal.returns-in-Err-clause-refused
returns-in-Err-clause-refused c =
    let files = c.args.files.now in
    inl (told_says (AreRefused files) files [] c.in-Err.stop c.unlowered_by.result (λ r e. (refl, refl)) c.unlowered_by.ensures)

pub returns-then-is_no_memory-clause-refused : goal.returns-then-is_no_memory-clause-refused
returns-then-is_no_memory-clause-refused c = inl (inl (ap (λ (u : Unlowered). u.told) c.from.ensures))

pub returns-else-is_no_memory-clause-refused : goal.returns-else-is_no_memory-clause-refused
returns-else-is_no_memory-clause-refused c = inr (record {
  tree = c.in-Ok.lowering.tree;
  cause = cause_of c.in-Err-flattened.refusal;
  first = c.in-Err-flattened.ensures.first (c.is_no_memory.ensures.other c.if-is_no_memory.false);
  tells = c.unlowered_tree.ensures;
})

pub returns-in-Ok-flattened-clause-program : goal.returns-in-Ok-flattened-clause-program
returns-in-Ok-flattened-clause-program c =
    let tree = c.in-Ok.lowering.tree in
    the_program c.args.files.now tree c.in-Ok.ensures.made c.in-Ok-flattened.program c.in-Ok-flattened.ensures.flat
