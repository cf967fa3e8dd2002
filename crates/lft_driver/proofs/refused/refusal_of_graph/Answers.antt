use Rattle.std.proofs.Common.{◌≡◌, ℕ, List, ap, subst, Err, Some, slice_get, string_bytes}
use Rattle.lft_graph.proofs.Cycles.{member_within}
use Rattle.lft_program_diagnostics.specs.Loops.{loop_words}
use Rattle.lft_driver.proofs.refused.refusal_of_graph.Goals as goal

pub tell_loop-requires : goal.tell_loop-requires
tell_loop-requires c i r e = member_within c.args.program.now c.in-Err-CausalityLoop.reactions (c.in-Err-CausalityLoop.ensures.cycle c.in-Err-CausalityLoop.reactions (ap Err c.in-Err-CausalityLoop.field-0-is)) i r (subst (λ (l : List ℕ). slice_get l i ≡ Some r) c.as_slice.ensures e)

pub returns-in-Err-CausalityLoop-clause-tells : goal.returns-in-Err-CausalityLoop-clause-tells
returns-in-Err-CausalityLoop-clause-tells c = record {
  loop = c.in-Err-CausalityLoop.reactions;
  is_loop = c.in-Err-CausalityLoop.ensures.cycle c.in-Err-CausalityLoop.reactions (ap Err c.in-Err-CausalityLoop.field-0-is);
  is_told = subst (λ (l : List ℕ). string_bytes c.in_ok-words-in-Err-CausalityLoop.words ≡ loop_words c.args.program.now l) c.as_slice.ensures c.in_ok-words-in-Err-CausalityLoop.ensures;
}
