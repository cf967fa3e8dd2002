use Rattle.std.proofs.Common.{[], ◌∷◌, ◌++◌, inl, inr}
use Rattle.std.proofs.lemmas.{Bool.Decides.Decides-eqb, Slice.Eq.slice_eq-Decides}
use Rattle.lft_trace.proofs.Headers.{inputs_alone, inputs_line}
use Rattle.lft_trace.proofs.reading.headers.is_inputs_line.Goals as goal

pub returns-then-eq-clause-one : goal.returns-then-eq-clause-one
returns-then-eq-clause-one c = λ yes. (inputs_alone c.args.line.now (inl ((slice_eq-Decides Decides-eqb c.args.line.now (inputs_line ++ 10 ∷ []) c.eq.result c.eq.ensures).0 yes))).0

pub returns-then-eq-clause-quiet : goal.returns-then-eq-clause-quiet
returns-then-eq-clause-quiet c = λ yes. (inputs_alone c.args.line.now (inl ((slice_eq-Decides Decides-eqb c.args.line.now (inputs_line ++ 10 ∷ []) c.eq.result c.eq.ensures).0 yes))).1

pub returns-else-eq-clause-one : goal.returns-else-eq-clause-one
returns-else-eq-clause-one c = λ yes. (inputs_alone c.args.line.now (inr ((slice_eq-Decides Decides-eqb c.args.line.now (inputs_line ++ 13 ∷ 10 ∷ []) c.eq-else-eq.result c.eq-else-eq.ensures).0 yes))).0

pub returns-else-eq-clause-quiet : goal.returns-else-eq-clause-quiet
returns-else-eq-clause-quiet c = λ yes. (inputs_alone c.args.line.now (inr ((slice_eq-Decides Decides-eqb c.args.line.now (inputs_line ++ 13 ∷ 10 ∷ []) c.eq-else-eq.result c.eq-else-eq.ensures).0 yes))).1
