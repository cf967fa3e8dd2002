use Rattle.std.proofs.Common.{[], ◌∷◌, ◌++◌, inl, inr}
use Rattle.std.proofs.lemmas.{Bool.Decides.Decides-eqb, Slice.Eq.slice_eq-Decides}
use Rattle.lft_trace.proofs.Headers.{csv_line, header_alone, line}
use Rattle.lft_trace.proofs.reading.headers.is_header_line.Goals as goal

pub returns-then-eq-clause-one : goal.returns-then-eq-clause-one
returns-then-eq-clause-one c = λ yes. (header_alone c.args.line.now (inl ((slice_eq-Decides Decides-eqb c.args.line.now (line ++ 10 ∷ []) c.eq.result c.eq.ensures).0 yes))).0

pub returns-then-eq-clause-quiet : goal.returns-then-eq-clause-quiet
returns-then-eq-clause-quiet c = λ yes. (header_alone c.args.line.now (inl ((slice_eq-Decides Decides-eqb c.args.line.now (line ++ 10 ∷ []) c.eq.result c.eq.ensures).0 yes))).1

pub returns-else-eq-clause-one : goal.returns-else-eq-clause-one
returns-else-eq-clause-one c = λ yes. (header_alone c.args.line.now (inr ((slice_eq-Decides Decides-eqb c.args.line.now (csv_line ++ 10 ∷ []) c.eq-else-eq.result c.eq-else-eq.ensures).0 yes))).0

pub returns-else-eq-clause-quiet : goal.returns-else-eq-clause-quiet
returns-else-eq-clause-quiet c = λ yes. (header_alone c.args.line.now (inr ((slice_eq-Decides Decides-eqb c.args.line.now (csv_line ++ 10 ∷ []) c.eq-else-eq.result c.eq-else-eq.ensures).0 yes))).1
