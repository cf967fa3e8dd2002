use Rattle.std.proofs.Common.{◌≡◌, ℕ, Bool, OnErr, IfErr, Result, Ok, Err, Option, List, subst, ◌∙◌}
use Rattle.lft_ir.specs.Parts.{Parts}
use Rattle.lft_graph.specs.Graph.{GraphParts, IsGraphOf}
use Rattle.lft_load.{specs.{declared.fault.Fault.Fault, Written.AppendsFront}, proofs.Loading.graph_none}
use Rattle.lft_driver.specs.{Refusals.{ShowProgramRefusal, ShowProgramRefusal.{by_graph, by_writer}}, Shown.lines_of}
use Rattle.lft_load.specs.declared.fault.Part.TheVariants as part
use Rattle.lft_driver.proofs.show.show_program.Goals as goal

-- a writer that failed on the lines
unwritten : {X : Type 0} (all : Bool) (program : Parts) (old new : Option (List ℕ)) (graph : GraphParts) (lines : List ℕ) → IsGraphOf program graph → lines ≡ lines_of all program graph → (r : Result X Fault) → OnErr r (AppendsFront old new lines) → IfErr r (λ f. f.part ≡ part.Write) → IfErr r (λ f. f.number ≡ 1) → IfErr r (ShowProgramRefusal all program old new)
unwritten all program old new graph lines has same (Ok x) front p n = p
unwritten all program old new graph lines has same (Err f) front p n = by_writer graph p n has (subst (AppendsFront old new) same front)

pub returns-in-Err-clause-refused : goal.returns-in-Err-clause-refused
returns-in-Err-clause-refused g c = by_graph c.in-Err.ensures.refused

pub returns-in-Err-clause-none : goal.returns-in-Err-clause-none
returns-in-Err-clause-none g c = λ t n. graph_none c.args.program.now c.in-Err.fault c.in-Err.ensures.refused t n

pub returns-in-Ok-lines-clause-refused : goal.returns-in-Ok-lines-clause-refused
returns-in-Ok-lines-clause-refused g c =
    unwritten c.args.all c.args.program.now _ _ c.in-Ok.graph c.as_bytes.result.now c.in-Ok.ensures.graph (c.as_bytes.ensures.value ∙ c.in-Ok-lines.ensures) c.write_text.result c.write_text.ensures.front c.write_text.ensures.part c.write_text.ensures.number
