-- What a refusal of one layer says of the texts.
use Rattle.std.proofs.Common.{◌≡◌, ℕ, List, IfSome, Option, Some, None, Result, Err, true, refl, sym, ◌∙◌, subst, inl, inr}
use Rattle.lft_syntax.specs.{declared.{token.Token.Token, fault.SyntaxFault.SyntaxFault}, Lexes.Lexes, View.lexemes, Grammar.Spells}
use Rattle.lft_tree.specs.Tree.{FileTree}
use Rattle.lft_resolve.specs.{declared.causes.ProgramFault.ProgramFault, Causes.{number_of as program_number, causes}}
use Rattle.lft_program.{specs.Flattening.IsFlatOf, proofs.Firsts.first_holds}
use Rattle.lft_ir.specs.{Parts.Parts, Steps.Inputs.ExternalInputs}
use Rattle.lft_trace.specs.{declared.fault.TraceFault.TraceFault, Faults.is_told, ExternalTables.ExternalTable}
use Rattle.lft_tables.specs.Records.{records_of}
use Rattle.lft_model.specs.Plans.{PlanParts}
use Rattle.lft_load.specs.{Faults.{syntax_number, graph_number, table_number, IsFaultOfPart}, Meaning.{IsTreeOf, IsProgramOf, IsPlanOf, IsPlanUnder, IsOnly}}
use Rattle.lft_load.specs.{Refusals.{SyntaxFails, ProgramFails, GraphFails, GraphRefusal, is_of_text}, declared.fault.{Fault.Fault, Part.Part}}
use Rattle.lft_graph.{specs.{Precedence.HasNoLoop, declared.fault.GraphFault.GraphFault}, proofs.Cycles.is_cycle}
use Rattle.lft_syntax.specs.declared.fault.SyntaxFault.TheVariants as syntax
use Rattle.lft_resolve.specs.declared.causes.ProgramFault.TheVariants as program
use Rattle.lft_trace.specs.declared.fault.TraceFault.TheVariants as table
use Rattle.lft_graph.specs.declared.fault.GraphFault.TheVariants as graph
use Rattle.lft_load.specs.declared.fault.Part.TheVariants as part

-- a fault of this part and number tells something of the texts
pub told_at : (p q : Part) (m n : ℕ) → p ≡ q → m ≡ n → is_of_text p m ≡ true → is_of_text q n ≡ true
told_at p q m n e f t = subst (λ k. is_of_text q k ≡ true) f (subst (λ k. is_of_text k m ≡ true) e t)

-- the tokens of a text are one list
pub one_tree : (text : List ℕ) (tokens : List Token) → ((other : List Token) → Lexes text other → other ≡ tokens) → (tree : FileTree) → IsTreeOf text tree → Spells tree (lexemes text tokens)
one_tree text tokens one tree x = subst (λ k. Spells tree (lexemes text k)) (one x.tokens x.lexed) x.spelled

pub syntax_fails : {X : Type 0} (text : List ℕ) (tokens : List Token) (result : Result X SyntaxFault) (e : SyntaxFault) → result ≡ Err e → ((k : ℕ) → result ≡ Err (syntax.Unexpected k) → SyntaxFails text tokens (syntax.Unexpected k)) → SyntaxFails text tokens e
syntax_fails text tokens result (syntax.Unexpected k) q h = h k q
syntax_fails text tokens result syntax.NoMemory q h = tt

-- tokens that no tree has
pub syntax_none : (text : List ℕ) (tokens : List Token) (e : SyntaxFault) → SyntaxFails text tokens e → is_of_text part.Syntax (syntax_number e) ≡ true → (tree : FileTree) → Spells tree (lexemes text tokens) → ⊥
syntax_none text tokens (syntax.Unexpected k) h t tree x = h.2 (lexemes text tokens) tree refl x
syntax_none text tokens syntax.NoMemory h t tree x = absurd (cc t)

-- a tree without a flat program
pub program_none : (tree : FileTree) (e : ProgramFault) → ProgramFails tree e → is_of_text part.Program (program_number e) ≡ true → (parts : Parts) → IsFlatOf tree parts → ⊥
program_none tree e h t parts x = first_holds (causes tree) (program_number e) (h (λ q. absurd (untold (subst (λ k. is_of_text part.Program (program_number k) ≡ true) q t)))) x.none
  where
    untold : is_of_text part.Program (program_number program.NoMemory) ≡ true → ⊥
    untold s = cc s

-- a table's fault that tells something of the texts is told of them
pub trace_told : (e : TraceFault) → is_of_text part.Trace (table_number e) ≡ true → is_told e ≡ true
trace_told table.BadHeader t = refl
trace_told (table.BadFieldCount line) t = refl
trace_told (table.BadEvent line) t = refl
trace_told (table.BadNumber line) t = refl
trace_told (table.UnknownName line) t = refl
trace_told (table.FieldInPlace line) t = refl
trace_told (table.DuplicateExternal line) t = refl
trace_told table.NoStop t = refl
trace_told (table.TwoStops line) t = refl
trace_told table.TooManyRows t = refl
trace_told table.NotCsv t = absurd (cc t)
trace_told table.NoMemory t = absurd (cc t)

pub externals_told : (e : TraceFault) → is_of_text part.Externals (table_number e) ≡ true → is_told e ≡ true
externals_told e t = trace_told e t

-- equal parts make equal plans
same_plan : (p q : Parts) (x y : ExternalInputs) → p ≡ q → x ≡ y → (let a : PlanParts = record { program = p; externals = x } in let b : PlanParts = record { program = q; externals = y } in a ≡ b)
same_plan p q x y e f = cc

-- the flat program of a text is one
module _ (text : List ℕ) (tree : FileTree) (only_tree : IsOnly (IsTreeOf text) tree) where
  pub flat_of : (parts : Parts) → (x : IsProgramOf text parts) → IsFlatOf tree parts
  flat_of parts x = subst (λ t. IsFlatOf t parts) (only_tree.only x.tree x.is_tree) x.is_flat

  pub only_program : (parts : Parts) → IsFlatOf tree parts → ((other : Parts) → IsFlatOf tree other → other ≡ parts) → IsOnly (IsProgramOf text) parts
  only_program parts flat one = record {
    is = record { tree = tree; is_tree = only_tree.is; is_flat = flat };
    only = λ other x. one other (flat_of other x);
  }

-- the plan of a program and a table that is known is one
pub only_under : (known : Option (List ℕ)) (program : Parts) (given : ExternalInputs) (plan : PlanParts) → HasNoLoop program → IfSome known (λ text. ExternalTable program (records_of text) given)
    → IfSome known (λ text. (other : ExternalInputs) → ExternalTable program (records_of text) other → other ≡ given) → plan.program ≡ program → plan.externals ≡ given → IfSome known (λ text. IsOnly (IsPlanUnder program text) plan)
only_under None program given plan no_loop table one p e = tt
only_under (Some text) program given plan no_loop table one p e = record {
  is = record { of_program = p; no_loop = no_loop; is_externals = subst (λ k. ExternalTable program (records_of text) k) (sym e) table };
  only = λ other x. same_plan other.program plan.program other.externals plan.externals (x.of_program ∙ sym p) (one other.externals x.is_externals ∙ sym e);
}

-- and so is that of two texts
module _ (text externals : List ℕ) (program : Parts) (only : IsOnly (IsProgramOf text) program) where
  pub under : (plan : PlanParts) → IsPlanOf text externals plan → IsPlanUnder program externals plan
  under plan x = subst (λ p. IsPlanUnder p externals plan) (only.only plan.program x.is_program) x.is_plan

  pub only_plan : (plan : PlanParts) → IsOnly (IsPlanUnder program externals) plan → IsOnly (IsPlanOf text externals) plan
  only_plan plan one =
      let same : program ≡ plan.program = sym one.is.of_program in
      record {
        is = record { is_program = subst (λ p. IsProgramOf text p) same only.is; is_plan = subst (λ p. IsPlanUnder p externals plan) same one.is };
        only = λ other x. one.only other (under other x);
      }

graph_untold : (p : Part) (n : ℕ) → p ≡ part.Graph → n ≡ 2 → is_of_text p n ≡ true → ⊥
graph_untold p n e f t = let q : is_of_text part.Graph 2 ≡ true = told_at p part.Graph n 2 e f t in cc q

pub memory_untold : (p : Part) (n : ℕ) → p ≡ part.Memory → is_of_text p n ≡ true → ⊥
memory_untold p n e t = let q : is_of_text part.Memory n ≡ true = subst (λ k. is_of_text k n ≡ true) e t in cc q

-- a program with a loop has no graph, and want of memory tells nothing of it
pub graph_none : (program : Parts) (f : Fault) → GraphRefusal program f → is_of_text f.part f.number ≡ true → HasNoLoop program → ⊥
graph_none program f x t n = go x.0 x.1 x.2
  where
    go : (e : GraphFault) → IsFaultOfPart f part.Graph (graph_number e) → GraphFails program e → ⊥
    go (graph.CausalityLoop loop) i h = let c = is_cycle program loop h in n c.0 c.1
    go graph.NoMemory (inl i) h = graph_untold f.part f.number i.0 i.1 t
    go graph.NoMemory (inr i) h = memory_untold f.part f.number i.0 t
