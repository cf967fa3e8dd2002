use Rattle.std.proofs.Common.{◌≡◌, ◌∙◌, ℕ, List, Option, Some, None, slice_get, sym, IfNone}
use Rattle.lft_ir.specs.{Parts.{Parts, inputs}, Sound.IsSound, declared.parts.{Name.Name, Reaction.Reaction}}
use Rattle.lft_trace.specs.Traces.{IsThing}
use Rattle.lft_record.{specs.Expressions.IsInput, proofs.TermsDiffer.one_thing}
use Rattle.lft_record.proofs.cards.expression.read_input.Goals as goal

-- a name that is no input of the reaction is none that the text may have
none : (program : Parts) (r : ℕ) (text : List ℕ) (x : Reaction) (n : Name) (o : Option ℕ) → IsSound program → slice_get program.reactions r ≡ Some x → IsThing program text n
    → IfNone o ((i : ℕ) → slice_get (inputs x) i ≡ Some n → ⊥) → IfNone o ((i : ℕ) → IsInput program r text i → ⊥)
none program r text x n (Some i) sound at named other = tt
none program r text x n None sound at named other = λ i h.
    let e : Some h.0 ≡ Some x = sym h.2 ∙ at in
    let same : h.0 ≡ x = cc e in
    let name : h.1 ≡ n = one_thing program text h.1 n sound.well_named.distinct h.4 named in
    other i (rw (← same, ← name) h.3)

pub returns-in-Some-clause-none : goal.returns-in-Some-clause-none
returns-in-Some-clause-none c = none c.args.program.now c.args.reaction c.args.text.now c.reaction.result.now c.in-Some.name c.place_of.result c.reaction.ensures.sound c.reaction.ensures.value c.in-Some.ensures.some c.place_of.ensures.none
