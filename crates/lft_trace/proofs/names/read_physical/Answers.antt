use Rattle.std.proofs.Common.{rules, ◌≡◌, ◌∙◌, ℕ, List, Some, true, false, sym, slice_get}
use Rattle.lft_ir.specs.{Names.{AreDistinct, IsNamed}, Parts.Parts, declared.parts.Action.Action as ActionOf}
use Rattle.lft_trace.specs.ExternalTables.{IsPhysical}
use Rattle.lft_ir.specs.declared.found.Found.TheVariants as found
use Rattle.lft_trace.proofs.names.read_physical.Goals as goal

logical : (program : Parts) (text : List ℕ) (n a : ℕ) (action : ActionOf) → AreDistinct program.names → IsNamed program.names (found.Action n) text → slice_get program.actions n ≡ Some action → action.physical ≡ false → IsPhysical program text a → ⊥
logical program text n a action distinct named at not_so h =
    let e = distinct (found.Action n) (found.Action a) text named h.0 in
    let s : n ≡ a = cc (e) in
    let x = h.1.1 in
    let y = h.1.2 in
    let z : Some action ≡ Some h.1.0 = sym at ∙ rw s x in
    let w : action ≡ h.1.0 = cc (z) in
    absurd (let q : true ≡ false = sym y ∙ rw (← w) not_so in cc (q))

pub returns-else-action-clause-none : goal.returns-else-action-clause-none
returns-else-action-clause-none c = λ a h.
    let is : c.in-Some.found ≡ found.Action c.in-Some-action.number = c.in-Some-action.ensures.some in
    let named : IsNamed c.args.program.now.names c.in-Some.found c.args.field.now = search rules in
    logical c.args.program.now c.args.field.now c.in-Some-action.number a c.action-in-Some-action.result.now c.find_bytes.ensures.sound.well_named.distinct (rw is at named) c.action-in-Some-action.ensures.value c.if-action.false h

pub returns-in-None-action-clause-none : goal.returns-in-None-action-clause-none
returns-in-None-action-clause-none c = λ a h.
    let named : IsNamed c.args.program.now.names c.in-Some.found c.args.field.now = search rules in
    c.in-None-action.ensures.none a (c.find_bytes.ensures.sound.well_named.distinct c.in-Some.found (found.Action a) c.args.field.now named h.0)

pub returns-in-None-clause-none : goal.returns-in-None-clause-none
returns-in-None-clause-none c = λ a h. c.in-None.ensures.none (found.Action a) h.0
