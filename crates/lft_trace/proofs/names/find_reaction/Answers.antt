use Rattle.std.proofs.Common.{rules, ◌≢◌, ◌≡◌, ◌<◌, ℕ, IfNone, IfSome, List, Option, Some, None, length}
use Rattle.lft_ir.specs.{Names.{AreDistinct, IsNamed, ThingNames}, Parts.Parts, Sound.IsSound, declared.found.Found.Found}
use Rattle.lft_trace.proofs.TraceFacts.{reaction_there}
use Rattle.lft_ir.specs.declared.found.Found.TheVariants as found
use Rattle.lft_trace.proofs.names.find_reaction.Goals as goal

other : (names : ThingNames) (f : Found) (text : List ℕ) (o : Option ℕ) → AreDistinct names → IsNamed names f text → IfNone o ((r : ℕ) → f ≢ found.Reaction r)
    → IfNone o ((r : ℕ) → IsNamed names (found.Reaction r) text → ⊥)
other names f text None distinct named not_one = λ r h. not_one r (distinct f (found.Reaction r) text named h)
other names f text (Some n) distinct named not_one = tt

there : (program : Parts) (f : Found) (text : List ℕ) (o : Option ℕ) → IsSound program → IsNamed program.names f text → IfSome o (λ r. f ≡ found.Reaction r)
    → IfSome o (λ r. r < length program.reactions)
there program f text None sound named is = tt
there program f text (Some r) sound named is = reaction_there program text r sound (rw is at named)

pub returns-in-Some-clause-none : goal.returns-in-Some-clause-none
returns-in-Some-clause-none c =
    let named : IsNamed c.args.program.now.names c.in-Some.found c.args.field.now = search rules in
    other c.args.program.now.names c.in-Some.found c.args.field.now c.reaction.result c.find_bytes.ensures.sound.well_named.distinct named c.reaction.ensures.none

pub returns-in-None-clause-none : goal.returns-in-None-clause-none
returns-in-None-clause-none c = λ r h. c.in-None.ensures.none (found.Reaction r) h

pub returns-in-Some-clause-within : goal.returns-in-Some-clause-within
returns-in-Some-clause-within c =
    let named : IsNamed c.args.program.now.names c.in-Some.found c.args.field.now = search rules in
    there c.args.program.now c.in-Some.found c.args.field.now c.reaction.result c.find_bytes.ensures.sound named c.reaction.ensures.some
