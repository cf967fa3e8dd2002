use Rattle.std.proofs.Common.{sym, subst}
use Rattle.lft_program.{specs.inner.FullNames.AreFullNames, proofs.{NamedParts.{are_starts, full}, OneNaming.one_naming, Words.AreWords-names_from}}
use Rattle.lft_ir.specs.Names.{AreWords}
use Rattle.lft_program.proofs.naming.full_names.Goals as goal

pub new-requires : goal.new-requires
new-requires c =
    let a = c.args in
    are_starts a.instances.now a.ports.now a.actions.now a.timers.now a.reactions.now c.requires.things c.requires.few c.in_ok-texts.texts c.in_ok-texts.ensures

pub returns-clause-names : goal.returns-clause-names
returns-clause-names c =
    let a = c.args in
    let all = full a.instances.now a.ports.now a.actions.now a.timers.now a.reactions.now c.requires.things c.requires.few c.in_ok-texts.texts c.in_ok-texts.ensures in
    subst (AreFullNames a.instances.now a.ports.now a.actions.now a.timers.now a.reactions.now) (sym c.new.ensures.value) all

pub returns-clause-one : goal.returns-clause-one
returns-clause-one c =
    let a = c.args in
    let all = full a.instances.now a.ports.now a.actions.now a.timers.now a.reactions.now c.requires.things c.requires.few c.in_ok-texts.texts c.in_ok-texts.ensures in
    let these = subst (AreFullNames a.instances.now a.ports.now a.actions.now a.timers.now a.reactions.now) (sym c.new.ensures.value) all in
    λ other those. one_naming a.instances.now a.ports.now a.actions.now a.timers.now a.reactions.now c.requires.things.nested c.new.result other these those

pub returns-clause-words : goal.returns-clause-words
returns-clause-words c =
    let a = c.args in
    let starts = are_starts a.instances.now a.ports.now a.actions.now a.timers.now a.reactions.now c.requires.things c.requires.few c.in_ok-texts.texts c.in_ok-texts.ensures in
    subst AreWords (sym c.new.ensures.value) (AreWords-names_from a.instances.now a.ports.now a.actions.now a.timers.now a.reactions.now c.requires.things c.requires.few c.in_ok-texts.texts c.in_ok-texts.ensures _ starts)
