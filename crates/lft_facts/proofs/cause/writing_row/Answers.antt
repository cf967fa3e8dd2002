use Rattle.std.proofs.Common.{◌≡◌, Some, slice_get, subst}
use Rattle.lft_ir.specs.Parts.{Parts}
use Rattle.lft_rows.proofs.PresenceLemmas.Presences.{chain_of}
use Rattle.lft_facts.proofs.Causes.{last_written, none_written}
use Rattle.lft_facts.proofs.cause.writing_row.Goals as goal

pub returns-in-Some-clause-some : goal.returns-in-Some-clause-some
returns-in-Some-clause-some c =
    let plan = c.args.plan.now in
    let port = c.port-port.result.now in
    let chain = chain_of plan.program c.program.ensures.sound.sound c.args.port port (subst (λ (p : Parts). slice_get p.ports c.args.port ≡ Some port) c.program.ensures.value c.port-port.ensures.value) in
    last_written plan c.args.rows.now c.args.tag c.args.port port chain c.in-Some.cause (c.in-Some.ensures plan c.args.rows.now c.requires.causes)

pub returns-in-None-clause-none : goal.returns-in-None-clause-none
returns-in-None-clause-none c =
    let plan = c.args.plan.now in
    let port = c.port-port.result.now in
    let chain = chain_of plan.program c.program.ensures.sound.sound c.args.port port (subst (λ (p : Parts). slice_get p.ports c.args.port ≡ Some port) c.program.ensures.value c.port-port.ensures.value) in
    none_written plan c.args.rows.now c.args.tag c.args.port port chain (c.in-None.ensures plan c.args.rows.now c.requires.causes)
