use Rattle.std.proofs.Common.{◌≡◌, ◌≤◌, [], length, sym, ap, arith}
use Rattle.std.specs.Prelude.{unwrap_or}
use Rattle.std.proofs.lemmas.Option.{slice_get_past}
use Rattle.lft_ir.specs.Words.Words.{reaction_words}
use Rattle.lft_coverage.proofs.Taking.{took_nothing, took_so}
use Rattle.lft_coverage.proofs.putting.put_reaction.Goals as goal

pub returns-then-reaction-reactions : goal.returns-then-reaction-reactions
returns-then-reaction-reactions g c = took_so (sym (ap (λ o. unwrap_or o []) c.name_of_reaction.ensures.value)) c.put.ensures

pub returns : goal.returns
returns g c =
    let program = c.args.program.now in
    let named = c.reactions.ensures.sound.well_named.reactions in
    let count = c.reactions.ensures.count in
    let past : length c.args.program.now.names.reactions ≤ c.args.reaction = omega (arith, named, count) in
    let none : [] ≡ reaction_words c.args.program.now c.args.reaction = sym (ap (λ o. unwrap_or o []) (slice_get_past program.names.reactions c.args.reaction past)) in
    took_so none (took_nothing _ _)
