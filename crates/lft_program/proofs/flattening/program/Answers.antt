use Rattle.std.proofs.Common.{refl, sym, subst}
use Rattle.lft_tree.specs.View.{tree_view}
use Rattle.lft_program.{specs.Flattening.Flat, proofs.Laid.{flat_of_parts, limits_of_parts}}
use Rattle.lft_ir.specs.Parts.{Parts}
use Rattle.lft_program.proofs.flattening.program.Goals as goal

pub assembled-requires-clause-flat : goal.assembled-requires-clause-flat
assembled-requires-clause-flat c =
    let tree = tree_view c.args.ast.now in
    let n = c.requires in
    let program : Parts = record { ports = c.in_ok-ports.ports.items; actions = c.in_ok-actions.actions.items; timers = c.in_ok-timers.timers.items; reactions = c.in_ok-reactions.reactions.items; names = c.in_ok-names.names } in (
      tree,
      n.is_lawful,
      n.in_time,
      flat_of_parts tree c.args.tables.now c.args.nest.now c.args.links.now n program
          (c.in_ok-ports.ensures.origins tree n program refl) (c.in_ok-ports.ensures.ports tree n) (c.in_ok-actions.ensures tree n) (c.in_ok-timers.ensures tree n) (c.in_ok-reactions.ensures tree n) (c.in_ok-names.ensures.names n.is_nest),
    )

pub assembled-requires-clause-limits : goal.assembled-requires-clause-limits
assembled-requires-clause-limits c =
    let tree = tree_view c.args.ast.now in
    let n = c.requires in
    let program : Parts = record { ports = c.in_ok-ports.ports.items; actions = c.in_ok-actions.actions.items; timers = c.in_ok-timers.timers.items; reactions = c.in_ok-reactions.reactions.items; names = c.in_ok-names.names } in
    limits_of_parts tree c.args.tables.now c.args.nest.now c.args.links.now n program
    (c.in_ok-ports.ensures.origins tree n program refl) (c.in_ok-ports.ensures.ports tree n) (c.in_ok-actions.ensures tree n) (c.in_ok-timers.ensures tree n) (c.in_ok-reactions.ensures tree n) (c.in_ok-names.ensures.names n.is_nest)

pub returns : goal.returns
returns c =
    let tree = tree_view c.args.ast.now in
    let n = c.requires in
    let program : Parts = record { ports = c.in_ok-ports.ports.items; actions = c.in_ok-actions.actions.items; timers = c.in_ok-timers.timers.items; reactions = c.in_ok-reactions.reactions.items; names = c.in_ok-names.names } in
    subst (Flat tree) (sym c.assembled.ensures) (flat_of_parts tree c.args.tables.now c.args.nest.now c.args.links.now n program
    (c.in_ok-ports.ensures.origins tree n program refl) (c.in_ok-ports.ensures.ports tree n) (c.in_ok-actions.ensures tree n) (c.in_ok-timers.ensures tree n) (c.in_ok-reactions.ensures tree n) (c.in_ok-names.ensures.names n.is_nest))
