use Rattle.std.proofs.Common.{subst}
use Rattle.lft_lower.specs.inner.{Meanings.{Meanings.{all_places, here, token_in}, Standing.all_tokens}, Lowered.{Adds, AreConnected}}
use Rattle.lft_lower.specs.inner.Standing.{AddsAt, AreSidesAt}
use Rattle.lft_lower.proofs.connections.push_connection.Goals as goal

pub returns-clause-joined : goal.returns-clause-joined
returns-clause-joined c =
    let h = here c.args.within in
    let w = c.args.connection.now in
    subst (λ delay. Adds c.args.list.now.items c.push_sides.new.list.items (AreConnected (all_places h w.sources.items) (all_places h w.destinations.items) w.is_broadcast delay)) c.in_ok-delay.ensures.time c.in_ok-push_sides.ensures.made

pub returns-clause-at : goal.returns-clause-at
returns-clause-at c =
    let number = token_in c.args.within in
    let h = here c.args.within in
    let w = c.args.connection.now in
    subst (λ delay. AddsAt c.args.list.now.items c.push_sides.new.list.items (number w.arrow) (AreSidesAt (all_tokens number h w.sources.items) (all_tokens number h w.destinations.items) w.is_broadcast delay)) c.in_ok-delay.ensures.at c.in_ok-push_sides.ensures.at
