use Rattle.std.proofs.Common.{Some, sym, ap, subst, ◌∙◌}
use Rattle.lft_elaborate.specs.inner.{Noted.table, Places.HasPlaces}
use Rattle.lft_elaborate.proofs.{Counting.own_places, Keeping.goes_further, Standing.{places_then, port_channels}}
use Rattle.lft_elaborate.proofs.settings.Settings.channels.Goals as goal

pub returns-in_ok-count-in-Own-clause-goes : goal.returns-in_ok-count-in-Own-clause-goes
returns-in_ok-count-in-Own-clause-goes c = goes_further _ _ _ c.in_ok-enter.ensures.goes c.in_ok-count-in-Own.ensures.goes

pub returns-in_ok-count-in-Own-clause-places : goal.returns-in_ok-count-in-Own-clause-places
returns-in_ok-count-in-Own-clause-places c t made at =
    let s = c.enter.new.self in
    let r = c.args.reference.now in
    let n = c.in_ok-count-in-Own.count in
    places_then (table c.args.self.now) (table s) c.in_ok-enter.ensures.goes c.args.setting t made at r n (λ u made_one there. own_places s.shapes.items u r c.in-Own.thing n (c.in_ok-meaning.ensures u there ∙ ap Some c.in-Own.is) (c.in_ok-count-in-Own.ensures.many u made_one there))

pub returns-in_ok-members-in-Port-clause-goes : goal.returns-in_ok-members-in-Port-clause-goes
returns-in_ok-members-in-Port-clause-goes c = goes_further _ _ _ (goes_further _ _ _ c.in_ok-enter.ensures.goes c.in_ok-ports-in-Port.ensures.goes) c.in_ok-members-in-Port.ensures.goes

pub returns-in_ok-members-in-Port-clause-places : goal.returns-in_ok-members-in-Port-clause-places
returns-in_ok-members-in-Port-clause-places c t made at =
    let s = c.args.self.now in
    let r = c.args.reference.now in
    subst (λ n. HasPlaces s.shapes.items t r n) (sym c.saturating_mul.ensures) (port_channels (table s) (table c.enter.new.self) (table c.many-in-Port.new.self) c.in_ok-enter.ensures.goes c.in_ok-ports-in-Port.ensures.goes c.args.setting c.in_ok-inner-in-Port.inner t made at r c.in-Port.instance c.in-Port.port c.in_ok-ports-in-Port.ports c.in_ok-members-in-Port.members (λ u there. c.in_ok-meaning.ensures u there ∙ ap Some c.in-Port.is) c.in_ok-inner-in-Port.ensures c.in_ok-ports-in-Port.ensures.many c.in_ok-members-in-Port.ensures.many)
