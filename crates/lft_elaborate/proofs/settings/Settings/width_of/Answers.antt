use Rattle.std.proofs.Common.{◌≡◌, Some, sym, ap, subst, ◌∙◌}
use Rattle.std.specs.Prelude.{IfSome}
use Rattle.lft_elaborate.{specs.inner.{Noted.{AreMade, table}, Places.HasPlaces, Settings.setting_at, Values.Valued}, proofs.Standing.{own_count, port_times}}
use Rattle.lft_elaborate.proofs.settings.Settings.width_of.Goals as goal

pub returns-in_ok-count-in-Own-clause-places : goal.returns-in_ok-count-in-Own-clause-places
returns-in_ok-count-in-Own-clause-places c = own_count (table c.args.self.now) (table c.enter.new.self) c.in_ok-enter.ensures.goes c.args.setting c.args.reference.now c.in-Own.thing c.in_ok-count-in-Own.count (λ u there. c.in_ok-meaning.ensures u there ∙ ap Some c.in-Own.is) c.in_ok-count-in-Own.ensures.many

pub returns-in_ok-members-in-Port-clause-places : goal.returns-in_ok-members-in-Port-clause-places
returns-in_ok-members-in-Port-clause-places c =
    let s = c.args.self.now in
    let r = c.args.reference.now in
    subst (λ o. IfSome o (λ n. (t : Valued) → AreMade (table s) → setting_at s c.args.setting ≡ Some t → HasPlaces s.shapes.items t r n)) (sym c.times.ensures) (port_times (table s) (table c.enter.new.self) c.in_ok-enter.ensures.goes c.args.setting c.in_ok-inner-in-Port.inner r c.in-Port.instance c.in-Port.port c.in_ok-ports-in-Port.ports c.in_ok-members-in-Port.members (λ u there. c.in_ok-meaning.ensures u there ∙ ap Some c.in-Port.is) c.in_ok-inner-in-Port.ensures c.in_ok-ports-in-Port.ensures.many c.in_ok-members-in-Port.ensures.many)
