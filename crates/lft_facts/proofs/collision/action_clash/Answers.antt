use Rattle.std.proofs.Common.{◌≡◌, ◌+◌, ℕ, length, ap, ◌∙◌, subst, arith, Option, Some}
use Rattle.lft_tag.specs.Shifts.{Folded}
use Rattle.lft_ir.specs.{Parts.Parts, declared.parts.Name.TheVariants.Action}
use Rattle.lft_rows.specs.{declared.presence.causes.EventCause.EventCause as Event, inner.Presence.{Causes.IsLastCause, Lookups.IsFirstCause}}
use Rattle.lft_facts.proofs.{Causes.action_holds, Clashes.{no_first_events, no_last_events, one_place_events, places_clash, places_apart, place_event}}
use Rattle.lft_facts.proofs.collision.action_clash.Goals as goal

pub returns-in_default-clause-none : goal.returns-in_default-clause-none
returns-in_default-clause-none c =
    let plan = c.args.plan.now in
    let t = c.args.rows.now in
    let many : c.ports.result ≡ length plan.program.ports = c.ports.ensures.count ∙ ap (λ (p : Parts). length p.ports) c.program.ensures.value in
    no_first_events plan t c.requires.fit c.args.tag c.args.action (subst (λ (o : Option Event). IsFirstCause plan t (length plan.program.ports + c.args.action) (0, 0) c.args.tag o) c.in_default.is (subst (λ (s : Folded). IsFirstCause plan t (length plan.program.ports + c.args.action) s c.args.tag c.first_cause.result) c.none.ensures (subst (λ (n : ℕ). IsFirstCause plan t (n + c.args.action) (c.none.result.time, c.none.result.steps) c.args.tag c.first_cause.result) many (c.first_cause.ensures plan t c.requires.causes))))

pub returns-in_default-last_cause-clause-none : goal.returns-in_default-last_cause-clause-none
returns-in_default-last_cause-clause-none c =
    let plan = c.args.plan.now in
    let t = c.args.rows.now in
    let many : c.ports.result ≡ length plan.program.ports = c.ports.ensures.count ∙ ap (λ (p : Parts). length p.ports) c.program.ensures.value in
    no_last_events plan t c.requires.fit c.args.tag c.args.action (subst (λ (o : Option Event). IsLastCause plan t (length plan.program.ports + c.args.action) (0, 0) c.args.tag o) c.in_default-last_cause.is (subst (λ (s : Folded). IsLastCause plan t (length plan.program.ports + c.args.action) s c.args.tag c.last_cause.result) c.none-2.ensures (subst (λ (n : ℕ). IsLastCause plan t (n + c.args.action) (c.none-2.result.time, c.none-2.result.steps) c.args.tag c.last_cause.result) many (c.last_cause.ensures plan t c.requires.causes))))

pub returns-then-first-last-clause-none : goal.returns-then-first-last-clause-none
returns-then-first-last-clause-none c =
    let plan = c.args.plan.now in
    let t = c.args.rows.now in
    let many : c.ports.result ≡ length plan.program.ports = c.ports.ensures.count ∙ ap (λ (p : Parts). length p.ports) c.program.ensures.value in
    let first : IsFirstCause plan t (length plan.program.ports + c.args.action) (0, 0) c.args.tag (Some c.in-Some.first) = subst (λ (s : Folded). IsFirstCause plan t (length plan.program.ports + c.args.action) s c.args.tag (Some c.in-Some.first)) c.none.ensures (subst (λ (n : ℕ). IsFirstCause plan t (n + c.args.action) (c.none.result.time, c.none.result.steps) c.args.tag (Some c.in-Some.first)) many (c.in-Some.ensures plan t c.requires.causes)) in
    let last : IsLastCause plan t (length plan.program.ports + c.args.action) (0, 0) c.args.tag (Some c.in-Some-last_cause.last) = subst (λ (s : Folded). IsLastCause plan t (length plan.program.ports + c.args.action) s c.args.tag (Some c.in-Some-last_cause.last)) c.none-2.ensures (subst (λ (n : ℕ). IsLastCause plan t (n + c.args.action) (c.none-2.result.time, c.none-2.result.steps) c.args.tag (Some c.in-Some-last_cause.last)) many (c.in-Some-last_cause.ensures plan t c.requires.causes)) in
    one_place_events plan t c.requires.fit c.args.tag c.args.action c.in-Some.first c.in-Some-last_cause.last first last (omega arith)

pub returns-clause-holds : goal.returns-clause-holds
returns-clause-holds c =
    let plan = c.args.plan.now in
    let t = c.args.rows.now in
    let n = length t in
    let many : c.ports.result ≡ length plan.program.ports = c.ports.ensures.count ∙ ap (λ (p : Parts). length p.ports) c.program.ensures.value in
    let first : IsFirstCause plan t (length plan.program.ports + c.args.action) (0, 0) c.args.tag (Some c.in-Some.first) = subst (λ (s : Folded). IsFirstCause plan t (length plan.program.ports + c.args.action) s c.args.tag (Some c.in-Some.first)) c.none.ensures (subst (λ (n : ℕ). IsFirstCause plan t (n + c.args.action) (c.none.result.time, c.none.result.steps) c.args.tag (Some c.in-Some.first)) many (c.in-Some.ensures plan t c.requires.causes)) in
    let last : IsLastCause plan t (length plan.program.ports + c.args.action) (0, 0) c.args.tag (Some c.in-Some-last_cause.last) = subst (λ (s : Folded). IsLastCause plan t (length plan.program.ports + c.args.action) s c.args.tag (Some c.in-Some-last_cause.last)) c.none-2.ensures (subst (λ (n : ℕ). IsLastCause plan t (n + c.args.action) (c.none-2.result.time, c.none-2.result.steps) c.args.tag (Some c.in-Some-last_cause.last)) many (c.in-Some-last_cause.ensures plan t c.requires.causes)) in
    record {
      name = Action c.args.action;
      first = action_holds plan t c.requires.fit c.args.tag c.args.action c.in-Some.first first.0 first.1 c.of_action.result c.of_action.ensures.row c.of_action.ensures.event;
      second = action_holds plan t c.requires.fit c.args.tag c.args.action c.in-Some-last_cause.last last.0 last.1 c.of_action-2.result c.of_action-2.ensures.row c.of_action-2.ensures.event;
      first_event = place_event n c.args.tag c.args.action c.in-Some.first.place c.of_action.result c.of_action.ensures.row c.of_action.ensures.event;
      second_event = place_event n c.args.tag c.args.action c.in-Some-last_cause.last.place c.of_action-2.result c.of_action-2.ensures.row c.of_action-2.ensures.event;
      apart = places_apart n c.args.tag c.args.action c.in-Some.first.place c.in-Some-last_cause.last.place c.of_action.result c.of_action-2.result c.of_action.ensures.row c.of_action.ensures.event c.of_action-2.ensures.row c.of_action-2.ensures.event (λ e. let z = c.if-first-last.false in omega arith);
    }

pub returns-clause-gives : goal.returns-clause-gives
returns-clause-gives c = places_clash (length c.args.rows.now) c.args.tag c.args.action c.in-Some.first.place c.in-Some-last_cause.last.place c.of_action.result c.of_action-2.result c.of_action.ensures.row c.of_action.ensures.event c.of_action-2.ensures.row c.of_action-2.ensures.event (λ e. let n = c.if-first-last.false in omega arith)
