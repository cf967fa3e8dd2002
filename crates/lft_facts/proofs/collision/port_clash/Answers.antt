use Rattle.std.proofs.Common.{◌≡◌, Some, slice_get, subst, sym, ◌∙◌, refl, Option}
use Rattle.lft_tag.specs.{declared.Tag.Tag, Shifts.Folded}
use Rattle.lft_ir.specs.{Parts.Parts, declared.parts.Name.TheVariants.Port}
use Rattle.lft_rows.specs.{declared.presence.causes.EventCause.EventCause as Event, inner.Presence.{Causes.{tag_of, IsLastCause}, Lookups.IsFirstCause}}
use Rattle.lft_rows.proofs.PresenceLemmas.{Presences.chain_of, Lists.not_true}
use Rattle.lft_facts.proofs.Causes.{last_written}
use Rattle.lft_facts.proofs.Clashes.{two_written, written_apart, no_last_clash, no_first_clash, one_tag_clash, other_written, other_place}
use Rattle.lft_facts.proofs.collision.port_clash.Goals as goal

pub returns-in_default-clause-none : goal.returns-in_default-clause-none
returns-in_default-clause-none c =
    let plan = c.args.plan.now in
    let port = c.port-flat.result.now in
    let chain = chain_of plan.program c.program.ensures.sound.sound c.args.port port (subst (λ (p : Parts). slice_get p.ports c.args.port ≡ Some port) c.program.ensures.value c.port-flat.ensures.value) in
    no_last_clash plan c.args.rows.now c.args.tag c.args.port port chain (subst (λ (o : Option Event). IsLastCause plan c.args.rows.now port.origin (port.shift.time, port.shift.steps) c.args.tag o) c.in_default.is (c.last_cause.ensures plan c.args.rows.now c.requires.causes))

pub returns-in_default-first_cause-clause-none : goal.returns-in_default-first_cause-clause-none
returns-in_default-first_cause-clause-none c =
    let plan = c.args.plan.now in
    let port = c.port-flat.result.now in
    let chain = chain_of plan.program c.program.ensures.sound.sound c.args.port port (subst (λ (p : Parts). slice_get p.ports c.args.port ≡ Some port) c.program.ensures.value c.port-flat.ensures.value) in
    no_first_clash plan c.args.rows.now c.args.tag c.args.port port chain (subst (λ (o : Option Event). IsFirstCause plan c.args.rows.now port.origin (port.shift.time, port.shift.steps) c.args.tag o) c.in_default-first_cause.is (c.first_cause.ensures plan c.args.rows.now c.requires.causes))

pub returns-then-is_same-clause-none : goal.returns-then-is_same-clause-none
returns-then-is_same-clause-none c =
    let plan = c.args.plan.now in
    let port = c.port-flat.result.now in
    let chain = chain_of plan.program c.program.ensures.sound.sound c.args.port port (subst (λ (p : Parts). slice_get p.ports c.args.port ≡ Some port) c.program.ensures.value c.port-flat.ensures.value) in
    one_tag_clash plan c.args.rows.now c.args.tag c.args.port port chain c.in-Some-first_cause.first c.in-Some.last (c.in-Some-first_cause.ensures plan c.args.rows.now c.requires.causes) (c.in-Some.ensures plan c.args.rows.now c.requires.causes) (sym c.cause_tag.ensures ∙ c.if-is_same.ensures.0 refl ∙ c.cause_tag-2.ensures)

pub returns-clause-holds : goal.returns-clause-holds
returns-clause-holds c =
    let plan = c.args.plan.now in
    let t = c.args.rows.now in
    let port = c.port-flat.result.now in
    let chain = chain_of plan.program c.program.ensures.sound.sound c.args.port port (subst (λ (p : Parts). slice_get p.ports c.args.port ≡ Some port) c.program.ensures.value c.port-flat.ensures.value) in
    let first = c.in-Some-first_cause.ensures plan t c.requires.causes in
    let last = c.in-Some.ensures plan t c.requires.causes in
    let other : IsLastCause plan t port.origin (0, 0) (tag_of c.in-Some-first_cause.first) (Some c.in-Some-last_cause.other) = subst (λ (s : Folded). IsLastCause plan t port.origin s (tag_of c.in-Some-first_cause.first) (Some c.in-Some-last_cause.other)) c.none.ensures (subst (λ (g : Tag). IsLastCause plan t port.origin (c.none.result.time, c.none.result.steps) g (Some c.in-Some-last_cause.other)) c.cause_tag-3.ensures (c.in-Some-last_cause.ensures plan t c.requires.causes)) in
    record {
      name = Port c.args.port;
      first = other_written plan t c.args.tag c.args.port port chain c.in-Some-first_cause.first c.in-Some.last first last c.in-Some-last_cause.other other;
      second = last_written plan t c.args.tag c.args.port port chain c.in-Some.last last;
      first_event = refl;
      second_event = refl;
      apart = written_apart c.args.tag c.args.port c.in-Some-last_cause.other.place c.in-Some.last.place (other_place plan t c.args.tag c.args.port port chain c.in-Some-first_cause.first c.in-Some.last first last c.in-Some-last_cause.other other c.args.causes.now c.requires.causes (λ e. not_true (c.if-is_same.ensures.1 (c.cause_tag.ensures ∙ e ∙ sym c.cause_tag-2.ensures))));
    }

pub returns-clause-gives : goal.returns-clause-gives
returns-clause-gives c =
    let plan = c.args.plan.now in
    let t = c.args.rows.now in
    let port = c.port-flat.result.now in
    let chain = chain_of plan.program c.program.ensures.sound.sound c.args.port port (subst (λ (p : Parts). slice_get p.ports c.args.port ≡ Some port) c.program.ensures.value c.port-flat.ensures.value) in
    let other : IsLastCause plan t port.origin (0, 0) (tag_of c.in-Some-first_cause.first) (Some c.in-Some-last_cause.other) = subst (λ (s : Folded). IsLastCause plan t port.origin s (tag_of c.in-Some-first_cause.first) (Some c.in-Some-last_cause.other)) c.none.ensures (subst (λ (g : Tag). IsLastCause plan t port.origin (c.none.result.time, c.none.result.steps) g (Some c.in-Some-last_cause.other)) c.cause_tag-3.ensures (c.in-Some-last_cause.ensures plan t c.requires.causes)) in
    two_written c.args.tag c.args.port c.in-Some-last_cause.other.place c.in-Some.last.place (other_place plan t c.args.tag c.args.port port chain c.in-Some-first_cause.first c.in-Some.last (c.in-Some-first_cause.ensures plan t c.requires.causes) (c.in-Some.ensures plan t c.requires.causes) c.in-Some-last_cause.other other c.args.causes.now c.requires.causes (λ e. not_true (c.if-is_same.ensures.1 (c.cause_tag.ensures ∙ e ∙ sym c.cause_tag-2.ensures))))
