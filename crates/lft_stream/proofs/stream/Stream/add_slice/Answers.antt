use Rattle.std.proofs.Common.{ℕ, ◌≡◌, ◌+◌, ◌++◌, List, take, Option, ◌∙◌, ap, refl, sym, subst, arith}
use Rattle.lft_tag.specs.{declared.Tag.Tag, Tags.{UpTo, after, earliest}}
use Rattle.lft_ir.{specs.{Parts.Parts, declared.parts.Value.Value, Steps.{Fits.RowsFit, Inputs.ExternalInputs}}, proofs.Ranges.length-range}
use Rattle.lft_rows.specs.inner.Marks.{AreMarks}
use Rattle.lft_queue.specs.inner.Coming.{Channels.caused_by, Unread.{UnreadParts, AreUnread, AreFree}, Coming.{to_come, IsReached, IsClear, IsNoLater}}
use Rattle.lft_queue.specs.inner.Coming.{Lanes.held, Writes.AreEarlierWrites}
use Rattle.lft_queue.specs.declared.coming.{coming.Coming.Coming, writes.Written.Written}
use Rattle.lft_model.specs.Presence.{requests}
use Rattle.lft_stream.specs.inner.Outlines.{AreReadsBefore}
use Rattle.lft_stream.proofs.Outlining.{effects_fit, effects_at, requests_same, writes_same, caused_same, unread_same, free_same, marks_on}
use Rattle.lft_stream.proofs.{Parting.{rows_of, are_at, part_fits}, Keeping.{own_kept, own_before, at_hand, slice_grows}}
use Rattle.lft_stream.proofs.stream.Stream.add_slice.Goals as goal

pub judge_slice-requires : goal.judge_slice-requires
judge_slice-requires c =
    let plan = c.args.plan.now in
    let rows = c.args.rows.now in
    let s = c.args.slice in
    let slice = c.requires.slice in
    let reached = subst (λ (x : ExternalInputs). IsReached x.events c.args.self.now.listeners s.tag c.args.self.now.coming c.reach.new.self) c.externals.ensures.value (c.if-not-reach.ensures refl) in
    let done = c.requires.stands.0 in
    let here = rows_of rows s slice in
    let found = c.effects-effects.ensures in
    let effects = c.effects-effects.result.now in
    let stops : c.stop_behind-self.result ≡ earliest c.args.self.now.stop (requests here) = c.stop_behind-self.ensures ∙ ap (λ (gs : List Tag). earliest c.args.self.now.stop gs) (requests_same effects here found.same) in
    let hand = at_hand plan done rows s slice c.args.self.now c.requires.stands.1 (c.if-not-may_reach.ensures.later refl) (c.if-not-may_reach.ensures.in_time refl) c.requires.kept c.program-program.ensures.sound.sound (record { stop = c.stop_behind-self.result; tag = c.args.self.now.tag; runs = c.args.self.now.runs; tags = c.args.self.now.tags; dues = c.args.self.now.dues; starts = c.args.self.now.starts; writes = c.args.self.now.writes; listeners = c.args.self.now.listeners; channels = c.args.self.now.channels; coming = c.reach.new.self; unread = c.args.self.now.unread; effort = c.args.self.now.effort; presence = c.args.self.now.presence; outline = c.find.new.self }) reached stops refl refl refl refl refl in
    let is = c.if-not-find.ensures refl in
    let marks = subst (λ (n : ℕ). AreMarks plan.program rows s.first (s.first + n) c.pass_all.new.self) c.reads_end.ensures (subst (λ (p : Parts). AreMarks p rows s.first (s.first + c.reads_end.result) c.pass_all.new.self) c.program-program.ensures.value c.pass_all.ensures) in
    record { fit = c.requires.fit; slice = slice; marks = marks_on plan.program rows s.first s.end c.find.new.self.reads c.pass_all.new.self (let l = slice.some in omega arith) slice.within (subst (λ (n : ℕ). AreReadsBefore here n c.find.new.self.reads) (length-range rows s.first s.end slice.within) is.reads) marks; outline = is; hand = (done ++ take s.first rows, hand) }

pub stop_behind-self-requires : goal.stop_behind-self-requires
stop_behind-self-requires c = subst (λ (p : Parts). RowsFit p c.effects-effects.result.now) (sym c.program-program.ensures.value) (effects_fit (rows_of c.args.rows.now c.args.slice c.requires.slice) c.effects-effects.result.now c.effects-effects.ensures c.args.plan.now.program (part_fits c.args.rows.now c.args.slice c.requires.slice c.args.plan.now.program c.requires.fit))

pub pass_all-met-requires-clause-fit : goal.pass_all-met-requires-clause-fit
pass_all-met-requires-clause-fit c = subst (λ (p : Parts). RowsFit p c.effects-effects.result.now) (sym c.program-program.ensures.value) (effects_fit (rows_of c.args.rows.now c.args.slice c.requires.slice) c.effects-effects.result.now c.effects-effects.ensures c.args.plan.now.program (part_fits c.args.rows.now c.args.slice c.requires.slice c.args.plan.now.program c.requires.fit))

pub pass_all-met-requires-clause-at : goal.pass_all-met-requires-clause-at
pass_all-met-requires-clause-at c = effects_at (rows_of c.args.rows.now c.args.slice c.requires.slice) c.effects-effects.result.now c.effects-effects.ensures c.args.slice.tag (are_at c.args.rows.now c.args.slice c.requires.slice)

pub pass_on-requires-clause-fit : goal.pass_on-requires-clause-fit
pass_on-requires-clause-fit c = effects_fit (rows_of c.args.rows.now c.args.slice c.requires.slice) c.effects-effects.result.now c.effects-effects.ensures c.args.plan.now.program (part_fits c.args.rows.now c.args.slice c.requires.slice c.args.plan.now.program c.requires.fit)

pub pass_on-requires-clause-at : goal.pass_on-requires-clause-at
pass_on-requires-clause-at c = effects_at (rows_of c.args.rows.now c.args.slice c.requires.slice) c.effects-effects.result.now c.effects-effects.ensures c.args.slice.tag (are_at c.args.rows.now c.args.slice c.requires.slice)

pub pass_on-requires-clause-writes : goal.pass_on-requires-clause-writes
pass_on-requires-clause-writes c =
    let plan = c.args.plan.now in
    let rows = c.args.rows.now in
    let s = c.args.slice in
    let slice = c.requires.slice in
    let old = c.args.self.now in
    let done = c.requires.stands.0 in
    let stands = c.requires.stands.1 in
    let reached = subst (λ (x : ExternalInputs). IsReached x.events old.listeners s.tag old.coming c.reach.new.self) c.externals.ensures.value (c.if-not-reach.ensures refl) in
    let here = rows_of rows s slice in
    let found = c.effects-effects.ensures in
    let effects = c.effects-effects.result.now in
    let stops : c.stop_behind-self.result ≡ earliest old.stop (requests here) = c.stop_behind-self.ensures ∙ ap (λ (gs : List Tag). earliest old.stop gs) (requests_same effects here found.same) in
    let hand = at_hand plan done rows s slice old stands (c.if-not-may_reach.ensures.later refl) (c.if-not-may_reach.ensures.in_time refl) c.requires.kept c.program-program.ensures.sound.sound (record { stop = c.stop_behind-self.result; tag = old.tag; runs = old.runs; tags = old.tags; dues = old.dues; starts = old.starts; writes = old.writes; listeners = old.listeners; channels = old.channels; coming = c.reach.new.self; unread = old.unread; effort = c.args.self.now.effort; presence = c.args.self.now.presence; outline = c.find.new.self }) reached stops refl refl refl refl refl in
    writes_same here effects (sym found.same) plan.program s.tag c.judge_slice.new.self.writes (c.if-not-judge_slice.ensures.judged refl (done ++ take s.first rows) hand).writes

pub returns-then-pass_on-clause-stands : goal.returns-then-pass_on-clause-stands
returns-then-pass_on-clause-stands c = λ z d stands.
    let plan = c.args.plan.now in
    let events = plan.externals.events in
    let rows = c.args.rows.now in
    let s = c.args.slice in
    let old = c.args.self.now in
    let judged = c.judge_slice.new.self in
    let later = c.if-not-may_reach.ensures.later refl in
    let reach = c.if-not-may_reach.ensures.in_time refl in
    let kept = c.requires.kept in
    let slice = c.requires.slice in
    let own_rules = own_kept plan d rows s slice old stands later reach kept in
    let ordered = c.if-not-is_kept.ensures.kept refl own_rules.0 own_rules.1 s.tag in
    let reached = subst (λ (x : ExternalInputs). IsReached x.events old.listeners s.tag old.coming c.reach.new.self) c.externals.ensures.value (c.if-not-reach.ensures refl) in
    let here = rows_of rows s slice in
    let found = c.effects-effects.ensures in
    let effects = c.effects-effects.result.now in
    let stops : c.stop_behind-self.result ≡ earliest old.stop (requests here) = c.stop_behind-self.ensures ∙ ap (λ (gs : List Tag). earliest old.stop gs) (requests_same effects here found.same) in
    let hand = at_hand plan d rows s slice old stands later reach kept c.program-program.ensures.sound.sound (record { stop = c.stop_behind-self.result; tag = old.tag; runs = old.runs; tags = old.tags; dues = old.dues; starts = old.starts; writes = old.writes; listeners = old.listeners; channels = old.channels; coming = c.reach.new.self; unread = old.unread; effort = c.args.self.now.effort; presence = c.args.self.now.presence; outline = c.find.new.self }) reached stops refl refl refl refl refl in
    let own = c.judge_slice.ensures in
    let caused = c.if-pass_on.ensures in
    let counted = c.count.ensures in
    let passed = c.pass_all-met.ensures in
    let before = own_before plan d rows s slice old stands later reach kept in
    let is = c.program-program.ensures.value in
    let done = d ++ take s.first rows in
    let unread = subst (λ (x : UnreadParts). AreUnread c.program-program.result.now done x) (sym own.unread) (subst (λ (p : Parts). AreUnread p done old.unread) (sym is) stands.unread) in
    let goes_on = subst (λ (x : UnreadParts). AreUnread plan.program (done ++ here) x) (sym counted.unread) (unread_same plan.program done effects here c.pass_all-met.new.self found.same (subst (λ (p : Parts). AreUnread p (done ++ effects) c.pass_all-met.new.self) is (passed.unread done before unread))) in
    let cleared : (h : Tag) → IsClear c.count.new.self.coming.clash h → IsClear c.drop_until.new.self.clash h × IsClear c.pass_all-met.result h = λ h clear. (c.note.ensures.clear h).0 (caused.no_later h (subst (λ (k : Coming). IsClear k.clash h) counted.coming clear)) in
    let free : (h : Tag) → IsClear c.count.new.self.coming.clash h → AreFree plan.program done here s.tag h = λ h clear. free_same plan.program done effects here s.tag h found.same (subst (λ (p : Parts). AreFree p done effects s.tag h) is (passed.free done h (cleared h clear).1 before unread)) in
    let runs = counted.runs z ∙ ap (λ (n : ℕ). n + c.runs-runs.result) own.runs ∙ ap (λ (n : ℕ). old.runs + n) c.runs-runs.ensures in
    let tags = counted.tags z ∙ ap (λ (n : ℕ). n + 1) own.tags in
    let writes = subst (λ (ws : List (Option Written)). AreEarlierWrites plan.program (after s.tag 0) ws) (sym counted.writes) (caused.earlier refl) in
    let no_later : IsNoLater c.reach.new.self.clash c.count.new.self.coming.clash = λ h clear. subst (λ (k : Coming). IsClear k.clash h) own.coming (subst (λ (k : Option Tag). IsClear k h) c.drop_until.ensures.clash (cleared h clear).0) in
    slice_grows plan d rows s slice old stands later reach kept c.program-program.ensures.sound.sound c.reach.new.self reached ordered judged c.count.new.self (c.if-not-judge_slice.ensures.judged refl done hand) own.coming own.listeners (counted.stop ∙ own.stop ∙ stops) (counted.tag z) runs tags counted.dues counted.starts writes counted.listeners (counted.channels ∙ own.channels) goes_on free no_later (λ h n waited b up clear. ap (λ (k : Coming). to_come events k h n) counted.coming ∙ caused.caused refl events h n waited b (subst (λ (k : Tag). UpTo h k) counted.stop up) (subst (λ (k : Coming). IsClear k.clash h) counted.coming clear) ∙ ap (λ (es : List (Tag × Value)). to_come events c.note.new.self h n ++ held es h) (caused_same effects here found.same plan s.tag n) ∙ ap (λ (vs : List Value). vs ++ held (caused_by plan here s.tag n) h) (c.note.ensures.same events h n ∙ c.drop_until.ensures.same events h n b ∙ ap (λ (k : Coming). to_come events k h n) own.coming)) (ap (λ (k : Coming). k.next) counted.coming ∙ caused.next ∙ c.note.ensures.next ∙ c.drop_until.ensures.next ∙ ap (λ (k : Coming). k.next) own.coming)
