use Rattle.std.proofs.Common.{ℕ, ◌++◌, ◌<◌, ◌∙◌, length, List, Contains, refl, slice_range, subst, sym}
use Rattle.lft_ir.specs.{Parts.Parts, Steps.Fits.RowsFit}
use Rattle.lft_model.specs.Runs.{Ran}
use Rattle.lft_queue.specs.inner.Coming.Writes.{AreWrites}
use Rattle.lft_stream.specs.inner.{Dues.AreDuesAt, Present.AreShown, StartTags.AreStartTags}
use Rattle.lft_stream.proofs.Parting.{rows_of, are_at, part_fits, ran_of, ran_part}
use Rattle.lft_stream.proofs.Outlining.{all_started, starter_there, starter_ran, ran_starter, effects_fit, effects_at, writes_same, heard_same}
use Rattle.lft_stream.proofs.stream.Stream.judge_slice.Goals as goal

pub pass_all-requires-clause-fit : goal.pass_all-requires-clause-fit
pass_all-requires-clause-fit c =
    let own = rows_of c.args.rows.now c.args.slice c.requires.slice in
    subst (λ (p : Parts). RowsFit p c.effects-effects.result.now) (sym c.program-program.ensures.value) (effects_fit own c.effects-effects.result.now c.effects-effects.ensures c.args.plan.now.program (part_fits c.args.rows.now c.args.slice c.requires.slice c.args.plan.now.program c.requires.fit))

pub allows-requires-clause-fit : goal.allows-requires-clause-fit
allows-requires-clause-fit c = subst (λ (p : Parts). RowsFit p (rows_of c.args.rows.now c.args.slice c.requires.slice)) (sym c.program-program.ensures.value) (part_fits c.args.rows.now c.args.slice c.requires.slice c.args.plan.now.program c.requires.fit)

pub pass_all-requires-clause-at : goal.pass_all-requires-clause-at
pass_all-requires-clause-at c = effects_at (rows_of c.args.rows.now c.args.slice c.requires.slice) c.effects-effects.result.now c.effects-effects.ensures c.args.slice.tag (are_at c.args.rows.now c.args.slice c.requires.slice)

pub begin_all-requires-clause-exist : goal.begin_all-requires-clause-exist
begin_all-requires-clause-exist c = λ r has.
    let own = rows_of c.args.rows.now c.args.slice c.requires.slice in
    let listed = c.started-started.ensures ∙ all_started own c.args.self.now.outline c.requires.outline in
    subst (λ (p : Parts). r < length p.reactions) (sym c.program-program.ensures.value) (starter_there c.args.plan.now.program own (part_fits c.args.rows.now c.args.slice c.requires.slice c.args.plan.now.program c.requires.fit) r (subst (λ (rs : List ℕ). Contains rs r) listed has))

pub are_triggered-requires-clause-exist : goal.are_triggered-requires-clause-exist
are_triggered-requires-clause-exist c = λ r has.
    let own = rows_of c.args.rows.now c.args.slice c.requires.slice in
    let listed = c.started-started.ensures ∙ all_started own c.args.self.now.outline c.requires.outline in
    starter_there c.args.plan.now.program own (part_fits c.args.rows.now c.args.slice c.requires.slice c.args.plan.now.program c.requires.fit) r (subst (λ (rs : List ℕ). Contains rs r) listed has)

pub have_read-requires-clause-exist : goal.have_read-requires-clause-exist
have_read-requires-clause-exist c = λ r has.
    let own = rows_of c.args.rows.now c.args.slice c.requires.slice in
    let listed = c.started-started.ensures ∙ all_started own c.args.self.now.outline c.requires.outline in
    starter_there c.args.plan.now.program own (part_fits c.args.rows.now c.args.slice c.requires.slice c.args.plan.now.program c.requires.fit) r (subst (λ (rs : List ℕ). Contains rs r) listed has)

pub is_all_heard-requires-clause-fit : goal.is_all_heard-requires-clause-fit
is_all_heard-requires-clause-fit c =
    let own = rows_of c.args.rows.now c.args.slice c.requires.slice in
    effects_fit own c.effects-effects.result.now c.effects-effects.ensures c.args.plan.now.program (part_fits c.args.rows.now c.args.slice c.requires.slice c.args.plan.now.program c.requires.fit)

pub are_triggered-requires-clause-dues : goal.are_triggered-requires-clause-dues
are_triggered-requires-clause-dues c =
    let s = c.args.slice in
    let own = rows_of c.args.rows.now s c.requires.slice in
    let hand = c.requires.hand.1 in
    let listed = c.started-started.ensures ∙ all_started own c.args.self.now.outline c.requires.outline in
    let ran : (r : ℕ) → Contains c.started-started.result.now r → Ran (c.requires.hand.0 ++ own) s.tag r = λ r has. hand.ran r (ran_of c.args.rows.now s c.requires.slice r (starter_ran own s.tag (are_at c.args.rows.now s c.requires.slice) r (subst (λ (rs : List ℕ). Contains rs r) listed has))) in
    (c.requires.hand.0 ++ slice_range c.args.rows.now s.first s.end, record { last_is = hand.stop_is; ran = ran; each = hand.dues })

pub returns-clause-judged : goal.returns-clause-judged
returns-clause-judged c = λ z done hand.
    let rows = c.args.rows.now in
    let s = c.args.slice in
    let own = slice_range rows s.first s.end in
    let effects = c.effects-effects.result.now in
    let t = done ++ own in
    let is = c.program-program.ensures.value in
    let same = c.effects-effects.ensures.same in
    let written = writes_same effects own same c.args.plan.now.program s.tag c.pass_all.new.self (subst (λ (p : Parts). AreWrites p effects s.tag c.pass_all.new.self) is c.pass_all.ensures) in
    let shown : AreShown c.args.plan.now done own s.tag c.pass_all.new.self c.args.self.now.coming.queue = record { earlier = hand.earlier; at_tag = are_at rows s c.requires.slice; written = written; queued = hand.queued } in
    let listed = c.started-started.ensures ∙ all_started own c.args.self.now.outline c.requires.outline in
    let ran : (r : ℕ) → Contains c.started-started.result.now r → Ran t s.tag r = λ r has. hand.ran r (ran_of rows s c.requires.slice r (starter_ran own s.tag (are_at rows s c.requires.slice) r (subst (λ (rs : List ℕ). Contains rs r) listed has))) in
    let has : (r : ℕ) → Ran rows s.tag r → Contains c.started-started.result.now r = λ r o. subst (λ (rs : List ℕ). Contains rs r) (sym listed) (ran_starter own s.tag (are_at rows s c.requires.slice) r (ran_part rows s c.requires.slice r o)) in
    let at : AreDuesAt c.args.plan.now t c.started-started.result.now s.tag c.args.self.now.stop c.args.self.now.dues = record { last_is = hand.stop_is; ran = ran; each = hand.dues } in
    let starts = subst (λ (p : Parts). AreStartTags p t c.begin_all.new.self) is (c.begin_all.ensures.starts t ran (subst (λ (p : Parts). AreStartTags p t c.args.self.now.starts) (sym is) hand.starts)) in
    record {
      triggered = λ r o. c.if-not-are_triggered.ensures.triggered refl done own at shown r (has r o);
      reads = λ r o. c.if-not-have_read.ensures refl done own shown c.find.ensures r (has r o);
      heard = heard_same effects own same c.args.plan.now t s.tag (c.is_all_heard.ensures.heard z t starts);
      dues = c.if-not-are_triggered.ensures.dues t at;
      writes = written;
      starts = starts;
      listeners = hand.listeners;
      met = c.is_all_heard.ensures.met z t starts;
    }
