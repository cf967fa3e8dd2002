use Rattle.std.proofs.Common.{◌≡◌, ◌∙◌, ◌<◌, ◌++◌, ℕ, List, [], refl, Option, Ok, Err, None, IfOk, IfErr, ⊎_elim, length, take, inl, inr, sym, subst, arith}
use Rattle.std.{specs.Io.KnownBytes.Appends, proofs.KnownBytes.{Appends-nil, Consumes-nil, Consumes-trans, Consumes-kept}}
use Rattle.lft_model.specs.Plans.{PlanParts}
use Rattle.lft_log.specs.{declared.{log.Log.Log, told.{Ended.Ended, Final.Final, Told.Told}, follow.kept.Kept.Kept}, Logs.HasManyRows, inner.Told.IsLog}
use Rattle.lft_log.specs.Told.{TellsOpen}
use Rattle.lft_log.specs.Follow.{Followed.{IsRead, IsReadKept}, Kept.IsKeptOn, Reaches.OfReaches}
use Rattle.lft_log.specs.Follow.Refusals.{ReadRefusal, ReadRefusal.{by_end, by_line, by_outside, by_reader}}
use Rattle.lft_log.proofs.FollowLemmas.{Keeping.{kept_more, kept_none}, Reaching.{none_told, none_written, told_all, told_both}}
use Rattle.lft_log.proofs.FollowLemmas.Reading.{none_more, soon_is_no_end}
use Rattle.lft_log.proofs.follow.follow.read_log.Goals.{in-Ok-finish, in-Err-finish, in-Ok-read+in-Ok-None, in-Err+else-ne}
use Rattle.lft_log.proofs.follow.follow.read_log.Goals as goal

pub returns-in-Ok-eq0-clause-read : goal.returns-in-Ok-eq0-clause-read
returns-in-Ok-eq0-clause-read g c =
    let is = IsReadKept c.args.plan.now c.args.following.until c.args.following.whole c.args.kept.now c.loop.kept (g.R.Read.remaining c.args.reader.now) (g.R.Read.remaining c.read.new.self) in
    let bytes = c.loop.invariant.0 in
    let read = c.in-Ok-eq0.ensures.bytes in
    let room : 0 < length c.read.new.buf = omega (arith, c.loop.invariant.3, c.read.auto.buf) in
    elim c.match-finish.branch [
      | in-Ok-finish w ↦ subst (λ r. IfOk r is) (sym w.result-is) (
        bytes,
        record {
          given = none_more _ _ _ bytes _ _ c.loop.invariant.1 c.in-Ok-eq0.field-0-test read.0;
          ended = w.in-Ok-finish.ensures.ended c.args.plan.now c.args.following.until bytes c.loop.invariant.2;
          all = λ ending q. read.1 c.in-Ok-eq0.field-0-test room;
        },
        c.loop.invariant.5,
        w.in-Ok-finish.ensures.still_open c.args.plan.now c.args.following.until bytes c.loop.invariant.2,
      )
      | in-Err-finish w ↦ subst (λ r. IfOk r is) (sym w.result-is) tt
    ]

pub returns-in-Ok-Some-clause-read : goal.returns-in-Ok-Some-clause-read
returns-in-Ok-Some-clause-read g c =
    let base = c.args.plan.now in
    let is = λ (t : Final). (bytes : List ℕ) × IsRead base c.args.following.until c.args.following.whole bytes (g.R.Read.remaining c.args.reader.now) (g.R.Read.remaining c.read.new.self) t × IsKeptOn (HasManyRows base.program bytes) c.args.kept.now c.keep.new.kept bytes × TellsOpen base bytes t c.soon.result.still_open in
    let bytes = c.loop.invariant.0 in
    let piece = take c.in-Ok-read.count c.read.new.buf in
    subst is (sym c.soon.ensures) (
      bytes ++ piece,
      record {
        given = Consumes-trans _ _ _ _ _ c.loop.invariant.1 c.in-Ok-read.ensures.bytes.0;
        ended = inl (rw c.in-Ok-Some.field-0-is at (c.in-Ok-Some.ensures.told c.args.plan.now c.args.following.until bytes c.loop.invariant.2));
        all = λ ending q. absurd (soon_is_no_end c.in-Ok-Some.told ending q);
      },
      kept_more c.args.plan.now c.loop.plan c.args.following.until bytes piece c.loop.log c.rows.result c.args.kept.now c.loop.kept c.keep.new.kept c.loop.invariant.2 c.rows.ensures c.loop.invariant.5 c.keep.ensures,
      tt,
    )

pub loop-init : goal.loop-init
loop-init g c = ([], Consumes-nil (g.R.Read.remaining c.args.reader.now), c.in-Ok.ensures, c.requires, refl, kept_none (HasManyRows c.args.plan.now.program []) c.args.kept.now, none_told c.args.plan.now [] c.args.following.every (Appends (g.E.Write.contents c.args.errors.now) (g.E.Write.contents c.args.errors.now)) (Appends-nil (g.E.Write.contents c.args.errors.now)))

pub loop-preserved : goal.loop-preserved
loop-preserved g c =
    let base = c.args.plan.now in
    let until = c.args.following.until in
    let every = c.args.following.every in
    let errors = g.E.Write.contents c.args.errors.now in
    let bytes = c.loop.invariant.0 in
    let long : 0 < length c.read.new.buf = omega (arith, c.loop.invariant.3, c.read.auto.buf) in
    let log_of = λ (plan : PlanParts) (x : List ℕ) (log : Log). IsLog base plan until x log in
    let first = λ (x : List ℕ) (kept : Kept). IsKeptOn (HasManyRows base.program x) c.args.kept.now kept x in
    elim c.match-read.branch [
      | in-Ok-read+in-Ok-None w ↦
          let piece = take w.in-Ok-read.count c.read.new.buf in
          let more = bytes ++ piece in
          (more, Consumes-trans _ _ _ _ _ c.loop.invariant.1 w.in-Ok-read.ensures.bytes.0, subst (λ (plan : PlanParts). log_of plan more c.match-read.log) (sym w.plan-is) (subst (log_of _ more) (sym w.log-is) (rw w.in-Ok-None.field-0-is at (w.in-Ok-None.ensures.told base until bytes c.loop.invariant.2))), long, subst (λ (plan : PlanParts). plan.program ≡ base.program) (sym w.plan-is) (w.in-Ok-None.ensures.program ∙ c.loop.invariant.4), subst (first more) (sym w.kept-is) (kept_more base c.loop.plan until bytes piece c.loop.log w.rows.result c.args.kept.now c.loop.kept _ c.loop.invariant.2 w.rows.ensures c.loop.invariant.5 w.keep.ensures), subst (λ x. OfReaches base more every (Appends errors (g.E.Write.contents x))) (sym w.errors-is) (told_both {X = Option Told} (Ok None) base bytes piece every errors _ _ c.loop.invariant.6 (w.in-Ok-None.ensures.every base until bytes c.loop.invariant.2)))
      | in-Err+else-ne w ↦ (bytes, Consumes-kept _ _ _ _ c.loop.invariant.1 w.in-Err.ensures.bytes, subst (λ (plan : PlanParts). log_of plan bytes c.match-read.log) (sym w.plan-is) (subst (log_of _ bytes) (sym w.log-is) c.loop.invariant.2), long, subst (λ (plan : PlanParts). plan.program ≡ base.program) (sym w.plan-is) c.loop.invariant.4, subst (first bytes) (sym w.kept-is) c.loop.invariant.5, subst (λ x. OfReaches base bytes every (Appends errors (g.E.Write.contents x))) (sym w.errors-is) c.loop.invariant.6)
    ]

pub returns-in_default-clause-refused : goal.returns-in_default-clause-refused
returns-in_default-clause-refused g c = by_outside (inl (c.no_memory.ensures.part, c.no_memory.ensures.number))

pub returns-in_default-clause-every : goal.returns-in_default-clause-every
returns-in_default-clause-every g c = ([], Consumes-nil (g.R.Read.remaining c.args.reader.now), none_written {X = Ended} (Err c.no_memory.result) c.args.plan.now [] c.args.following.every (g.E.Write.contents c.args.errors.now))

pub returns-in-Ok-eq0-clause-refused : goal.returns-in-Ok-eq0-clause-refused
returns-in-Ok-eq0-clause-refused g c =
    let base = c.args.plan.now in
    let is = ReadRefusal base c.args.path.now (g.R.Read.remaining c.args.reader.now) (g.R.Read.remaining c.read.new.self) in
    let bytes = c.loop.invariant.0 in
    let read = c.in-Ok-eq0.ensures.bytes in
    let room : 0 < length c.read.new.buf = omega (arith, c.loop.invariant.3, c.read.auto.buf) in
    elim c.match-finish.branch [
      | in-Ok-finish w ↦ subst (λ r. IfErr r is) (sym w.result-is) tt
      | in-Err-finish w ↦ subst (λ r. IfErr r is) (sym w.result-is) (by_end bytes (none_more _ _ _ bytes _ _ c.loop.invariant.1 c.in-Ok-eq0.field-0-test read.0) (read.1 c.in-Ok-eq0.field-0-test room) (w.in-Err-finish.fault, w.in-Err-finish.ensures.fault base c.args.following.until bytes c.loop.invariant.2, w.fault_of.ensures))
    ]

pub returns-in-Ok-eq0-clause-every : goal.returns-in-Ok-eq0-clause-every
returns-in-Ok-eq0-clause-every g c =
    let bytes = c.loop.invariant.0 in
    (bytes, none_more _ _ _ bytes _ _ c.loop.invariant.1 c.in-Ok-eq0.field-0-test c.in-Ok-eq0.ensures.bytes.0, told_all _ c.args.plan.now bytes c.args.following.every _ _ c.loop.invariant.6)

pub returns-in-Ok-Some-clause-every : goal.returns-in-Ok-Some-clause-every
returns-in-Ok-Some-clause-every g c =
    let base = c.args.plan.now in
    let bytes = c.loop.invariant.0 in
    let piece = take c.in-Ok-read.count c.read.new.buf in
    (bytes ++ piece, Consumes-trans _ _ _ _ _ c.loop.invariant.1 c.in-Ok-read.ensures.bytes.0, told_both (Ok c.in-Ok-Some.told) base bytes piece c.args.following.every _ _ _ c.loop.invariant.6 (c.in-Ok-Some.ensures.every base c.args.following.until bytes c.loop.invariant.2))

pub returns-in-Err-add-clause-refused : goal.returns-in-Err-add-clause-refused
returns-in-Err-add-clause-refused g c =
    let bytes = c.loop.invariant.0 in
    let piece = take c.in-Ok-read.count c.read.new.buf in
    ⊎_elim (λ x. by_line (bytes ++ piece) (Consumes-trans _ _ _ _ _ c.loop.invariant.1 c.in-Ok-read.ensures.bytes.0) x) (λ x. by_outside x) (c.in-Err-add.ensures.fault c.args.plan.now c.args.following.until bytes c.loop.invariant.2)

pub returns-in-Err-add-clause-every : goal.returns-in-Err-add-clause-every
returns-in-Err-add-clause-every g c =
    let base = c.args.plan.now in
    let bytes = c.loop.invariant.0 in
    let piece = take c.in-Ok-read.count c.read.new.buf in
    (bytes ++ piece, Consumes-trans _ _ _ _ _ c.loop.invariant.1 c.in-Ok-read.ensures.bytes.0, told_both {X = Option Told} (Err c.in-Err-add.fault) base bytes piece c.args.following.every _ _ _ c.loop.invariant.6 (c.in-Err-add.ensures.every base c.args.following.until bytes c.loop.invariant.2))

pub returns-then-ne-clause-refused : goal.returns-then-ne-clause-refused
returns-then-ne-clause-refused g c = by_reader (inl c.of_path.ensures)

pub returns-then-ne-clause-every : goal.returns-then-ne-clause-every
returns-then-ne-clause-every g c =
    let bytes = c.loop.invariant.0 in
    (bytes, Consumes-kept _ _ _ _ c.loop.invariant.1 c.in-Err.ensures.bytes, told_all {X = Ended} (Err c.of_path.result) c.args.plan.now bytes c.args.following.every _ _ c.loop.invariant.6)

pub returns-clause-refused : goal.returns-clause-refused
returns-clause-refused g c = by_reader (inr c.of_path-2.ensures)

pub returns-clause-every : goal.returns-clause-every
returns-clause-every g c =
    let bytes = c.loop.invariant.0 in
    (bytes, c.loop.invariant.1, told_all {X = Ended} (Err c.of_path-2.result) c.args.plan.now bytes c.args.following.every _ _ c.loop.invariant.6)
