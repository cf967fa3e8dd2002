use Rattle.std.proofs.Common.{◌+◌, ◌<◌, length, refl, sym, subst, arith, true, slice_set}
use Rattle.std.proofs.lemmas.Option.{slice_get_read}
use Rattle.lft_model.proofs.Places.{slice_get_within}
use Rattle.lft_monitor.proofs.Keeping.{AreMarkedTo, IsIdleApart, idle_there, ended_there, marked_one, started_there}
use Rattle.lft_monitor.proofs.kept.marks_of.Goals.{then-causes_from, else-causes_from+then-is_start, else-causes_from+else-is_start+then-is_end, else-causes_from+else-is_start+else-is_end}
use Rattle.lft_monitor.proofs.kept.marks_of.Goals as goal

pub loop-place-preserved : goal.loop-place-preserved
loop-place-preserved c =
    let plan = c.args.plan.now in
    let rows = c.args.rows.now in
    let Idle = IsIdleApart plan c.args.low c.args.is_apart in
    let n = c.loop-place.place in
    let marks = c.loop-place.marks.items in
    let starts = c.loop-place.starts.items in
    let row = c.row_at-row.result in
    let at = c.row_at-row.ensures in
    let old = c.loop-place.invariant in
    let within : row.reaction < length starts = let l = (c.requires.fit n row at).reaction in let e = old.as_many in omega arith in
    elim c.if-causes_from.branch [
      | then-causes_from w ↦
          let s = w.index.result.now in
          let there = slice_get_read starts (length starts) row.reaction s refl within w.index.ensures in
          subst (λ v. AreMarkedTo plan Idle rows (n + 1) v.items c.if-causes_from.starts.items) (sym w.marks-is) (subst (λ v. AreMarkedTo plan Idle rows (n + 1) (slice_set (slice_set marks n true) s true) v.items) (sym w.starts-is) (marked_one plan Idle rows n marks starts row at old s there))
      | else-causes_from+then-is_start w ↦ subst (λ v. AreMarkedTo plan Idle rows (n + 1) v.items c.if-causes_from.starts.items) (sym w.marks-is) (subst (λ v. AreMarkedTo plan Idle rows (n + 1) marks v.items) (sym w.starts-is) (started_there plan Idle rows n marks starts row at old (c.causes_from.ensures w.if-causes_from.false) within))
      | else-causes_from+else-is_start+then-is_end w ↦ subst (λ v. AreMarkedTo plan Idle rows (n + 1) v.items c.if-causes_from.starts.items) (sym w.marks-is) (subst (λ v. AreMarkedTo plan Idle rows (n + 1) (slice_set marks n w.index-then-is_end-2.result.now) v.items) (sym w.starts-is) (ended_there plan Idle rows n marks starts row at old (c.causes_from.ensures w.if-causes_from.false) w.index-then-is_end-2.result.now))
      | else-causes_from+else-is_start+else-is_end w ↦ subst (λ v. AreMarkedTo plan Idle rows (n + 1) v.items c.if-causes_from.starts.items) (sym w.marks-is) (subst (λ v. AreMarkedTo plan Idle rows (n + 1) marks v.items) (sym w.starts-is) (idle_there plan Idle rows n marks starts row at old (c.causes_from.ensures w.if-causes_from.false)))
    ]

pub returns-clause-idle : goal.returns-clause-idle
returns-clause-idle c = λ last t apart i row e p. c.loop-place.invariant.idle i row (let l : i < length c.args.rows.now = slice_get_within c.args.rows.now i row p in omega arith) e p last t apart
