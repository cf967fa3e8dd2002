use Rattle.std.proofs.Common.{◌∙◌, ◌++◌, List, length, take, drop, ap, subst, sym, arith}
use Rattle.std.proofs.lemmas.{List.{append_assoc, take-append-drop}, Result.IfOk-weaker}
use Rattle.lft_ir.specs.declared.steps.row.Row.{Row}
use Rattle.lft_monitor.specs.{inner.Follows.{HasGonePast, next_of}, Follows.IsQuiet}
use Rattle.lft_model.specs.Fitting.{EachFits}
use Rattle.lft_log.specs.{inner.Told.{IsAskedOf, IsFaultOfRows}, Told.{AreAll, IsSaid, KeepTo}}
use Rattle.lft_log.proofs.{Many.fault_more, InPlace.each_first, Keeping.rows_told}
use Rattle.lft_log.proofs.log.add_asked.Goals as goal

pub next-requires : goal.next-requires
next-requires c = c.requires.stands.1.within

pub cut-requires : goal.cut-requires
cut-requires c =
    let n = c.in-Some.ensures.within in
    let l = ap (λ (u : List Row). length u) c.next.ensures in
    record { within = c.requires.stands.1.within; count = omega (arith, n, l) }

pub add_rows-requires-2-clause-fit : goal.add_rows-requires-2-clause-fit
add_rows-requires-2-clause-fit c = subst (λ (x : List Row). EachFits c.args.plan.now.program x) (sym c.cut.ensures.next) (each_first c.args.plan.now.program _ _ c.requires.fit)

pub add_rows-requires-2-clause-stands : goal.add_rows-requires-2-clause-stands
add_rows-requires-2-clause-stands c = (c.requires.stands.0, c.cut.ensures.stands c.args.plan.now c.requires.stands.0 c.requires.stands.1)

pub close-requires : goal.close-requires
close-requires c =
    let t = c.requires.stands.0 in
    let on = rw c.in-Ok-None.field-0-is at (c.in-Ok-None.ensures.told t (c.cut.ensures.stands c.args.plan.now t c.requires.stands.1)) in
    (t ++ next_of c.cut.new.self, on.0.0)

pub returns-in-Ok-Some-clause-told : goal.returns-in-Ok-Some-clause-told
returns-in-Ok-Some-clause-told c = λ t follows is.
    let rows = next_of c.args.follower.now in
    let end = c.in-Some.end in
    let until = c.args.asked.now.until in
    let past = c.in-Some.ensures.past t is in
    let said = rw c.in-Ok-Some.field-0-is at (c.in-Ok-Some.ensures.told t (c.cut.ensures.stands c.args.plan.now t follows)) in (
      take end rows,
      drop end rows,
      sym (take-append-drop end rows),
      subst (λ (x : List Row). KeepTo until (t ++ take end x)) c.next.ensures past.0,
      subst (λ (x : List Row). IsSaid c.args.plan.now until (t ++ x) (drop end rows) c.in-Ok-Some.told) c.cut.ensures.next (said until (drop end rows)),
    )

pub returns-in-Ok-None-clause-told : goal.returns-in-Ok-None-clause-told
returns-in-Ok-None-clause-told c = λ t follows is.
    let rows = next_of c.args.follower.now in
    let end = c.in-Some.end in
    let plan = c.args.plan.now in
    let until = c.args.asked.now.until in
    let past = c.in-Some.ensures.past t is in
    let on = rw c.in-Ok-None.field-0-is at (c.in-Ok-None.ensures.told t (c.cut.ensures.stands plan t follows)) in
    let both = subst (λ (x : List Row). HasGonePast plan (t ++ x) c.add_rows-2.new.follower × IsQuiet plan (t ++ x)) c.cut.ensures.next on in (
      take end rows,
      drop end rows,
      sym (take-append-drop end rows),
      subst (λ (x : List Row). KeepTo until (t ++ take end x)) c.next.ensures past.0,
      c.close.ensures until (t ++ take end rows) (drop end rows) both.0.0 both.1 (subst (λ (x : List Row). AreAll until (t ++ take end x) (drop end x)) c.next.ensures past.1),
    )

pub returns-in_default-clause-told : goal.returns-in_default-clause-told
returns-in_default-clause-told c = IfOk-weaker c.add_rows.result _ _ (λ o told t follows is. rows_told c.args.plan.now c.args.asked.now.until t (next_of c.args.follower.now) c.add_rows.new.follower c.past_end.new.self o (told t follows) (subst (λ (x : List Row). IsAskedOf (t ++ x) c.past_end.new.self) c.next.ensures (c.in_default.ensures.asked t is)) c.past_end.ensures.until) c.add_rows.ensures.told

pub returns-in-Err-clause-fault : goal.returns-in-Err-clause-fault
returns-in-Err-clause-fault c = λ t follows.
    let rows = next_of c.args.follower.now in
    let end = c.in-Some.end in
    let whole = append_assoc t (take end rows) (drop end rows) ∙ ap (λ (x : List Row). t ++ x) (take-append-drop end rows) in
    fault_more (t ++ take end rows) (drop end rows) (t ++ rows) c.in-Err.fault whole (subst (λ (x : List Row). IsFaultOfRows (t ++ x) c.in-Err.fault) c.cut.ensures.next (c.in-Err.ensures.fault t (c.cut.ensures.stands c.args.plan.now t follows)))
