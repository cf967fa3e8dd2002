use Rattle.std.proofs.Common.{◌≡◌, ◌∙◌, ◌++◌, ◌≤◌, List, drop, length, refl, ap, subst, arith}
use Rattle.lft_ir.specs.declared.steps.row.Row.{Row}
use Rattle.lft_monitor.specs.inner.Follows.{next_of}
use Rattle.lft_log.specs.inner.Told.{IsLatestTag}
use Rattle.lft_log.proofs.{Fronts.all_dropped, Inputs.{all_gone, fits_at, gone_at, gone_none, gone_short, gone_up, input_gone, input_refused, rows_gone}}
use Rattle.lft_log.proofs.telling.tell_all.Goals as goal

pub loop-place-init : goal.loop-place-init
loop-place-init c = record {
  program = refl;
  stands = λ t is. is;
  next = refl;
  gone = λ t lines is rows_are inputs_are. gone_none c.args.plan.now t lines c.args.front.now.inputs.items inputs_are;
}

pub tell_behind-requires : goal.tell_behind-requires
tell_behind-requires c = record { fit = fits_at c.args.plan.now.program c.loop-place.plan.program c.as_slice-inputs.result.now c.args.front.now.inputs.items c.loop-place.place _ c.loop-place.invariant.program c.as_slice-inputs.ensures.value c.requires.fit c.loop-place-test.true }

pub loop-place-preserved : goal.loop-place-preserved
loop-place-preserved c =
    let inv = c.loop-place.invariant in
    record {
      program = c.tell_behind.ensures.program ∙ inv.program;
      stands = λ t is. c.tell_behind.ensures.stands t (inv.stands t is);
      next = c.tell_behind.ensures.next ∙ inv.next;
      gone = λ t lines is rows_are inputs_are.
          let gone = gone_at c.args.plan.now c.loop-place.plan t lines c.as_slice-inputs.result.now c.args.front.now.inputs.items c.loop-place.place c.loop-place.gone c.loop-place.latest _ c.as_slice-inputs.ensures.value c.loop-place-test.true (inv.gone t lines is rows_are inputs_are) in
          let at = rows_gone c.args.plan.now c.loop-place.plan t lines _ _ c.loop-place.place c.loop-place.gone c.loop-place.latest gone c.next.result.now (c.next.ensures ∙ inv.next ∙ rows_are) c.latest_of-latest.result (λ u latest. subst (λ (x : List Row). IsLatestTag (u ++ x) c.latest_of-latest.result) c.rows_between.ensures (c.latest_of-latest.ensures u latest)) in
          input_gone c.args.plan.now c.loop-place.plan t lines _ _ c.loop-place.place c.latest_of-latest.result at c.tell_behind.new.plan c.in_default.ensures.told (λ u latest. c.in_default.ensures.timely t u (inv.stands t is) latest);
    }

pub returns-in-Err-clause-taken : goal.returns-in-Err-clause-taken
returns-in-Err-clause-taken c = λ t lines is rows_are inputs_are.
    let inv = c.loop-place.invariant in
    let gone = gone_at c.args.plan.now c.loop-place.plan t lines c.as_slice-inputs.result.now c.args.front.now.inputs.items c.loop-place.place c.loop-place.gone c.loop-place.latest _ c.as_slice-inputs.ensures.value c.loop-place-test.true (inv.gone t lines is rows_are inputs_are) in
    let at = rows_gone c.args.plan.now c.loop-place.plan t lines _ _ c.loop-place.place c.loop-place.gone c.loop-place.latest gone c.next.result.now (c.next.ensures ∙ inv.next ∙ rows_are) c.latest_of-latest.result (λ u latest. subst (λ (x : List Row). IsLatestTag (u ++ x) c.latest_of-latest.result) c.rows_between.ensures (c.latest_of-latest.ensures u latest)) in
    input_refused c.args.plan.now c.loop-place.plan t lines _ _ c.loop-place.place c.latest_of-latest.result at c.args.before c.tell_behind.new.plan c.args.front.now _ c.in-Err.fault c.in-Err.ensures.stays refl refl refl (λ u latest. c.in-Err.ensures.fault t u (inv.stands t is) latest)

pub next-requires : goal.next-requires
next-requires c = (c.loop-place.invariant.stands c.requires.stands.0 c.requires.stands.1).within

pub next-requires-2 : goal.next-requires-2
next-requires-2 c = (c.loop-place.invariant.stands c.requires.stands.0 c.requires.stands.1).within

pub rows_between-requires : goal.rows_between-requires
rows_between-requires c =
    let inv = c.loop-place.invariant in
    let t = c.requires.stands.0 in
    let is = c.requires.stands.1 in
    let lines = c.requires.lines.0 in
    let rows_are = c.requires.lines.1 in
    let inputs_are = c.requires.lines.2 in
    let gone = gone_at c.args.plan.now c.loop-place.plan t lines c.as_slice-inputs.result.now c.args.front.now.inputs.items c.loop-place.place c.loop-place.gone c.loop-place.latest _ c.as_slice-inputs.ensures.value c.loop-place-test.true (inv.gone t lines is rows_are inputs_are) in
    (gone_up c.args.plan.now c.loop-place.plan t lines _ _ c.loop-place.place c.loop-place.gone c.loop-place.latest gone, gone_short c.args.plan.now c.loop-place.plan t lines _ _ c.loop-place.place c.loop-place.gone c.loop-place.latest gone c.next.result.now (c.next.ensures ∙ inv.next ∙ rows_are))

pub returns-in-Err-clause-within : goal.returns-in-Err-clause-within
returns-in-Err-clause-within c =
    let inv = c.loop-place.invariant in
    let t = c.requires.stands.0 in
    let is = c.requires.stands.1 in
    let lines = c.requires.lines.0 in
    let rows_are = c.requires.lines.1 in
    let inputs_are = c.requires.lines.2 in
    let l = ap (λ xs. length xs) c.as_slice-inputs.ensures.value in
    let k = c.loop-place-test.true in
    let up : c.loop-place.place ≤ length c.args.front.now.inputs.items = omega (arith, l, k) in
    let gone = gone_at c.args.plan.now c.loop-place.plan t lines c.as_slice-inputs.result.now c.args.front.now.inputs.items c.loop-place.place c.loop-place.gone c.loop-place.latest _ c.as_slice-inputs.ensures.value c.loop-place-test.true (inv.gone t lines is rows_are inputs_are) in
    (gone_short c.args.plan.now c.loop-place.plan t lines _ _ c.loop-place.place c.loop-place.gone c.loop-place.latest gone (next_of c.args.follower.now) rows_are, up)

pub returns-in-Err-clause-next : goal.returns-in-Err-clause-next
returns-in-Err-clause-next c = c.tell_behind.ensures.next ∙ c.loop-place.invariant.next

pub returns-clause-within : goal.returns-clause-within
returns-clause-within c =
    let r = ap (λ xs. length xs) (c.next-2.ensures ∙ c.loop-place.invariant.next) in
    let l = ap (λ xs. length xs) c.as_slice-inputs.ensures.value in
    (omega (arith, r), omega (arith, l))

pub returns-clause-taken : goal.returns-clause-taken
returns-clause-taken c = λ t lines is rows_are inputs_are.
    let inv = c.loop-place.invariant in
    let inputs = c.args.front.now.inputs.items in
    let e : c.loop-place.place ≡ length c.as_slice-inputs.result.now = omega arith in
    let l = ap (λ xs. length xs) c.as_slice-inputs.ensures.value in
    all_gone c.args.plan.now c.loop-place.plan t c.args.before lines (drop c.loop-place.place inputs) c.loop-place.place c.loop-place.gone c.loop-place.latest (next_of c.args.follower.now) c.args.front.now _ (inv.gone t lines is rows_are inputs_are) (all_dropped inputs c.loop-place.place (e ∙ l)) rows_are inputs_are (ap (λ xs. length xs) (c.next-2.ensures ∙ inv.next)) l refl
