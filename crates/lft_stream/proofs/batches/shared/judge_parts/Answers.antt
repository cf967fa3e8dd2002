use Rattle.std.proofs.Common.{◌≡◌, ◌∙◌, ◌++◌, List, Vec, ap, append-nil, arith, length, refl, subst, sym, take}
use Rattle.std.{specs.declared.alloc.Global.Global, proofs.{lemmas.{List.append_assoc, Option.slice_get_read}, Math.Seq.take-length}}
use Rattle.lft_ir.specs.{Steps.Fits.RowsFit, declared.steps.row.Row.Row}
use Rattle.lft_tables.{specs.inner.Parts.items_of, proofs.Parts.items_more}
use Rattle.lft_stream.specs.inner.Batches.Progresses.{IsGoneOn, IsProgress}
use Rattle.lft_stream.proofs.batches.shared.judge_parts.Goals as goal

pub loop-place-init : goal.loop-place-init
loop-place-init c = record { gone = λ t so. subst (λ (r : List Row). IsProgress c.args.plan.now r c.args.progress) (sym (append-nil t)) so }

pub add-requires-clause-fit : goal.add-requires-clause-fit
add-requires-clause-fit c =
    let part = c.index.result.now in
    let fit = subst (λ (p : Vec Row Global). RowsFit c.args.plan.now.program p.items) (sym c.index.ensures) (c.requires.parts_fit c.loop-place.place part (omega arith)) in
    subst (RowsFit c.args.plan.now.program) (sym c.as_slice.ensures.value) fit

pub add-requires-clause-stands : goal.add-requires-clause-stands
add-requires-clause-stands c = (_, c.loop-place.invariant.gone c.requires.stands.0 c.requires.stands.1)

pub loop-place-preserved : goal.loop-place-preserved
loop-place-preserved c =
    let plan = c.args.plan.now in
    let parts = c.args.parts.items in
    let n = c.loop-place.place in
    let part = c.index.result.now in
    let at = slice_get_read parts (length parts) n part refl (omega arith) c.index.ensures in
    let new = c.add.new.self in
    let on = subst (λ (r : List Row). IsGoneOn plan c.loop-place.progress new r) c.as_slice.ensures.value (c.if-not-add.ensures refl) in
    record {
      gone = λ t so. subst (λ (r : List Row). IsProgress plan r new) (append_assoc t (items_of (take n parts)) part.items ∙ ap (λ (r : List Row). t ++ r) (sym (items_more parts n part at))) (on (t ++ items_of (take n parts)) (c.loop-place.invariant.gone t so));
    }

pub returns : goal.returns
returns c =
    let parts = c.args.parts.items in
    let all : c.loop-place.place ≡ length parts = (let end = c.loop-place.auto.place-end in let test = c.loop-place-test.false in let long = c.len-place-end.ensures in omega (arith, end, test, long)) in
    subst (λ (r : List (Vec Row Global)). IsGoneOn c.args.plan.now c.args.progress c.loop-place.progress (items_of r)) (ap (λ n. take n parts) all ∙ take-length parts) c.loop-place.invariant.gone
