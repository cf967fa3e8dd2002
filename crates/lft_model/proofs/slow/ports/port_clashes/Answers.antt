use Rattle.std.proofs.Common.{◌+◌, Option, Some, is_some, sym, ap, subst, ◌∙◌, refl, arith}
use Rattle.lft_tag.specs.declared.Tag.{Tag}
use Rattle.lft_model.proofs.PortEvents.{IsTagBefore, chain_of, tag_begins, tag_without, tag_again, tag_found, tag_clashes, tag_ends}
use Rattle.lft_model.proofs.slow.ports.port_clashes.Goals.{then-is_some+in-Some+else-not-is_same, then-is_some+in-None, else-is_some}
use Rattle.lft_model.proofs.slow.ports.port_clashes.Goals as goal

pub loop-place-init : goal.loop-place-init
loop-place-init c = tag_begins c.args.rows.now c.args.tag c.port-port.result.now

pub returns-then-not-is_same : goal.returns-then-not-is_same
returns-then-not-is_same c =
    let t = c.args.rows.now in
    let g = c.args.tag in
    let port = c.port-port.result.now in
    let i = c.loop-place.place in
    let chain = chain_of c.args.plan.now c.program.ensures.sound c.program.result.now c.program.ensures.value c.args.port port c.port-port.ensures.value in
    let some = ap is_some (sym c.value_arriving.ensures) ∙ sym c.is_some.ensures ∙ c.if-is_some.true in
    let so_far = subst (λ (z : Option Tag). IsTagBefore t g port i z) c.in-Some.is c.loop-place.invariant in
    (λ e. tag_clashes c.args.plan.now t g c.args.port port chain i c.row_at-row.result c.row_at-row.ensures c.in-Some.earlier so_far some (λ q. cc (c.is_same.ensures.1 q, c.if-not-is_same.true)), λ q. refl)

pub loop-place-preserved : goal.loop-place-preserved
loop-place-preserved c =
    let t = c.args.rows.now in
    let g = c.args.tag in
    let port = c.port-port.result.now in
    let i = c.loop-place.place in
    let row = c.row_at-row.result in
    let now = ap is_some (sym c.value_arriving.ensures) ∙ sym c.is_some.ensures in
    elim c.if-is_some.branch [
      | then-is_some+in-Some+else-not-is_same w ↦ let e = ap Some (w.is_same.ensures.0 w.if-not-is_same.false) in subst (λ (z : Option Tag). IsTagBefore t g port (i + 1) z) (sym (w.first-is ∙ e)) (tag_again t g port i row c.row_at-row.ensures (subst (λ (z : Option Tag). IsTagBefore t g port i z) (w.in-Some.is ∙ e) c.loop-place.invariant))
      | then-is_some+in-None w ↦ subst (λ (z : Option Tag). IsTagBefore t g port (i + 1) z) (sym w.first-is) (tag_found t g port i row c.row_at-row.ensures (subst (λ (z : Option Tag). IsTagBefore t g port i z) w.in-None.is c.loop-place.invariant) (now ∙ w.if-is_some.true))
      | else-is_some w ↦ subst (λ (z : Option Tag). IsTagBefore t g port (i + 1) z) (sym w.first-is) (tag_without t g port i row c.row_at-row.ensures c.loop-place.first c.loop-place.invariant (now ∙ w.if-is_some.false))
    ]

pub returns : goal.returns
returns c =
    let port = c.port-port.result.now in
    let chain = chain_of c.args.plan.now c.program.ensures.sound c.program.result.now c.program.ensures.value c.args.port port c.port-port.ensures.value in
    (λ e. absurd (cc), λ q. absurd (tag_ends c.args.plan.now c.args.rows.now c.args.tag c.args.port port chain c.loop-place.place c.loop-place.first (omega arith) c.loop-place.invariant q))
