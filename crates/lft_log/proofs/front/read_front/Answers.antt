use Rattle.std.proofs.Common.{◌∙◌, List, length, length-append, refl, ap, arith}
use Rattle.lft_ir.specs.declared.steps.row.Row.{Row}
use Rattle.lft_log.proofs.Fronts.{front_is, left_lines}
use Rattle.lft_log.proofs.front.read_front.Goals as goal

pub fault_behind-fault-requires : goal.fault_behind-fault-requires
fault_behind-fault-requires c = left_lines c.args.lines.now c.plain_lines-plain.result c.requires.lines

pub overflow_sub-row : goal.overflow_sub-row
overflow_sub-row c =
    let (t, behind, fit, reads) = c.in-Ok.ensures.read in
    let long = ap (λ (u : List Row). length u) behind ∙ length-append c.args.rows.now.items t in
    let a = c.len-others.ensures in
    let l = c.len.ensures in
    omega (arith, a, l, long)

pub returns : goal.returns
returns c =
    let (t, behind, fit, reads) = c.in-Ok.ensures.read in
    let long = ap (λ (u : List Row). length u) behind ∙ length-append c.args.rows.now.items t in
    (t, behind, front_is c.args.program.now c.args.lines.now c.args.rows_before c.args.inputs_before c.plain_lines-plain.result t c.in-Ok.read _ _ _ c.plain_lines-plain.ensures.within c.plain_lines-plain.ensures.lines c.plain_lines-plain.ensures.plain c.plain_lines-plain.ensures.odd reads fit c.in-Ok.ensures.inputs refl c.fault_behind-fault.ensures.all c.fault_behind-fault.ensures.none (let a = c.len-others.ensures in let l = c.len.ensures in omega (arith, a, l, long)) (let l = c.len-2.ensures in omega arith))
