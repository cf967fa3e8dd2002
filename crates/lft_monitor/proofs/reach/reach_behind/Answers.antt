use Rattle.std.proofs.Common.{◌≡◌, ◌+◌, ◌++◌, ◌∙◌, ℕ, List, length, take, sym, ap, subst, arith}
use Rattle.std.proofs.{Math.Seq.{take-append-add, take-length}, lemmas.List.append-nil}
use Rattle.lft_lists.proofs.Places.{get_right}
use Rattle.lft_ir.specs.declared.steps.row.Row.{Row}
use Rattle.lft_monitor.specs.Reach.{IsReach}
use Rattle.lft_monitor.proofs.reach.reach_behind.Goals as goal

pub loop-place-init : goal.loop-place-init
loop-place-init c = λ done rises old. subst (λ (t : List Row). IsReach t c.args.reach) (sym (take-append-add done c.args.rows.now 0 ∙ append-nil done)) old

pub loop-place-preserved : goal.loop-place-preserved
loop-place-preserved c = λ done rises old.
    let e : length done + c.loop-place.place + 1 ≡ length done + (c.loop-place.place + 1) = omega arith in
    subst (λ (n : ℕ). IsReach (take n (done ++ c.args.rows.now)) c.in_ok-reach.reach) e (c.in_ok-reach.ensures (done ++ c.args.rows.now) (length done + c.loop-place.place) (get_right done c.args.rows.now c.loop-place.place ∙ c.row_at.ensures) rises (c.loop-place.invariant done rises old))

pub returns : goal.returns
returns c = λ done rises old.
    let e : c.loop-place.place ≡ length c.args.rows.now = omega arith in
    let whole = take-append-add done c.args.rows.now c.loop-place.place ∙ ap (λ (n : ℕ). done ++ take n c.args.rows.now) e ∙ ap (λ (t : List Row). done ++ t) (take-length c.args.rows.now) in
    subst (λ (t : List Row). IsReach t c.loop-place.reach) whole (c.loop-place.invariant done rises old)
