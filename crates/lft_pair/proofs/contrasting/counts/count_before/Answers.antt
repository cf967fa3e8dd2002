use Rattle.std.proofs.Common.{◌≡◌, ℕ, ◌+◌, Bool, false, true, sym, refl, subst, arith}
use Rattle.lft_pair.specs.Counts.{StartsBefore}
use Rattle.lft_pair.proofs.Counting.{CountTo, count_none, count_one, count_other, count_end}
use Rattle.lft_pair.proofs.contrasting.counts.count_before.Goals.{then-starts_before, else-starts_before}
use Rattle.lft_pair.proofs.contrasting.counts.count_before.Goals as goal

pub loop-place-init : goal.loop-place-init
loop-place-init c = count_none (StartsBefore c.args.tag) c.args.rows.now

pub loop-place-preserved : goal.loop-place-preserved
loop-place-preserved c =
    let P = StartsBefore c.args.tag in
    let t = c.args.rows.now in
    let i = c.loop-place.place in
    let n = c.loop-place.count in
    elim c.if-starts_before.branch [
      | then-starts_before w ↦ subst (λ (k : ℕ). CountTo P t (i + 1) k) (sym w.count-is) (count_one P t i c.row_at.result c.row_at.ensures n c.loop-place.invariant (w.if-starts_before.ensures.0 refl))
      | else-starts_before w ↦ subst (λ (k : ℕ). CountTo P t (i + 1) k) (sym w.count-is) (count_other P t i c.row_at.result c.row_at.ensures n c.loop-place.invariant (λ p. let z : ◌≡◌ {A = Bool} false true = w.if-starts_before.ensures.1 p in absurd (cc)))
    ]

pub returns : goal.returns
returns c = count_end (StartsBefore c.args.tag) c.args.rows.now c.loop-place.place c.loop-place.count (omega arith) c.loop-place.invariant
