use Rattle.std.proofs.Common.{◌≡◌, ℕ, sym, ap, subst, refl, arith, false, true}
use Rattle.lft_pair.specs.inner.Places.{AreRowsAfter}
use Rattle.lft_pair.proofs.{Kept.{read_start, read_other, after_from, after_end}, starts.StartPlaces.read_to.Goals.{then-is_start, else-is_start}}
use Rattle.lft_pair.proofs.starts.StartPlaces.read_to.Goals as goal

pub returns-then-is_before-clause-rest : goal.returns-then-is_before-clause-rest
returns-then-is_before-clause-rest c = subst (λ (k : ℕ). AreRowsAfter c.args.rows.now k c.args.tag) (sym c.loop-place.invariant.at) (after_from c.args.rows.now c.loop-place.place c.row_at-row.result c.row_at-row.ensures c.requires.legal.0 c.requires.legal.1 c.args.tag (c.if-is_before.ensures.0 refl))

pub loop-place-preserved : goal.loop-place-preserved
loop-place-preserved c =
    let t = c.args.rows.now in
    let i = c.loop-place.place in
    let row = c.row_at-row.result in
    let is_row = c.row_at-row.ensures in
    let was = c.loop-place.self in
    let fit = c.requires.fit in
    elim c.if-is_start.branch [
      | then-is_start w ↦ read_start t i row is_row c.args.tag (λ b. let z : ◌≡◌ false true = c.if-is_before.ensures.1 b in absurd (cc)) _ was.read was.places.items c.if-is_start.self.places.items c.loop-place.invariant (w.if-is_start.ensures.0 refl) (let l = (fit.1.each i row is_row).reaction in let n = fit.2 in omega arith) (ap (λ z. z.places.items) w.self-is)
      | else-is_start w ↦ read_other t i row is_row c.args.tag (λ b. let z : ◌≡◌ false true = c.if-is_before.ensures.1 b in absurd (cc)) _ was.read was.places.items c.if-is_start.self.places.items c.loop-place.invariant (λ e. let z : ◌≡◌ false true = w.if-is_start.ensures.1 e in absurd (cc)) (ap (λ z. z.places.items) w.self-is)
    ]

pub returns-clause-rest : goal.returns-clause-rest
returns-clause-rest c = let e = c.loop-place.invariant.at in after_end c.args.rows.now c.loop-place.self.read c.args.tag (omega arith)
