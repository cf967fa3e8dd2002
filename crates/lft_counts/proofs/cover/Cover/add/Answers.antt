use Rattle.std.proofs.Common.{◌≡◌, ◌+◌, Some, slice_get, subst, sym, ◌∙◌, arith, refl}
use Rattle.lft_counts.proofs.cover.Cover.add.Goals as goal

pub step-requires : goal.step-requires
step-requires g c =
    let so = c.loop-place.invariant in
    let next = c.requires.1.0 c.loop-place.place c.row_at.result c.row_at.ensures in
    let at : c.args.self.now.rows + c.loop-place.place ≡ c.loop-place.self.rows = sym so.1.0 in
    (c.requires.0, (subst (λ i. slice_get g.of.1 i ≡ Some c.row_at.result) at next, (let few = c.requires.1.1.1.0 in omega (arith, few, at), (c.requires.1.1.0.each c.loop-place.place c.row_at.result c.row_at.ensures, (so.0, refl)))))

pub loop-place-init : goal.loop-place-init
loop-place-init g c = let e : c.args.self.now.rows ≡ c.args.self.now.rows + 0 = omega arith in (c.requires.1.1.1.1, (e, refl))

pub loop-place-preserved : goal.loop-place-preserved
loop-place-preserved g c =
    let so = c.loop-place.invariant in
    let more = c.in_ok-step.ensures.rows in
    let at = so.1.0 in
    let e : c.step.new.self.rows ≡ c.args.self.now.rows + (c.loop-place.place + 1) = omega (arith, more, at) in
    (c.in_ok-step.ensures.covers, (e, c.in_ok-step.ensures.listed ∙ so.1.1))

pub returns-clause-covers : goal.returns-clause-covers
returns-clause-covers g c = c.loop-place.invariant.0

pub returns-clause-rows : goal.returns-clause-rows
returns-clause-rows g c = let at = c.loop-place.invariant.1.0 in omega (arith, at)

pub returns-clause-listed : goal.returns-clause-listed
returns-clause-listed g c = c.loop-place.invariant.1.1
