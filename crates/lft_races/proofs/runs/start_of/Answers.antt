use Rattle.std.proofs.Common.{◌≡◌, ◌<◌, Bool, false, true, sym, ◌∙◌, length, arith, below_more}
use Rattle.lft_model.{specs.Runs.start_row, proofs.Places.slice_get_within}
use Rattle.lft_races.specs.Runs.{StartsAt}
use Rattle.lft_races.proofs.runs.start_of.Goals as goal

pub loop-place-preserved : goal.loop-place-preserved
loop-place-preserved c = below_more (λ k. ¬ StartsAt c.args.rows.now c.args.tag c.args.reaction k) c.loop-place.place c.loop-place.invariant (λ s. let z : ◌≡◌ {A = Bool} false true = sym c.if-is_start_at.false ∙ c.is_start_at.ensures.1 s in absurd (cc))

pub unreachable-requires : goal.unreachable-requires
unreachable-requires c =
    let r = c.requires.ran in
    let l : r.place < length c.args.rows.now = slice_get_within c.args.rows.now r.place (start_row r.worker c.args.tag c.args.reaction) r.starts in
    c.loop-place.invariant r.place (omega arith) (r.worker, r.starts)
