use Rattle.std.proofs.Common.{sym, ◌∙◌, subst, arith}
use Rattle.lft_slices.{specs.Pieces.AreRuns, proofs.Piecing.{pieces_more, pieces_end}}
use Rattle.lft_slices.proofs.pieces.pieces_of.Goals as goal

pub loop-place-preserved : goal.loop-place-preserved
loop-place-preserved c =
    let t = c.args.rows.now in
    let slices = c.args.slices.now in
    let old = c.loop-place.pieces in
    let s = c.item_at-slice.result in
    let found = c.find_runs.new.found.items in
    let runs : AreRuns t s.tag c.as_slice.result.now = subst (λ xs. AreRuns t s.tag xs) (sym c.as_slice.ensures.value) c.in_ok-find_runs.ensures.runs in
    let e = c.in_ok-add.ensures in
    record {
      count = c.find_runs.ensures.count ∙ c.loop-place.invariant.count;
      pieces = rw (e.firsts, e.tags, e.list) (pieces_more t slices c.loop-place.place old.tags.items old.firsts.items old.list.items c.as_slice.result.now s c.loop-place.invariant.pieces c.item_at-slice.ensures runs);
    }

pub returns : goal.returns
returns c = pieces_end c.requires.rules.0 c.args.rows.now c.requires.rules.1 c.args.slices.now c.requires.slices c.loop-place.place c.loop-place.pieces (omega arith) (omega arith) c.loop-place.invariant.pieces
