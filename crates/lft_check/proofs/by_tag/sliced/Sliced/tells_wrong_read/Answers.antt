use Rattle.std.proofs.Common.{◌≡◌, ◌↔◌, List, Some, not, slice_get, subst, true}
use Rattle.lft_ir.specs.declared.steps.row.Row.{Row}
use Rattle.lft_lists.proofs.Places.{same_some}
use Rattle.lft_check.{specs.inner.ByTag.Reads.TellsWrongRead, proofs.ByTagLemmas.RightReads.{tells_start, tells_read}}
use Rattle.lft_check.proofs.by_tag.sliced.Sliced.tells_wrong_read.Goals as goal

pub returns-in-Start-clause-tells : goal.returns-in-Start-clause-tells
returns-in-Start-clause-tells c row e =
    let cut = c.args.self.now in
    let at = subst (λ (t : List Row). slice_get t c.args.place ≡ Some c.row_at-row.result) c.rows.ensures.value c.row_at-row.ensures in
    subst (λ (x : Row). (c.misses_input.result ≡ true) ↔ TellsWrongRead cut.plan cut.rows c.args.slice.tag x) (same_some (slice_get cut.rows c.args.place) c.row_at-row.result row at e) (tells_start cut.plan cut.rows c.args.slice.tag c.row_at-row.result c.misses_input.result c.in-Start.is c.misses_input.ensures.misses)

pub returns-in-Read-clause-tells : goal.returns-in-Read-clause-tells
returns-in-Read-clause-tells c row e =
    let cut = c.args.self.now in
    let at = subst (λ (t : List Row). slice_get t c.args.place ≡ Some c.row_at-row.result) c.rows.ensures.value c.row_at-row.ensures in
    subst (λ (x : Row). (not c.same_values.result ≡ true) ↔ TellsWrongRead cut.plan cut.rows c.args.slice.tag x) (same_some (slice_get cut.rows c.args.place) c.row_at-row.result row at e) (tells_read cut.plan cut.rows c.args.slice.tag c.requires.no_clash c.row_at-row.result c.in-Read.name c.in-Read.value c.value_at.result c.same_values.result c.in-Read.is c.same_values.ensures c.value_at.ensures.some c.value_at.ensures.none)
