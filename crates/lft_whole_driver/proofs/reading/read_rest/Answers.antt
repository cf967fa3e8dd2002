use Rattle.std.proofs.Common.{inl, inr, subst, sym}
use Rattle.std.proofs.lemmas.Result.{err_from_is_err_and}
use Rattle.lft_whole_driver.specs.inner.{Lowered.BeginsAs, Unlowered.{IsOfNext, IsOfRest, IsOfUnread}}
use Rattle.lft_whole_driver.proofs.{Gathered.{begins_too, begun, further, grown, later_refused}, Saying.says_too}
use Rattle.lft_whole_driver.proofs.reading.read_rest.Goals as goal

pub returns-in_err-give-clause-refused : goal.returns-in_err-give-clause-refused
returns-in_err-give-clause-refused g c =
    let p = err_from_is_err_and c.from_residual-in_err-give.result c.from_residual-in_err-give.ensures.1 in
    let these = c.args.sources.now.files.items in
    let before = c.loop.sources in
    let text = c.in_ok-text.text.items in
    let some = begun these before.files.items c.requires.begun c.loop.invariant.1 in
    rw (p.1, p.2) (says_too (IsOfNext text before) (IsOfRest these) c.in_err-give.field-0.0 (λ files first r is.
    (further these before.files.items files c.loop.invariant.1 (begins_too text before files r is.1), inl (is.0, later_refused text before files r is.1 c.loop.invariant.0 some))) c.in_err-give.ensures.refused)

pub returns-in_err-text-clause-refused : goal.returns-in_err-text-clause-refused
returns-in_err-text-clause-refused g c =
    let p = err_from_is_err_and c.from_residual.result c.from_residual.ensures.1 in
    let these = c.args.sources.now.files.items in
    let before = c.loop.sources.files.items in
    rw (p.1, p.2) (says_too (IsOfUnread before) (IsOfRest these) c.in_err-text.field-0.0 (λ files first r is. (subst (BeginsAs these) (sym is.0) c.loop.invariant.1, inr is.1)) c.in_err-text.ensures)

pub loop-preserved : goal.loop-preserved
loop-preserved g c =
    let more = c.in_ok-give.ensures.read c.in-Some.path.now (sym c.in-Some.ensures) in
    let before = c.loop.sources.files.items in
    let after = c.give.new.sources.files.items in
    (c.in_ok-give.ensures.sources, further c.args.sources.now.files.items before after c.loop.invariant.1 (grown before after more.0 more.2))
