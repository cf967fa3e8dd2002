use Rattle.std.proofs.Common.{inl, inr, subst}
use Rattle.std.proofs.lemmas.Result.{err_from_is_err_and}
use Rattle.lft_whole_parser.specs.inner.Imports.Files.{HasOneMore}
use Rattle.lft_whole_driver.specs.{inner.Unlowered.{IsOfNext, IsOfRest}, Unlowered.{IsOfReading, Says}}
use Rattle.lft_whole_driver.proofs.{Gathered.{all_read, begun_by, first_read, first_refused, goes_on}, Saying.says_too}
use Rattle.lft_whole_driver.proofs.reading.read_sources.Goals as goal

pub returns-in_err-give-clause-refused : goal.returns-in_err-give-clause-refused
returns-in_err-give-clause-refused g c =
    let p = err_from_is_err_and c.from_residual-in_err-give.result c.from_residual-in_err-give.ensures.1 in
    let path = c.args.path.now in
    let text = c.args.text.now in
    let none = c.in_ok-sources.sources in
    let u = c.in_err-give.field-0.0 in
    rw (p.1, p.2) (says_too (IsOfNext text none) (IsOfReading path text) u (λ files first r is. inl (is.0, first_refused path text none c.in_ok-sources.ensures.files c.in_ok-sources.ensures.paths files r is.1)) (subst (λ t. Says (IsOfNext t none) u) c.in_ok-from_slice.ensures.items c.in_err-give.ensures.refused))

pub returns-in_err-read_rest-clause-refused : goal.returns-in_err-read_rest-clause-refused
returns-in_err-read_rest-clause-refused g c =
    let p = err_from_is_err_and c.from_residual-in_err-read_rest.result c.from_residual-in_err-read_rest.ensures.1 in
    let path = c.args.path.now in
    let text = c.args.text.now in
    let one = c.give.new.sources in
    let more = subst (λ t. HasOneMore t c.in_ok-sources.sources one) c.in_ok-from_slice.ensures.items c.in_ok-give.ensures.read in
    let first = first_read path text c.in_ok-sources.sources c.in_ok-sources.ensures.files c.in_ok-sources.ensures.paths one more in
    rw (p.1, p.2) (says_too (IsOfRest one.files.items) (IsOfReading path text) c.in_err-read_rest.field-0.0 (λ files begin r is. inr (goes_on path text one.files.items files first is.0, is.1)) c.in_err-read_rest.ensures.refused)

pub read_rest-requires-clause-begun : goal.read_rest-requires-clause-begun
read_rest-requires-clause-begun g c =
    let path = c.args.path.now in
    let text = c.args.text.now in
    let one = c.give.new.sources in
    let more = subst (λ t. HasOneMore t c.in_ok-sources.sources one) c.in_ok-from_slice.ensures.items c.in_ok-give.ensures.read in
    begun_by path text one.files.items (first_read path text c.in_ok-sources.sources c.in_ok-sources.ensures.files c.in_ok-sources.ensures.paths one more)

pub returns-clause-files : goal.returns-clause-files
returns-clause-files g c =
    let more = subst (λ t. HasOneMore t c.in_ok-sources.sources c.give.new.sources) c.in_ok-from_slice.ensures.items c.in_ok-give.ensures.read in
    all_read c.args.path.now c.args.text.now c.in_ok-sources.sources c.give.new.sources c.read_rest.new.sources c.in_ok-sources.ensures.files c.in_ok-sources.ensures.paths more c.in_ok-read_rest.ensures.first c.in_ok-read_rest.ensures.sources c.in_ok-read_rest.ensures.all
