use Rattle.std.proofs.Common.{length, subst}
use Rattle.std.specs.Prelude.{IfSome}
use Rattle.lft_whole_parser.specs.inner.Imports.Files.{IsNamedBy, next_path}
use Rattle.lft_whole_driver.{specs.inner.Unlowered.{IsImportRefusedAt, IsOfUnread}, proofs.{Gathered.unread_at, Saying.says_too}}
use Rattle.lft_whole_driver.proofs.reading.read_wanted.Goals as goal

pub returns-in-Some : goal.returns-in-Some
returns-in-Some g c =
    let s = c.args.sources.now in
    let files = s.files.items in
    let place = c.in-Some.place in
    let named = subst (λ r. IfSome (next_path s) (λ p. IsNamedBy files (length files) p r)) c.in-Some.is (c.import.ensures.named c.requires.sources) in
    says_too (IsImportRefusedAt files place) (IsOfUnread files) c.unread.result (unread_at s c.args.path.now place c.requires.sources c.requires.wanted named) c.unread.ensures
