use Rattle.std.proofs.Common.{string_bytes}
use Rattle.std.proofs.lemmas.List.Elements.{All-same}
use Rattle.lft_text_diagnostics.{specs.inner.{Trying.CanStandBehind, Candidates.few}, proofs.Helping.{all_few, helps}}
use Rattle.lft_text_diagnostics.proofs.program_text.push_help_at_token.Goals as goal

pub returns : goal.returns
returns c =
    let can = CanStandBehind c.args.before.now in
    let found = c.deref.result.now in
    helps can (few 6 found) (all_few can 6 found (All-same can found c.in_ok-found.found.items c.deref.ensures.value c.in_ok-found.ensures)) _
    (string_bytes c.args.out.now) (string_bytes c.push_candidates.new.out) (string_bytes c.push_way-2.new.out) c.in_ok-push_candidates.ensures c.in_ok-push_way.ensures
