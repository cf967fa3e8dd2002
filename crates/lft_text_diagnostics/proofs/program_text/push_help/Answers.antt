use Rattle.std.proofs.Common.{string_bytes}
use Rattle.std.proofs.lemmas.{List.Elements.All-same, Result.on_ok_weaker}
use Rattle.lft_text_diagnostics.{specs.inner.{Candidates.few, Trying.CanStandBehind}, proofs.Helping.{all_few, helps_by_list, helps_by_way, puts_help}}
use Rattle.lft_text_diagnostics.proofs.program_text.push_help.Goals as goal

pub returns-then-is_some : goal.returns-then-is_some
returns-then-is_some c =
    let can = CanStandBehind c.args.before.now in
    let old = string_bytes c.args.out.now in
    let new = string_bytes c.push_way.new.out in
    puts_help can old new (helps_by_way can _ old new c.in_ok-push_way.ensures)

pub returns-in_ok-found-in-None : goal.returns-in_ok-found-in-None
returns-in_ok-found-in-None c =
    let can = CanStandBehind c.args.before.now in
    let things = c.deref.result.now in
    let each = all_few can 6 things (All-same can things c.in_ok-found-in-None.found.items c.deref.ensures.value c.in_ok-found-in-None.ensures) in
    let old = string_bytes c.args.out.now in
    let new = string_bytes c.push_candidates.new.out in
    on_ok_weaker c.push_candidates.result (λ e. puts_help can old new (helps_by_list can (few 6 things) each old new e)) c.push_candidates.ensures
