use Rattle.std.proofs.Common.{take, sym, subst}
use Rattle.std.{specs.List.AllZip, proofs.lemmas.Result.err_from_is_err_and}
use Rattle.lft_resolve.{specs.inner.{Lost.HasLost, Sheets.IsConnections}, proofs.{Files.{AllZip-last, own_done, own_turn}, Twice.Any-at}}
use Rattle.lft_resolve.proofs.by_number.joins.connections_among.Goals as goal

pub returns-in_err-joins_of-clause-lost : goal.returns-in_err-joins_of-clause-lost
returns-in_err-joins_of-clause-lost c =
    let p = err_from_is_err_and c.from_residual.result c.from_residual.ensures.1 in
    rw (p.1, p.2)
    (λ other rs file. (let turn = own_turn rs c.args.file.now file c.deref-own-items.result.now c.deref-own-items.ensures.value c.loop-own.own-index c.own-item.result c.loop-own-test.true (sym c.own-item.is) in Any-at (HasLost rs) rs c.loop-own.own-index turn.0 turn.1 (c.in_err-joins_of.ensures.lost other rs turn.0 file turn.2)))

pub loop-own-preserved : goal.loop-own-preserved
loop-own-preserved c rs file =
    let turn = own_turn rs c.args.file.now file c.deref-own-items.result.now c.deref-own-items.ensures.value c.loop-own.own-index c.own-item.result c.loop-own-test.true (sym c.own-item.is) in
    rw (c.in_ok-push.ensures.items, turn.3)
    (AllZip-last (IsConnections rs) (take c.loop-own.own-index rs) c.loop-own.table.items turn.0 _ (c.loop-own.invariant rs file) (c.in_ok-joins_of.ensures.ok rs turn.0 file turn.2))

pub returns-clause-ok : goal.returns-clause-ok
returns-clause-ok c rs file = subst (λ l. AllZip (IsConnections rs) l c.loop-own.table.items) (own_done rs c.args.file.now file c.deref-own-items.result.now c.deref-own-items.ensures.value c.loop-own.own-index c.loop-own-test.false) (c.loop-own.invariant rs file)
