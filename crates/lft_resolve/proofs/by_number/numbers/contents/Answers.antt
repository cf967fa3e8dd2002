use Rattle.std.proofs.Common.{take, sym, subst}
use Rattle.std.specs.List.{AllZip}
use Rattle.lft_tree.specs.Tree.{reactors_of}
use Rattle.lft_resolve.{specs.{Causes.{LacksReactor, UnknownReactor}, inner.Numbers.IsContents}, proofs.{Files.{AllZip-last, own_done, own_turn}, Twice.Any-at}}
use Rattle.lft_resolve.proofs.by_number.numbers.contents.Goals as goal

pub returns-in-Err-clause-unknown : goal.returns-in-Err-clause-unknown
unfolding UnknownReactor
returns-in-Err-clause-unknown c other =
    let rs = reactors_of c.args.scopes.now in
    let turn = own_turn rs c.file-file.result.now c.file-file.ensures c.deref-own-items.result.now c.deref-own-items.ensures.value c.loop-own.own-index c.own-item.result c.loop-own-test.true (sym c.own-item.is) in
    let u = c.in-Err.ensures.unknown other in
    (u.0, Any-at (LacksReactor rs) rs c.loop-own.own-index turn.0 turn.1 (u.1 rs turn.0 c.file-file.ensures turn.2))

pub loop-own-preserved : goal.loop-own-preserved
loop-own-preserved c =
    let rs = reactors_of c.args.scopes.now in
    let turn = own_turn rs c.file-file.result.now c.file-file.ensures c.deref-own-items.result.now c.deref-own-items.ensures.value c.loop-own.own-index c.own-item.result c.loop-own-test.true (sym c.own-item.is) in
    rw (c.in_ok-push-in-Ok.ensures.items, turn.3)
    (AllZip-last (IsContents rs) (take c.loop-own.own-index rs) c.loop-own.table.items turn.0 c.in-Ok.made c.loop-own.invariant (c.in-Ok.ensures.ok rs turn.0 c.file-file.ensures turn.2))

pub returns-clause-ok : goal.returns-clause-ok
returns-clause-ok c = let rs = reactors_of c.args.scopes.now in subst (λ l. AllZip (IsContents rs) l c.loop-own.table.items) (own_done rs c.file-file.result.now c.file-file.ensures c.deref-own-items.result.now c.deref-own-items.ensures.value c.loop-own.own-index c.loop-own-test.false) c.loop-own.invariant
