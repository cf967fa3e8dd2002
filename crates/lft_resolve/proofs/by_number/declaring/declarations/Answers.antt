use Rattle.std.proofs.Common.{take, sym, subst}
use Rattle.std.specs.List.{AllZip}
use Rattle.lft_tree.specs.Tree.{reactors_of}
use Rattle.lft_resolve.specs.inner.{Lacking.TimeLacksPlace, Sheets.IsDeclarations}
use Rattle.lft_resolve.proofs.{Files.{AllZip-last, own_done, own_turn}, Lacking.none_lacks, Twice.Any-at}
use Rattle.lft_resolve.proofs.by_number.declaring.declarations.Goals as goal

pub declarations_of-requires : goal.declarations_of-requires
declarations_of-requires c =
    let rs = reactors_of c.args.scopes.now in
    let turn = own_turn rs c.file.result.now c.file.ensures c.deref-own-items.result.now c.deref-own-items.ensures.value c.loop-own.own-index c.own-item.result c.loop-own-test.true (sym c.own-item.is) in
    (turn.0, turn.2, λ lacks. none_lacks rs c.requires (Any-at TimeLacksPlace rs c.loop-own.own-index turn.0 turn.1 lacks))

pub loop-own-preserved : goal.loop-own-preserved
loop-own-preserved c =
    let rs = reactors_of c.args.scopes.now in
    let turn = own_turn rs c.file.result.now c.file.ensures c.deref-own-items.result.now c.deref-own-items.ensures.value c.loop-own.own-index c.own-item.result c.loop-own-test.true (sym c.own-item.is) in
    rw (c.in_ok-push.ensures.items, turn.3)
    (AllZip-last IsDeclarations (take c.loop-own.own-index rs) c.loop-own.table.items turn.0 _ c.loop-own.invariant (c.in_ok-declarations_of.ensures turn.0 turn.2))

pub returns : goal.returns
returns c = let rs = reactors_of c.args.scopes.now in subst (λ l. AllZip IsDeclarations l c.loop-own.table.items) (own_done rs c.file.result.now c.file.ensures c.deref-own-items.result.now c.deref-own-items.ensures.value c.loop-own.own-index c.loop-own-test.false) c.loop-own.invariant
