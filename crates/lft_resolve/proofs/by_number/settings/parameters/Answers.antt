use Rattle.std.proofs.Common.{◌≡◌, None, Any, take, sym, subst}
use Rattle.std.specs.List.{AllZip}
use Rattle.lft_tree.specs.Tree.{reactors_of}
use Rattle.lft_resolve.specs.{Causes.{GivesUnknown, LacksReactor, SomeGivesUnknown}, Instances.reactor_named}
use Rattle.lft_resolve.specs.inner.{Lacking.TimeLacksPlace, Sheets.IsParameters}
use Rattle.lft_resolve.proofs.{Files.{AllZip-last, own_done, own_turn}, Lacking.{none_given, none_lacks, none_unknown}, Twice.Any-at}
use Rattle.lft_resolve.proofs.by_number.settings.parameters.Goals as goal

pub parameters_of-requires-clause-instances : goal.parameters_of-requires-clause-instances
parameters_of-requires-clause-instances c =
    let rs = reactors_of c.args.scopes.now in
    let turn = own_turn rs c.file-file.result.now c.file-file.ensures c.deref-own-items.result.now c.deref-own-items.ensures.value c.loop-own.own-index c.own-item.result c.loop-own-test.true (sym c.own-item.is) in
    record {
      reactors = rs;
      is_file = c.file-file.ensures;
      known = λ lacks. none_unknown rs c.requires.first (Any-at (LacksReactor rs) rs c.loop-own.own-index turn.0 turn.1 (subst (Any (λ i. reactor_named rs i.reactor ≡ None)) turn.2.contained lacks));
      named = λ gives. none_given rs c.requires.later (Any-at (SomeGivesUnknown rs) rs c.loop-own.own-index turn.0 turn.1 (subst (Any (GivesUnknown rs)) turn.2.contained gives));
    }

pub parameters_of-requires-clause-times : goal.parameters_of-requires-clause-times
parameters_of-requires-clause-times c =
    let rs = reactors_of c.args.scopes.now in
    let turn = own_turn rs c.file-file.result.now c.file-file.ensures c.deref-own-items.result.now c.deref-own-items.ensures.value c.loop-own.own-index c.own-item.result c.loop-own-test.true (sym c.own-item.is) in
    (turn.0, turn.2, λ lacks. none_lacks rs c.requires.later (Any-at TimeLacksPlace rs c.loop-own.own-index turn.0 turn.1 lacks))

pub loop-own-preserved : goal.loop-own-preserved
loop-own-preserved c =
    let rs = reactors_of c.args.scopes.now in
    let turn = own_turn rs c.file-file.result.now c.file-file.ensures c.deref-own-items.result.now c.deref-own-items.ensures.value c.loop-own.own-index c.own-item.result c.loop-own-test.true (sym c.own-item.is) in
    rw (c.in_ok-push.ensures.items, turn.3)
    (AllZip-last (IsParameters rs) (take c.loop-own.own-index rs) c.loop-own.table.items turn.0 _ c.loop-own.invariant (c.in_ok-parameters_of.ensures rs turn.0 c.file-file.ensures turn.2))

pub returns : goal.returns
returns c = let rs = reactors_of c.args.scopes.now in subst (λ l. AllZip (IsParameters rs) l c.loop-own.table.items) (own_done rs c.file-file.result.now c.file-file.ensures c.deref-own-items.result.now c.deref-own-items.ensures.value c.loop-own.own-index c.loop-own-test.false) c.loop-own.invariant
