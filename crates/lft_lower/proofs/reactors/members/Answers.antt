use Rattle.std.proofs.Common.{◌≡◌, [], Some, None, length, slice_get, refl, subst, sym, arith}
use Rattle.std.proofs.lemmas.{List.take_all, Option.slice_get_read}
use Rattle.lft_tree.specs.View.{member_views}
use Rattle.lft_lower.specs.inner.{Meanings.Names.texts, Lowered.{AreLowered, no_members}, Standing.{StandAtTokens, none_at}}
use Rattle.lft_lower.proofs.{Turns.{lowered_all, lowered_next}, Standing.at_next}
use Rattle.lft_lower.proofs.reactors.members.Goals as goal

pub loop-number-init : goal.loop-number-init
loop-number-init c = (subst (λ xs. AreLowered (texts c.args.maker.names.now) (record { settings = c.args.maker.settings.now; setting = c.args.setting; shape = c.args.shape.now }) [] (member_views xs) None) (sym c.new-list.ensures.items) no_members, subst (StandAtTokens c.args.maker.files.now (record { settings = c.args.maker.settings.now; setting = c.args.setting; shape = c.args.shape.now }) []) (sym c.new-list.ensures.items) none_at)

pub loop-number-preserved : goal.loop-number-preserved
loop-number-preserved c =
    let items = c.args.shape.now.members.items in
    let number = c.loop-number.number in
    let item = c.index-inherited.result.now in
    let test = c.loop-number-test.true in
    let there : slice_get items number ≡ Some item = slice_get_read items (length items) number item refl (omega (arith, c.len-number-end.ensures)) c.index-inherited.ensures in (
      lowered_next (texts c.args.maker.names.now) _ items number item _ (c.in_ok-push_member.ensures.made refl).0 _ _ _ there c.loop-number.invariant.0 c.in_ok-check_width.ensures.known (c.in_ok-push_member.ensures.made refl).1 (c.in_ok-push_member.ensures.made refl).2,
      at_next c.args.maker.files.now (record { settings = c.args.maker.settings.now; setting = c.args.setting; shape = c.args.shape.now }) items number item c.loop-number.list.items _ there c.loop-number.invariant.1 c.in_ok-push_member.ensures.at,
    )

pub returns-clause-made : goal.returns-clause-made
returns-clause-made c = lowered_all c.args.maker.settings.now (texts c.args.maker.names.now) c.args.setting c.args.shape.now c.loop-number.number _ _ (omega (arith, c.len-number-end.ensures, c.loop-number-test.false)) c.loop-number.invariant.0

pub returns-clause-at : goal.returns-clause-at
returns-clause-at c = subst (λ ms. StandAtTokens c.args.maker.files.now (record { settings = c.args.maker.settings.now; setting = c.args.setting; shape = c.args.shape.now }) ms c.loop-number.list.items) (take_all c.loop-number.number c.args.shape.now.members.items (omega (arith, c.len-number-end.ensures, c.loop-number-test.false))) c.loop-number.invariant.1
