use Rattle.std.proofs.Common.{◌≡◌, Some, slice_get, sym, ap, ◌∙◌}
use Rattle.std.proofs.lemmas.Option.{slice_get-get_or}
use Rattle.lft_whole_driver.{specs.Pages.Join.no_files, proofs.Joining.joined_next}
use Rattle.lft_whole_driver.proofs.pages.join_files.Goals as goal

pub loop-at-init : goal.loop-at-init
loop-at-init c = rw (c.new.ensures.items, c.new-2.ensures.items, c.new-3.ensures.items) no_files

pub push-requires : goal.push-requires
push-requires c =
    let files = c.args.files.now in
    let file = c.index-files-at.result in
    let here : slice_get files c.loop-at.at ≡ Some file = slice_get-get_or files c.loop-at.at file c.loop-at-test.true ∙ ap Some (sym c.index-files-at.is) in
    c.requires c.loop-at.at file here

pub loop-at-preserved : goal.loop-at-preserved
loop-at-preserved c =
    let files = c.args.files.now in
    let file = c.index-files-at.result in
    let here : slice_get files c.loop-at.at ≡ Some file = slice_get-get_or files c.loop-at.at file c.loop-at-test.true ∙ ap Some (sym c.index-files-at.is) in
    joined_next files c.loop-at.at file c.loop-at.joined c.push.new.self here c.loop-at.invariant c.in_ok-push.ensures
