use Rattle.std.proofs.Common.{◌++◌, ap, sym, ◌∙◌}
use Rattle.lft_program_diagnostics.specs.declared.pages.Page.{Page}
use Rattle.lft_whole.specs.{Sources.Shown.shown_path, Pieces.tokens_of}
use Rattle.lft_whole_driver.proofs.Joining.{joins_file}
use Rattle.lft_whole_driver.proofs.pages.Joined.push.Goals as goal

pub returns : goal.returns
returns c =
    let file = c.args.file.now in
    let old = c.args.self.now in
    let page : Page = record { path = c.in_ok-path.path; start = c.len-start.result; end = c.len-end.result } in
    let read = ap tokens_of (sym c.deref.ensures.value) ∙ c.in-Ok.ensures.read in
    let behind = c.in_ok-extend_from_slice.ensures.items ∙ ap (λ t. old.text.items ++ t) c.deref-2.ensures.value in
    joins_file file old (record { text = c.push-2.new.self; tokens = c.push.new.self; pages = c.push-3.new.self }) page c.in-Ok.tokens c.extend_from_slice.new.self.items c.push_tokens.new.list.items read behind c.in_ok-push-2.ensures.items c.in_ok-push_tokens.ensures c.in_ok-push.ensures.items (c.in_ok-path.ensures ∙ ap shown_path c.as_str.ensures.value) (c.len-start.ensures ∙ old.text.ok.0) (c.len-end.ensures ∙ c.extend_from_slice.new.self.ok.0) c.in_ok-push-3.ensures.items
