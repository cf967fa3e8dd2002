use Rattle.std.proofs.Common.{◌≡◌, ◌++◌, ℕ, List, inl, refl, string_bytes}
use Rattle.std.proofs.lemmas.Result.{on_ok_weaker}
use Rattle.lft_program_diagnostics.specs.Pages.{SaysByte, page_words}
use Rattle.lft_program_diagnostics.proofs.pages.push_byte.Goals as goal

pub returns-in-Some : goal.returns-in-Some
returns-in-Some c =
    let page = c.in-Some.page.now in
    let place = c.place_of.result in
    let words = page_words page place in
    let there = c.in-Some.ensures.some in
    let told : SaysByte c.args.text.now c.args.files.now c.args.at words = inl (record { page = page; is_file = there.0; has = there.1; place = place; is_place = c.place_of.ensures; whole = refl }) in
    on_ok_weaker {Q = (x : List ℕ) × SaysByte c.args.text.now c.args.files.now c.args.at x × (string_bytes c.push_place.new.out ≡ string_bytes c.args.out.now ++ x)} c.push_place.result (λ e. (words, told, e)) c.push_place.ensures
