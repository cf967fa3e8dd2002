use Rattle.std.proofs.Common.{◌≡◌, ◌-◌, ◌++◌, ℕ, List, ap, inl, inr, min, refl, slice_range, string_bytes, ◌∙◌}
use Rattle.std.proofs.lemmas.Result.{on_ok_weaker}
use Rattle.lft_text_diagnostics.specs.Quotes.{marked_line}
use Rattle.lft_program_diagnostics.specs.inner.Pages.{MarksBytes}
use Rattle.lft_program_diagnostics.proofs.pages.push_spot.Goals as goal

pub returns-in-Some : goal.returns-in-Some
returns-in-Some c =
    let page = c.in-Some.page.now in
    let spot = c.args.spot in
    let place = c.place_of.result in
    let marked : ℕ → List ℕ = λ end. marked_line (slice_range c.args.text.now page.start page.end) place (spot.start - page.start) (end - page.start) in
    let words = marked (min spot.end page.end) in
    let there = c.in-Some.ensures.some in
    let told : MarksBytes c.args.text.now c.args.files.now spot words = inl (record { page = page; is_file = there.0; has = there.1; marks = record { place = place; is_place = c.place_of.ensures; whole = refl } }) in
    on_ok_weaker {Q = (x : List ℕ) × MarksBytes c.args.text.now c.args.files.now spot x × (string_bytes c.push_line.new.out ≡ string_bytes c.args.out.now ++ x)} c.push_line.result (λ e. (words, told, e ∙ ap (λ end. string_bytes c.args.out.now ++ marked end) c.min.ensures)) c.push_line.ensures

pub returns-in-None : goal.returns-in-None
returns-in-None c =
    let spot = c.args.spot in
    let place = c.place_of-in-None.result in
    let words = marked_line c.args.text.now place spot.start spot.end in
    let told : MarksBytes c.args.text.now c.args.files.now spot words = inr (c.in-None.ensures.none, record { place = place; is_place = c.place_of-in-None.ensures; whole = refl }) in
    on_ok_weaker {Q = (x : List ℕ) × MarksBytes c.args.text.now c.args.files.now spot x × (string_bytes c.push_line-in-None.new.out ≡ string_bytes c.args.out.now ++ x)} c.push_line-in-None.result (λ e. (words, told, e)) c.push_line-in-None.ensures
