use Rattle.std.proofs.Common.{◌≡◌, List, ℕ, length, take, drop, sym, ◌∙◌, ap}
use Rattle.std.{specs.Str.bytes_eq, proofs.lemmas.Slice.Eq.bytes_eq-Decides}
use Rattle.lft_load.proofs.Texts.{rest_from}
use Rattle.lft_driver.proofs.bundle.stands_at.Goals as goal

pub returns : goal.returns
returns c =
    let text = c.args.text.now in
    let marker = c.args.marker.now in
    let there : List ℕ = take (length marker) (drop c.args.place text) in
    let value : c.starts_with.result ≡ bytes_eq marker there = c.starts_with.ensures.value ∙ ap (λ x. bytes_eq marker (take (length marker) x)) (rest_from text c.args.place) in
    let decides = bytes_eq-Decides marker there in
    (λ t. sym (decides.0 (sym value ∙ t)), λ e. value ∙ decides.1 (sym e))
