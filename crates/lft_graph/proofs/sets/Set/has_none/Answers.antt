use Rattle.std.proofs.Common.{◌≡◌, ◌∙◌, List, ℕ, slice_get, sym, ap}
use Rattle.std.specs.Prelude.{slice_index}
use Rattle.std.proofs.lemmas.{Bool.eqb-true, Option.get_or_from_slice_get}
use Rattle.lft_graph.proofs.Toggling.{none_in}
use Rattle.lft_graph.proofs.sets.Set.has_none.Goals as goal

pub returns : goal.returns
returns c e r at h =
    let words = c.self.inside.words.items in
    let x : slice_index c.self.inside.words.items c.args.word ≡ c.item_at.result = get_or_from_slice_get words c.args.word c.item_at.result 0 (ap (λ (ws : List ℕ). slice_get ws c.args.word) (sym c.as_slice.ensures.value) ∙ c.item_at.ensures) in
    none_in words c.args.word (x ∙ eqb-true c.item_at.result 0 e) r at (rw c.self.view_is h)
