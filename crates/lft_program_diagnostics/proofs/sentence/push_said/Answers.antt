use Rattle.std.proofs.Common.{◌++◌, ap, ◌∙◌, map, string_bytes, arith}
use Rattle.std.proofs.lemmas.List.{length-map}
use Rattle.lft_lists.proofs.Mapped.{mapped}
use Rattle.lft_program_diagnostics.proofs.Saying.{said_more, said_all}
use Rattle.lft_program_diagnostics.proofs.sentence.push_said.Goals as goal

pub loop-place-preserved : goal.loop-place-preserved
loop-place-preserved c =
    let words = c.args.words.now in
    let here = mapped (λ w. w.now) words c.loop-place.place c.item_at-word.result c.item_at-word.ensures in
    said_more (map (λ w. w.now) words) (map string_bytes c.args.names.now) c.loop-place.place c.item_at-word.result.now (string_bytes c.loop-place.out) _ _ here c.loop-place.invariant (c.in_ok-push_both.ensures ∙ ap (λ n. string_bytes c.loop-place.out ++ (c.item_at-word.result.now ++ n)) c.name_of.ensures)

pub returns : goal.returns
returns c =
    let words = c.args.words.now in
    let long = length-map words (λ w. w.now) in
    said_all (map (λ w. w.now) words) (map string_bytes c.args.names.now) c.loop-place.place _ _ (omega (arith, long)) c.loop-place.invariant
