use Rattle.std.proofs.Common.{length, ◌≤◌, sym, ap, ◌∙◌}
use Rattle.std.{specs.List.{flat_map, fold}, proofs.lemmas.List.{take_all, Folds.flat_map-map}}
use Rattle.lft_tree.specs.ItemView.{ref_view}
use Rattle.lft_resolve.specs.inner.Hashing.{reference_writes, seeded_by}
use Rattle.std.specs.Hash.DefaultHasher as sip
use Rattle.lft_resolve.proofs.hashing.NameHash.of_references.Goals as goal

pub returns : goal.returns
returns c =
    let names : _ = c.args.names.now in
    let past : length names ≤ c.loop-name.name-index = c.loop-name-test.false in
    c.after.ensures ∙ ap seeded_by (c.loop-name.invariant ∙ ap (λ l. fold sip.write sip.initial (flat_map (λ name. reference_writes (ref_view name.now)) l)) (take_all c.loop-name.name-index names past) ∙ ap (fold sip.write sip.initial) (sym (flat_map-map reference_writes (λ name. ref_view name.now) names)))
