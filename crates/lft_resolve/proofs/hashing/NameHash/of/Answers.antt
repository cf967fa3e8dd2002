use Rattle.std.proofs.Common.{◌≡◌, length, map, ◌++◌, sym, ap, ◌∙◌}
use Rattle.std.{specs.{List.{flat_map, fold}, Hash.{str, usize}}, proofs.lemmas.List.{length-map, Folds.flat_map-map}}
use Rattle.lft_resolve.specs.inner.Hashing.{seeded_by}
use Rattle.std.specs.Hash.DefaultHasher as sip
use Rattle.lft_resolve.proofs.hashing.NameHash.of.Goals as goal

pub returns : goal.returns
returns c =
    let names : _ = c.args.names.now in
    let long : length names ≡ length (map (λ t. t.now) names) = sym (length-map names (λ t. t.now)) in
    let same : flat_map (λ t. str t.now) names ≡ flat_map str (map (λ t. t.now) names) = sym (flat_map-map str (λ t. t.now) names) in
    c.after.ensures ∙ ap seeded_by (c.hash.ensures ∙ ap (λ h. fold sip.write h (usize (length names) ++ flat_map (λ t. str t.now) names)) c.new-hasher.ensures ∙ ap (λ n. fold sip.write sip.initial (usize n ++ flat_map (λ t. str t.now) names)) long ∙ ap (λ w. fold sip.write sip.initial (usize (length (map (λ t. t.now) names)) ++ w)) same)
