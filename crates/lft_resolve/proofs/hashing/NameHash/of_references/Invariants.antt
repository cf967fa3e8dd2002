use Rattle.std.proofs.Common.{◌≡◌, take}
use Rattle.std.specs.List.{flat_map, fold}
use Rattle.lft_tree.specs.ItemView.{ref_view}
use Rattle.lft_resolve.specs.inner.Hashing.{reference_writes}
use Rattle.std.specs.Hash.DefaultHasher as sip
use Rattle.lft_resolve.proofs.hashing.NameHash.of_references.Given as goal

abbrev pub invariant-loop-name : goal.invariant-loop-name
invariant-loop-name l = l.hasher ≡ fold sip.write sip.initial (flat_map (λ name. reference_writes (ref_view name.now)) (take l.name-index l.names))
