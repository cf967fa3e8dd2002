-- Where the hashers of names begin: at a seed that is a hash of all the names.
use Rattle.std.specs.Prelude.{ℕ, List, ◌++◌}
use Rattle.std.specs.{List.{flat_map, fold}, Hash.{HashWrites, str, option, slice, u64}, declared.hash.{DefaultHasher.DefaultHasher, FoldHasher.FoldHasher}}
use Rattle.lft_tree.specs.Tree.{RefTree}
use Rattle.std.specs.Hash.DefaultHasher as sip
use Rattle.std.specs.Hash.FoldHasher as folding

-- the hasher that begins with the SipHash of all that was written to the other one
abbrev pub seeded_by : DefaultHasher → FoldHasher
seeded_by all = fold folding.write folding.initial (u64 (sip.finish all))

-- what is written of a name of a port, timer or action, with the end of each text: other names have other writes
abbrev pub reference_writes : RefTree → HashWrites
reference_writes r = str r.head ++ option str r.port

-- the hasher for these texts: its seed is a hash of all of them, in order
abbrev pub for_texts : List (List ℕ) → FoldHasher
for_texts names = seeded_by (fold sip.write sip.initial (slice str names))

-- the hasher for these names of ports, timers and actions: its seed is a hash of all of them, in order
abbrev pub for_references : List RefTree → FoldHasher
for_references names = seeded_by (fold sip.write sip.initial (flat_map reference_writes names))
