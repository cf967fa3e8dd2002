-- The reactors that have a name.
use Rattle.std.proofs.Common.{ℕ, List, filter, filter_map, is_some}
use Rattle.lft_tree.specs.Tree.{ReactorTree}

-- the names of the reactors that have one
abbrev pub named : List ReactorTree → List (List ℕ)
named rs = filter_map (λ r. r.name) rs

-- the reactors that have a name
abbrev pub with_name : List ReactorTree → List ReactorTree
with_name rs = filter (λ r. is_some r.name) rs
