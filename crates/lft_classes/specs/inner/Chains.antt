-- What reactors extend.
use Rattle.std.specs.Prelude.{ℕ, List, [], ◌∷◌, Option, Some, None, drop, filter_map, option_map, slice_get, string_bytes}
use Rattle.std.specs.Option.{option_and_then}
use Rattle.lft_whole.specs.declared.tree.Name.{Name}
use Rattle.lft_classes.specs.{declared.scopes.{Class.Class, ReactorNames.ReactorNames}, inner.{Scopes.{meaning_in, class_at}, Walks.{IsList, Lists}}}

-- the number of the reactor that a name behind `extends` means in the file
abbrev pub extended_reactor : ReactorNames → ℕ → Name → Option ℕ
extended_reactor scopes file name = option_map (λ b. b.number) (meaning_in scopes file (string_bytes name.text))

-- the base of this number of a reactor
abbrev pub base_in : ReactorNames → Class → ℕ → Option ℕ
base_in scopes c k = option_and_then (extended_reactor scopes c.file) (slice_get c.reactor.now.bases.items k)

-- the base of this number of the reactor of that number
abbrev pub base_of : ReactorNames → ℕ → ℕ → Option ℕ
base_of scopes r k = option_and_then (λ c. base_in scopes c k) (class_at scopes r)

-- the bases of a reactor from a place on, in order
abbrev pub bases_in : ReactorNames → Option Class → ℕ → List ℕ
bases_in scopes None k = []
bases_in scopes (Some c) k = filter_map (extended_reactor scopes c.file) (drop k c.reactor.now.bases.items)

-- those of the reactor of that number
abbrev pub bases_from : ReactorNames → ℕ → ℕ → List ℕ
bases_from scopes r k = bases_in scopes (class_at scopes r) k

-- all its bases
abbrev pub all_bases : ReactorNames → ℕ → List ℕ
all_bases scopes r = bases_from scopes r 0

-- the reactor and all that it extends at any depth, each once: what its first base has, then what is new of the second, and so on, and last itself
pub record IsChain (scopes : ReactorNames) (first : ℕ) (list : List ℕ) : Type 0 where
  pub all : IsList (base_of scopes) first list
  pub in_order : Lists (all_bases scopes) [] (first ∷ []) list
