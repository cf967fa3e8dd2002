-- The names that the reactors of a tree declare.
use Rattle.std.specs.Prelude.{◌≡◌, ℕ, List, [], ◌∷◌, ◌++◌, map, All, true}
use Rattle.std.proofs.Props.{props}
use Rattle.lft_lists.specs.Bytes.{is_letter, is_word, is_part}
use Rattle.lft_tree.specs.Tree.{ReactorTree, FileTree, reactors_of, ports_of, timers_of, actions_of, instances_of}

-- a letter or `_`, then letters, digits and `_`
abbrev pub IsIdentifier : List ℕ → Type 0
IsIdentifier [] = ⊥
IsIdentifier (c ∷ cs) = (is_letter c ≡ true) × All (λ d. is_word d ≡ true) cs

-- a letter or `_`, then such bytes and brackets (ours: `b`, `b[2]`)
abbrev pub IsName : List ℕ → Type 0
IsName [] = ⊥
IsName (c ∷ cs) = (is_letter c ≡ true) × All (λ d. is_part d ≡ true) cs

-- the names that a reactor declares for its ports, timers, actions and instances
abbrev pub declared_names : ReactorTree → List (List ℕ)
declared_names r = map (λ x. x.name) (ports_of r) ++ map (λ x. x.name) (timers_of r) ++ map (λ x. x.name) (actions_of r) ++ map (λ x. x.name) (instances_of r)

-- each name that a reactor of the tree declares so is of these bytes
abbrev pub HasIdentifiers : FileTree → Type 0
HasIdentifiers tree = All (λ r. All IsName (declared_names r)) (reactors_of tree)

-- each of these has one proof at most, so that a ghost field may hold it
pub IsIdentifier-prop : (name : List ℕ) → IsProp (IsIdentifier name)
IsIdentifier-prop [] = hlevel props
IsIdentifier-prop (c ∷ cs) = hlevel props

pub IsName-prop : (name : List ℕ) → IsProp (IsName name)
IsName-prop [] = hlevel props
IsName-prop (c ∷ cs) = hlevel props

pub HasIdentifiers-prop : (tree : FileTree) → IsProp (HasIdentifiers tree)
HasIdentifiers-prop tree = hlevel (props, IsName-prop)
