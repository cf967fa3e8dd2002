-- Names that are put one after another, each made from one before it. The contracts of the crate's own functions alone need this file.
use Rattle.std.specs.Prelude.{◌≡◌, ℕ, ◌+◌, ◌<◌, List, [], ◌∷◌, ◌++◌, map, slice_get, slice_index_or, Some, codes}
use Rattle.std.specs.Fmt.{decimal}
use Rattle.lft_program.specs.{inner.FullNames.members, declared.naming.{OwnName.OwnName, PlacedReaction.PlacedReaction}}

-- the number of an instance, and what a name has after that of the instance
abbrev pub Ending : Type 0
Ending = ℕ × List ℕ

-- the ending of a thing with a name
abbrev pub dotted : OwnName → Ending
dotted thing = (thing.instance, codes "." ++ thing.name.now)

-- the ending of a reaction
abbrev pub hashed : PlacedReaction → Ending
hashed reaction = (reaction.instance, codes "#" ++ decimal (reaction.place + 1))

-- the endings of all things but the main instance, in the order of their kinds
abbrev pub endings : List OwnName → List OwnName → List OwnName → List OwnName → List PlacedReaction → List Ending
endings instances ports actions timers reactions = map dotted (members instances ports actions timers) ++ map hashed reactions

-- the name of the instance with the ending
abbrev pub name_after : List (List ℕ) → Ending → List ℕ
name_after names e = slice_index_or names e.0 [] ++ e.1

-- the names, and after them one for each ending
abbrev pub extended : List (List ℕ) → List Ending → List (List ℕ)
extended names [] = names
extended names (e ∷ es) = extended (names ++ name_after names e ∷ []) es

-- each ending belongs to a name that stands before its own, where so many names stand before the first
abbrev pub AreAfter : ℕ → List Ending → Type 0
AreAfter n es = (k : ℕ) (e : Ending) → slice_get es k ≡ Some e → e.0 < n + k
