-- Inside: which references a thing of the source becomes.
use Rattle.std.specs.Prelude.{ℕ, Bool, List, ◌++◌, Option, option_map, unwrap_or, map, max, length, take}
use Rattle.lft_tree.specs.Tree.{RefTree}
use Rattle.lft_elaborate.specs.{Channels.Channels.below, inner.Channels.{Channels.places, Lowered.{own, inner}}, Names.tail}
use Rattle.lft_lower.specs.declared.meanings.places.Wide.{Wide}

-- a name that may stand for several, and the width, if it has one
pub record Several : Type 0 where
  pub name : List ℕ
  pub width : Option ℕ

-- how many things the name stands for
abbrev pub count_of : Several → ℕ
count_of thing = unwrap_or thing.width 1

-- the name of the one of this number
abbrev pub name_at : Several → ℕ → List ℕ
name_at thing k = thing.name ++ tail (option_map (λ _. k) thing.width)

-- the names of all of it, in order
abbrev pub names_of : Several → List (List ℕ)
names_of thing = map (λ k. name_at thing k) (below (count_of thing))

-- all of a thing of the reactor itself, in order
abbrev pub own_places : Several → List RefTree
own_places thing = map (λ k. own (name_at thing k)) (below (count_of thing))

-- all channels of all members of a bank, in order
abbrev pub inner_places : Several → Several → Bool → List RefTree
inner_places members channels interleaved = map (λ p. inner (name_at members p.0) (name_at channels p.1)) (places (count_of members) (count_of channels) interleaved)

-- the list goes on with those, until it has so many
abbrev pub up_to : {X : Type 0} → ℕ → List X → List X → List X
up_to most old more = take (max most (length old)) (old ++ more)

-- ---- what the crate has of them
-- the name of a thing of a setting, which may stand for several
abbrev pub several : Wide → Several
several w = record { name = w.name.now; width = w.width }
