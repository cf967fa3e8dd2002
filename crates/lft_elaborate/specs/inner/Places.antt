-- Inside: what references mean, how many places they have, and how wide members are, told by the shapes alone.
use Rattle.std.specs.Prelude.{[], ◌≡◌, ℕ, zero, suc, ◌+◌, ◌*◌, ◌-◌, ◌^◌, ℤ, min, List, ◌∷◌, map, Option, Some, None, slice_get, string_bytes}
use Rattle.std.specs.Option.{option_and_then}
use Rattle.lft_elaborate.specs.{inner.{Values.{Valued, inside, number_named}, Meanings.meaning_of, Channels.Channels.joined}, declared.meanings.Meaning.Meaning}
use Rattle.lft_elaborate.specs.Places.{natural}
use Rattle.lft_whole.specs.declared.tree.{Count.Count, Reference.Reference, Term.Term, Width.Width, Connection.Connection}
use Rattle.lft_classes.specs.{declared.shapes.{Inherited.Inherited, Shape.Shape, OwnThing.OwnThing}, Shapes.width_of}
use Rattle.lft_whole.specs.declared.tree.Count.TheVariants as count
use Rattle.lft_elaborate.specs.declared.meanings.Meaning.TheVariants as meaning
use Rattle.lft_classes.specs.declared.shapes.OwnThing.TheVariants as thing

-- ---- members and references
-- the member of this number
abbrev pub member_in : List Shape → Valued → ℕ → Option Inherited
member_in shapes t m = option_and_then (λ shape. slice_get shape.members.items m) (slice_get shapes t.shape)

-- the width that is written at it, if it has one
abbrev pub written_width : List Shape → Valued → ℕ → Option Width
written_width shapes t m = option_and_then (λ found. width_of found.member.now) (member_in shapes t m)

-- what a reference means in a setting
abbrev pub meaning_in_setting : List Shape → Valued → Reference → Option Meaning
meaning_in_setting shapes t r = option_and_then (λ shape. meaning_of shapes shape r) (slice_get shapes t.shape)

-- ---- counts
-- a count of 2^64 or more is 2^64 - 1
abbrev pub capped : ℕ → ℕ
capped n = min n (2 ^ 64 - 1)

-- two counts together
abbrev pub plus : Option ℕ → Option ℕ → Option ℕ
plus None b = None
plus (Some a) None = None
plus (Some a) (Some b) = Some (capped (a + b))

-- so many for each of so many
abbrev pub capped_product : Option ℕ → Option ℕ → Option ℕ
capped_product None b = None
capped_product (Some a) None = None
capped_product (Some a) (Some b) = Some (capped (a * b))

-- all counts together
abbrev pub total_count : List (Option ℕ) → Option ℕ
total_count [] = Some 0
total_count (x ∷ xs) = plus x (total_count xs)

-- widths of members, as far as they are known
abbrev pub KnownWidths : Type 0
KnownWidths = Valued → ℕ → Option ℕ

-- how many things one is that has the width, if one is written
abbrev pub many : Option ℕ → Option Width → Option ℕ
many width None = Some 1
many width (Some written) = width

-- how many a member is
abbrev pub how_many : List Shape → KnownWidths → Valued → ℕ → Option ℕ
how_many shapes widths t m = many (widths t m) (written_width shapes t m)

-- how many a thing is
abbrev pub how_many_of : List Shape → KnownWidths → Valued → OwnThing → Option ℕ
how_many_of shapes widths t (thing.Parameter p) = Some 1
how_many_of shapes widths t (thing.Member m) = how_many shapes widths t m

-- how many a port of an instance is
abbrev pub how_many_inside : List Shape → KnownWidths → Valued → ℕ → ℕ → Option ℕ
how_many_inside shapes widths t instance port = option_and_then (λ u. how_many shapes widths u port) (inside shapes t instance)

-- how many places there are of what a reference means
abbrev pub how_many_meant : List Shape → KnownWidths → Valued → Meaning → Option ℕ
how_many_meant shapes widths t (meaning.Own thing) = how_many_of shapes widths t thing
how_many_meant shapes widths t (meaning.Port instance port) = capped_product (how_many_inside shapes widths t instance port) (how_many shapes widths t instance)

-- how many places a reference has
abbrev pub how_many_places : List Shape → KnownWidths → Valued → Reference → Option ℕ
how_many_places shapes widths t r = option_and_then (how_many_meant shapes widths t) (meaning_in_setting shapes t r)

-- the number of a parameter
abbrev pub parameter_in : List Shape → Valued → List ℕ → Option ℤ
parameter_in shapes t q = option_and_then (λ shape. number_named shape t.values q) (slice_get shapes t.shape)

-- the count that a term is: a number, that of a parameter, or how many places a reference has
abbrev pub known_count : List Shape → KnownWidths → Valued → Count → Option ℕ
known_count shapes widths t (count.Number n) = Some n
known_count shapes widths t (count.Word word) = option_and_then natural (parameter_in shapes t (string_bytes word))
known_count shapes widths t (count.WidthOf reference) = how_many_places shapes widths t reference
known_count shapes widths t count.Code = None
known_count shapes widths t count.Open = None

-- what terms are together
abbrev pub sum_in : List Shape → KnownWidths → Valued → List Term → Option ℕ
sum_in shapes widths t terms = total_count (map (λ term. known_count shapes widths t term.count) terms)

-- the width of a member, where those that it hangs on are known
abbrev pub width_by : List Shape → KnownWidths → Valued → ℕ → Option ℕ
width_by shapes widths t m = option_and_then (λ w. sum_in shapes widths t w.terms.items) (written_width shapes t m)

-- the width of a member, where those that it hangs on go at most so deep
abbrev pub width_in : List Shape → ℕ → KnownWidths
width_in shapes zero t m = None
width_in shapes (suc depth) t m = width_by shapes (width_in shapes depth) t m

-- the width of a member is the sum of its terms
abbrev pub IsWidth : List Shape → Valued → ℕ → ℕ → Type 0
IsWidth shapes t m n = (depth : ℕ) × (width_in shapes depth t m ≡ Some n)

-- the member is so many
abbrev pub IsMany : List Shape → Valued → ℕ → ℕ → Type 0
IsMany shapes t m n = (depth : ℕ) × (how_many shapes (width_in shapes depth) t m ≡ Some n)

-- how many references have together
abbrev pub places_together : List Shape → KnownWidths → Valued → List Reference → Option ℕ
places_together shapes widths t rs = total_count (map (how_many_places shapes widths t) rs)

-- the member has that width, or none where none is written
abbrev pub HasWidth : List Shape → Valued → ℕ → Option ℕ → Type 0
HasWidth shapes t m None = written_width shapes t m ≡ None
HasWidth shapes t m (Some n) = IsWidth shapes t m n

-- the reference has so many places
abbrev pub HasPlaces : List Shape → Valued → Reference → ℕ → Type 0
HasPlaces shapes t r n = (depth : ℕ) × (how_many_places shapes (width_in shapes depth) t r ≡ Some n)

-- the references have so many together
abbrev pub HavePlaces : List Shape → Valued → List Reference → ℕ → Type 0
HavePlaces shapes t rs n = (depth : ℕ) × (places_together shapes (width_in shapes depth) t rs ≡ Some n)

-- the connection joins so many pairs
pub record HasPairs (shapes : List Shape) (t : Valued) (c : Connection) (n : ℕ) : Type 0 where
  pub left : ℕ
  pub right : ℕ
  pub sources : HavePlaces shapes t c.sources.items left
  pub destinations : HavePlaces shapes t c.destinations.items right
  pub pairs : n ≡ joined left right c.is_broadcast

-- ---- for the crate's own contracts
-- the thing is so many
abbrev pub AreMany : List Shape → Valued → OwnThing → ℕ → Type 0
AreMany shapes t thing n = (depth : ℕ) × (how_many_of shapes (width_in shapes depth) t thing ≡ Some n)

-- the term is so many
abbrev pub IsCount : List Shape → Valued → Count → ℕ → Type 0
IsCount shapes t c n = (depth : ℕ) × (known_count shapes (width_in shapes depth) t c ≡ Some n)

-- the terms are so many together
abbrev pub IsSum : List Shape → Valued → List Term → ℕ → Type 0
IsSum shapes t terms n = (depth : ℕ) × (sum_in shapes (width_in shapes depth) t terms ≡ Some n)
