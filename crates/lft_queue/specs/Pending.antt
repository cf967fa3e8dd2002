-- What contracts see of a queue: the events that are to happen, as a map from tag and name to value.
use Rattle.std.specs.Prelude.{◌≡◌, Bool, false, cond, ◌&&◌, List, ◌∷◌, Option, Some, None, []}
use Rattle.std.specs.List.{AllPairs}
use Rattle.lft_tag.specs.{declared.Tag.Tag, Tags.{same_tag, is_before}}
use Rattle.lft_ir.specs.{declared.parts.{Value.Value, Name.Name}, Naming.same_name}

-- an event that is to happen
pub record Pending : Type 0 where
  pub tag : Tag
  pub name : Name
  pub value : Value

-- the test of two pairs of tag and name being the same
abbrev pub same_key : Tag → Name → Tag → Name → Bool
same_key g n h m = same_tag g h && same_name n m

-- the value that the map has for a tag and a name
abbrev pub value_of : Tag → Name → List Pending → Option Value
value_of g n [] = None
value_of g n (e ∷ es) = cond (same_key g n e.tag e.name) (Some e.value) (value_of g n es)

-- the map with another value, or none, for one tag and name
abbrev pub Becomes : List Pending → List Pending → Tag → Name → Option Value → Type 0
Becomes old new g n o = (h : Tag) (m : Name) → value_of h m new ≡ cond (same_key g n h m) o (value_of h m old)

-- no tag and name stand twice
abbrev pub IsMap : List Pending → Type 0
IsMap es = AllPairs (λ d e. same_key d.tag d.name e.tag e.name ≡ false) es

-- the test of an event being at the tag
abbrev pub is_at : Tag → Pending → Bool
is_at g e = same_tag g e.tag

-- the test of an event being after the tag
abbrev pub is_after : Tag → Pending → Bool
is_after g e = is_before g e.tag
