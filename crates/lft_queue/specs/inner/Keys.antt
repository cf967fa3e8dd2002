-- Events as entries of an ordered map.
use Rattle.std.specs.Prelude.{ℕ, Bool, true, false, List}
use Rattle.std.specs.{List.{AllByRecursion, Sorted.IsStrictlySortedBy}, Map.keys_of, declared.cmp.Ordering.Ordering}
use Rattle.std.specs.Ordering.{nat_cmp, bool_cmp, ordering_then}
use Rattle.lft_tag.specs.{declared.Tag.Tag, Tags.UpTo}
use Rattle.lft_ir.specs.declared.parts.{Value.Value, Name.{Name, TheVariants.{Port, Action}}}
use Rattle.lft_queue.specs.Pending.{Pending}

-- time, microstep, whether it is an action, number
abbrev pub Key : Type 0
Key = ℕ × ℕ × Bool × ℕ

-- where the event of a name at a tag stands
abbrev pub key_of : Tag → Name → Key
key_of g (Port p) = (g.time, g.micro, false, p)
key_of g (Action a) = (g.time, g.micro, true, a)

-- the tag of a key
abbrev pub key_tag : Key → Tag
key_tag k = record { time = k.0; micro = k.1 }

-- the name of a key: of an action, or of a port
abbrev pub name_of : Bool → ℕ → Name
name_of true a = Action a
name_of false p = Port p

-- the event of an entry
abbrev pub pending_at : Key × Value → Pending
pending_at entry = record { tag = key_tag entry.0; name = name_of entry.0.2 entry.0.3; value = entry.1 }

-- the order of keys
abbrev pub key_cmp : Key → Key → Ordering
key_cmp x y = ordering_then (ordering_then (ordering_then (nat_cmp x.0 y.0) (nat_cmp x.1 y.1)) (bool_cmp x.2 y.2)) (nat_cmp x.3 y.3)

-- entries in the order of their keys, none before the tag
pub record AreFrom (g : Tag) (es : List (Key × Value)) : Type 0 where
  pub ordered : IsStrictlySortedBy key_cmp (keys_of es)
  pub from : AllByRecursion (λ k. UpTo g (key_tag k)) (keys_of es)
