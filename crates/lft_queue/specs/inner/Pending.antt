-- Inside: what contracts see of a queue: the events that are to happen, as a map from tag and name to value.
use Rattle.std.specs.Prelude.{List, map, filter}
use Rattle.lft_tag.specs.declared.Tag.{Tag}
use Rattle.lft_ir.specs.declared.parts.Name.{Name}
use Rattle.lft_queue.specs.Pending.{Pending, is_at}

-- the names of the events at the tag
abbrev pub names_at : Tag → List Pending → List Name
names_at g es = map (λ e. e.name) (filter (is_at g) es)
