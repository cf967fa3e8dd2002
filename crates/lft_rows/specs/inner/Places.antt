-- What the small tables of the pass hold, as functions of their keys.
use Rattle.std.specs.Prelude.{ℕ, Option, None, slice_get, unwrap_or}
use Rattle.std.specs.Ordering.{nat_cmp}
use Rattle.lft_tag.specs.declared.Tag.{Tag}
use Rattle.lft_rows.specs.declared.open.{FarRuns.FarRuns, OpenRuns.OpenRuns, LastStarts.LastStarts}
use Rattle.std.specs.BTreeMap as map

-- the place of the start row of a worker's open run, by the map
abbrev pub far_place_of : FarRuns → ℕ → Option ℕ
far_place_of runs w = map.get nat_cmp runs.places w

-- the place of the start row of a worker's open run: by the list, and past its end by the map
abbrev pub place_of : OpenRuns → ℕ → Option ℕ
place_of runs w = unwrap_or (slice_get runs.near.items w) (far_place_of runs.far w)

-- the tag at which a reaction started last
abbrev pub last_of : LastStarts → ℕ → Option Tag
last_of starts r = unwrap_or (slice_get starts.tags.items r) None
