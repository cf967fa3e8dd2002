-- Paths and places as they are written into texts.
use Rattle.std.specs.Prelude.{ℕ, List, ◌++◌, if◌then◌else◌, ◌&&◌, codes, decimal, nat_le, map, chars, string_bytes}
use Rattle.lft_whole.specs.{declared.sources.source.SourceFile.SourceFile, Sources.Spots.spot_at}

-- A letter of printable ASCII as itself, any other as `?`.
abbrev pub shown : ℕ → ℕ
shown c = if nat_le 32 c && nat_le c 126 then c else 63

-- Each letter of a path as it is shown.
abbrev pub shown_path : List ℕ → List ℕ
shown_path path = map shown (chars path)

-- Where a token of a file stands: the path as it is shown, the line and the column.
abbrev pub place_words : SourceFile → ℕ → List ℕ
place_words file token = shown_path (string_bytes file.path) ++ codes ":" ++ decimal (spot_at file.spots.items token).line ++ codes ":" ++ decimal (spot_at file.spots.items token).column
