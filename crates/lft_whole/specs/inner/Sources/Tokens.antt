-- Inside: tokens of all files of a program, by number: those of the first file, one for its end, those of the next one, and so on.
use Rattle.std.specs.Prelude.{◌+◌, ◌-◌, ◌^◌, ℕ, List, min, option_map, slice_get, unwrap_or, ◌≡◌, ◌<◌, IsSomeAnd, length}
use Rattle.lft_whole.specs.declared.sources.{source.SourceFile.SourceFile, stop.Place.Place}

-- The number of the token at a place; the greatest number, where it is past that. Without the file it is its own.
abbrev pub number_at : List SourceFile → Place → ℕ
number_at files place = unwrap_or (option_map (λ file. min (file.first + place.token) (2 ^ 64 - 1)) (slice_get files place.file)) place.token

-- The token of the file, or its end, has this number.
abbrev pub HasToken : SourceFile → ℕ → ℕ → Type 0
HasToken file number token = (token < length file.spots.items) × (number ≡ file.first + token)

-- The token of this number, or the end of its file, stands at the place in the files.
abbrev pub StandsAt : List SourceFile → ℕ → Place → Type 0
StandsAt files number place = IsSomeAnd (slice_get files place.file) (λ file. HasToken file number place.token)
