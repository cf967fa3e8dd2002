-- The paths of files, in their normal form.
use Rattle.std.specs.Prelude.{ℕ, ◌-◌, Bool, true, false, not, ◌==◌, ◌||◌, if◌then◌else◌, List, [], ◌∷◌, ◌++◌, Option, Some, None, length, slice_get, take, flat_map, codes}
use Rattle.std.specs.{List.{fold, slice_split}, Str.bytes_eq}
use Rattle.lft_lists.specs.Bytes.{is_byte}

-- The path begins at the root: with a slash.
abbrev pub is_absolute : List ℕ → Bool
is_absolute path = is_byte 47 (slice_get path 0)

-- The part of a path leads nowhere: there is nothing, or `.`.
abbrev pub stays : List ℕ → Bool
stays part = (length part == 0) || bytes_eq part (codes ".")

-- The part is `..`.
abbrev pub is_back : List ℕ → Bool
is_back part = bytes_eq part (codes "..")

-- There is a folder, and it isn't `..`.
abbrev pub is_folder : Option (List ℕ) → Bool
is_folder None = false
is_folder (Some part) = not (is_back part)

-- Where `..` leads: it takes the last folder off. Without one it stays at the root, and else is kept.
abbrev pub back : Bool → List (List ℕ) → List ℕ → List (List ℕ)
back from_root folders part =
    if is_folder (slice_get folders (length folders - 1)) then take (length folders - 1) folders
    else if from_root then folders
    else folders ++ part ∷ []

-- Where a part of a path leads from folders.
abbrev pub step : Bool → List (List ℕ) → List ℕ → List (List ℕ)
step from_root folders part =
    if stays part then folders
    else if is_back part then back from_root folders part
    else folders ++ part ∷ []

-- Where a path leads from folders, part by part; its parts stand between its slashes.
abbrev pub walked : Bool → List (List ℕ) → List ℕ → List (List ℕ)
walked from_root folders path = fold (step from_root) folders (slice_split (λ b. b == 47) path)

-- What stands before the first folder: at the root a slash.
abbrev pub root : Bool → List ℕ
root true = codes "/"
root false = []

-- The folders, each behind a slash.
abbrev pub slashed : List (List ℕ) → List ℕ
slashed folders = flat_map (λ folder. 47 ∷ folder) folders

-- The path of folders; without one it is the root, or `.`.
abbrev pub joined_path : Bool → List (List ℕ) → List ℕ
joined_path from_root [] = if from_root then codes "/" else codes "."
joined_path from_root (folder ∷ folders) = root from_root ++ folder ++ slashed folders

-- The normal form of a path: `..` stands only at its front, and `.` only alone.
abbrev pub normal : List ℕ → List ℕ
normal path = joined_path (is_absolute path) (walked (is_absolute path) [] path)

-- All but the last.
abbrev pub without_last : List (List ℕ) → List (List ℕ)
without_last folders = take (length folders - 1) folders

-- The folders in which a file of that path lies.
abbrev pub folders_of : List ℕ → List (List ℕ)
folders_of path = without_last (walked (is_absolute path) [] path)

-- The path that an import means in a file: from the root, or from the folders of the file.
abbrev pub meaning : List ℕ → List ℕ → List ℕ
meaning importer path =
    if is_absolute path then normal path
    else joined_path (is_absolute importer) (walked (is_absolute importer) (folders_of importer) path)
