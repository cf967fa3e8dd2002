-- The grammar of a file: its target, imports and reactors.
use Rattle.std.specs.Prelude.{ℕ, zero, suc, ◌+◌, ◌-◌, List, [], ◌∷◌, ◌++◌, codes, length, slice_get, slice_range, nat_lt, filter_map, find, Option, Some, None, Result, Ok, Err, Bool, ◌&&◌, if◌then◌else◌}
use Rattle.lft_tree.specs.declared.tree.TimeUnit.{TimeUnit}
use Rattle.lft_syntax.specs.{declared.token.Token.Token, Lexeme.{Text, is, is_there, unit_in, number_in}, Language.look}
use Rattle.lft_whole.specs.declared.{fault.TreeFault.{TreeFault, TheVariants.{Unexpected, Package}}, tree.Timeout.Timeout}
use Rattle.lft_whole.specs.Parts.Lexeme.{Source, see}
use Rattle.lft_whole.specs.Parts.Language.{Reader, ◌>>=◌, on, sign, word, this, key, ◌&◌, ◌>>◌, ◌<<◌, ◌then◌, nothing, made, choice, repeat, separated, opened}
use Rattle.lft_whole.specs.Parts.{Tree.{NameTree, ReactorTree, ImportedTree, ImportTree, FileTree}, Parts.name}
use Rattle.lft_whole_parser.specs.Grammar.{on_preamble, preamble, attributes, on_reactor, reactor, unexpected}

-- a name of another file, and its name here
abbrev pub imported_of : NameTree × NameTree → ImportedTree
imported_of x = record { name = x.0; alias = x.1 }

-- NAME ["as" NAME]
unfoldable pub imported : Reader ImportedTree
imported = name then λ n. made (λ alias. imported_of (n, alias)) (choice (word (codes "as")) (key (codes "as") >> name) (nothing n))

-- imported {"," imported}
unfoldable pub imported_names : Reader (List ImportedTree)
imported_names = separated 44 imported

-- without the first byte and the last
abbrev pub inner_bytes : List ℕ → List ℕ
inner_bytes bytes = slice_range bytes 1 (length bytes - 1)

-- what is between the quotes of a token
abbrev pub unquoted : List ℕ → Option Token → List ℕ
unquoted text None = []
unquoted text (Some t) = inner_bytes (slice_range text t.start t.end)

-- TEXT: a `<` begins the name of a package
unfoldable pub path_text : Reader (List ℕ × ℕ)
path_text s i = if sign 60 s i then Err (Package i) else if on (is Text) s i then Ok ((unquoted s.text (slice_get s.tokens i), i), i + 1) else Err (Unexpected i)

-- an import of these names from this path, which stands at this place
abbrev pub import_of : List ImportedTree × (List ℕ × ℕ) → ImportTree
import_of x = record { names = x.0; path = x.1.0; at = x.1.1 }

-- "import" imported {"," imported} "from" TEXT
unfoldable pub import : Reader ImportTree
import = made import_of (key (codes "import") >> imported_names << key (codes "from") & path_text)

-- ---- the properties of a target, between two places

-- a number and a unit are a time
abbrev pub timeout_of : ℕ → Option ℕ → Option TimeUnit → Option Timeout
timeout_of i (Some n) (Some u) = Some (record { time = record { count = n; unit = Some u }; at = i })
timeout_of i _ _ = None

-- "timeout" TOKEN NUMBER UNIT, before the end of the properties
abbrev pub timeout_at : Source → ℕ → ℕ → Option Timeout
timeout_at s end i = if word (codes "timeout") s i && nat_lt (i + 3) end then timeout_of i (look number_in (see s (i + 2))) (look unit_in (see s (i + 3))) else None

-- "coordination" TOKEN "decentralized", before the end of the properties
abbrev pub decentralized_at : Source → ℕ → ℕ → Bool
decentralized_at s end i = word (codes "coordination") s i && nat_lt (i + 2) end && word (codes "decentralized") s (i + 2)

-- the places from one on, so many
abbrev pub places_from : ℕ → ℕ → List ℕ
places_from i zero = []
places_from i (suc n) = i ∷ places_from (i + 1) n

-- all times behind `timeout`
abbrev pub timeouts : Source → ℕ → ℕ → List Timeout
timeouts s i end = filter_map (timeout_at s end) (places_from i (end - i))

-- the first place of a decentralized coordination
abbrev pub decentralized : Source → ℕ → ℕ → Option ℕ
decentralized s i end = find (decentralized_at s end) (places_from i (end - i))

-- ---- what stands at the top of a file, behind what is known of it

-- the file with this target
abbrev pub with_target : FileTree → NameTree → FileTree
with_target f n = record { target = Some n; timeouts = f.timeouts; decentralized = f.decentralized; imports = f.imports; reactors = f.reactors }

-- the file with these properties
abbrev pub with_properties : FileTree → List Timeout → Option ℕ → FileTree
with_properties f ts d = record { target = f.target; timeouts = ts; decentralized = d; imports = f.imports; reactors = f.reactors }

-- the file with one more import
abbrev pub with_import : FileTree → ImportTree → FileTree
with_import f i = record { target = f.target; timeouts = f.timeouts; decentralized = f.decentralized; imports = f.imports ++ i ∷ []; reactors = f.reactors }

-- the file with one more reactor
abbrev pub with_reactor : FileTree → ReactorTree → FileTree
with_reactor f r = record { target = f.target; timeouts = f.timeouts; decentralized = f.decentralized; imports = f.imports; reactors = f.reactors ++ r ∷ [] }

-- a file in which nothing stands
abbrev pub empty_file : FileTree
empty_file = record { target = None; timeouts = []; decentralized = None; imports = []; reactors = [] }

-- group of { }: what it says takes the place of what an earlier one said
abbrev pub properties : FileTree → Reader FileTree
properties f s i = opened 123 125 s i >>= λ a. Ok (with_properties f (timeouts s (i + 1) a.1) (decentralized s (i + 1) a.1), a.1 + 1)

-- "target" NAME [properties]
unfoldable pub target : FileTree → Reader FileTree
target f = key (codes "target") >> name then λ n. choice (sign 123) (properties (with_target f n)) (nothing (with_target f n))

-- target | import | preamble | reactor
unfoldable pub top : FileTree → Reader FileTree
top f =
    choice (word (codes "target")) (target f) (choice (word (codes "import")) (made (with_import f) import) (choice on_preamble (made (λ _. f) preamble)
    (choice on_reactor (made (with_reactor f) reactor) unexpected)))

-- ";" | {attribute} top
unfoldable pub next_top : FileTree → Reader FileTree
next_top f = choice (sign 59) (this >> nothing f) (attributes >> top f)

-- {";" | {attribute} top}
unfoldable pub file : Reader FileTree
file = repeat (λ _. on is_there) next_top empty_file

-- from the first token on
abbrev pub whole_file : Source → Result FileTree TreeFault
whole_file s = file s 0 >>= λ a. Ok a.0

-- what a whole text reads as: its tree, or its first fault
abbrev pub reads : List ℕ → List Token → Result FileTree TreeFault
reads text tokens = whole_file (record { text = text; tokens = tokens })
