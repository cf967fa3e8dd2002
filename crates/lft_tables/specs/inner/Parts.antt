-- Inside: texts that can be cut: at the end of a line, where no quote stands before.
use Rattle.std.specs.Prelude.{◌≡◌, ◌≢◌, ◌⊎◌, ℕ, List, ◌++◌, Some, Vec, slice_get, []}
use Rattle.std.specs.{List.{AllZip, flat_map}, declared.alloc.Global.Global}
use Rattle.lft_tables.specs.{Records.records_of, Parts.{HasNoQuote, EndsLine}}

-- the first byte isn't that of a byte order mark
abbrev pub BeginsPlain : List ℕ → Type 0
BeginsPlain text = slice_get text 0 ≢ Some 239

-- the text is cut at the end of a line, or behind its last byte
abbrev pub IsCut : List ℕ → List ℕ → List ℕ → Type 0
IsCut text lines behind = (text ≡ lines ++ behind) × ((behind ≡ []) ⊎ EndsLine lines × BeginsPlain behind)

-- the text has no quotation mark, and its records tell these items, one by one
abbrev pub HoldsItems : {Item : Type 0} → (List (List ℕ) → Item → Type 0) → List ℕ → List Item → Type 0
HoldsItems tells text items = HasNoQuote text × AllZip tells (records_of text) items

-- the items of lists, one list after another
abbrev pub items_of : {Item : Type 0} → List (Vec Item Global) → List Item
items_of {Item} parts = flat_map (λ (part : Vec Item Global). part.items) parts

-- the text's first records tell the items, one by one, and behind them are those of the rest
abbrev pub BeginsItems : {Item : Type 0} → (List (List ℕ) → Item → Type 0) → List ℕ → List Item → List ℕ → Type 0
BeginsItems tells text items rest = (first : List (List (List ℕ))) × (records_of text ≡ first ++ records_of rest) × AllZip tells first items
