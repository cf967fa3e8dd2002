-- Reactors with the numbers of their parameters, from the texts alone.
use Rattle.std.specs.Prelude.{Bool, false, bytes_eq, codes, string_bytes}
use Rattle.lft_whole.specs.declared.tree.WrittenValue.{WrittenValue}
use Rattle.lft_whole.specs.declared.tree.WrittenValue.TheVariants as value

-- the word `forever`: a timer with this period fires once, as one without a period
abbrev pub is_forever : WrittenValue → Bool
is_forever (value.Word word) = bytes_eq (string_bytes word) (codes "forever")
is_forever v = false
