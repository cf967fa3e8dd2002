-- Chains of connections.
use Rattle.std.specs.Prelude.{◌≡◌, ℕ, List, [], ◌++◌, Some, None, slice_get, option_to_list}
use Rattle.lft_ir.specs.{Parts.Parts, declared.parts.Port.Port as PortOf}
use Rattle.lft_tag.specs.declared.Source.{Source}

-- the chain of connections into port p, walked backwards, ends at port o; the delays are those of the chain from o on
pub data Origin (program : Parts) : ℕ → ℕ → List ℕ → Type 0 where
  itself : {p : ℕ} (port : PortOf) → slice_get program.ports p ≡ Some port → port.source ≡ None → Origin program p p []
  over : {p o : ℕ} {delays : List ℕ} (port : PortOf) (source : Source) (first : List ℕ) → slice_get program.ports p ≡ Some port → port.source ≡ Some source → Origin program source.port o first → delays ≡ first ++ option_to_list source.delay → Origin program p o delays
