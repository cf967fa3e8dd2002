use Rattle.std.proofs.Common.{◌++◌, codes, decimal, string_bytes}
use Rattle.lft_ir.proofs.WordsLemmas.Steps.{also}
use Rattle.lft_lower.proofs.meanings.notes.push_stop.Goals as goal

pub returns : goal.returns
returns c = also (string_bytes c.args.line.now) (string_bytes c.push_counted.new.text) (string_bytes c.push_str.new.self) (codes "timeout: write the row `stop," ++ decimal c.args.stop) (codes ",0,,` into the external table.") c.in_ok-push_counted.ensures c.in_ok-push_str.ensures.bytes
