use Rattle.std.proofs.lemmas.Map.Text.{hash_map_updates_str}
use Rattle.lft_resolve.proofs.index.Index.put.Goals as goal

pub returns : goal.returns
returns c q = hash_map_updates_str c.args.name.now c.args.self.now.places c.insert.new.self _ c.in_ok-insert.ensures.updates q
