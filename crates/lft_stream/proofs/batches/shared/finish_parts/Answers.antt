use Rattle.std.proofs.Common.{◌++◌}
use Rattle.std.proofs.lemmas.Option.{IfSome_then}
use Rattle.lft_tables.specs.inner.Parts.{items_of}
use Rattle.lft_stream.proofs.batches.shared.finish_parts.Goals as goal

pub finish-requires : goal.finish-requires
finish-requires c = (_, c.in_ok-progress.ensures c.requires.stands.0 c.requires.stands.1)

pub returns : goal.returns
returns c = IfSome_then c.finish.result c.finish.ensures (λ counts accepted t so. accepted (t ++ items_of c.args.parts.items) (c.in_ok-progress.ensures t so))
