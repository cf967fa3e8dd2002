use Rattle.lft_pair.proofs.Kept.{none_there}
use Rattle.lft_pair.proofs.starts.StartPlaces.find.Goals as goal

pub returns-else-starts_at-clause-found : goal.returns-else-starts_at-clause-found
returns-else-starts_at-clause-found c =
    let s = c.read_to.new.self in
    none_there c.requires.legal.0 c.args.rows.now c.requires.legal.1 s.read c.args.tag c.read_to.ensures.read c.read_to.ensures.rest c.args.reaction c.item_at-place.result (c.read_to.ensures.kept c.args.reaction c.item_at-place.result (rw c.as_slice.ensures.value at c.item_at-place.ensures)) c.if-starts_at.ensures.1
