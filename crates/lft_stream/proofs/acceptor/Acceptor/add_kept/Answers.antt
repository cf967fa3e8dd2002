use Rattle.std.proofs.Common.{rules}
use Rattle.lft_stream.proofs.acceptor.Acceptor.add_kept.Goals as goal

pub add_kept-requires : goal.add_kept-requires
add_kept-requires c =
    let acceptor = c.requires.stands.1 in
    record { fit = c.requires.fit; kept = c.requires.kept; marks = search (rules, acceptor); stands = (c.requires.stands.0, acceptor.stands); order = acceptor.order }
