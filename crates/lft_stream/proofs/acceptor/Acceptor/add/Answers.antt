use Rattle.std.proofs.Common.{rules, Option, subst}
use Rattle.lft_model.specs.declared.breach.Breach.{Breach}
use Rattle.lft_rows.specs.inner.Firsts.{FirstRow}
use Rattle.lft_stream.specs.inner.Kept.{KeepRules}
use Rattle.lft_stream.proofs.acceptor.Acceptor.add.Goals as goal

pub add_kept-requires : goal.add_kept-requires
add_kept-requires c =
    let last = c.args.self.now.stream.stop in
    let plan = c.args.plan.now in
    let rows = c.args.rows.now in
    let kept : KeepRules plan rows = (last, subst (λ (o : Option Breach). FirstRow last plan rows o) c.in-Ok-None.field-0-is c.in-Ok-None.ensures.first) in
    let acceptor = c.requires.stands.1 in
    record { fit = c.requires.fit; kept = kept; marks = search (rules, acceptor); stands = (c.requires.stands.0, acceptor.stands); order = acceptor.order }
