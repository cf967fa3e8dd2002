use Rattle.std.proofs.lemmas.Option.{IfSome_then}
use Rattle.lft_tables.{specs.inner.Parts.{HoldsItems, items_of}, proofs.{Parts.items_both, Together.{at_some, holds_both}}}
use Rattle.lft_tables.proofs.workers.+parts.Goals as goal

pub returns : goal.returns
returns g t c =
    let tells = g.K.TableReader.tells c.args.table.now in
    let cut = c.in-Some.ensures in
    let one = at_some (λ parts. HoldsItems tells c.in-Some.first.now (items_of parts.items)) c.join-parts.result.0 c.in_ok-parts.field-0 c.in_ok-parts.was c.join-parts.ensures.first in
    let other = at_some (λ parts. HoldsItems tells c.in-Some.second.now (items_of parts.items)) c.join-parts.result.1 c.in_ok-more.field-0 c.in_ok-more.was c.join-parts.ensures.second in
    let both = holds_both tells c.args.text.now c.in-Some.first.now c.in-Some.second.now (items_of c.in_ok-parts.field-0.items) (items_of c.in_ok-more.field-0.items) cut.0 cut.1 cut.2 one other in
    IfSome_then c.append.result c.append.ensures (λ all is. rw (is, items_both c.in_ok-parts.field-0.items c.in_ok-more.field-0.items) both)
