use Rattle.std.proofs.Common.{rules, ◌≡◌, ◌∙◌, ◌∷◌, List, ℕ, sym, ap}
use Rattle.std.proofs.lemmas.Option.{IfSome_then}
use Rattle.lft_tables.specs.inner.Records.{fields_at_hand, records_left}
use Rattle.lft_trace.specs.Traces.{header}
use Rattle.lft_trace.proofs.reading.rows.trace_records.Goals as goal

pub returns : goal.returns
returns g c =
    let top : fields_at_hand c.next.new.self ≡ header = search rules in
    IfSome_then (g.R.Read.remaining c.args.source) c.new-records.ensures.unread (λ text unread.
    let next = c.in-Ok-true.ensures.found c.in-Ok-true.field-0-test unread.plain in
    (next.plain, sym unread.left ∙ next.left ∙ ap (λ (f : List (List ℕ)). f ∷ records_left g.R.Read.remaining c.next.new.self) top))
