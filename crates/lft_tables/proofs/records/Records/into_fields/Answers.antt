use Rattle.std.proofs.Common.{rules, ◌≡◌, ◌∷◌, get_or, ap, sym}
use Rattle.std.proofs.lemmas.List.{get_or_past}
use Rattle.csv.specs.Records.{fields_of}
use Rattle.lft_tables.proofs.records.Records.into_fields.Goals.{then-self-eq0-via-then-self-eq0, then-self-eq0-via-else-self-eq0+then-len-self}
use Rattle.lft_tables.proofs.records.Records.into_fields.Goals as goal

pub returns-then-self-eq0 : goal.returns-then-self-eq0
returns-then-self-eq0 g c =
    let s = c.args.self in
    let none : get_or (s.none ∷ s.ahead.items) s.next s.none ≡ s.none = elim c.then-self-eq0.branch [
      | then-self-eq0-via-then-self-eq0 w ↦ ap (λ n. get_or (s.none ∷ s.ahead.items) n s.none) w.if-self-eq0.true
      | then-self-eq0-via-else-self-eq0+then-len-self w ↦ get_or_past (s.none ∷ s.ahead.items) s.next s.none (search rules)
    ] in
    ap fields_of (sym none)
