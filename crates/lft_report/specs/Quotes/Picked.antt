-- The rows that facts name, in order.
use Rattle.std.specs.Prelude.{List, [], ◌∷◌, nat_lt, nat_eq, if◌then◌else◌, fold, flat_map}
use Rattle.lft_facts.specs.declared.facts.Fact.{Fact}
use Rattle.lft_report.specs.{declared.quotes.marks.Quote.Quote, Quotes.Marks.named_rows}

-- a row in its place among others that ascend; of two quotes of one row the earlier stays
abbrev pub inserted : List Quote → Quote → List Quote
inserted [] q = q ∷ []
inserted (x ∷ xs) q =
    if nat_lt q.row x.row then q ∷ x ∷ xs
    else if nat_eq q.row x.row then x ∷ xs
    else x ∷ inserted xs q

-- the rows that facts name: ascending, each once, marked as by the first that names it
abbrev pub quotes_of : List Fact → List Quote
quotes_of facts = fold inserted [] (flat_map named_rows facts)
