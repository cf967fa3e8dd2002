use Rattle.std.proofs.Common.{◌≡◌, ◌≢◌, ◌++◌, ◌∷◌, [], Bor, ℕ, IfSome, List, Option, Some, None}
use Rattle.std.specs.Prelude.{MatchOption}
use Rattle.std.proofs.lemmas.{Bool.Decides.Decides-eqb, Slice.Eq.strip_prefix_is}
use Rattle.lft_tables.specs.{Records.records_of, inner.Parts.BeginsPlain}
use Rattle.lft_trace.{specs.Traces.header, proofs.Headers.{csv_line, line, under_csv_header, under_header}}
use Rattle.lft_trace.proofs.reading.headers.strip_header.Goals as goal

below : (text : List ℕ) (r : Option (Bor (List ℕ))) → MatchOption r ((rest : List ℕ) → text ≢ (csv_line ++ 10 ∷ []) ++ rest) (λ x. text ≡ (csv_line ++ 10 ∷ []) ++ x.now) → IfSome r (λ x. BeginsPlain x.now → records_of text ≡ header ∷ records_of x.now)
below text None h = tt
below text (Some x) h = under_csv_header text x.now h

pub returns-in-Some : goal.returns-in-Some
returns-in-Some c = under_header c.args.text.now c.in-Some.rest.now (strip_prefix_is Decides-eqb c.args.text.now (line ++ 10 ∷ []) (Some c.in-Some.rest) c.in-Some.ensures.cases)

pub returns : goal.returns
returns c = below c.args.text.now c.strip_prefix-2.result (strip_prefix_is Decides-eqb c.args.text.now (csv_line ++ 10 ∷ []) c.strip_prefix-2.result c.strip_prefix-2.ensures.cases)
