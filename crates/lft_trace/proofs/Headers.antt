-- The lines of headers, and the records of a text that begins with one.
use Rattle.std.proofs.Common.{◌≡◌, ◌∙◌, ◌++◌, ◌∷◌, ◌⊎◌, inl, inr, ℕ, List, [], refl, sym, ap, subst, codes}
use Rattle.csv.specs.{Machine.next_record, Reading.{records_from, strip_bom}}
use Rattle.lft_tables.{specs.{Records.records_of, Parts.HasNoQuote, inner.Parts.BeginsPlain}, proofs.Together.{quiet, under_line}}
use Rattle.lft_trace.specs.{Traces.header, ExternalTables.header as inputs_header}

abbrev pub line : List ℕ
line = codes "event,worker,time,microstep,reaction,name,value,delay"

-- the header's line with a carriage return before its end
abbrev pub csv_line : List ℕ
csv_line = line ++ 13 ∷ []

one_record : records_of (line ++ 10 ∷ []) ≡ header ∷ []
unfolding records_from next_record strip_bom
one_record = refl

one_csv_record : records_of (csv_line ++ 10 ∷ []) ≡ header ∷ []
unfolding records_from next_record strip_bom
one_csv_record = refl

no_quote_in_line : HasNoQuote (line ++ 10 ∷ [])
no_quote_in_line = quiet (line ++ 10 ∷ []) refl

no_quote_in_csv_line : HasNoQuote (csv_line ++ 10 ∷ [])
no_quote_in_csv_line = quiet (csv_line ++ 10 ∷ []) refl

-- the header's line has no other record, and no quotation mark
pub header_alone : (text : List ℕ) → (text ≡ line ++ 10 ∷ []) ⊎ (text ≡ csv_line ++ 10 ∷ []) → (records_of text ≡ header ∷ []) × HasNoQuote text
header_alone text (inl is) = (ap records_of is ∙ one_record, subst HasNoQuote (sym is) no_quote_in_line)
header_alone text (inr is) = (ap records_of is ∙ one_csv_record, subst HasNoQuote (sym is) no_quote_in_csv_line)

-- the same of a table of external inputs
abbrev pub inputs_line : List ℕ
inputs_line = codes "kind,time,microstep,name,value"

one_inputs_record : records_of (inputs_line ++ 10 ∷ []) ≡ inputs_header ∷ []
unfolding records_from next_record strip_bom
one_inputs_record = refl

one_csv_inputs_record : records_of (inputs_line ++ 13 ∷ 10 ∷ []) ≡ inputs_header ∷ []
unfolding records_from next_record strip_bom
one_csv_inputs_record = refl

pub inputs_alone : (text : List ℕ) → (text ≡ inputs_line ++ 10 ∷ []) ⊎ (text ≡ inputs_line ++ 13 ∷ 10 ∷ []) → (records_of text ≡ inputs_header ∷ []) × HasNoQuote text
inputs_alone text (inl is) = (ap records_of is ∙ one_inputs_record, subst HasNoQuote (sym is) (quiet (inputs_line ++ 10 ∷ []) refl))
inputs_alone text (inr is) = (ap records_of is ∙ one_csv_inputs_record, subst HasNoQuote (sym is) (quiet (inputs_line ++ 13 ∷ 10 ∷ []) refl))

-- the records of a text that begins with the header
pub under_header : (text rest : List ℕ) → text ≡ (line ++ 10 ∷ []) ++ rest → BeginsPlain rest → records_of text ≡ header ∷ records_of rest
under_header text rest is plain = under_line header text (line ++ 10 ∷ []) rest no_quote_in_line one_record (is, inr ((line, refl), plain))

-- the same where a carriage return stands before the end of the header's line
pub under_csv_header : (text rest : List ℕ) → text ≡ (csv_line ++ 10 ∷ []) ++ rest → BeginsPlain rest → records_of text ≡ header ∷ records_of rest
under_csv_header text rest is plain = under_line header text (csv_line ++ 10 ∷ []) rest no_quote_in_csv_line one_csv_record (is, inr ((csv_line, refl), plain))
