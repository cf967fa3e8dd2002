-- The records of whole lines and of what stands below them, one part after another.
use Rattle.std.proofs.Common.{◌≡◌, ◌∙◌, ◌∷◌, ◌++◌, [], ℕ, List, zero, suc, inl, inr, refl, sym, ap}
use Rattle.csv.specs.{Machine.next_record, Reading.{records_from, strip_bom}}
use Rattle.lft_tables.specs.{Records.records_of, inner.Parts.BeginsPlain, Parts.HasNoQuote}
use Rattle.lft_tables.proofs.{Cutting.{lines_lead, records_cut}, Joining.{LeadsToStart, records_joined}}
use Rattle.lft_trace.specs.Traces.{header}
use Rattle.lft_log.specs.Logs.{AreLines, IsHead, header_words, records_below}

pub no_bytes : records_below [] ≡ []
unfolding records_from next_record
no_bytes = refl

-- the records of whole lines without a quotation mark, and of what stands below them
pub lines_joined : (a b : List ℕ) → AreLines a → HasNoQuote a → records_below (a ++ b) ≡ records_below a ++ records_below b
lines_joined a b (inl e) none = ap (λ (x : List ℕ). records_below (x ++ b)) e ∙ ap (λ (r : List (List (List ℕ))). r ++ records_below b) (sym (ap records_below e ∙ no_bytes))
lines_joined a b (inr ends) none = records_joined a b (lines_lead a none ends)

-- an empty line is no record, and no byte order mark is taken off below it
pub below_empty : (b : List ℕ) → records_of (10 ∷ b) ≡ records_below b
unfolding LeadsToStart records_from next_record strip_bom
below_empty [] = refl
below_empty (x ∷ []) = records_joined (10 ∷ []) (x ∷ []) refl
below_empty (x ∷ y ∷ b) = records_joined (10 ∷ []) (x ∷ y ∷ b) refl

no_quote_there : HasNoQuote (10 ∷ [])
no_quote_there zero e = absurd (cc e)
no_quote_there (suc i) e = absurd (cc e)

-- no byte order mark is taken off where none stands
pub below_plain : (b : List ℕ) → BeginsPlain b → records_of b ≡ records_below b
unfolding records_from next_record strip_bom
below_plain b plain = sym (records_cut (10 ∷ []) b no_quote_there ([], refl) plain) ∙ below_empty b

-- below the header
pub below_head : (head b : List ℕ) → IsHead head → records_of (head ++ b) ≡ header ∷ records_below b
unfolding LeadsToStart records_from next_record strip_bom
below_head head b (inl (inl e)) = ap (λ (x : List ℕ). records_of (x ++ b)) e ∙ records_joined (header_words ++ 10 ∷ []) b refl
below_head head b (inl (inr e)) = ap (λ (x : List ℕ). records_of (x ++ b)) e ∙ records_joined (header_words ++ 10 ∷ []) b refl
below_head head b (inr (inl e)) = ap (λ (x : List ℕ). records_of (x ++ b)) e ∙ records_joined (header_words ++ 13 ∷ 10 ∷ []) b refl
below_head head b (inr (inr e)) = ap (λ (x : List ℕ). records_of (x ++ b)) e ∙ records_joined (header_words ++ 13 ∷ 10 ∷ []) b refl
