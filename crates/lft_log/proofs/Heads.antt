-- The header's line: its words, with a byte order mark before them or without.
use Rattle.std.proofs.Common.{◌≡◌, ◌≢◌, ◌∙◌, ◌⊎◌, ⊎_elim, inl, inr, ℕ, List, [], ◌∷◌, ◌++◌, Option, Some, None, Bor, get_or, refl, sym, ap, subst, arith}
use Rattle.std.specs.Prelude.{IfNone, MatchOption}
use Rattle.std.proofs.lemmas.List.{append_assoc, append_cancel_left, append_cancel_right}
use Rattle.lft_log.specs.Logs.{IsHead, IsHeaderThen, header_words, mark}

-- what stands behind the header's words where no byte order mark does
pub words_alone : (text : List ℕ) (r : Option (Bor (List ℕ))) → ((rest : List ℕ) → text ≢ mark ++ rest) → MatchOption r ((rest : List ℕ) → text ≢ header_words ++ rest) (λ x. text ≡ header_words ++ x.now) → MatchOption r ((rest : List ℕ) → ¬ IsHeaderThen rest text) (λ x. IsHeaderThen x.now text)
words_alone text None plain h = λ rest. ⊎_elim (λ e. h rest e) (λ e. plain (header_words ++ rest) e)
words_alone text (Some x) plain h = inl h

-- and behind a byte order mark
pub words_marked : (text under : List ℕ) (r : Option (Bor (List ℕ))) → text ≡ mark ++ under → MatchOption r ((rest : List ℕ) → under ≢ header_words ++ rest) (λ x. under ≡ header_words ++ x.now) → MatchOption r ((rest : List ℕ) → ¬ IsHeaderThen rest text) (λ x. IsHeaderThen x.now text)
words_marked text under None e h = λ rest. ⊎_elim (λ f. let first : 239 ≡ 101 = ap (λ (x : List ℕ). get_or x 0 0) (sym e ∙ f) in absurd (omega (arith, first))) (λ f. h rest (append_cancel_left mark under (header_words ++ rest) (sym e ∙ f)))
words_marked text under (Some x) e h = inr (e ∙ ap (λ (y : List ℕ). mark ++ y) h)

-- the header's line and what stands below it
pub head_of : (text rest end below : List ℕ) → IsHeaderThen rest text → rest ≡ end ++ below → (head : List ℕ) × (text ≡ head ++ below) × IsHeaderThen end head
head_of text rest end below (inl e) f = (header_words ++ end, e ∙ ap (λ (x : List ℕ). header_words ++ x) f ∙ sym (append_assoc header_words end below), inl refl)
head_of text rest end below (inr e) f = (mark ++ (header_words ++ end), e ∙ ap (λ (x : List ℕ). mark ++ (header_words ++ x)) f ∙ ap (λ (x : List ℕ). mark ++ x) (sym (append_assoc header_words end below)) ∙ sym (append_assoc mark (header_words ++ end) below), inr refl)

-- more behind the words
pub then_more : (rest line more : List ℕ) → IsHeaderThen rest line → IsHeaderThen (rest ++ more) (line ++ more)
then_more rest line more (inl e) = inl (ap (λ (x : List ℕ). x ++ more) e ∙ append_assoc header_words rest more)
then_more rest line more (inr e) = inr (ap (λ (x : List ℕ). x ++ more) e ∙ append_assoc mark (header_words ++ rest) more ∙ ap (λ (x : List ℕ). mark ++ x) (append_assoc header_words rest more))

-- only one rest stands behind the words
one_rest : (rest other line : List ℕ) → IsHeaderThen rest line → IsHeaderThen other line → rest ≡ other
one_rest rest other line (inl e) (inl f) = append_cancel_left header_words rest other (sym e ∙ f)
one_rest rest other line (inl e) (inr f) = let first : 101 ≡ 239 = ap (λ (x : List ℕ). get_or x 0 0) (sym e ∙ f) in absurd (omega (arith, first))
one_rest rest other line (inr e) (inl f) = let first : 239 ≡ 101 = ap (λ (x : List ℕ). get_or x 0 0) (sym e ∙ f) in absurd (omega (arith, first))
one_rest rest other line (inr e) (inr f) = append_cancel_left header_words rest other (append_cancel_left mark (header_words ++ rest) (header_words ++ other) (sym e ∙ f))

-- a rest with a line feed behind it
pub rest_of_header : (rest line : List ℕ) → IsHeaderThen rest line → IsHead (line ++ 10 ∷ []) → (rest ≡ []) ⊎ (rest ≡ 13 ∷ [])
rest_of_header rest line is (inl h) = inl (append_cancel_right rest [] (10 ∷ []) (one_rest (rest ++ 10 ∷ []) (10 ∷ []) (line ++ 10 ∷ []) (then_more rest line (10 ∷ []) is) h))
rest_of_header rest line is (inr h) = inr (append_cancel_right rest (13 ∷ []) (10 ∷ []) (one_rest (rest ++ 10 ∷ []) (13 ∷ 10 ∷ []) (line ++ 10 ∷ []) (then_more rest line (10 ∷ []) is) h))

-- without the header's words a line is no header
pub words_before : (line end more : List ℕ) → IsHeaderThen (end ++ more) (line ++ more) → IsHeaderThen end line
words_before line end more (inl e) = inl (append_cancel_right line (header_words ++ end) more (e ∙ sym (append_assoc header_words end more)))
words_before line end more (inr e) = inr (append_cancel_right line (mark ++ (header_words ++ end)) more (e ∙ ap (λ (x : List ℕ). mark ++ x) (sym (append_assoc header_words end more)) ∙ sym (append_assoc mark (header_words ++ end) more)))

pub no_header : (line : List ℕ) → ((rest : List ℕ) → ¬ IsHeaderThen rest line) → ¬ IsHead (line ++ 10 ∷ [])
no_header line none (inl h) = none [] (words_before line [] (10 ∷ []) h)
no_header line none (inr h) = none (13 ∷ []) (words_before line (13 ∷ []) (10 ∷ []) h)

-- what stands behind the words of a header at the head of a text
pub head_then : (rest text head more : List ℕ) → IsHeaderThen rest text → text ≡ head ++ more → IsHead head → (rest ≡ (10 ∷ []) ++ more) ⊎ (rest ≡ (13 ∷ 10 ∷ []) ++ more)
head_then rest text head more is e (inl h) = inl (one_rest rest ((10 ∷ []) ++ more) text is (subst (IsHeaderThen ((10 ∷ []) ++ more)) (sym e) (then_more (10 ∷ []) head more h)))
head_then rest text head more is e (inr h) = inr (one_rest rest ((13 ∷ 10 ∷ []) ++ more) text is (subst (IsHeaderThen ((13 ∷ 10 ∷ []) ++ more)) (sym e) (then_more (13 ∷ 10 ∷ []) head more h)))

-- no header stands at the head of a text without its words
pub none_head : (text : List ℕ) → ((rest : List ℕ) → ¬ IsHeaderThen rest text) → (head more : List ℕ) → text ≡ head ++ more → ¬ IsHead head
none_head text none head more e (inl h) = none ((10 ∷ []) ++ more) (subst (IsHeaderThen ((10 ∷ []) ++ more)) (sym e) (then_more (10 ∷ []) head more h))
none_head text none head more e (inr h) = none ((13 ∷ 10 ∷ []) ++ more) (subst (IsHeaderThen ((13 ∷ 10 ∷ []) ++ more)) (sym e) (then_more (13 ∷ 10 ∷ []) head more h))

-- of any answer that is none
pub if_none : {X : Type 0} (o : Option X) (P : Type 0) → P → IfNone o P
if_none None P p = p
if_none (Some x) P p = tt
